-- A run from where its machine doesn't run any more.
use Rattle.std.proofs.Common.{◌≡◌, ℕ, zero, suc, ◌+◌, ◌-◌, ◌≤◌, List, [], ◌∷◌, false, refl, ap, sym, ◌∙◌, arith}
use Rattle.std.specs.Prelude.{fold}
use Rattle.guest_machine.specs.State.{State}
use Rattle.guest_machine.specs.Alterations.{altered}
use Rattle.guest_machine.proofs.AlterSteps.{altered-status}
use Rattle.guest_machine.specs.Run.{after_marks, marks_at, pre, post}
use Rattle.guest_machine.specs.Exec.{touches, is_running}
use Rattle.guest_machine.specs.Laws.{StaysHalted}
use Rattle.run_values.specs.declared.alteration.Alteration.{Alteration}
use Rattle.guest_machine.specs.declared.setup.Setup.{Setup}
use Rattle.checkpoints.specs.FirstUses.{uses_word}
use Rattle.checkpoints.proofs.WordSteps.{meets-nowhere}
use Rattle.checkpoints.proofs.MarkSteps.{pre-more}

marks-keep-status : (marks : List Alteration) (s : State) → (fold altered s marks).core.status ≡ s.core.status
marks-keep-status [] s = refl
marks-keep-status (m ∷ ms) s = marks-keep-status ms (altered s m) ∙ altered-status s m

-- the marks of a step don't change whether it runs
pub marked-runs : (k : ℕ) (marks : List Alteration) (s : State)
    → is_running (after_marks k marks s).core.status ≡ is_running s.core.status
unfolding after_marks
marked-runs k marks s = ap is_running (marks-keep-status (marks_at k marks) s)

marked-halted : (k : ℕ) (marks : List Alteration) (s : State) → is_running s.core.status ≡ false
    → is_running (after_marks k marks s).core.status ≡ false
marked-halted k marks s h = marked-runs k marks s ∙ h

module _ (law : StaysHalted) (start : State) (setup : Setup) (marks : List Alteration) (from : ℕ)
    (halted : is_running (pre start setup marks from).core.status ≡ false) where
  -- another step
  one-more : (j : ℕ) → is_running (pre start setup marks (from + j)).core.status ≡ false
      → pre start setup marks (from + suc j) ≡ after_marks (from + j) marks (pre start setup marks (from + j))
  one-more j h =
      let k = from + j in
      let more : from + suc j ≡ k + 1 = omega arith in
      ap (pre start setup marks) more ∙ pre-more start setup marks k
      ∙ (law setup (after_marks k marks (pre start setup marks k))
      (marked-halted k marks (pre start setup marks k) h)).0

  halted-later : (j : ℕ) → is_running (pre start setup marks (from + j)).core.status ≡ false
  halted-later zero = ap (λ k. is_running (pre start setup marks k).core.status) (omega arith) ∙ halted
  halted-later (suc j) =
      let h = halted-later j in
      ap (λ s. is_running s.core.status) (one-more j h)
      ∙ marked-halted (from + j) marks (pre start setup marks (from + j)) h

  -- without marks from there on, the state stays
  pub stays : ((k : ℕ) → from ≤ k → marks_at k marks ≡ []) → (j : ℕ)
      → pre start setup marks (from + j) ≡ pre start setup marks from
  unfolding after_marks
  stays none zero = ap (pre start setup marks) (omega arith)
  stays none (suc j) =
      let here = pre start setup marks (from + j) in
      one-more j (halted-later j) ∙ ap (λ ms. fold altered here ms) (none (from + j) (omega arith)) ∙ stays none j

  pub halted-after : (k : ℕ) → from ≤ k → is_running (post start setup marks k).core.status ≡ false
  unfolding post
  halted-after k l =
      let more : from + (k - from) ≡ k = omega arith in
      let now = ap (λ n. is_running (pre start setup marks n).core.status) (sym more) ∙ halted-later (k - from) in
      marked-halted k marks (pre start setup marks k) now

  pub uses-no-word : (addr k : ℕ) → from ≤ k → uses_word start setup marks addr k ≡ false
  unfolding uses_word
  uses-no-word addr k l =
      let s = post start setup marks k in
      meets-nowhere (touches s setup) addr (λ j few. (law setup s (halted-after k l)).1 (addr + j))
