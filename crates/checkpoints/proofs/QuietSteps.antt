-- Another step of a run, between steps with marks.
use Rattle.std.proofs.Common.{◌≡◌, ℕ, ◌+◌, ◌*◌, ◌/◌, ◌%◌, ◌<◌, ◌≤◌, ◌⊎◌, ◌∙◌, List, [], refl, ap, cond, min, arith, sym}
use Rattle.guest_machine.specs.State.{State}
use Rattle.guest_machine.specs.Exec.{exec, touches, touched_of, has_touched}
use Rattle.guest_machine.specs.Run.{marks_at, pre, post}
use Rattle.guest_machine.specs.Shows.{Shows}
use Rattle.guest_machine.specs.declared.machine.Machine.{Machine}
use Rattle.guest_machine.specs.declared.setup.Setup.{Setup}
use Rattle.guest_machine.specs.declared.setup.Touched.{Touched}
use Rattle.run_values.specs.declared.alteration.Alteration.{Alteration}
use Rattle.checkpoints.specs.Words.{meets, never}
use Rattle.checkpoints.specs.Entries.{below}
use Rattle.checkpoints.specs.FirstUses.{uses_word, IsFirstBelow}
use Rattle.checkpoints.proofs.FirstSteps.{first-more}
use Rattle.checkpoints.proofs.MarkSteps.{after-no_marks, pre-more, shows-along}

-- a step leads from after its marks to before those of the next
pub steps-on : (start : State) (setup : Setup) (marks : List Alteration) (k : ℕ) (m n : Machine)
    → ((s : State) → Shows m s → Shows n (exec s setup)) → Shows m (post start setup marks k)
    → Shows n (pre start setup marks (k + 1))
unfolding post
steps-on start setup marks k m n step h = shows-along n n _ _ refl (pre-more start setup marks k) (step _ h)

-- and after those, where there are none
pub unmarked : (start : State) (setup : Setup) (marks : List Alteration) (k : ℕ) (m : Machine) → marks_at k marks ≡ []
    → Shows m (pre start setup marks k) → Shows m (post start setup marks k)
unfolding post
unmarked start setup marks k m none h =
    shows-along m m _ _ refl (after-no_marks k marks (pre start setup marks k) none) h

-- and where there are none, also before them
pub unmarked-before : (start : State) (setup : Setup) (marks : List Alteration) (k : ℕ) (m : Machine)
    → marks_at k marks ≡ [] → Shows m (post start setup marks k) → Shows m (pre start setup marks k)
unfolding post
unmarked-before start setup marks k m none h =
    shows-along m m _ _ refl (sym (after-no_marks k marks (pre start setup marks k) none)) h

-- and what it touches is entered
pub enters-on : (start : State) (setup : Setup) (marks : List Alteration) (addr k x y : ℕ) (touched : Touched)
    → touched ≡ touched_of (post start setup marks k) setup → addr % 4 ≡ 0 → (x < k) ⊎ (never ≤ x) → k + 1 ≤ never
    → y ≡ cond (meets (has_touched touched) (4 * (addr / 4))) (min x k) x
    → IsFirstBelow (uses_word start setup marks addr) k (below k x)
    → IsFirstBelow (uses_word start setup marks addr) (k + 1) (below (k + 1) y)
unfolding uses_word touches
enters-on start setup marks addr k x y touched same aligned clean few entered first =
    let at : 4 * (addr / 4) ≡ addr = omega (arith, aligned) in
    first-more (uses_word start setup marks addr) k x y first clean few
    (entered ∙ ap (λ b. cond b (min x k) x)
    (ap (meets (has_touched touched)) at ∙ ap (λ (t : Touched). meets (has_touched t) addr) same))
