-- Marks as alterations: of a state, and of a run.
use Rattle.std.proofs.Common.{◌≡◌, ℕ, zero, suc, ◌==◌, Bool, true, false, cond, List, [], ◌∷◌, refl, ap, ◌∙◌}
use Rattle.std.specs.Prelude.{fold}
use Rattle.guest_machine.specs.Alterations.{altered, altered_bytes, altered_core}
use Rattle.guest_machine.specs.Exec.{exec}
use Rattle.guest_machine.specs.Laws.{AltersAsMarked, RunsAsMarked}
use Rattle.guest_machine.specs.MarkedRun as Marked
use Rattle.guest_machine.specs.MarkedRun.{alterations_of}
use Rattle.guest_machine.specs.Run.{after_marks, marked, marks_at, post, pre}
use Rattle.guest_machine.specs.State.{State}
use Rattle.guest_machine.specs.declared.setup.Setup.{Setup}
use Rattle.run_values.specs.Alterations.{alteration_of}
use Rattle.run_values.specs.declared.mark.Mark.{Mark}

pub alters-as-marked : AltersAsMarked
unfolding altered altered_bytes altered_core marked
alters-as-marked s mark = refl

-- those of a step
marks-are : (k : ℕ) (marks : List Mark) (s : State)
    → fold altered s (marks_at k (alterations_of marks)) ≡ fold marked s (Marked.marks_at k marks)
marks-are k [] s = refl
marks-are k (mark ∷ ms) s = go (mark.step == k) (marks-are k ms)
  where
    go : (b : Bool)
        → ((t : State) → fold altered t (marks_at k (alterations_of ms)) ≡ fold marked t (Marked.marks_at k ms))
        → fold altered s (cond b (alteration_of mark ∷ marks_at k (alterations_of ms)) (marks_at k (alterations_of ms)))
        ≡ fold marked s (cond b (mark ∷ Marked.marks_at k ms) (Marked.marks_at k ms))
    go true rest =
        ap (λ t. fold altered t (marks_at k (alterations_of ms))) (alters-as-marked s mark) ∙ rest (marked s mark)
    go false rest = rest s

after-are : (k : ℕ) (marks : List Mark) (s : State)
    → after_marks k (alterations_of marks) s ≡ Marked.after_marks k marks s
unfolding after_marks Marked.after_marks
after-are k marks s = marks-are k marks s

pre-is : (start : State) (setup : Setup) (marks : List Mark) (k : ℕ)
    → pre start setup (alterations_of marks) k ≡ Marked.pre start setup marks k
unfolding pre Marked.pre
pre-is start setup marks zero = refl
pre-is start setup marks (suc k) =
    ap (λ s. exec (after_marks k (alterations_of marks) s) setup) (pre-is start setup marks k)
    ∙ ap (λ s. exec s setup) (after-are k marks (Marked.pre start setup marks k))

pub runs-as-marked : RunsAsMarked
unfolding post Marked.post
runs-as-marked start setup marks k = (
  pre-is start setup marks k,
  ap (after_marks k (alterations_of marks)) (pre-is start setup marks k)
      ∙ after-are k marks (Marked.pre start setup marks k),
)
