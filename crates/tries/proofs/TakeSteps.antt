-- The line that makes the input of the last try the session's.
use Rattle.std.proofs.Common.{◌≡◌, ℕ, Bool, List, None, false, true, refl, subst, sym}
use Rattle.std.proofs.lemmas.Slice.Eq.{bytes_eq-Decides}
use Rattle.std.specs.Bool.{MatchBool}
use Rattle.std.specs.Prelude.{codes}
use Rattle.commands.specs.declared.edit.Edit.{Edit}
use Rattle.commands.specs.declared.edit.Edit.TheVariants.{Give, Overwrite}
use Rattle.looks.specs.Views.{Views, giving, looks}
use Rattle.replay_session.specs.Replies.{RepliesAs}
use Rattle.replay_session.specs.Stages.{Stage}
use Rattle.replay_session.specs.Trying.{GivesInput}
use Rattle.replay_session.specs.Turns.{Turn, accepted_as}
use Rattle.tries.specs.LongLines.{forgets}
use Rattle.tries.specs.Tries.{Passes, TriesStage, last_after, taken, takes}

-- an edit that gives the input bytes is one of two
pub gives-one : (edit : Edit) → GivesInput edit → ((offset : ℕ) (bytes : List ℕ) → edit ≡ Overwrite offset bytes → ⊥)
    → ((bytes : List ℕ) → edit ≡ Give bytes → ⊥) → ⊥
gives-one (Overwrite offset bytes) gives one other = one offset bytes refl
gives-one (Give bytes) gives one other = other bytes refl
gives-one _ gives one other = gives

no-look : (turn : Turn) (line : List ℕ) → takes line ≡ true → looks turn line ≡ false
unfolding takes looks
no-look turn line so =
    subst (λ (l : List ℕ). looks turn l ≡ false) (sym ((bytes_eq-Decides line (codes "take")).0 so)) refl

module _ (old : TriesStage) (line : List ℕ) (so : takes line ≡ true) where
  pub as_taken : (text : List ℕ) (new : Stage)
      → RepliesAs old.session (accepted_as old.session.turn line (giving (taken old.last))) text new
      → Passes old line text new
  as_taken text new replies =
      subst
      (λ (t : Bool). MatchBool t
      (RepliesAs old.session (accepted_as old.session.turn line (giving (taken old.last))) text new)
      (Views old.session line text new)) (sym so) replies

  pub none-left : None ≡ last_after old line
  none-left = sym (forgets old line (no-look old.session.turn line so))
