-- Lines that are too long are all answered alike: a lemma for the server of lines, which keeps a front of such a line.
use Rattle.std.proofs.Common.{◌≡◌, ◌<◌, ◌∙◌, ℕ, List, Bool, true, false, ap, cond, subst, sym, length, refl}
use Rattle.std.proofs.lemmas.Bool.{lt-leb, true≢false}
use Rattle.std.proofs.lemmas.Slice.Eq.{bytes_eq-Decides}
use Rattle.std.specs.Prelude.{None, codes, not}
use Rattle.std.specs.Bool.{MatchBool}
use Rattle.line_protocol.specs.Lines.{longest_line}
use Rattle.look_lines.specs.Inputs.{begins_with}
use Rattle.looks.specs.LongLines.{last-fails, long_alike as views_alike, too-long as never-looks}
use Rattle.looks.specs.Views.{Views, giving, looks}
use Rattle.replay_session.specs.Replies.{RepliesAs, is_over}
use Rattle.replay_session.specs.Stages.{Stage}
use Rattle.replay_session.specs.Turns.{Turn, accepted_as}
use Rattle.tries.specs.Tries.{Differ, Others, Passes, PlansLine, TellsLine, Tried, Tries, TriesStage, asks, differs}
use Rattle.tries.specs.Tries.{last_after, plans, taken, takes, tries}

too-long : (word : List ℕ) (turn : Turn) (line : List ℕ) → longest_line < length line → asks word turn line ≡ false
unfolding asks
too-long word turn line h =
    last-fails (begins_with word line) (not (is_over turn)) _ (lt-leb (length line) longest_line h)

not-so : (b : Bool) → (b ≡ true → ⊥) → b ≡ false
not-so true h = absurd (h refl)
not-so false h = refl

never-takes : (line : List ℕ) → longest_line < length line → takes line ≡ false
unfolding takes
never-takes line h =
    not-so _ (λ same. true≢false (lt-leb (length (codes "take")) longest_line
    (subst (λ (l : List ℕ). longest_line < length l) ((bytes_eq-Decides line (codes "take")).0 same) h)))

-- a line that is none of the three
module _ (old new : TriesStage) (line text : List ℕ) (no : tries old.session.turn line ≡ false)
    (none : plans old.session.turn line ≡ false) (nor : differs old.session.turn line ≡ false) where
  abbrev Rest : Type 0
  Rest = MatchBool (differs old.session.turn line) (TellsLine Differ old line text new) (Others old line text new)

  abbrev More : Type 0
  More = MatchBool (plans old.session.turn line) (PlansLine old line text new) Rest

  pub as_other : Others old line text new → Tries old line text new
  as_other h =
      subst (λ (t : Bool). MatchBool t (TellsLine Tried old line text new) More) (sym no)
      (subst (λ (t : Bool). MatchBool t (PlansLine old line text new) Rest) (sym none)
      (subst (λ (t : Bool). MatchBool t (TellsLine Differ old line text new) (Others old line text new)) (sym nor) h))

  is-other : Tries old line text new → Others old line text new
  is-other h =
      subst (λ (t : Bool). MatchBool t (TellsLine Differ old line text new) (Others old line text new)) nor
      (subst (λ (t : Bool). MatchBool t (PlansLine old line text new) Rest) none
      (subst (λ (t : Bool). MatchBool t (TellsLine Tried old line text new) More) no h))

-- nor is it `take`
module _ (old : TriesStage) (line text : List ℕ) (new : Stage) (no : takes line ≡ false) where
  abbrev Taking : Type 0
  Taking = RepliesAs old.session (accepted_as old.session.turn line (giving (taken old.last))) text new

  pub as_passed : Views old.session line text new → Passes old line text new
  as_passed views = subst (λ (t : Bool). MatchBool t Taking (Views old.session line text new)) (sym no) views

  is-passed : Passes old line text new → Views old.session line text new
  is-passed passes = subst (λ (t : Bool). MatchBool t Taking (Views old.session line text new)) no passes

pub forgets : (old : TriesStage) (line : List ℕ) → looks old.session.turn line ≡ false → last_after old line ≡ None
forgets old line none = ap (λ (t : Bool). cond t old.last None) none

pub long_alike : (old new : TriesStage) (a b text : List ℕ) → longest_line < length a → longest_line < length b
    → Tries old a text new → Tries old b text new
long_alike old new a b text f g h =
    let turn = old.session.turn in
    let other = is-other old new a text (too-long (codes "try") turn a f) (too-long (codes "tries") turn a f)
    (too-long (codes "differs") turn a f) h in
    as_other old new b text (too-long (codes "try") turn b g) (too-long (codes "tries") turn b g)
    (too-long (codes "differs") turn b g) (record {
      passes = as_passed old b text new.session (never-takes b g)
          (views_alike old.session new.session a b text f g
          (is-passed old a text new.session (never-takes a f) other.passes));
      range = other.range;
      seen = other.seen;
      told = other.told;
      last = other.last ∙ forgets old a (never-looks turn a f) ∙ sym (forgets old b (never-looks turn b g));
    })
