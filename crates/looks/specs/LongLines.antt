-- Lines that are too long are all answered alike: a lemma for the server of lines, which keeps a front of such a line.
use Rattle.std.proofs.Common.{◌≡◌, ◌<◌, ◌&&◌, ℕ, List, Bool, Result, true, false, refl, subst, sym, length}
use Rattle.std.proofs.lemmas.Bool.{lt-leb}
use Rattle.std.specs.Prelude.{codes, nat_eq, not}
use Rattle.std.specs.Bool.{MatchBool}
use Rattle.std.specs.List.{starts_with}
use Rattle.line_protocol.specs.Lines.{longest_line}
use Rattle.scenario.specs.Scenario.{limit_of}
use Rattle.replay_session.specs.LongLines.{accepted-alike}
use Rattle.replay_session.specs.Replies.{RepliesAs, is_over}
use Rattle.replay_session.specs.Stages.{Stage}
use Rattle.replay_session.specs.Turns.{Turn, accepted_as}
use Rattle.commands.specs.declared.command.Command.{Command}
use Rattle.commands.specs.declared.fault.Fault.{Fault}
use Rattle.look_lines.specs.Looks.{asked}
use Rattle.looks.specs.Views.{looks, Looked, Views, read_as}

-- a test that fails makes a conjunction fail
pub last-fails : (a b c : Bool) → c ≡ false → (a && b && c) ≡ false
last-fails true true c h = h
last-fails true false c h = refl
last-fails false b c h = refl

pub too-long : (turn : Turn) (line : List ℕ) → longest_line < length line → looks turn line ≡ false
unfolding looks
too-long turn line h =
    last-fails (starts_with nat_eq line (codes "look ")) (not (is_over turn)) _ (lt-leb (length line) longest_line h)

-- a line that doesn't look is answered as a session answers what it is read as
module _ (old new : Stage) (line text : List ℕ) (no : looks old.turn line ≡ false) where
  abbrev pub IsRead : Type 0
  IsRead = RepliesAs old (accepted_as old.turn line (read_as (limit_of old.turn.scenario) line)) text new

  pub as_read : IsRead → Views old line text new
  as_read h = subst (λ (t : Bool). MatchBool t
      (Looked old (asked (limit_of old.turn.scenario) line) text new) IsRead) (sym no) h

  is-read : Views old line text new → IsRead
  is-read h = subst
      (λ (t : Bool). MatchBool t (Looked old (asked (limit_of old.turn.scenario) line) text new) IsRead) no h

pub long_alike : (old new : Stage) (a b text : List ℕ) → longest_line < length a → longest_line < length b
    → Views old a text new → Views old b text new
long_alike old new a b text f g views =
    as_read old new b text (too-long old.turn b g)
    (subst (λ (outcome : Result Command Fault). RepliesAs old outcome text new)
    (accepted-alike old.turn a b (read_as (limit_of old.turn.scenario) a)
    (read_as (limit_of old.turn.scenario) b) f g)
    (is-read old new a text (too-long old.turn a f) views))
