-- From what is served of a session of tries to what is served of its stage.
use Rattle.std.proofs.Common.{◌≡◌, ℕ, List, Option, refl, subst}
use Rattle.line_protocol.specs.Answers.{Answers, Relation}
use Rattle.line_protocol.specs.Served.{ServedAll, ServedRead, StoppedBy}
use Rattle.line_protocol.specs.declared.fault.ServeFault.{ServeFault}
use Rattle.line_protocol.proofs.Carried.{stand-for, all-to, read-to, stopped-to}
use Rattle.replay_session.specs.Replies.{is_over}
use Rattle.replay_session.specs.Session.{turn_of}
use Rattle.tries.specs.Stages.{reply_of_tries, stage_of_tries}
use Rattle.tries.specs.Tries.{Tries as AnswersLine, TriesLines, TriesStage}
use Rattle.tries.specs.declared.trying.Tries.{Tries}

-- what a session of tries is left as by a line
abbrev pub Hears : Tries → List ℕ → Tries → Type 0
Hears old line new = AnswersLine (stage_of_tries old) line (reply_of_tries new) (stage_of_tries new)

-- which replies lines have that are given to it
abbrev pub Heard : Tries → Relation
Heard = Answers Hears reply_of_tries (λ tries. is_over (turn_of tries.viewer.session))

heard-to : (tries : Tries) (lines replies : List (List ℕ)) → Heard tries lines replies
    → TriesLines (stage_of_tries tries) lines replies
unfolding stage_of_tries
heard-to =
    stand-for Hears reply_of_tries (λ tries. is_over (turn_of tries.viewer.session)) AnswersLine
    (λ stage. is_over stage.session.turn) stage_of_tries (λ l m line h. h) (λ l. refl)

module _ (tries : Tries) (stage : TriesStage) (same : stage_of_tries tries ≡ stage)
    (held-old held-new : Option (List ℕ)) where
  of-stage : (P : TriesStage → Type 0) → P (stage_of_tries tries) → P stage
  of-stage P h = subst P same h

  pub all-told : (left : Option (List ℕ)) → ServedAll (Heard tries) left held-old held-new
      → ServedAll (TriesLines stage) left held-old held-new
  all-told left h = of-stage (λ stage. ServedAll (TriesLines stage) left held-old held-new)
      (all-to (Heard tries) (TriesLines (stage_of_tries tries)) (heard-to tries) left held-old held-new h)

  pub read-told : (left-old left-new : Option (List ℕ))
      → ServedRead (Heard tries) left-old left-new held-old held-new
      → ServedRead (TriesLines stage) left-old left-new held-old held-new
  read-told left-old left-new h =
      of-stage (λ stage. ServedRead (TriesLines stage) left-old left-new held-old held-new)
      (read-to (Heard tries) (TriesLines (stage_of_tries tries)) (heard-to tries) left-old left-new held-old
      held-new h)

  pub stopped-told : (left-old left-new : Option (List ℕ)) (fault : ServeFault)
      → StoppedBy fault (Heard tries) left-old left-new held-old held-new
      → StoppedBy fault (TriesLines stage) left-old left-new held-old held-new
  stopped-told left-old left-new fault h =
      of-stage (λ stage. StoppedBy fault (TriesLines stage) left-old left-new held-old held-new)
      (stopped-to (Heard tries) (TriesLines (stage_of_tries tries)) (heard-to tries) fault left-old left-new held-old
      held-new h)
