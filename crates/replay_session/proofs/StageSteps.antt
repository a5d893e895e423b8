-- From what is served of a session with texts to what is served of a session.
use Rattle.std.proofs.Common.{◌≡◌, ℕ, List, Option, refl, subst}
use Rattle.std.proofs.Math.Path.{transport}
use Rattle.line_protocol.specs.Answers.{Answers as AnswersOf, Relation}
use Rattle.line_protocol.specs.Served.{ServedAll as ServedAllBy, ServedRead as ServedReadBy}
use Rattle.line_protocol.specs.Served.{StoppedBy as StoppedByFault}
use Rattle.line_protocol.specs.declared.fault.ServeFault.{ServeFault}
use Rattle.line_protocol.proofs.Carried.{stand-for, all-to, read-to, stopped-to}
use Rattle.replay_session.specs.Replies.{Answers, Replies, is_over}
use Rattle.replay_session.specs.Served.{ServedAll, ServedRead, StoppedBy}
use Rattle.replay_session.specs.Session.{turn_of}
use Rattle.replay_session.specs.Stages.{Stage, ForEachStage, stage_of}
use Rattle.replay_session.specs.Texts.{last_text}
use Rattle.replay_session.specs.declared.session.Session.{Session}
use Rattle.replay_session.specs.declared.serving.listening.Listening.{Listening}

-- a session has one stage
for-each : (session : Session) (P : Stage → Type 0) → P (stage_of session) → ForEachStage session P
for-each session P h stage has =
    transport (λ i. P (record { turn = has.turn i; work = has.work i; short = has.short i })) h

-- what a session with texts is left as by a line
abbrev pub Listens : Listening → List ℕ → Listening → Type 0
Listens old line new = Replies (stage_of old.session) line (last_text new.texts) (stage_of new.session)

-- which replies lines have that are given to it
abbrev pub Heard : Listening → Relation
Heard = AnswersOf Listens (λ listening. last_text listening.texts) (λ listening. is_over (turn_of listening.session))

heard-to : (listening : Listening) (lines replies : List (List ℕ)) → Heard listening lines replies
    → Answers (stage_of listening.session) lines replies
heard-to =
    stand-for Listens (λ listening. last_text listening.texts) (λ listening. is_over (turn_of listening.session))
    Replies
    (λ stage. is_over stage.turn)
    (λ listening. stage_of listening.session) (λ l m line h. h) (λ l. refl)

module _ (listening : Listening) (session : Session) (same : listening.session ≡ session)
    (held-old held-new : Option (List ℕ)) where
  -- what holds of the stage of the session that is listening holds of each
  of-each : (P : Stage → Type 0) → P (stage_of listening.session) → ForEachStage session P
  of-each P h = for-each session P (subst (λ (s : Session). P (stage_of s)) same h)

  pub all-served : (left : Option (List ℕ)) → ServedAllBy (Heard listening) left held-old held-new
      → ForEachStage session (λ stage. ServedAll stage left held-old held-new)
  all-served left h = of-each (λ stage. ServedAll stage left held-old held-new)
      (all-to (Heard listening) (Answers (stage_of listening.session)) (heard-to listening) left held-old held-new h)

  pub read-served : (left-old left-new : Option (List ℕ))
      → ServedReadBy (Heard listening) left-old left-new held-old held-new
      → ForEachStage session (λ stage. ServedRead stage left-old left-new held-old held-new)
  read-served left-old left-new h = of-each (λ stage. ServedRead stage left-old left-new held-old held-new)
      (read-to (Heard listening) (Answers (stage_of listening.session)) (heard-to listening) left-old left-new held-old
      held-new h)

  pub stopped : (left-old left-new : Option (List ℕ)) (fault : ServeFault)
      → StoppedByFault fault (Heard listening) left-old left-new held-old held-new
      → ForEachStage session (λ stage. StoppedBy fault stage left-old left-new held-old held-new)
  stopped left-old left-new fault h = of-each (λ stage. StoppedBy fault stage left-old left-new held-old held-new)
      (stopped-to (Heard listening) (Answers (stage_of listening.session)) (heard-to listening) fault left-old left-new
      held-old held-new
      h)
