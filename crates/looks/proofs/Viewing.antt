-- From what is served of a viewer to what is served of the stage of its session.
use Rattle.std.proofs.Common.{◌≡◌, ℕ, List, Option, refl, subst}
use Rattle.line_protocol.specs.Answers.{Answers, Relation}
use Rattle.line_protocol.specs.Served.{ServedAll, ServedRead, StoppedBy}
use Rattle.line_protocol.specs.declared.fault.ServeFault.{ServeFault}
use Rattle.line_protocol.proofs.Carried.{stand-for, all-to, read-to, stopped-to}
use Rattle.replay_session.specs.Replies.{is_over}
use Rattle.replay_session.specs.Session.{turn_of}
use Rattle.replay_session.specs.Stages.{Stage, stage_of}
use Rattle.replay_session.specs.declared.session.Session.{Session}
use Rattle.looks.specs.Views.{Views, ViewsLines, reply_of}
use Rattle.looks.specs.declared.viewer.Viewer.{Viewer}

-- what a viewer is left as by a line
abbrev pub Hears : Viewer → List ℕ → Viewer → Type 0
Hears old line new = Views (stage_of old.session) line (reply_of new) (stage_of new.session)

-- which replies lines have that are given to it
abbrev pub Heard : Viewer → Relation
Heard = Answers Hears reply_of (λ viewer. is_over (turn_of viewer.session))

heard-to : (viewer : Viewer) (lines replies : List (List ℕ)) → Heard viewer lines replies
    → ViewsLines (stage_of viewer.session) lines replies
heard-to =
    stand-for Hears reply_of (λ viewer. is_over (turn_of viewer.session)) Views (λ stage. is_over stage.turn)
    (λ viewer. stage_of viewer.session)
    (λ l m line h. h) (λ l. refl)

module _ (viewer : Viewer) (session : Session) (same : viewer.session ≡ session) (held-old held-new : Option (List ℕ))
  where
    of-session : (P : Stage → Type 0) → P (stage_of viewer.session) → P (stage_of session)
    of-session P h = subst (λ (s : Session). P (stage_of s)) same h

    pub all-viewed : (left : Option (List ℕ)) → ServedAll (Heard viewer) left held-old held-new
        → ServedAll (ViewsLines (stage_of session)) left held-old held-new
    all-viewed left h = of-session (λ stage. ServedAll (ViewsLines stage) left held-old held-new)
        (all-to (Heard viewer) (ViewsLines (stage_of viewer.session)) (heard-to viewer) left held-old held-new h)

    pub read-viewed : (left-old left-new : Option (List ℕ))
        → ServedRead (Heard viewer) left-old left-new held-old held-new
        → ServedRead (ViewsLines (stage_of session)) left-old left-new held-old held-new
    read-viewed left-old left-new h =
        of-session (λ stage. ServedRead (ViewsLines stage) left-old left-new held-old held-new)
        (read-to (Heard viewer) (ViewsLines (stage_of viewer.session)) (heard-to viewer) left-old left-new held-old
        held-new h)

    pub stopped-viewed : (left-old left-new : Option (List ℕ)) (fault : ServeFault)
        → StoppedBy fault (Heard viewer) left-old left-new held-old held-new
        → StoppedBy fault (ViewsLines (stage_of session)) left-old left-new held-old held-new
    stopped-viewed left-old left-new fault h =
        of-session (λ stage. StoppedBy fault (ViewsLines stage) left-old left-new held-old held-new)
        (stopped-to (Heard viewer) (ViewsLines (stage_of viewer.session)) (heard-to viewer) fault left-old left-new
        held-old held-new h)
