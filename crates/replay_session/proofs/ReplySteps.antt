-- The text that is written for a line is its reply.
use Rattle.std.proofs.Common.{◌≡◌, ℕ, List, [], refl, ap, sym, ◌∙◌, subst, Result, Ok, Err, inl, inr}
use Rattle.checkpoints.specs.Trails.{meter_of}
use Rattle.scenario.specs.Scenario.{Scenario, IsReportOf}
use Rattle.replay_session.specs.Replies.{RepliesAs, Says, Moves, IsReplyTo, text_of}
use Rattle.replay_session.specs.Turns.{Turn}
use Rattle.replay_session.specs.Session.{MeetsAs, AppendsFor, replied, trail_of, turn_of, work_of}
use Rattle.replay_session.specs.Stages.{stage_of}
use Rattle.replay_session.specs.Work.{WorksAs}
use Rattle.commands.specs.declared.command.Command.{Command}
use Rattle.commands.specs.declared.command.Command.TheVariants.{Report, Worked}
use Rattle.commands.specs.declared.fault.Fault.{Fault}
use Rattle.replay_session.specs.declared.session.Session.{Session}
use Rattle.replay_session.specs.declared.reply.Reply.{Reply}

-- what is written is a reply
text-is : (sc : Scenario) (work : ℕ) (says : Result Command Fault) (out : List ℕ) → AppendsFor sc says [] out
    → IsReplyTo sc work says (text_of (replied work says) out)
text-is sc work (Ok Report) out h = let P : List ℕ → Type 0 = IsReportOf sc in subst P (sym h.2) h.1
text-is sc work (Ok Worked) out h = refl
text-is sc work (Ok _) out h = refl
text-is sc work (Err fault) out h = refl

-- the number that `worked` prints is that of the trail's meter
told-work : (session : Session) → work_of session ≡ meter_of (trail_of session)
unfolding work_of trail_of
told-work session = refl

-- a line was answered, where nothing was written before
said : (new : Session) (turn : Turn) (outcome : Result Command Fault) (result : Result Reply Fault)
    (out text : List ℕ)
    → MeetsAs new turn outcome result [] out → text ≡ text_of result out
    → Says turn (work_of new) outcome text (turn_of new)
said new turn outcome result out text (inl a) is =
    let whole : text ≡ text_of (replied (work_of new) outcome) out = is ∙ ap (λ r. text_of r out) a.replies in
    let P : List ℕ → Type 0 = IsReplyTo turn.scenario (work_of new) outcome in
    inl (subst P (sym whole) (text-is turn.scenario (work_of new) outcome out a.appends), a.has)
said new turn outcome result out text (inr w) is = inr (w.may, is ∙ ap (λ r. text_of r out) w.replies, w.has)

-- a line that isn't answered `refused 1` moves the work
moved : (old new : Session) (outcome : Result Command Fault) (text out : List ℕ) (result : Result Reply Fault)
    → text ≡ text_of result out
    → WorksAs old new outcome result → Moves (stage_of old) outcome text (stage_of new)
moved old new outcome text out result is works wanted whole =
    works.moves (λ e. wanted (is ∙ ap (λ r. text_of r out) e)) whole

pub replied-to : (old new : Session) (outcome : Result Command Fault) (result : Result Reply Fault)
    (none out text : List ℕ)
    → MeetsAs new (turn_of old) outcome result none out → WorksAs old new outcome result → none ≡ []
    → text ≡ text_of result out
    → RepliesAs (stage_of old) outcome text (stage_of new)
replied-to old new outcome result none out text meets works empty is =
    let met : MeetsAs new (turn_of old) outcome result [] out = subst
    (λ (ns : List ℕ). MeetsAs new (turn_of old) outcome result ns out) empty meets in (
      subst (λ n. Says (turn_of old) n outcome text (turn_of new)) (told-work new)
          (said new (turn_of old) outcome result out text met is),
      moved old new outcome text out result is works,
      works.whole,
    )
