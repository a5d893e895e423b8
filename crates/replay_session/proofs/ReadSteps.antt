-- A line at whose reading memory may run out is answered as it is, once it is answered as it was read.
use Rattle.std.proofs.Common.{◌≡◌, ℕ, List, Bool, Result, Ok, Err, inl, inr, refl, subst}
use Rattle.std.specs.Prelude.{IsOkAnd}
use Rattle.commands.specs.Commands.{IsAdd, Reads}
use Rattle.commands.specs.declared.command.Command.{Command}
use Rattle.commands.specs.declared.command.Command.TheVariants.{Edit}
use Rattle.commands.specs.declared.edit.Edit.TheVariants.{Add}
use Rattle.commands.specs.declared.fault.Fault.{Fault}
use Rattle.commands.specs.declared.fault.Fault.TheVariants.{Memory}
use Rattle.scenario.specs.Scenario.{Scenario}
use Rattle.replay_session.specs.Session.{MeetsAs, TakesMemory, scenario_of, turn_of}
use Rattle.replay_session.specs.Turns.{Turn}
use Rattle.replay_session.specs.Work.{MayShorten, WorksAs}
use Rattle.replay_session.specs.declared.reply.Reply.{Reply}
use Rattle.replay_session.specs.declared.session.Session.{Session}

-- a suppression that is added takes memory, and leaves the trail as long as it is
adds-take : (sc : Scenario) (says : Result Command Fault) → IsOkAnd says IsAdd → IsOkAnd says (TakesMemory sc)
adds-take sc (Ok (Edit (Add rule))) is = refl
adds-take sc (Ok _) is = absurd is
adds-take sc (Err fault) is = absurd is

adds-keep : (sc : Scenario) (says : Result Command Fault) (old new : Bool) → IsOkAnd says IsAdd → new ≡ old
    → MayShorten sc says old new
adds-keep sc (Ok (Edit (Add rule))) old new is same = same
adds-keep sc (Ok _) old new is same = absurd is
adds-keep sc (Err fault) old new is same = absurd is

-- memory ran out at reading
wanted : (new : Session) (turn : Turn) (says : Result Command Fault) (result : Result Reply Fault)
    (before after : List ℕ) → IsOkAnd says IsAdd → MeetsAs new turn (Err Memory) result before after
    → MeetsAs new turn says result before after
wanted new turn says result before after is (inl a) =
    inr (record { replies = a.replies; may = adds-take turn.scenario says is; keeps = a.appends; has = a.has })
wanted new turn says result before after is (inr w) = absurd w.may

pub meets-read : (new : Session) (turn : Turn) (says read : Result Command Fault) (result : Result Reply Fault)
    (before after : List ℕ) → Reads says read → MeetsAs new turn read result before after
    → MeetsAs new turn says result before after
meets-read new turn says read result before after (inl same) meets =
    subst (λ (r : Result Command Fault). MeetsAs new turn r result before after) same meets
meets-read new turn says read result before after (inr short) meets =
    wanted new turn says result before after short.1
    (subst (λ (r : Result Command Fault). MeetsAs new turn r result before after) short.0 meets)

no-memory : (new : Session) (turn : Turn) (result : Result Reply Fault) (before after : List ℕ)
    → MeetsAs new turn (Err Memory) result before after → result ≡ Err Memory
no-memory new turn result before after (inl a) = a.replies
no-memory new turn result before after (inr w) = w.replies

pub works-read : (old new : Session) (says read : Result Command Fault) (result : Result Reply Fault)
    (before after : List ℕ) → Reads says read → MeetsAs new (turn_of old) read result before after
    → WorksAs old new read result → WorksAs old new says result
works-read old new says read result before after (inl same) meets works =
    subst (λ (r : Result Command Fault). WorksAs old new r result) same works
works-read old new says read result before after (inr short) meets works =
    let refused = subst (λ (r : Result Command Fault). MeetsAs new (turn_of old) r result before after) short.0 meets in
    let left = subst (λ (r : Result Command Fault). WorksAs old new r result) short.0 works in
    record {
      whole = adds-keep (scenario_of old) says _ _ short.1 left.whole;
      moves = λ had. absurd (had (no-memory new (turn_of old) result before after refused));
    }
