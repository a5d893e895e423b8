use Rattle.std.proofs.lemmas.Result.{IfOk-weaker}
use Rattle.guest_machine.specs.State.{State}
use Rattle.guest_machine.specs.Shows.{Shows}
use Rattle.std.proofs.Common.{sym, subst}
use Rattle.checkpoints.proofs.EffectSteps.{unwritten}
use Rattle.checkpoints.proofs.forks.written_copy.Goals as goal

pub returns-in_default : goal.returns-in_default
returns-in_default c =
    IfOk-weaker c.share_warm.result _ _ (λ copy shows s h. subst (λ (t : State). Shows copy t)
    (sym (unwritten c.args.effect (c.in_default.not-Patch, c.in_default.not-Anew) s)) (shows s h)) c.share_warm.ensures
