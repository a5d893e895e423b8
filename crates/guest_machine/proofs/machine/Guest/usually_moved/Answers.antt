use Rattle.std.proofs.Common.{◌∙◌, ap, min}
use Rattle.guest_machine.specs.Calls.{argument, moved_len}
use Rattle.guest_machine.specs.Registers.{register}
use Rattle.guest_machine.specs.Shows.{core_of}
use Rattle.guest_machine.proofs.Moving.{usual_moved}
use Rattle.guest_machine.proofs.machine.Guest.usually_moved.Goals as goal

pub returns : goal.returns
unfolding moved_len register
returns c =
    let core = core_of c.args.self.now in
    c.min.ensures ∙ ap (λ n. min n 4096) c.argument.ensures
    ∙ usual_moved core.shadow (argument core 11) (argument core 12)
