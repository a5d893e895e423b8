use Rattle.std.proofs.Common.{◌∙◌, sym}
use Rattle.guest_machine.specs.Shows.{core_of, bytes_of}
use Rattle.guest_machine.proofs.StreamSteps.{quiet-decoded}
use Rattle.guest_machine.proofs.machine.Guest.may_call.Goals as goal

pub returns-in-Some : goal.returns-in-Some
returns-in-Some c other hooks =
    quiet-decoded (core_of c.args.self.now) (bytes_of c.args.self.now) 4 c.in-Some.instruction c.in-Some.ensures
    (sym c.is_call.ensures ∙ other) hooks
