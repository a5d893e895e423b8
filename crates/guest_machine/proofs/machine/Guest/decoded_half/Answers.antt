use Rattle.std.proofs.Common.{sym}
use Rattle.guest_machine.specs.Shows.{bytes_of, core_of}
use Rattle.guest_machine.proofs.Fetching.{at_ready, found_half}
use Rattle.guest_machine.proofs.machine.Guest.decoded_half.Goals as goal

pub decoded_half-requires : goal.decoded_half-requires
decoded_half-requires c = at_ready (core_of c.args.self.now) (sym c.if-not-is_ready.ensures)

pub returns : goal.returns
returns c =
    found_half (core_of c.args.self.now) (bytes_of c.args.self.now) c.decoded_half.result
    (sym c.if-not-has_halves.ensures)
    (sym c.if-not-is_ready.ensures) c.decoded_half.ensures
