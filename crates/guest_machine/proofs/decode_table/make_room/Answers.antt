use Rattle.std.proofs.Common.{◌≤◌, ◌+◌, ◌*◌, ◌/◌, arith, length}
use Rattle.guest_machine.proofs.DecodeSteps.{grown}
use Rattle.guest_machine.proofs.decode_table.make_room.Goals as goal

pub returns : goal.returns
returns c k =
    let entries = c.args.entries.now in
    let room = c.args.place / 256 * 256 + 256 in
    let few : length entries.items ≤ room = omega (arith, entries.ok.0, c.if-place-len.false, c.len.ensures) in
    grown entries.items c.resize-grown.new.self.items room _ _ few c.resize-grown.ensures.items k
