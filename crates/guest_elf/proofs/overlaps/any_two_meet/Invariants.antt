use Rattle.std.proofs.Common.{◌≡◌, drop}
use Rattle.guest_elf.proofs.Meeting.{begins_early}
use Rattle.guest_elf.proofs.overlaps.any_two_meet.Given as goal

abbrev pub invariant-loop-header : goal.invariant-loop-header
invariant-loop-header l = begins_early l.end (drop l.header-index l.headers) ≡ begins_early 0 l.headers
