use Rattle.std.proofs.Common.{◌≡◌, drop}
use Rattle.guest_elf.specs.Segments.{loaded}
use Rattle.sweep_plans.proofs.code.byte_in.Given as goal

abbrev pub invariant-loop-segment : goal.invariant-loop-segment
invariant-loop-segment l = loaded (drop l.segment-index l.segments) l.addr ≡ loaded l.segments l.addr
