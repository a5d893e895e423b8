use Rattle.std.proofs.Common.{◌≡◌, ◌≤◌, ◌+◌, drop}
use Rattle.std.specs.List.{sum_by}
use Rattle.guest_elf.proofs.segments.exceed.Given as goal

abbrev pub invariant-loop-header : goal.invariant-loop-header
invariant-loop-header l = record {
  counted : l.size + sum_by (λ header. header.memsz) (drop l.header-index l.loads)
      ≡ sum_by (λ header. header.memsz) l.loads;
  within : l.size ≤ 16777216;
}
