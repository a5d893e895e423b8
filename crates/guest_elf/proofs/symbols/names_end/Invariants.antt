use Rattle.std.proofs.Common.{◌≡◌, ◌≢◌, ℕ, ◌-◌, ◌<◌, ◌≤◌, get_or, length}
use Rattle.guest_elf.proofs.symbols.names_end.Given as goal

abbrev pub invariant-loop-index : goal.invariant-loop-index
invariant-loop-index l = record {
  within : l.end ≤ l.index;
  inside : l.end ≤ length l.strings;
  last : 0 < l.end → get_or l.strings (l.end - 1) 0 ≡ 0;
  later : (k : ℕ) → l.end ≤ k → k < l.index → get_or l.strings k 0 ≢ 0;
}
