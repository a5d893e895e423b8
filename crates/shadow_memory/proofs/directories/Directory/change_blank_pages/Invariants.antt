use Rattle.std.proofs.Common.{◌≡◌, ◌+◌, ◌*◌, vec_len}
use Rattle.shadow_memory.specs.Directories.{cells_under}
use Rattle.shadow_memory.specs.Edits.{each_of}
use Rattle.shadow_memory.specs.Places.{changed_from}
use Rattle.shadow_memory.proofs.directories.Directory.change_blank_pages.Given as goal

abbrev pub invariant-loop-i : goal.invariant-loop-i
invariant-loop-i l = record {
  same : l.self.first ≡ l.initial.self.first;
  long : vec_len l.self.pages ≡ vec_len l.initial.self.pages;
  swept : cells_under l.self ≡ changed_from (cells_under l.initial.self) (4096 * (l.initial.self.first + l.place))
      (4096 * l.i) (λ i cell. each_of l.each cell);
}
