use Rattle.std.proofs.Common.{◌≡◌, ◌∙◌, ◌+◌, ◌-◌, ◌*◌, ◌≤◌, ℕ, ap, arith}
use Rattle.shadow_memory.specs.Directories.{cells_under}
use Rattle.shadow_memory.specs.Edits.{each_of}
use Rattle.shadow_memory.specs.Places.{changed_from}
use Rattle.shadow_memory.specs.declared.cells.Cell.{Cell}
use Rattle.shadow_memory.proofs.directories.Directory.change_blank.Goals as goal

pub returns-clause-ok : goal.returns-clause-ok
returns-clause-ok c =
    let first = c.reach-2.new.self.first in
    let room = c.in_ok-reach-2.ensures.room in
    let low : first ≤ c.args.number = room.0 in
    let change : ℕ → Cell → Cell = λ i cell. each_of c.args.each cell in
    let here : 4096 * (first + (c.args.number - first)) ≡ 4096 * c.args.number = omega arith in
    c.change_blank_pages.ensures.swept
    ∙ ap (λ at. changed_from (cells_under c.reach-2.new.self) at (4096 * c.change_blank_pages.result) change) here
    ∙ ap (λ (f : ℕ → Cell). changed_from f (4096 * c.args.number) (4096 * c.change_blank_pages.result) change)
    (c.reach-2.ensures.same ∙ c.reach.ensures.same)
