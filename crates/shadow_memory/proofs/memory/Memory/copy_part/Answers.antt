use Rattle.std.proofs.Common.{◌∙◌, ◌+◌, ◌-◌, ◌%◌, ◌≤◌, ◌<◌, ◌^◌, ap, arith, sym}
use Rattle.shadow_memory.specs.Directories.{cells_at}
use Rattle.shadow_memory.specs.Edits.{change_of, count_of}
use Rattle.shadow_memory.specs.Memories.{cells_of}
use Rattle.shadow_memory.specs.Pages.{cells_in}
use Rattle.shadow_memory.specs.declared.pages.Page.{Page}
use Rattle.shadow_memory.specs.declared.slots.PageSlot.{PageSlot}
use Rattle.shadow_memory.proofs.Copying.{seen-copied}
use Rattle.shadow_memory.proofs.memory.Memory.copy_part.Goals as goal

pub returns-then-count-gt0-clause-ok : goal.returns-then-count-gt0-clause-ok
unfolding cells_at count_of change_of
returns-then-count-gt0-clause-ok c =
    let n = c.whole_end.result - c.args.from % 4096 in
    let small : c.args.from < 2 ^ 32 = omega arith in
    let page : c.args.from % 4096 + n ≤ 4096 = omega arith in
    seen-copied (cells_of c.args.self.now) (cells_of c.change.new.self) (cells_in c.deref-then-count-gt0.result.now)
    c.args.from c.args.to n small page
    (λ a here. c.in_ok-page.ensures a here ∙ ap (λ (s : PageSlot). cells_at s (a % 4096)) c.in-Held.is
    ∙ ap (λ (p : Page). cells_in p (a % 4096)) (sym c.deref-then-count-gt0.ensures))
    c.in_ok-change.ensures.ok
