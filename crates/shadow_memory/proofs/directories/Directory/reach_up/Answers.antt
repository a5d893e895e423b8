use Rattle.std.proofs.Common.{◌∙◌, ◌++◌, ap, List}
use Rattle.shadow_memory.specs.Directories.{page_at, page_of}
use Rattle.shadow_memory.specs.declared.slots.PageSlot.{PageSlot}
use Rattle.shadow_memory.proofs.Kept.{more-after, same-pages}
use Rattle.shadow_memory.proofs.directories.Directory.reach_up.Goals as goal

pub returns-clause-same : goal.returns-clause-same
unfolding page_at
returns-clause-same c =
    let pages = c.args.self.now.pages.items in
    same-pages _ _ (λ k. ap (λ (items : List PageSlot). page_of c.args.self.now.first items k)
    (c.in_ok-append.ensures.items ∙ ap (λ (more : List PageSlot). pages ++ more) c.in_ok-pages.ensures)
    ∙ more-after c.args.self.now.first _ k pages)
