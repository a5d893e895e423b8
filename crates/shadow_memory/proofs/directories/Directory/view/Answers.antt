use Rattle.std.proofs.Common.{◌∙◌, ◌%◌, ap}
use Rattle.shadow_memory.specs.Directories.{cells_at, cells_under, page_at}
use Rattle.shadow_memory.specs.Views.{cells_seen}
use Rattle.shadow_memory.proofs.directories.Directory.view.Goals as goal

pub returns-in-None : goal.returns-in-None
unfolding cells_at cells_under cells_seen
returns-in-None c =
    λ a same. ap (λ s. cells_at s (a % 4096)) (ap (page_at c.args.self.now) same ∙ c.in-None.ensures.none)
