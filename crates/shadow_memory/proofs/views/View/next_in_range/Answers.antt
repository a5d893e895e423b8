use Rattle.std.proofs.Common.{refl}
use Rattle.shadow_memory.specs.Cells.{shadow_in}
use Rattle.shadow_memory.specs.Views.{cells_seen}
use Rattle.shadow_memory.proofs.Ranging.{zeros-hold-none}
use Rattle.shadow_memory.proofs.views.View.next_in_range.Goals as goal

pub returns-in-Blank-clause-none : goal.returns-in-Blank-clause-none
unfolding cells_seen
returns-in-Blank-clause-none c =
    zeros-hold-none (λ k. (cells_seen c.args.self k).byte) (λ k. shadow_in (cells_seen c.args.self k)) c.args.low
    c.args.high c.args.from 4096 c.requires.positive (λ k. rw c.in-Blank.is refl)
