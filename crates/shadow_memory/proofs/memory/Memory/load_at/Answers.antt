use Rattle.std.proofs.Common.{◌≡◌, ◌∙◌, ◌+◌, ◌/◌, ◌%◌, ap, arith, sym}
use Rattle.shadow_memory.specs.Memories.{cells_of}
use Rattle.shadow_memory.specs.Ranges.{above}
use Rattle.shadow_memory.specs.Views.{cells_seen}
use Rattle.shadow_memory.proofs.Loading.{same-load}
use Rattle.shadow_memory.proofs.memory.Memory.load_at.Goals as goal

pub returns-then-place-n-le-PAGE-clause-value : goal.returns-then-place-n-le-PAGE-clause-value
returns-then-place-n-le-PAGE-clause-value c = c.load.ensures.value
    ∙ same-load (λ i. cells_seen c.view.result (c.args.addr % 4096 + i))
    (λ i. cells_of c.args.self.now (above c.args.addr i)) c.args.addr c.args.n c.requires (λ i below.
    let page : above c.args.addr i / 4096 ≡ c.args.addr / 4096 = omega arith in
    let place : above c.args.addr i % 4096 ≡ c.args.addr % 4096 + i = omega arith in
    sym (c.view.ensures (above c.args.addr i) page ∙ ap (cells_seen c.view.result) place))
