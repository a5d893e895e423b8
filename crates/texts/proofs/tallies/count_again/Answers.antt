use Rattle.std.proofs.Common.{ap, ◌∙◌}
use Rattle.indexmap.specs.Layout.{set_value_at}
use Rattle.texts.specs.Tallied.{keyed}
use Rattle.texts.proofs.Steps.{counted_again}
use Rattle.texts.proofs.tallies.count_again.Goals as goal

pub returns : goal.returns
returns c text is =
    ap (λ count. keyed (set_value_at c.args.texts.now.entries c.args.place count)) c.next_count.ensures
    ∙ counted_again text c.args.texts.now.entries c.args.place c.index.result.now c.requires is c.index.ensures
