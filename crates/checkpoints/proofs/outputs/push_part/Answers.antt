use Rattle.std.proofs.Common.{◌∙◌, ◌++◌, Option, ap, append-nil, sym}
use Rattle.shadow_memory.specs.Memories.{bytes_in}
use Rattle.guest_machine.specs.Streams.{bytes_over}
use Rattle.run_values.specs.declared.span.Span.{Span}
use Rattle.checkpoints.specs.Outputs.{part}
use Rattle.checkpoints.proofs.outputs.push_part.Goals as goal

pub returns-in-None : goal.returns-in-None
unfolding bytes_over
returns-in-None c xs is was =
    was ∙ ap (part c.args.range) (sym (append-nil xs)
    ∙ ap (λ (piece : Option Span). xs ++ bytes_over (bytes_in c.args.memory.now) piece) (sym c.in-None.is))
