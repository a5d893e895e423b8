use Rattle.std.proofs.Common.{◌∙◌, ap, sym}
use Rattle.guest_machine.specs.Exec.{exec}
use Rattle.shadow_memory.specs.Memories.{bytes_in}
use Rattle.checkpoints.specs.Outputs.{part}
use Rattle.checkpoints.proofs.OutputSteps.{said-nothing, said-piece}
use Rattle.checkpoints.proofs.outputs.step_collecting.Goals as goal

pub returns-then-output_len-written-clause-part : goal.returns-then-output_len-written-clause-part
returns-then-output_len-written-clause-part c s h was =
    let setup = c.args.setup.now in
    was ∙ ap (part c.args.range) (sym (said-nothing c.writes_what_it_reads.ensures s setup
    c.output_len-written.result c.output_len.result (c.output_len-written.ensures s h)
    (c.output_len.ensures (exec s setup) (c.in_ok-stepped.ensures.shows s h)) c.if-output_len-written.true))

pub returns-clause-part : goal.returns-clause-part
returns-clause-part c s h was =
    let setup = c.args.setup.now in
    let shown = c.in_ok-stepped.ensures.shows s h in
    c.in_ok-push_part.ensures s.output (c.output_len-written.ensures s h) was
    ∙ ap (part c.args.range) (sym (said-piece c.writes_what_it_reads.ensures s setup
    c.output_len-written.result c.output_len.result (c.output_len-written.ensures s h)
    (c.output_len.ensures (exec s setup) shown) c.if-output_len-written.false
    c.in_ok-stepped.touched.reads (ap (λ t. t.reads) (c.in_ok-stepped.ensures.touched s h))
    (bytes_in c.memory.result.now) (c.memory.ensures.bytes (exec s setup) shown)))
