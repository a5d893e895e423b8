use Rattle.std.proofs.Common.{◌∙◌, ◌==◌, ℕ, Some, ap, arith, not, sym}
use Rattle.shadow_memory.specs.Memories.{bytes_in}
use Rattle.guest_machine.specs.Streams.{bytes_over}
use Rattle.test_runs.specs.Executions.{open_after, part_to}
use Rattle.test_runs.proofs.Parts.{open-last, open-other, open-short}
use Rattle.test_runs.proofs.speaking.is_open_after.Goals.{then-descriptor-ne2-via-then-descriptor-ne2}
use Rattle.test_runs.proofs.speaking.is_open_after.Goals.{then-descriptor-ne2-via-else-descriptor-ne2+then-range-eq0}
use Rattle.test_runs.proofs.speaking.is_open_after.Goals as goal

pub returns-then-descriptor-ne2 : goal.returns-then-descriptor-ne2
returns-then-descriptor-ne2 c =
    let f = bytes_in c.args.memory.now in
    let piece = bytes_over f (Some c.args.range) in
    elim c.then-descriptor-ne2.branch [
      | then-descriptor-ne2-via-then-descriptor-ne2 w ↦ sym
          (open-other c.args.descriptor piece c.args.was w.if-descriptor-ne2.true)
      | then-descriptor-ne2-via-else-descriptor-ne2+then-range-eq0 w ↦ sym
          (open-short f c.args.range.start c.args.range.len c.args.descriptor c.args.was w.if-range-eq0.true)
    ]

pub returns : goal.returns
returns c =
    let piece = bytes_over (bytes_in c.args.memory.now) (Some c.args.range) in
    ap (λ (byte : ℕ). not (byte == 10)) c.byte.ensures.byte
    ∙ sym (open-last (bytes_in c.args.memory.now) c.args.range.start c.args.range.len c.args.was
    (omega (arith, c.if-range-eq0.false)))
    ∙ ap (λ named. open_after c.args.was (part_to named 2 piece)) (sym c.if-descriptor-ne2.false)
