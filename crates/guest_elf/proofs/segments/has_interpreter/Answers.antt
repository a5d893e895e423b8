use Rattle.std.proofs.Common.{◌<◌, ◌∙◌, ap, sym, arith, true, false}
use Rattle.std.specs.List.{list_any}
use Rattle.guest_elf.specs.File.{has_interpreter, header_count, is_interpreter}
use Rattle.guest_elf.proofs.Steps.{any_cons, headers_end, headers_start, headers_step}
use Rattle.guest_elf.proofs.segments.has_interpreter.Goals as goal

pub loop-index-init : goal.loop-index-init
loop-index-init c = ap (list_any is_interpreter) (headers_start c.args.file.now)

pub returns-then-is_interpreter : goal.returns-then-is_interpreter
unfolding has_interpreter
returns-then-is_interpreter c =
    let listed : c.loop-index.index < header_count c.args.file.now = omega arith in
    sym (any_cons is_interpreter _ _ _ true (headers_step c.args.file.now c.loop-index.index listed) (cc))
    ∙ c.loop-index.invariant

pub loop-index-preserved : goal.loop-index-preserved
loop-index-preserved c =
    let listed : c.loop-index.index < header_count c.args.file.now = omega arith in
    sym (any_cons is_interpreter _ _ _ false (headers_step c.args.file.now c.loop-index.index listed) (cc))
    ∙ c.loop-index.invariant

pub returns : goal.returns
unfolding has_interpreter
returns c =
    sym (ap (list_any is_interpreter) (headers_end c.args.file.now c.loop-index.index (omega arith)))
    ∙ c.loop-index.invariant
