-- The input is a front that stays and what is left of it; the other one begins with the same front.
use Rattle.std.proofs.Common.{arith}
use Rattle.scenario.proofs.InputSteps.{shows-more, shows-none, shows-there, within-input}
use Rattle.scenario.proofs.edits.input.overwrite_effect.Goals as goal

pub overflow_add-result : goal.overflow_add-result
overflow_add-result c =
    let within = within-input c.args.input.now c.args.bytes.now c.args.offset c.min-start.result c.alike-same.result
    c.min-start.ensures c.alike-same.ensures in
    omega (arith, c.requires)

pub overflow_cast-result : goal.overflow_cast-result
overflow_cast-result c =
    let within = within-input c.args.input.now c.args.bytes.now c.args.offset c.min-start.result c.alike-same.result
    c.min-start.ensures c.alike-same.ensures in
    omega (arith, c.requires)

pub returns-then-same-bytes : goal.returns-then-same-bytes
returns-then-same-bytes c =
    shows-none c.args.input.now c.args.bytes.now c.args.offset c.min-start.result c.alike-same.result
    c.min-start.ensures c.alike-same.ensures c.if-same-bytes.true

pub returns-then-same-rest : goal.returns-then-same-rest
returns-then-same-rest c =
    shows-more c.args.input.now c.args.bytes.now c.args.offset c.min-start.result c.alike-same.result
    c.min-start.ensures c.alike-same.ensures c.if-same-bytes.false c.if-same-rest.true

pub returns-else-same-rest : goal.returns-else-same-rest
returns-else-same-rest c =
    shows-there c.args.input.now c.args.bytes.now c.args.offset c.min-start.result c.alike-same.result
    c.min-start.ensures c.alike-same.ensures c.if-same-bytes.false c.if-same-rest.false
