use Rattle.std.proofs.Common.{Bool, ap, sym, ◌∙◌, subst}
use Rattle.checkpoints.specs.Effects.{Run, effect_by}
use Rattle.checkpoints.specs.Forks.{IsLastUnshown}
use Rattle.checkpoints.specs.Writes.{touch_code}
use Rattle.checkpoints.proofs.ForkSteps.{anew-is-first}
use Rattle.checkpoints.proofs.trail.Trail.last_without.Goals as goal

pub returns-then-touch_code-clause-step : goal.returns-then-touch_code-clause-step
returns-then-touch_code-clause-step c code setup size start h =
    let run : Run = record { start = start; setup = setup; marks = c.args.marks.now } in
    subst (λ (b : Bool). IsLastUnshown (effect_by b c.args.addr code) run c.args.last 0)
    (sym c.if-touch_code.true ∙ c.touch_code.ensures
    ∙ ap (touch_code c.args.isa c.args.marks.now c.args.addr) (sym size))
    (anew-is-first c.args.addr code c.args.last run)

pub returns-clause-step : goal.returns-clause-step
returns-clause-step c code setup size start h =
    let run : Run = record { start = start; setup = setup; marks = c.args.marks.now } in
    subst (λ (b : Bool). IsLastUnshown (effect_by b c.args.addr code) run c.args.last c.last_unused.result)
    (sym c.if-touch_code.false ∙ c.touch_code.ensures
    ∙ ap (touch_code c.args.isa c.args.marks.now c.args.addr) (sym size))
    (c.last_unused.ensures.step code setup c.args.marks.now size start h)
