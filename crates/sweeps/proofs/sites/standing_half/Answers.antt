use Rattle.std.proofs.Common.{Some, is_some, ap, sym, ◌∙◌}
use Rattle.shadow_memory.specs.Ranges.{little_word, window}
use Rattle.scenario.specs.Scenario.{first_state}
use Rattle.sweep_plans.specs.declared.standing.Standing.TheVariants as At
use Rattle.sweeps.proofs.ChangeSteps.{half-refused, half-there}
use Rattle.sweeps.proofs.sites.standing_half.Goals as goal

pub returns-then-is_some : goal.returns-then-is_some
returns-then-is_some c =
    sym (half-refused c.args.scenario.now c.args.addr
    (ap is_some (sym c.refusal.ensures) ∙ sym c.is_some.ensures ∙ c.if-is_some.true))

pub returns : goal.returns
returns c =
    let sc = c.args.scenario.now in
    let addr = c.args.addr in
    ap (λ half. Some (At.Half addr half)) (c.load-half.ensures.value
    ∙ ap (λ bytes. little_word (window bytes addr 2)) (c.memory.ensures.bytes (first_state sc) c.requires))
    ∙ sym (half-there sc addr (ap is_some (sym c.refusal.ensures) ∙ sym c.is_some.ensures ∙ c.if-is_some.false))
