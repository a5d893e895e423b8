use Rattle.std.proofs.Common.{ap, sym, subst, ◌∙◌, ◌≤◌}
use Rattle.guest_elf.specs.Profiles.{unit}
use Rattle.sweeps.specs.Sweeps.{scenario_of}
use Rattle.sweeps.proofs.CoverSteps.{few-apart}
use Rattle.sweeps.proofs.sweep.Sweep.apart.Goals as goal

pub returns-clause-places : goal.returns-clause-places
unfolding scenario_of
returns-clause-places c = c.unit.ensures ∙ ap unit (c.isa.ensures _ c.args.self.now.starts)

pub returns-clause-few : goal.returns-clause-few
returns-clause-few c = subst (λ n. n ≤ 4) (sym c.unit.ensures) (few-apart c.isa.result)
