use Rattle.std.proofs.Common.{sym, subst}
use Rattle.scenario.specs.Scenario.{IsOutlineOf}
use Rattle.sweeps.specs.Recall.{Passes}
use Rattle.sweeps.specs.Standing.{state_before}
use Rattle.sweeps.proofs.RecallSteps.{gone-on}
use Rattle.sweeps.proofs.striking.recalled.Goals as goal

pub returns-in_ok-clone-in-Overwrites : goal.returns-in_ok-clone-in-Overwrites
returns-in_ok-clone-in-Overwrites c with_output sc unmarked below passes h =
    let step = c.args.recall.now.step in
    let gone = subst (Passes (state_before sc step) sc.setup c.args.glitch) c.in-Overwrites.is passes in
    gone-on sc step unmarked below with_output c.args.glitch c.in_ok-clone-in-Overwrites.field-0
    c.runs_overwrite.ensures gone
    (subst (IsOutlineOf with_output sc) (sym c.in_ok-clone-in-Overwrites.ensures.cases) h.unedited)
