use Rattle.std.proofs.Common.{◌≡◌, ◌+◌, true, sym, subst}
use Rattle.guest_machine.specs.Exec.{is_running}
use Rattle.std.proofs.lemmas.Result.{on_ok_weaker}
use Rattle.sweep_plans.specs.declared.change.Change.TheVariants.{Once}
use Rattle.sweeps.specs.Outcomes.{IsOutcome}
use Rattle.sweeps.specs.Recall.{Passes}
use Rattle.sweeps.specs.Standing.{state_before}
use Rattle.sweeps.proofs.RecallSteps.{kept-on}
use Rattle.sweeps.proofs.striking.keep.Goals as goal

pub returns-in-Keeps-clause-so : goal.returns-in-Keeps-clause-so
returns-in-Keeps-clause-so c =
    on_ok_weaker c.keep.result (λ so with_output sc unmarked below passes is h.
    so with_output sc (λ runs.
    let step = c.args.recall.now.step in
    let same = sym c.pass.ensures.step in
    let here = subst (λ k. is_running (state_before sc (k + 1)).core.status ≡ true) c.pass.ensures.step runs in
    let kept = subst (Passes (state_before sc step) sc.setup c.args.glitch) c.in-Keeps.is passes in
    subst (λ k. IsOutcome with_output sc (Once (k + 1) c.args.glitch) c.args.outcome) same
    (kept-on sc step unmarked below with_output c.args.glitch c.args.outcome c.runs_keep.ensures
    c.runs_keep_words.ensures kept here is)) (c.pass.ensures.so with_output sc h)) c.keep.ensures.so
