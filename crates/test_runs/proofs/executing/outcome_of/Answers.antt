use Rattle.std.proofs.Common.{◌∙◌, ap, refl, subst, sym}
use Rattle.guest_elf.specs.Images.{profile_of}
use Rattle.guest_elf.specs.declared.profile.Profile.{Profile}
use Rattle.guest_machine.specs.Shows.{Shows}
use Rattle.guest_machine.specs.Streams.{is_idle}
use Rattle.guest_machine.specs.declared.machine.Machine.{Machine}
use Rattle.scenario.specs.Scenario.{chosen_state}
use Rattle.test_runs.specs.Executions.{machine_of, needs_at, refused_at, state_at}
use Rattle.test_runs.specs.Executed.{fails_at, limits_told, told_at}
use Rattle.test_runs.proofs.Runs.{chosen-is}
use Rattle.test_runs.proofs.Stages.{findings-of}
use Rattle.test_runs.proofs.executing.outcome_of.Goals as goal

pub returns : goal.returns
returns c =
    let sc = c.args.scenario.now in
    let last = ap (state_at sc) c.requires.last ∙ sym (chosen-is sc c.requires.marks) in
    let shown = subst (λ (m : Machine). Shows m (chosen_state sc)) (sym c.machine-machine.ensures)
    (subst (Shows (machine_of c.args.execution.now)) last c.requires.at.shows) in
    record {
      step = c.step.ensures;
      ended = refl;
      status = c.status.ensures (chosen_state sc) shown;
      idles = c.is_idle.ensures (chosen_state sc) shown ∙ ap (is_idle (chosen_state sc)) c.setup.ensures;
      has_errors =
          findings-of (chosen_state sc) sc.image sc.image sc.rules sc.rules sc.options.callers sc.options.callers _ _
          _ refl
          refl refl c.shown.ensures (c.in_ok-has_errors.ensures shown);
      lost = c.refused.ensures ∙ c.requires.at.refused ∙ ap (refused_at sc) c.requires.last;
      limits = ap (λ (p : Profile). p.limits) (c.profile.ensures ∙ ap profile_of c.image.ensures);
      limits_told =
          c.limits_told.ensures
          ∙ ap (limits_told c.args.plan) (c.needs_limits.ensures ∙ c.requires.at.limits ∙ ap (needs_at sc)
          c.requires.last);
      heap_fails = c.fails_at.ensures ∙ ap (fails_at c.args.plan) (c.sight_in-sight.ensures sc shown);
      is_open = refl;
      heap_told = c.told_at.ensures ∙ ap (told_at c.args.plan) (c.sight_in-sight.ensures sc shown);
    }
