use Rattle.std.proofs.Common.{◌++◌, ◌∙◌, subst}
use Rattle.std.proofs.lemmas.Result.{on_ok_weaker}
use Rattle.scenario.specs.Scenario.{Scenario}
use Rattle.sweep_plans.specs.Plans.{changes_of}
use Rattle.sweeps.specs.Memory.{memory_at}
use Rattle.sweeps.specs.Standing.{pairs_at}
use Rattle.sweeps.specs.Sweeps.{CountsMore}
use Rattle.sweeps.proofs.Steps.{counts-join}
use Rattle.sweeps.proofs.meeting.try_place.Goals as goal

pub returns-clause-met : goal.returns-clause-met
returns-clause-met c =
    let sc = c.args.scenario.now in
    let wo = c.args.settings.with_output in
    let plan = c.args.plan.now in
    let standing = c.args.site.now.standing in
    let memory = subst (λ (s : Scenario). CountsMore c.try_all.new.counts c.try_memory.new.counts wo s
    (memory_at s plan standing) c.try_all.new.out.items c.try_memory.new.out.items) c.try_all.ensures.same
    c.in_ok-try_memory.ensures.met in
    on_ok_weaker c.try_pairs.result (λ met.
    let pairs = subst (λ (s : Scenario). CountsMore c.try_memory.new.counts c.try_pairs.new.counts wo s
    (pairs_at s plan standing) c.try_memory.new.out.items c.try_pairs.new.out.items)
    (c.try_memory.ensures.same ∙ c.try_all.ensures.same) met in
    counts-join wo sc c.args.counts.now c.try_all.new.counts c.try_pairs.new.counts (changes_of plan standing)
    (memory_at sc plan standing ++ pairs_at sc plan standing) c.args.out.now.items c.try_all.new.out.items
    c.try_pairs.new.out.items c.in_ok-try_all.ensures.met
    (counts-join wo sc c.try_all.new.counts c.try_memory.new.counts c.try_pairs.new.counts
    (memory_at sc plan standing) (pairs_at sc plan standing) c.try_all.new.out.items c.try_memory.new.out.items
    c.try_pairs.new.out.items memory pairs)) c.try_pairs.ensures.met
