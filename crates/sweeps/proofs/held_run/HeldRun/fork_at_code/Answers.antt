use Rattle.std.proofs.Common.{◌≡◌, ◌∙◌, ap, subst}
use Rattle.std.proofs.lemmas.Result.{IfOk-weaker}
use Rattle.guest_elf.specs.Images.{profile_of}
use Rattle.guest_elf.specs.declared.profile.Isa.{Isa}
use Rattle.guest_elf.specs.declared.profile.Profile.{Profile}
use Rattle.checkpoints.specs.Effects.{code_effect}
use Rattle.checkpoints.specs.Forks.{IsForkFor}
use Rattle.scenario.specs.Scenario.{run_of}
use Rattle.scenario.proofs.TrailFacts.{moved}
use Rattle.sweeps.proofs.ForkSteps.{fork-for, still-loads}
use Rattle.sweeps.proofs.held_run.HeldRun.fork_at_code.Goals as goal

pub returns-clause-fork : goal.returns-clause-fork
returns-clause-fork c =
    let sc = c.args.self.now.scenario in
    let isa : c.profile.result.isa ≡ (profile_of sc.image).isa = ap (λ (p : Profile). p.isa)
    (c.profile.ensures ∙ ap profile_of c.image.ensures) in
    IfOk-weaker c.fork_at_code.result _ _
    (λ fork is code long.
    subst (λ (isa : Isa). IsForkFor (code_effect isa sc.marks c.args.addr code) (run_of sc) sc.step fork) isa
    (fork-for (λ marks. code_effect c.profile.result.isa marks c.args.addr code) sc
    c.setup.result.now c.marks.result.now c.step.result c.args.self.now.trail fork c.setup.ensures c.marks.ensures
    c.step.ensures (λ start right. is code start long right) c.args.self.now.right)) c.fork_at_code.ensures.fork

pub invariant_of-self : goal.invariant_of-self
invariant_of-self c =
    let self = c.args.self.now in record {
      loads = still-loads self.trail c.fork_at_code.new.self self.scenario.image c.fork_at_code.ensures.loaded
          self.loads;
      right = moved self.scenario c.setup.result.now c.marks.result.now self.trail c.fork_at_code.new.self
          c.setup.ensures c.marks.ensures c.fork_at_code.ensures.right self.right;
    }
