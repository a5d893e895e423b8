use Rattle.std.proofs.Common.{◌≡◌, arith, length, refl, subst, sym, Some}
use Rattle.std.proofs.lemmas.Bool.Decides.{nat_tests}
use Rattle.std.proofs.lemmas.Result.{on_ok_weaker}
use Rattle.checkpoints.specs.Edits.{IsRightForRun}
use Rattle.checkpoints.specs.Trails.{LoadsAs}
use Rattle.scenario.specs.Scenario.{Scenario, run_of}
use Rattle.sweeps.specs.Covered.{IsByte}
use Rattle.sweeps.specs.Standing.{all_changes}
use Rattle.sweeps.proofs.CoverSteps.{covers-empty, no-length, not-byte}
use Rattle.sweeps.proofs.entering.try_site.Goals as goal

pub returns-then-is_empty-clause-covers : goal.returns-then-is_empty-clause-covers
returns-then-is_empty-clause-covers c =
    let sc = c.args.run.now.scenario in
    let table = c.args.coverage.now.table.items in
    let all = all_changes sc c.args.plan.now (Some c.args.site.now.standing) in
    let none : length table ≡ 0 = grind (arith, nat_tests, c.is_empty.ensures, c.if-is_empty.true) in
    on_ok_weaker c.try_place.result (λ met may. covers-empty sc c.args.coverage.now.range.start all table table
    (no-length table none) refl) c.try_place.ensures.met

pub try_byte-requires-clause-byte : goal.try_byte-requires-clause-byte
try_byte-requires-clause-byte c = subst IsByte (sym c.in-Byte.is) tt

pub returns-in-Byte-clause-covers : goal.returns-in-Byte-clause-covers
returns-in-Byte-clause-covers c = on_ok_weaker c.try_byte.result (λ covers may. covers) c.try_byte.ensures.covers

pub returns-in_default-clause-covers : goal.returns-in_default-clause-covers
returns-in_default-clause-covers c =
    let sc = c.args.run.now.scenario in
    let table = c.args.coverage.now.table.items in
    let standing = c.args.site.now.standing in
    let all = all_changes sc c.args.plan.now (Some standing) in
    on_ok_weaker c.try_place-in_default.result (λ met may. covers-empty sc c.args.coverage.now.range.start all table
    table (not-byte standing table c.in_default.not-Byte may) refl) c.try_place-in_default.ensures.met

pub invariant_of-run : goal.invariant_of-run
invariant_of-run c =
    let run = c.args.run.now in
    let same = sym c.try_place.ensures.same in record {
      loads = subst (λ (s : Scenario). LoadsAs run.trail s.image) same run.loads;
      right = subst (λ (s : Scenario). IsRightForRun run.trail (run_of s)) same run.right;
    }

pub invariant_of-run-in-Byte : goal.invariant_of-run-in-Byte
invariant_of-run-in-Byte c =
    let run = c.args.run.now in
    let same = sym c.try_byte.ensures.same in record {
      loads = subst (λ (s : Scenario). LoadsAs run.trail s.image) same run.loads;
      right = subst (λ (s : Scenario). IsRightForRun run.trail (run_of s)) same run.right;
    }

pub invariant_of-run-in_default : goal.invariant_of-run-in_default
invariant_of-run-in_default c =
    let run = c.args.run.now in
    let same = sym c.try_place-in_default.ensures.same in record {
      loads = subst (λ (s : Scenario). LoadsAs run.trail s.image) same run.loads;
      right = subst (λ (s : Scenario). IsRightForRun run.trail (run_of s)) same run.right;
    }
