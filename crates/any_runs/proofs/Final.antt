-- The laws.
use Rattle.std.proofs.Common.{◌≡◌, ℕ, suc, ◌^◌, ◌<◌, List, All, subst, sym, arith}
use Rattle.guest_machine.specs.declared.setup.Setup.{Setup}
use Rattle.any_runs.specs.Stands.{StepsStand, RunsStand, before, at_step}
use Rattle.clean_reports.specs.Disturbed.{HasBytes}
use Rattle.any_runs.proofs.Standing.{step-stands}
use Rattle.any_runs.proofs.Touched.{touched-stands}
use Rattle.any_runs.proofs.Running.{stand-at, fit-earlier}

abbrev AreBytesOf : List ℕ → Type 0
AreBytesOf input = All (λ byte. byte < 2 ^ 8) input

small-input : (input : List ℕ) (setup : Setup) → AreBytesOf input → setup.input ≡ input → HasBytes setup
small-input input setup small same = subst AreBytesOf (sym same) small

pub steps-stand : (input : List ℕ) → AreBytesOf input → StepsStand input
steps-stand input small setup s t same d opened pointer left none =
    let bytes = small-input input setup small same in
    record {
      after = step-stands setup bytes s t d opened pointer left none;
      touched = touched-stands setup bytes s t d opened none;
    }

pub runs-stand : (input : List ℕ) → AreBytesOf input → RunsStand input
unfolding before
runs-stand input small setup start begun change other n same first keeps fit =
    let bytes = small-input input setup small same in
    let law = step-stands setup bytes in (
      stand-at setup law start begun change other first n keeps fit,
      λ k h.
          let now = fit-earlier setup law start begun change other first n (suc k) h keeps fit in
          let here = fit-earlier setup law start begun change other first n k (omega (arith, h)) keeps fit in
          touched-stands setup bytes (at_step start setup change k) (at_step begun setup other k)
          (stand-at setup law start begun change other first k (λ j l. keeps j (omega (arith, l, h))) here)
          (fit.blocks k h) now.uses,
    )
