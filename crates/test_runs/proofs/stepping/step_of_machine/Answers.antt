use Rattle.std.proofs.Common.{◌≡◌, ap, refl, subst}
use Rattle.guest_machine.specs.State.{State}
use Rattle.guest_machine.specs.Exec.{exec, touched_of}
use Rattle.guest_machine.specs.Shows.{Shows}
use Rattle.guest_machine.specs.declared.setup.Setup.{Setup}
use Rattle.test_runs.proofs.Steps.{piece-is}
use Rattle.test_runs.proofs.stepping.step_of_machine.Goals as goal

pub returns : goal.returns
returns c =
    let machine = c.args.machine in
    let shown = subst (λ (setup : Setup). (s : State) → Shows machine s
    → Shows c.in_ok-machine.machine (exec s setup)) c.setup.ensures c.in_ok-machine.ensures.shows in
    let touched = subst (λ (setup : Setup). (s : State) → Shows machine s
    → c.in_ok-machine.touched ≡ touched_of s setup) c.setup.ensures c.in_ok-machine.ensures.touched in
    record {
      shows = shown;
      piece =
          λ s before. piece-is c.writes_what_it_reads.ensures s c.args.scenario.now.setup
          c.output_len-written.result c.output_len.result (c.output_len-written.ensures s before)
          (c.output_len.ensures (exec s c.args.scenario.now.setup) (shown s before)) c.piece_range-range.result
          c.in_ok-machine.touched.reads (ap (λ t. t.reads) (touched s before)) c.piece_range-range.ensures
          (exec s c.args.scenario.now.setup).bytes refl;
    }
