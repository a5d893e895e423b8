use Rattle.std.proofs.Common.{◌≡◌, ◌+◌, ◌-◌, suc, ap, sym, ◌∙◌, subst, arith}
use Rattle.guest_machine.specs.Exec.{exec, touched_of}
use Rattle.guest_machine.specs.Shows.{Shows}
use Rattle.sweeps.specs.Memory.{touched_in}
use Rattle.sweeps.specs.Standing.{state_before}
use Rattle.sweeps.proofs.AccessSteps.{step-unmarked, table-begin, table-halted, table-more, unmarked}
use Rattle.sweeps.proofs.accesses.first_accesses.Goals as goal

pub loop-k-init : goal.loop-k-init
loop-k-init c = record {
  shows = c.in_ok-machine.ensures _ c.requires.before;
  table =
      table-begin c.args.scenario.now c.args.step _ c.new-table.result (omega arith) c.new-table.ensures.bytes;
  within = omega arith;
}

pub returns-then-not-is_running : goal.returns-then-not-is_running
returns-then-not-is_running c =
    let inv = c.loop-k.invariant in
    table-halted c.stays_halted.ensures c.args.scenario.now c.args.step c.loop-k.k c.args.scenario.now.step
    c.loop-k.table (omega arith) (omega arith) (sym (c.if-not-is_running.ensures _ inv.shows)) inv.table

pub loop-k-preserved : goal.loop-k-preserved
loop-k-preserved c =
    let inv = c.loop-k.invariant in
    let sc = c.args.scenario.now in
    let k = c.loop-k.k in
    let at : k ≡ c.args.step + (k - c.args.step) = omega arith in
    let up : k + 1 - c.args.step ≡ suc (k - c.args.step) = omega arith in
    let touched : c.in_ok-stepped.touched ≡ touched_in sc k = c.in_ok-stepped.ensures.touched _ inv.shows
    ∙ ap (touched_of (state_before sc k)) c.setup.ensures
    ∙ ap (λ s. touched_of s sc.setup) (sym (unmarked sc k c.requires.unmarked)) in
    record {
      shows =
          subst (Shows c.in_ok-stepped.stepped) (ap (exec (state_before sc k)) c.setup.ensures
          ∙ sym (step-unmarked sc k c.requires.unmarked)) (c.in_ok-stepped.ensures.shows _ inv.shows);
      table =
          table-more sc c.args.step (k - c.args.step) (k + 1 - c.args.step) k c.loop-k.table _ _ c.in_ok-stepped.touched
          at up touched inv.table c.in_ok-enter.ensures.entered c.in_ok-enter-2.ensures.entered
          c.in_ok-enter-2.ensures.shown;
      within = omega arith;
    }
