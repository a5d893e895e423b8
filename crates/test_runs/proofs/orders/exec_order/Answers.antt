use Rattle.std.proofs.Common.{◌≡◌, List, ℕ, [], Some, subst, sym}
use Rattle.test_runs.specs.Executions.{held}
use Rattle.test_runs.specs.Executed.{Executed, pipes}
use Rattle.test_runs.proofs.orders.exec_order.Goals as goal

pub returns-in-Err-clause-done : goal.returns-in-Err-clause-done
returns-in-Err-clause-done g c =
    subst (λ (names : List ℕ). Executed (g.F.Files.gives c.args.files.now)
    (λ place logged. (opened : g.row.L.Denot) × (g.L.Log.place opened ≡ Some place)
    × (g.L.Write.contents opened ≡ logged)) c.args.order.now c.args.asked.now
    (pipes (g.R.Read.remaining c.args.reader.now)
    (held (g.O.Write.contents c.args.streams.now.out) (g.E.Write.contents c.args.streams.now.err))
    (g.L.Write.contents c.args.log.now) (g.L.Log.place c.args.log.now))
    (pipes (g.R.Read.remaining c.try_exec.new.reader)
    (held (g.O.Write.contents c.try_exec.new.streams.out) (g.E.Write.contents c.try_exec.new.streams.err))
    (g.L.Write.contents c.try_exec.new.log) (g.L.Log.place c.try_exec.new.log)) c.in-Err.end names
    c.new-in-Err.result.items)
    (sym c.new.ensures.items) (c.in-Err.ensures.err [] c.new-in-Err.result.items)
