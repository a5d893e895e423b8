use Rattle.std.proofs.lemmas.Result.{on_ok_weaker, IfErr-weaker}
use Rattle.tries.proofs.Telling.{all-told, read-told, stopped-told}
use Rattle.tries.proofs.serving.serve.Goals as goal

pub returns-clause-ok : goal.returns-clause-ok
returns-clause-ok g c =
    on_ok_weaker c.serve.result (all-told c.in-Ok.tries _ c.in-Ok.ensures (g.W.Write.contents c.args.writer.now) _
    (g.R.Read.remaining c.args.reader.now)) c.serve.ensures.ok

pub returns-clause-read : goal.returns-clause-read
returns-clause-read g c =
    on_ok_weaker c.serve.result (read-told c.in-Ok.tries _ c.in-Ok.ensures (g.W.Write.contents c.args.writer.now) _
    (g.R.Read.remaining c.args.reader.now) _) c.serve.ensures.read

pub returns-clause-fault : goal.returns-clause-fault
returns-clause-fault g c =
    IfErr-weaker c.serve.result _ _ (stopped-told c.in-Ok.tries _ c.in-Ok.ensures
    (g.W.Write.contents c.args.writer.now) _ (g.R.Read.remaining c.args.reader.now) _) c.serve.ensures.fault

pub invariant_of-tries : goal.invariant_of-tries
invariant_of-tries g c = record { is_held = c.serve.new.listener.is_held }
