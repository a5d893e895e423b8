use Rattle.std.proofs.lemmas.Result.{on_ok_weaker, IfErr-weaker}
use Rattle.replay_session.proofs.StageSteps.{all-served, read-served, stopped}
use Rattle.replay_session.proofs.serving.serve.Goals as goal

pub returns-clause-ok : goal.returns-clause-ok
returns-clause-ok g c =
    on_ok_weaker c.serve.result (all-served c.in-Ok.listening c.args.session c.in-Ok.ensures
    (g.W.Write.contents c.args.writer.now) _
    (g.R.Read.remaining c.args.reader.now)) c.serve.ensures.ok

pub returns-clause-read : goal.returns-clause-read
returns-clause-read g c =
    on_ok_weaker c.serve.result (read-served c.in-Ok.listening c.args.session c.in-Ok.ensures
    (g.W.Write.contents c.args.writer.now) _
    (g.R.Read.remaining c.args.reader.now) _) c.serve.ensures.read

pub returns-clause-fault : goal.returns-clause-fault
returns-clause-fault g c =
    IfErr-weaker c.serve.result _ _ (stopped c.in-Ok.listening c.args.session c.in-Ok.ensures
    (g.W.Write.contents c.args.writer.now) _
    (g.R.Read.remaining c.args.reader.now) _) c.serve.ensures.fault
