use Rattle.std.proofs.lemmas.Result.{on_ok_weaker}
use Rattle.replay_report.proofs.rendering.render.Goals as goal

pub returns-clause-ok : goal.returns-clause-ok
returns-clause-ok c =
    on_ok_weaker c.append.result (λ appended s h. (c.in_ok-text.text.items, c.in_ok-text.ensures s h, appended))
    c.append.ensures.ok
