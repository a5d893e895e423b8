use Rattle.std.proofs.Common.{arith, refl, ◌≡◌, ◌==◌, length, true, false}
use Rattle.std.proofs.lemmas.Grind.{common_steps}
use Rattle.line_protocol.specs.Answers.{Answers}
use Rattle.line_protocol.proofs.Known.{at_refusal}
use Rattle.line_protocol.proofs.ServeSteps.{answer-ended, answer-broken-end, none-ended}
use Rattle.line_protocol.proofs.serving.server.Server.finish.Goals as goal

pub returns-then-is_empty-clause-ended : goal.returns-then-is_empty-clause-ended
returns-then-is_empty-clause-ended g c =
    let none : (length c.args.self.now.kept.items == 0) ≡ true = grind (arith, common_steps) in
    none-ended (Answers g.L.Listener.answers g.L.Listener.reply g.L.Listener.over c.args.listener.now) c.args.self.now _
    refl none

pub returns-clause-ended : goal.returns-clause-ended
returns-clause-ended g c =
    let some : (length c.args.self.now.kept.items == 0) ≡ false = grind (arith, common_steps) in
    answer-ended g.L.Listener.answers g.L.Listener.reply g.L.Listener.over c.args.listener.now _ c.args.self.now _ _ _
    c.in_ok-answer.ensures.answers
    _ c.in_ok-answer.ensures.answered c.deref.ensures.value some

pub returns-in_err-answer-clause-broken : goal.returns-in_err-answer-clause-broken
returns-in_err-answer-clause-broken g c =
    let some : (length c.args.self.now.kept.items == 0) ≡ false = grind (arith, common_steps) in
    at_refusal c.from_residual.result
    (answer-broken-end g.L.Listener.answers g.L.Listener.reply g.L.Listener.over c.args.listener.now _ c.args.self.now _
    _ _
    c.in_err-answer.ensures.answers _ c.in_err-answer.ensures.err c.deref.ensures.value some)
