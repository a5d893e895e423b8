use Rattle.std.proofs.Common.{◌&&◌, ◌∙◌, ◌∷◌, [], Bool, cond, ap, ap₂, subst, sym, List, ℕ}
use Rattle.exit_status.specs.Ends.{AppendsFront}
use Rattle.exit_status.specs.ExecEnds.{line_end}
use Rattle.exit_status.proofs.exec_ends.end_line.Goals as goal

pub returns-then-says_run-clause-line : goal.returns-then-says_run-clause-line
returns-then-says_run-clause-line g c =
    subst (AppendsFront (g.W.Write.contents c.args.writer.now) (g.W.Write.contents c.send.new.writer))
    (ap₂ (λ (a b : Bool). cond (a && b) (10 ∷ []) []) (sym c.if-outcome.true)
    (sym c.if-says_run.true ∙ c.says_run.ensures) ∙ ap (λ end. line_end end c.args.calls.now) (sym c.in-Ran.is))
    (c.send.result.taken, c.send.ensures.within, c.send.ensures.sent)
