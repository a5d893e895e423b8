use Rattle.std.proofs.Common.{List, ℕ, [], ◌++◌, codes, subst}
use Rattle.std.specs.Io.KnownBytes.{Appends}
use Rattle.exit_status.specs.Ends.{AppendsFront, line_with}
use Rattle.exit_status.proofs.ended.write_needed.Goals as goal

pub returns-clause-line : goal.returns-clause-line
returns-clause-line g c =
    subst (λ (step : List ℕ). AppendsFront (g.W.Write.contents c.args.writer.now)
    (g.W.Write.contents c.send_named.new.writer)
    (codes " MiB of memory are needed at step " ++ step ++ line_with (codes " (--memory-limit)") []))
    c.format-step.ensures.text c.send_named.ensures.front

pub returns-clause-whole : goal.returns-clause-whole
returns-clause-whole g c whole =
    subst (λ (step : List ℕ). Appends (g.W.Write.contents c.args.writer.now)
    (g.W.Write.contents c.send_named.new.writer)
    (codes " MiB of memory are needed at step " ++ step ++ line_with (codes " (--memory-limit)") []))
    c.format-step.ensures.text (c.send_named.ensures.whole whole)
