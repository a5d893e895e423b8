use Rattle.std.proofs.Common.{rules, ap, option_map}
use Rattle.program_files.proofs.Fronts.{has-input, large-input}
use Rattle.program_files.proofs.reading.read_input.Goals as goal

pub returns-then-len-gt-LONGEST_INPUT-clause-err : goal.returns-then-len-gt-LONGEST_INPUT-clause-err
returns-then-len-gt-LONGEST_INPUT-clause-err g c =
    large-input (g.F.Files.gives c.args.files.now) _ _ _ (ap (option_map (λ path. path.now)) c.in-Some.is)
    c.in_ok-input.ensures.ok (search rules)

pub returns-clause-ok : goal.returns-clause-ok
returns-clause-ok g c =
    has-input (g.F.Files.gives c.args.files.now) _ _ _ (ap (option_map (λ path. path.now)) c.in-Some.is)
    c.in_ok-input.ensures.ok (search rules)
