use Rattle.std.proofs.Common.{◌≤◌, length, rules}
use Rattle.program_files.proofs.Fronts.{given, long}
use Rattle.program_files.specs.Files.{longest_text}
use Rattle.program_files.proofs.reading.read_text.Goals as goal

pub returns-then-len-gt-TEXT_LIMIT-clause-err : goal.returns-then-len-gt-TEXT_LIMIT-clause-err
returns-then-len-gt-TEXT_LIMIT-clause-err g c =
    let front = c.in_ok-text.ensures.ok in
    (front.0, front.1, long longest_text front.0 c.in_ok-text.text.items front.2 (search rules))

pub returns-clause-ok : goal.returns-clause-ok
returns-clause-ok g c =
    let fits : length c.in_ok-text.text.items ≤ longest_text = search rules in
    (given (g.F.Files.gives c.args.files.now) _ longest_text _ c.in_ok-text.ensures.ok fits, fits)
