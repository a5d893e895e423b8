use Rattle.std.proofs.Common.{arith}
use Rattle.clean_reports.proofs.Programs.{programs-are-bytes}
use Rattle.clean_reports.proofs.laws.programs_are_bytes.Goals as goal

pub returns : goal.returns
returns c = programs-are-bytes c.args.file.now (λ k. omega (arith, c.type_inv.file k))
