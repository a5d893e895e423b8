use Rattle.std.proofs.Common.{◌≤◌, length}
use Rattle.std.specs.IoError.{error_kind}
use Rattle.program_files.specs.Opened.{IsFaultOf}
use Rattle.program_files.proofs.StreamSteps.{read-over}
use Rattle.program_files.proofs.files.read_opened.Goals as goal

pub returns-clause-most : goal.returns-clause-most
returns-clause-most g c =
    read-over c.front_of.result c.read_or_fault.result (λ error fault. IsFaultOf (error_kind error) fault)
    (λ front. length front.items ≤ c.args.most) c.read_or_fault.ensures.ok c.read_or_fault.ensures.err
    c.front_of.ensures.most
