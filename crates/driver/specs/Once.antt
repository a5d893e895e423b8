-- One run of a program from step zero, and its report.
use Rattle.std.specs.Prelude.{ℕ, ◌≤◌, List, [], Option, length, take}
use Rattle.std.specs.Io.KnownBytes.{Appends}
use Rattle.guest_elf.specs.declared.image.Image.{Image}
use Rattle.scenario.specs.Scenario.{begun, at_step, IsReportOf}
use Rattle.exit_status.specs.declared.ends.End.{End as AnEnd}
use Rattle.exit_status.specs.declared.ends.End.TheVariants as End
use Rattle.driver.specs.declared.reporting.RunFault.{RunFault}
use Rattle.driver.specs.declared.reporting.RunFault.TheVariants.{InputTooLarge, NoMemory, WriteFailed}
use Rattle.suppressions.specs.Rules.{Rule}

-- a text is the report at a step of a program with an input and suppressions, no marks and default options
unfoldable pub IsReportOnce : Image → List ℕ → List Rule → ℕ → List ℕ → Type 0
IsReportOnce image input rules step text = IsReportOf (at_step (begun image input rules) step) text

-- a report, and nothing else, was written
abbrev pub WritesReport : (List ℕ → Type 0) → Option (List ℕ) → Option (List ℕ) → Type 0
WritesReport is_report old new = (text : List ℕ) × is_report text × Appends old new text

-- a rejected input and a failed allocation wrote nothing; a failed write stopped after this number of bytes of a report
abbrev pub StopsBy : RunFault → (List ℕ → Type 0) → Option (List ℕ) → Option (List ℕ) → Type 0
StopsBy InputTooLarge is_report old new = Appends old new []
StopsBy NoMemory is_report old new = Appends old new []
StopsBy (WriteFailed sent) is_report old new =
    (text : List ℕ) × is_report text × (sent ≤ length text) × Appends old new (take sent text)

-- the end for a fault of a report
abbrev pub end_of_run : RunFault → AnEnd
end_of_run InputTooLarge = End.InputTooLarge
end_of_run NoMemory = End.NoMemory
end_of_run (WriteFailed sent) = End.CannotWrite
