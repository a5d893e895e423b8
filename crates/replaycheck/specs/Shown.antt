-- How the program ends where there is no order to follow, and where a report goes.
use Rattle.std.specs.Prelude.{ℕ, Bool, true, false, List, [], ◌∷◌, Option, Some, None, codes, string_bytes}
use Rattle.std.specs.Str.{bytes_eq}
use Rattle.clap.specs.declared.error.kind.ErrorKind.{ErrorKind}
use Rattle.clap.specs.declared.error.kind.ErrorKind.TheVariants.{DisplayHelp, DisplayVersion, OutOfMemory}
use Rattle.exit_status.specs.declared.ends.End.{End}
use Rattle.exit_status.specs.declared.ends.End.TheVariants.{Done, CannotWrite, Usage, NoMemory}
use Rattle.replaycheck.specs.declared.Opened.{Opened}
use Rattle.replaycheck.specs.declared.Opened.TheVariants.{Nothing, StandardError, Named}

-- by the kind of the parser's result, and whether its text was printed: help and the version are done, or can't be
-- written; everything else, except that memory runs out, is a fault of the command line
abbrev pub end_of_showing : ErrorKind → Bool → End
end_of_showing DisplayHelp true = Done
end_of_showing DisplayHelp false = CannotWrite
end_of_showing DisplayVersion true = Done
end_of_showing DisplayVersion false = CannotWrite
end_of_showing OutOfMemory printed = NoMemory
end_of_showing kind printed = Usage

-- does a command line, the program's name first, name `exec`?
abbrev pub names_exec : List (List ℕ) → Bool
names_exec [] = false
names_exec (program ∷ []) = false
names_exec (program ∷ command ∷ rest) = bytes_eq command (codes "exec")

-- the place of a report that is open
abbrev pub place_of : Opened → Option (Option (List ℕ))
place_of Nothing = None
place_of StandardError = Some None
place_of (Named file path) = Some (Some (string_bytes path))
