-- Why a file or standard input gives no bytes.
use Rattle.std.specs.Prelude.{◌≡◌, ◌↔◌}
use Rattle.std.specs.declared.io.ErrorKind.{ErrorKind}
use Rattle.std.specs.declared.io.ErrorKind.TheVariants.{OutOfMemory}
use Rattle.program_files.specs.declared.files.ReadFault.{ReadFault}
use Rattle.program_files.specs.declared.files.ReadFault.TheVariants.{NoMemory, Unreadable}
use Rattle.exit_status.specs.declared.ends.End.{End}

-- that memory ran out is distinguished: every other fault is a file that can't be read
abbrev pub IsFaultOf : ErrorKind → ReadFault → Type 0
IsFaultOf kind fault = (fault ≡ NoMemory) ↔ (kind ≡ OutOfMemory)

-- how the program ends if standard input gives no bytes
abbrev pub end_of_input : ReadFault → End
end_of_input NoMemory = End.NoMemory
end_of_input Unreadable = End.CannotReadInput
