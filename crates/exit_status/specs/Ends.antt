-- How the program ends: its exit statuses, its lines on standard error, and the ends for faults.
use Rattle.std.specs.Prelude.{ℕ, ◌≤◌, Bool, true, false, List, [], ◌∷◌, ◌++◌, Option, Result, Ok, Err, codes, decimal}
use Rattle.std.specs.Prelude.{length, take}
use Rattle.std.specs.Io.KnownBytes.{Appends}
use Rattle.guest_elf.specs.Faults.{number_of}
use Rattle.guest_elf.specs.declared.fault.ElfFault.{ElfFault}
use Rattle.guest_elf.specs.declared.fault.ElfFault.TheVariants.{Memory}
use Rattle.exit_status.specs.declared.ends.End.{End}
use Rattle.exit_status.specs.declared.ends.End.TheVariants.{Done, CannotRead, CannotReadInput, CannotWrite, Usage}
use Rattle.exit_status.specs.declared.ends.End.TheVariants.{NotText}
use Rattle.exit_status.specs.declared.ends.End.TheVariants.{BadText, Lone, BytesRefused, WordsRefused, StepsRefused}
use Rattle.exit_status.specs.declared.ends.End.TheVariants.{Image}
use Rattle.exit_status.specs.declared.ends.End.TheVariants.{BadIsa, BadHeapRegion, BadStackRegion, RegionsOverlap}
use Rattle.exit_status.specs.declared.ends.End.TheVariants.{BadMostMoved, BadMostOutput, Suppressions}
use Rattle.exit_status.specs.declared.ends.End.TheVariants.{SuppressionsTooLong, InputTooLarge, NoMemory, NotClean}
use Rattle.exit_status.specs.declared.ends.SweepOption.{SweepOption}
use Rattle.exit_status.specs.declared.ends.SweepOption.TheVariants as Sweep
use Rattle.exit_status.specs.declared.ends.LoneOption.{LoneOption}
use Rattle.exit_status.specs.declared.ends.LoneOption.TheVariants as Alone
use Rattle.commands.specs.declared.fault.BeginFault.{BeginFault}
use Rattle.commands.specs.declared.fault.BeginFault.TheVariants as Begin
use Rattle.line_protocol.specs.declared.fault.ServeFault.{ServeFault}
use Rattle.line_protocol.specs.declared.fault.ServeFault.TheVariants as Serve
use Rattle.suppressions.specs.declared.fault.SuppFault.TheVariants as Supp

-- 0: done, 1: a file or standard input cannot be read, or the output written, 2: the command line, 3: the program, the
-- suppressions or the input is rejected, 4: out of memory, 5: the run isn't clean, or goes on
abbrev pub status_of : End → ℕ
status_of Done = 0
status_of (CannotRead path) = 1
status_of CannotReadInput = 1
status_of CannotWrite = 1
status_of Usage = 2
status_of NotText = 2
status_of (BadIsa name) = 2
status_of (BadHeapRegion text) = 2
status_of (BadStackRegion text) = 2
status_of (RegionsOverlap heap stack) = 2
status_of (BadMostMoved text) = 2
status_of (BadMostOutput text) = 2
status_of (BadText option text) = 2
status_of (Lone option) = 2
status_of BytesRefused = 3
status_of WordsRefused = 3
status_of StepsRefused = 3
status_of (Image Memory) = 4
status_of (Image fault) = 3
status_of (Suppressions Supp.Memory) = 4
status_of (Suppressions (Supp.BadSuppression line)) = 3
status_of SuppressionsTooLong = 3
status_of InputTooLarge = 3
status_of NoMemory = 4
status_of NotClean = 5

-- a word, what follows it, and a newline
abbrev pub line_with : List ℕ → List ℕ → List ℕ
line_with word rest = word ++ rest ++ 10 ∷ []

abbrev pub no_memory_line : List ℕ
no_memory_line = line_with (codes "replaycheck: out of memory") []

-- a refusal of the program, by its number
abbrev pub image_line : ElfFault → List ℕ
image_line Memory = no_memory_line
image_line fault = line_with (codes "replaycheck: image refused ") (decimal (number_of fault))

-- what the line says of an option of a sweep, before the text that it was given
abbrev pub complaint : SweepOption → List ℕ
complaint Sweep.Bytes = codes "replaycheck: no range, list or part: --bytes "
complaint Sweep.Values = codes "replaycheck: no range, list or part: --values "
complaint Sweep.Words = codes "replaycheck: no range, list or part: --words "
complaint Sweep.WordsValues = codes "replaycheck: no range, list or part: --words-values "
complaint Sweep.At = codes "replaycheck: no range, list or part: --at "
complaint Sweep.Faults = codes "replaycheck: no range, list or part: --faults "
complaint Sweep.CodeRange = codes "replaycheck: no range, list or part: --code-range "
complaint Sweep.Pairs = codes "replaycheck: no range, list or part: --pairs "
complaint Sweep.Part = codes "replaycheck: no range, list or part: --part "
complaint Sweep.Any = codes "replaycheck: not A..B, positions of the input: --any "
complaint Sweep.AnyMemory = codes "replaycheck: not A..B, addresses, A below B: --any-memory "
complaint Sweep.Reveal = codes "replaycheck: not STEP,ADDR,LEN: --reveal "

-- and of one that needs another
abbrev pub lone_text : LoneOption → List ℕ
lone_text Alone.At = codes "replaycheck: --at needs --faults"
lone_text Alone.Faults = codes "replaycheck: --faults needs --at"
lone_text Alone.CodeRange = codes "replaycheck: --code-range needs --at"
lone_text Alone.Pairs = codes "replaycheck: --pairs needs --at"
lone_text Alone.Reveal = codes "replaycheck: --reveal needs --any or --any-memory"
lone_text Alone.Sides = codes "replaycheck: --sides needs edits of bytes only, without --words and --at"

-- the line on regions that overlap, with the texts of both
abbrev pub overlap_line : List ℕ → List ℕ → List ℕ
overlap_line heap stack =
    codes "replaycheck: heap region and stack region overlap: --heap-region " ++ heap
    ++ line_with (codes " --stack-region ") stack

-- the line on standard error: none if all is done, none for the command line, whose parser has written it, and none if
-- the run isn't clean or goes on, as standard output says why
abbrev pub line_of : End → List ℕ
line_of Done = []
line_of (CannotRead path) = line_with (codes "replaycheck: cannot read ") path.now
line_of CannotReadInput = line_with (codes "replaycheck: cannot read standard input") []
line_of CannotWrite = line_with (codes "replaycheck: cannot write") []
line_of Usage = []
line_of NotText = line_with (codes "error: invalid UTF-8 was detected in one or more arguments") []
line_of (BadIsa name) = line_with (codes "replaycheck: not one of rv32im, rv32imc, rv32imac: --isa ") name.now
line_of (BadHeapRegion text) =
    line_with (codes "replaycheck: not a multiple of 0x10000000 from 0x10000000 to 0xd0000000: --heap-region ") text.now
line_of (BadStackRegion text) =
    line_with (codes "replaycheck: not A..B, multiples of 4096 at least 65536 apart: --stack-region ") text.now
line_of (RegionsOverlap heap stack) = overlap_line heap.now stack.now
line_of (BadMostMoved text) =
    line_with (codes "replaycheck: not a number from 1 to 2147479552: --most-moved ") text.now
line_of (BadMostOutput text) =
    line_with (codes "replaycheck: not a number up to 4294967295, and not none: --most-output ") text.now
line_of (BadText option text) = line_with (complaint option) text.now
line_of (Lone option) = line_with (lone_text option) []
line_of BytesRefused = line_with (codes "replaycheck: bytes refused 3") []
line_of WordsRefused = line_with (codes "replaycheck: words refused 4") []
line_of StepsRefused = line_with (codes "replaycheck: steps refused 5") []
line_of (Image fault) = image_line fault
line_of (Suppressions Supp.Memory) = no_memory_line
line_of (Suppressions (Supp.BadSuppression line)) =
    line_with (codes "replaycheck: suppressions refused 13 at line ") (decimal line)
line_of SuppressionsTooLong = line_with (codes "replaycheck: suppressions refused 15") []
line_of InputTooLarge = line_with (codes "replaycheck: input refused 14") []
line_of NoMemory = no_memory_line
line_of NotClean = []

-- is it an end whose line has two texts that were given?
abbrev pub names_two : End → Bool
names_two (RegionsOverlap heap stack) = true
names_two _ = false

-- a line was written, or a front of it
abbrev pub AppendsFront : Option (List ℕ) → Option (List ℕ) → List ℕ → Type 0
AppendsFront old new line = (sent : ℕ) × (sent ≤ length line) × Appends old new (take sent line)

-- the end for a fault of a session's beginning, and of its service
abbrev pub end_of_begin : BeginFault → End
end_of_begin Begin.Memory = NoMemory
end_of_begin Begin.InputTooLarge = InputTooLarge

abbrev pub end_of_serve : ServeFault → End
end_of_serve (Serve.ReadFailed replies bytes) = CannotReadInput
end_of_serve (Serve.WriteFailed replies bytes) = CannotWrite
end_of_serve (Serve.NoMemory replies bytes) = NoMemory
end_of_serve (Serve.Endless replies bytes) = CannotReadInput

-- the end for a result: done, or the end that it has instead of a value
abbrev pub end_of : {T : Type 0} → Result T End → End
end_of (Ok value) = Done
end_of (Err end) = end
