-- The outcome of a command for a sweep: its step, its arguments and its files are read in stages, each judged before
-- the next, and nothing is written before the last.
use Rattle.std.specs.Prelude.{◌≡◌, ℕ, ◌<◌, ◌≤◌, ◌⊎◌, Bool, true, false, List, [], Option, Some, None, codes}
use Rattle.std.specs.Prelude.{IfSome, length}
use Rattle.std.specs.Str.{bytes_eq}
use Rattle.std.specs.Io.KnownBytes.{Appends}
use Rattle.command_line.specs.Orders.{input_path, rules_path}
use Rattle.command_line.specs.declared.order.Order.{Order}
use Rattle.command_line.specs.declared.order.SweepArgs.{SweepArgs}
use Rattle.command_line.specs.declared.order.Task.{Task}
use Rattle.command_line.specs.declared.order.Task.TheVariants.{Do, Sweep, Exec}
use Rattle.guest_elf.specs.File.{IsImageFor}
use Rattle.guest_elf.specs.declared.image.Image.{Image as ProgramImage}
use Rattle.guest_elf.specs.declared.profile.Profile.{Profile}
use Rattle.scenario.specs.Limits.{furthest_step, longest_input}
use Rattle.suppressions.specs.Texts.{faults, rules, IsLeast}
use Rattle.suppressions.specs.declared.fault.SuppFault.TheVariants as Supp
use Rattle.driver.specs.Carried.{Carried}
use Rattle.program_files.specs.Files.{Giving, HasSweepInput, HasText, IsFront, NoImage, NoRulesIn, NoSweepInput, NoText}
use Rattle.program_files.specs.Files.{Streams, Untouched, most_judged}
use Rattle.program_files.specs.Profiles.{IsProfileNamed}
use Rattle.sweep_plans.specs.Planned.{IsNoRequest, IsRequestOf}
use Rattle.sweep_tables.specs.Swept.{Sweeps}
use Rattle.exit_status.specs.declared.ends.End.{End}
use Rattle.exit_status.specs.declared.ends.End.TheVariants.{CannotReadInput, InputTooLarge, NoMemory}
use Rattle.exit_status.specs.declared.ends.End.TheVariants.{Suppressions, SuppressionsTooLong, Usage}
use Rattle.sweep_plans.specs.declared.request.Request.{Request}

-- with a program and the text of its suppressions, which has no fault: the input is read, and the sweep executed, or
-- the input ends the program
abbrev pub SweepsRules : Giving → Order → SweepArgs → Request → List ℕ → ProgramImage → List ℕ → Streams
    → Option (List ℕ) → End → Type 0
SweepsRules gives order words request file image text old held end =
    (NoSweepInput gives (input_path order) old.left end × Appends old.held held [])
    ⊎ ((input : List ℕ) × HasSweepInput gives (input_path order) old.left input
    × Sweeps file text image input (rules text) words request old.held held end)

-- with the text: its suppressions are read, and then the input, or they end the program
abbrev pub SweepsText : Giving → Order → SweepArgs → Request → List ℕ → ProgramImage → List ℕ → Streams
    → Option (List ℕ) → End → Type 0
SweepsText gives order words request file image text old held end =
    (NoRulesIn text end × Appends old.held held [])
    ⊎ ((faults text ≡ []) × SweepsRules gives order words request file image text old held end)

-- with the program: the text of its suppressions is read and judged, and then the input, or the text's file ends the
-- program
abbrev pub SweepsImage : Giving → Order → SweepArgs → Request → List ℕ → ProgramImage → Streams → Option (List ℕ) → End
    → Type 0
SweepsImage gives order words request file image old held end =
    (NoText gives (rules_path order) end × Appends old.held held [])
    ⊎ ((text : List ℕ) × HasText gives (rules_path order) text
    × SweepsText gives order words request file image text old held end)

-- with the request: the program is read for the instruction set that the order names and judged, and then the
-- suppressions and the input, or that name or the program's file ends the program
abbrev pub SweepsRequest : Giving → Order → SweepArgs → Request → Streams → Option (List ℕ) → End → Type 0
SweepsRequest gives order words request old held end =
    (NoImage gives order.profile order.file.now end × Appends old.held held [])
    ⊎ ((profile : Profile) × (file : List ℕ) × (image : ProgramImage) × IsProfileNamed order.profile profile
    × IsFront gives order.file.now most_judged file × IsImageFor profile file image
    × SweepsImage gives order words request file image old held end)

-- with a step that may be asked for: the arguments are read, and then the files, or the arguments make no request
abbrev pub SweepsNear : Giving → Order → SweepArgs → Streams → Option (List ℕ) → End → Type 0
SweepsNear gives order words old held end =
    (IsNoRequest words end × Appends old.held held [])
    ⊎ ((request : Request) × IsRequestOf words request × SweepsRequest gives order words request old held end)

-- a command for a sweep was carried out: its step is judged, and then its arguments and its files, or the step is too
-- great
abbrev pub CarriedSweep : Giving → Order → SweepArgs → Streams → Option (List ℕ) → End → Type 0
CarriedSweep gives order words old held end =
    ((end ≡ Usage) × (furthest_step < words.step) × Appends old.held held [])
    ⊎ ((words.step ≤ furthest_step) × SweepsNear gives order words old held end)

-- an order was carried out; one for `exec` isn't one of these commands, and nothing is done
abbrev pub CarriedOut : Giving → Order → Task → Streams → Streams → End → Type 0
CarriedOut gives order (Do action) old new end = Carried gives order action old new end
CarriedOut gives order (Sweep words) old new end = CarriedSweep gives order words old new.held end
CarriedOut gives order (Exec asked) old new end = (end ≡ Usage) × Untouched old new
