-- The table of a sweep as it is written: its head, how much of it is written, and what is swept.
use Rattle.std.specs.Prelude.{◌≡◌, ℕ, ◌-◌, ◌≤◌, ◌⊎◌, ◌||◌, ◌==◌, Bool, true, false, not, if◌then◌else◌, nat_lt, List}
use Rattle.std.specs.Prelude.{[], ◌++◌, codes, length, map}
use Rattle.std.specs.Prelude.{Option, Some, None, unwrap_or}
use Rattle.std.specs.Fmt.{decimal}
use Rattle.std.specs.Io.KnownBytes.{Appends}
use Rattle.hex.specs.Hex.{encode_lower}
use Rattle.sha2.specs.Sha256.{sha256}
use Rattle.command_line.specs.Isas.{isa_name}
use Rattle.command_line.specs.Orders.{text_of}
use Rattle.command_line.specs.declared.order.SweepArgs.{SweepArgs}
use Rattle.guest_elf.specs.File.{is_moved}
use Rattle.guest_elf.specs.Images.{profile_of}
use Rattle.guest_elf.specs.Profiles.{usual_limits}
use Rattle.guest_elf.specs.declared.image.Image.{Image as ProgramImage}
use Rattle.guest_elf.specs.declared.profile.Isa.{Isa}
use Rattle.guest_elf.specs.declared.profile.Profile.{Profile}
use Rattle.guest_elf.specs.declared.profile.StreamLimits.{StreamLimits}
use Rattle.memory_map.specs.Regions.{heap_begin}
use Rattle.memory_map.specs.declared.regions.Regions.{Regions}
use Rattle.memory_map.specs.declared.regions.StackRegion.{StackRegion}
use Rattle.report_lines.specs.Text.{address_text, newline}
use Rattle.scenario.specs.Scenario.{Scenario, IsOutlineOf}
use Rattle.suppressions.specs.Rules.{Rule}
use Rattle.sweeps.specs.Covered.{FitsPlan, HasCovered, apart_in, table_of}
use Rattle.sweeps.specs.Covered.{range_of as table_range}
use Rattle.sweeps.specs.Outcomes.{Met, AreMet}
use Rattle.sweeps.specs.Standing.{changes_from}
use Rattle.sweeps.specs.Sweeps.{HasMet, scenario_of, tells_output, unedited_at}
use Rattle.sweeps.specs.Tables.{rows_text, table_text}
use Rattle.run_values.specs.declared.span.Span.{Span}
use Rattle.sweep_tables.specs.SidesLines.{TellsSides, range_for, sides_lines}
use Rattle.look_lines.specs.Texts.{digit_text}
use Rattle.std.specs.List.{flat_map}
use Rattle.sweep_plans.specs.declared.change.Change.{Change}
use Rattle.sweep_plans.specs.declared.plan.Places.{Places}
use Rattle.sweep_plans.specs.declared.plan.Plan.{Plan}
use Rattle.sweeps.specs.declared.sweep.Sweep.{Sweep}
use Rattle.exit_status.specs.declared.ends.End.{End}
use Rattle.exit_status.specs.Ends.{AppendsFront}
use Rattle.exit_status.specs.ExecEnds.{most_text}
use Rattle.exit_status.specs.declared.ends.End.TheVariants.{CannotWrite, Done, NoMemory}
use Rattle.sweep_plans.specs.declared.request.Part.{Part}
use Rattle.sweep_plans.specs.declared.request.Range.{Range}
use Rattle.sweep_plans.specs.declared.request.Request.{Request}
use Rattle.sweep_plans.specs.Planned.{HasNoPlan, IsPlanOf, part_from, part_to}

-- ---- the head

-- the line of a file: its length, and its SHA-256 (FIPS 180-4)
unfoldable pub file_line : List ℕ → List ℕ → List ℕ
file_line word bytes = word ++ decimal (length bytes) ++ codes " " ++ encode_lower (sha256 bytes) ++ newline

unfoldable pub file_lines : List ℕ → List ℕ → List ℕ → List ℕ
file_lines program input rules =
    file_line (codes "program ") program ++ file_line (codes "input ") input ++ file_line (codes "supp ") rules

-- the bytes that are edited, if there are any, and the values that they get
unfoldable pub bytes_line : Places → List ℕ → List ℕ
bytes_line bytes values =
    if nat_lt bytes.first bytes.end
    then codes "bytes " ++ decimal bytes.first ++ codes ".." ++ decimal (bytes.end - 1) ++ codes " " ++ values
    ++ newline
    else []

-- the addresses whose words are edited, if there are any, and the values that they get
unfoldable pub words_line : Option Range → List ℕ → List ℕ
words_line None values = []
words_line (Some range) values =
    codes "words " ++ address_text range.first ++ codes ".." ++ address_text (unwrap_or range.last 4294967295)
    ++ codes " " ++ values ++ newline

-- is it another instruction set than the usual one?
abbrev pub is_other : Isa → Bool
is_other isa = isa.compressed || isa.atomics || isa.controls

-- does the heap's region begin elsewhere than the usual one?
abbrev pub is_heap_moved : Regions → Bool
is_heap_moved regions = not (regions.heap == heap_begin)

-- do calls move another number of bytes than usual, or is there room for another number of bytes of output?
abbrev pub is_other_moved : StreamLimits → Bool
is_other_moved limits = not (limits.most_moved == usual_limits.most_moved)

abbrev pub is_other_room : StreamLimits → Bool
is_other_room limits = not (limits.most_output == usual_limits.most_output)

abbrev pub are_other : StreamLimits → Bool
are_other limits = is_other_moved limits || is_other_room limits

-- is it another profile than the usual one?
abbrev pub is_unusual : Profile → Bool
is_unusual profile =
    is_other profile.isa
    || (is_heap_moved profile.regions || (is_moved profile.regions.stack || are_other profile.limits))

-- the format of the table: the second one has lines that the first doesn't have, those of faults at steps, those of
-- another profile and those on what the runs have executed
abbrev pub version_line : Places → Profile → Bool → List ℕ
version_line steps profile with_sides =
    if nat_lt steps.first steps.end || (is_unusual profile || with_sides) then codes "sweep 2\n" else codes "sweep 1\n"

-- the instruction set, if it is another one
unfoldable pub isa_line : Isa → List ℕ
isa_line isa = if is_other isa then codes "isa " ++ isa_name isa ++ newline else []

-- the begin of the heap's region, if it is another one
unfoldable pub heap_word : List ℕ
heap_word = codes "heap-region "

unfoldable pub heap_text : ℕ → List ℕ
heap_text begin = heap_word ++ address_text begin ++ newline

unfoldable pub heap_line : Regions → List ℕ
heap_line regions = if is_heap_moved regions then heap_text regions.heap else []

-- the stack's region, if it is another one
unfoldable pub stack_word : List ℕ
stack_word = codes "stack-region "

unfoldable pub stack_text : StackRegion → List ℕ
stack_text stack = stack_word ++ address_text stack.begin ++ codes ".." ++ address_text stack.end ++ newline

unfoldable pub stack_line : StackRegion → List ℕ
stack_line stack = if is_moved stack then stack_text stack else []

-- how many bytes one call moves, if it is another number, and how many bytes of output there is room for
unfoldable pub moved_text : ℕ → List ℕ
moved_text n = codes "most-moved " ++ decimal n ++ newline

unfoldable pub moved_line : StreamLimits → List ℕ
moved_line limits = if is_other_moved limits then moved_text limits.most_moved else []

unfoldable pub room_text : ℕ → List ℕ
room_text n = codes "most-output " ++ most_text n ++ newline

unfoldable pub room_line : StreamLimits → List ℕ
room_line limits = if is_other_room limits then room_text limits.most_output else []

-- what is another one than the usual
unfoldable pub profile_lines : Profile → List ℕ
profile_lines profile =
    isa_line profile.isa ++ heap_line profile.regions ++ stack_line profile.regions.stack ++ moved_line profile.limits
    ++ room_line profile.limits

-- the steps at which faults strike, if there are any, the fault models as they were given, the code to which pc is
-- limited, and whether pairs are tried
abbrev pub fault_text : Option (List ℕ) → List ℕ
fault_text (Some text) = text
fault_text None = []

abbrev pub code_text : Option Range → List ℕ
code_text (Some range) =
    codes " code " ++ address_text range.first ++ codes ".." ++ address_text (unwrap_or range.last 4294967295)
code_text None = []

abbrev pub pairs_text : Bool → List ℕ
pairs_text pairs = if pairs then codes " pairs skip\n" else codes "\n"

unfoldable pub steps_line : Places → List ℕ → Option Range → Bool → List ℕ
steps_line steps faults code pairs =
    if nat_lt steps.first steps.end
    then codes "steps " ++ decimal steps.first ++ codes ".." ++ decimal (steps.end - 1) ++ codes " " ++ faults
    ++ code_text code ++ pairs_text pairs
    else []

-- that lines on what the runs have executed follow
abbrev pub sides_head : Bool → List ℕ
sides_head with_sides = if with_sides then codes "sides yes\n" else []

-- the step, whether outcomes have the output's length, and the part
abbrev pub output_line : Bool → List ℕ
output_line with_output = if with_output then codes "\noutput yes\npart " else codes "\noutput no\npart "

unfoldable pub step_lines : ℕ → Bool → Part → List ℕ
step_lines step with_output part =
    codes "step " ++ decimal step ++ output_line with_output ++ decimal part.index ++ codes "/" ++ decimal part.count
    ++ newline

-- the head of a table
unfoldable pub head_text : List ℕ → List ℕ → List ℕ → Profile → SweepArgs → Plan → Option Range → Part → List ℕ
head_text program input rules profile words plan named part =
    version_line plan.steps profile words.with_sides ++ profile_lines profile ++ file_lines program input rules
    ++ bytes_line plan.bytes words.byte_values.now ++ words_line named words.word_values.now
    ++ steps_line plan.steps (fault_text (text_of words.faults)) plan.code plan.pairs
    ++ sides_head words.with_sides ++ step_lines words.step words.with_output part

-- ---- how far it came

-- these are the edits of a number of places from one on, each with its own outcome, and the outcome of the unedited run
pub record AreOf (with_output : Bool) (sc : Scenario) (plan : Plan) (from n : ℕ) (first : List ℕ)
    (met : List Met) : Type 0 where
  pub unedited : IsOutlineOf with_output sc first
  pub changes : map (λ (m : Met). m.change) met ≡ changes_from sc plan from n
  pub right : AreMet with_output sc met

-- what is swept: the head of the table, whether outcomes have the number of bytes written, the scenario, the places,
-- and of which addresses lines say what was executed
pub record Case : Type 0 where
  pub head : List ℕ
  pub with_output : Bool
  pub sc : Scenario
  pub plan : Plan
  pub from : ℕ
  pub range : Span

-- the rows of this number of places were written, and nothing else
abbrev pub WritesRows : Case → ℕ → Option (List ℕ) → Option (List ℕ) → Type 0
WritesRows case n old new =
    (first : List ℕ) × (met : List Met) × AreOf case.with_output case.sc case.plan case.from n first met
    × Appends old new (case.head ++ rows_text first met)

-- lines say what the unedited run and those with the changes of this number of places have executed
abbrev pub TellsSidesOf : Case → ℕ → List ℕ → Type 0
TellsSidesOf case n lines = TellsSides case.sc (changes_from case.sc case.plan case.from n) case.range lines

-- the whole table of this number of places
abbrev pub WritesTable : Case → ℕ → Option (List ℕ) → Option (List ℕ) → Type 0
WritesTable case n old new =
    (first : List ℕ) × (met : List Met) × AreOf case.with_output case.sc case.plan case.from n first met
    × (lines : List ℕ) × TellsSidesOf case n lines × Appends old new (case.head ++ table_text first met lines)

-- a front of the rows of this number of places, or of the whole table of all
abbrev pub WritesFront : Case → ℕ → ℕ → Option (List ℕ) → Option (List ℕ) → Type 0
WritesFront case n all old new =
    (first : List ℕ) × (met : List Met) × AreOf case.with_output case.sc case.plan case.from n first met
    × (AppendsFront old new (case.head ++ rows_text first met)
    ⊎ ((n ≡ all) × (lines : List ℕ) × TellsSidesOf case n lines
    × AppendsFront old new (case.head ++ table_text first met lines)))

-- a sweep of this number of places: its whole table was written; or a front of it, after which a write failed; or
-- nothing, or the rows of whole places, if memory ran out
abbrev pub Writes : Case → ℕ → Option (List ℕ) → Option (List ℕ) → End → Type 0
Writes case all old new Done = WritesTable case all old new
Writes case all old new CannotWrite = (n : ℕ) × (n ≤ all) × WritesFront case n all old new
Writes case all old new NoMemory = Appends old new [] ⊎ ((n : ℕ) × (n ≤ all) × WritesRows case n old new)
Writes case all old new end = ⊥

-- a sweep has a table of what it has executed in its unedited run and with these changes
pub record HasTable (case : Case) (changes : List Change) (sweep : Sweep) : Type 0 where
  pub range : table_range sweep ≡ case.range
  pub fits : FitsPlan case.plan case.range
  pub covered : HasCovered sweep changes

-- the lines of its table
abbrev pub sides_told : Sweep → List ℕ
sides_told sweep =
    sides_lines (table_range sweep).start (apart_in (scenario_of sweep)) (flat_map digit_text (table_of sweep))

-- a sweep has met the edits of this number of places, and their rows were written
abbrev pub Reached : Case → ℕ → Option (List ℕ) → Option (List ℕ) → Sweep → Type 0
Reached case n old now sweep =
    (scenario_of sweep ≡ case.sc) × (tells_output sweep ≡ case.with_output)
    × HasTable case (changes_from case.sc case.plan case.from n) sweep × (first : List ℕ) × (met : List Met)
    × HasMet sweep first met
    × (map (λ (m : Met). m.change) met ≡ changes_from case.sc case.plan case.from n)
    × Appends old now (case.head ++ rows_text first met)

-- ---- what is swept

-- the sweep of a program with an input and suppressions, of which these bytes were read, by a plan: with words, if some
-- are named, and a part of the places; the instruction set is the program's
abbrev pub case_with : List ℕ → List ℕ → ProgramImage → List ℕ → List Rule → SweepArgs → Option Range → Part → Plan
    → Case
case_with file text image input list words named part plan = record {
  head = head_text file input text (profile_of image) words plan named part;
  with_output = words.with_output;
  sc = unedited_at image input list words.step;
  plan = plan;
  from = part_from plan part;
  range = range_for words.with_sides plan image;
}

-- and by the plan of a request
abbrev pub case_of : List ℕ → List ℕ → ProgramImage → List ℕ → List Rule → SweepArgs → Request → Plan → Case
case_of file text image input list words request plan =
    case_with file text image input list words request.words request.part plan

-- the places are rejected, the bytes before the words before the steps, and nothing is written; or the table of the
-- places of the part is written
abbrev pub Sweeps : List ℕ → List ℕ → ProgramImage → List ℕ → List Rule → SweepArgs → Request → Option (List ℕ)
    → Option (List ℕ) → End → Type 0
Sweeps file text image input list words request old new end =
    (HasNoPlan request image (length input) words.step end × Appends old new [])
    ⊎ ((plan : Plan) × IsPlanOf request image (length input) words.step plan
    × Writes (case_of file text image input list words request plan)
    (part_to plan request.part - part_from plan request.part) old new end)
