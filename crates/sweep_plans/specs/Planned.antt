-- The places of a request, in a program with an input.
use Rattle.std.specs.Prelude.{◌≡◌, ℕ, ◌+◌, ◌-◌, ◌*◌, ◌/◌, ◌≤◌, ◌⊎◌, ◌&&◌, ◌||◌, nat_lt, nat_le, Bool, true, false}
use Rattle.std.specs.Prelude.{if◌then◌else◌, List, [], ◌∷◌, Option, Some, None, is_some}
use Rattle.guest_elf.specs.declared.image.Image.{Image}
use Rattle.guest_elf.specs.Images.{profile_of}
use Rattle.guest_elf.specs.Profiles.{has_halves}
use Rattle.command_line.specs.declared.order.SweepArgs.{SweepArgs}
use Rattle.command_line.specs.Orders.{text_of}
use Rattle.sweep_plans.specs.Plans.{any_word, count, instructions, place_count}
use Rattle.sweep_plans.specs.declared.plan.ByteValues.{ByteValues}
use Rattle.sweep_plans.specs.declared.plan.SweepPlace.{SweepPlace}
use Rattle.sweep_plans.specs.declared.plan.Places.{Places}
use Rattle.sweep_plans.specs.declared.plan.WordValues.{WordValues}
use Rattle.sweep_plans.specs.declared.plan.Plan.{Plan}
use Rattle.sweep_plans.specs.Requests.{NamesByteValues, NamesNoByteValues, NamesNoWordValues, NamesWordValues}
use Rattle.sweep_plans.specs.Requests.{IsBadRange, NamesRange, NamesText}
use Rattle.sweep_plans.specs.Requests.{closed_range_of, part_of, range_of}
use Rattle.sweep_plans.specs.Models.{no_models}
use Rattle.sweep_plans.specs.Steps.{AreNoSteps, AreSteps}
use Rattle.sweep_plans.specs.declared.plan.FaultModels.{FaultModels}
use Rattle.sweep_plans.specs.declared.steps.StepRequest.{StepRequest}
use Rattle.exit_status.specs.declared.ends.End.{End}
use Rattle.exit_status.specs.declared.ends.End.TheVariants.{BytesRefused, Lone, NoMemory, StepsRefused, WordsRefused}
use Rattle.exit_status.specs.declared.ends.LoneOption.TheVariants as Alone
use Rattle.exit_status.specs.declared.ends.SweepOption.TheVariants.{Bytes, Values, Words, WordsValues, Part as ThePart}
use Rattle.sweep_plans.specs.declared.request.Part.{Part}
use Rattle.sweep_plans.specs.declared.request.Range.{Range}
use Rattle.sweep_plans.specs.declared.request.Request.{Request}

-- the edits that the arguments of a sweep ask for
pub record AreEditsOf (asked : SweepArgs) (request : Request) : Type 0 where
  pub bytes : NamesRange range_of (text_of asked.bytes) request.bytes
  pub byte_values : NamesByteValues asked.byte_values.now request.byte_values
  pub words : NamesRange closed_range_of (text_of asked.words) request.words
  pub word_values : NamesWordValues asked.word_values.now request.word_values
  pub steps : AreSteps (text_of asked.at) (text_of asked.faults) (text_of asked.code) (text_of asked.pairs)
      request.steps
  pub part : part_of asked.part.now ≡ Some request.part

-- are there edits of words, or at steps?
abbrev pub has_others : Request → Bool
has_others request = is_some request.words || is_some request.steps

-- the request in these arguments: `--sides` goes with edits of bytes only
abbrev pub IsRequestOf : SweepArgs → Request → Type 0
IsRequestOf asked request = AreEditsOf asked request × ((asked.with_sides && has_others request) ≡ false)

-- a text that names no values or no part is how the sweep ends; or, if a list may be read, lack of memory
abbrev pub AreBadByteValues : List ℕ → End → Type 0
AreBadByteValues text end = (end ≡ NoMemory) ⊎ (NamesNoByteValues text × NamesText Values text end)

abbrev pub AreBadWordValues : List ℕ → End → Type 0
AreBadWordValues text end = (end ≡ NoMemory) ⊎ (NamesNoWordValues text × NamesText WordsValues text end)

abbrev pub IsBadPart : List ℕ → End → Type 0
IsBadPart text end = (part_of text ≡ None) × NamesText ThePart text end

-- why the arguments of a sweep ask for no edits. Its options are read in this order: `--bytes`, `--values`, `--words`,
-- `--words-values`, those on steps, and `--part`; the first whose text can't be read is how the sweep ends
abbrev pub NoSteps : SweepArgs → End → Type 0
NoSteps asked end =
    AreNoSteps (text_of asked.at) (text_of asked.faults) (text_of asked.code) (text_of asked.pairs) end
    ⊎ ((steps : Option StepRequest)
    × AreSteps (text_of asked.at) (text_of asked.faults) (text_of asked.code) (text_of asked.pairs) steps
    × IsBadPart asked.part.now end)

abbrev pub NoWordValues : SweepArgs → End → Type 0
NoWordValues asked end =
    AreBadWordValues asked.word_values.now end
    ⊎ ((values : WordValues) × NamesWordValues asked.word_values.now values × NoSteps asked end)

abbrev pub NoWords : SweepArgs → End → Type 0
NoWords asked end =
    IsBadRange Words closed_range_of (text_of asked.words) end
    ⊎ ((words : Option Range) × NamesRange closed_range_of (text_of asked.words) words × NoWordValues asked end)

abbrev pub NoByteValues : SweepArgs → End → Type 0
NoByteValues asked end =
    AreBadByteValues asked.byte_values.now end
    ⊎ ((values : ByteValues) × NamesByteValues asked.byte_values.now values × NoWords asked end)

abbrev pub AreNoEdits : SweepArgs → End → Type 0
AreNoEdits asked end =
    IsBadRange Bytes range_of (text_of asked.bytes) end
    ⊎ ((bytes : Option Range) × NamesRange range_of (text_of asked.bytes) bytes × NoByteValues asked end)

-- why they make no request: they ask for no edits, or `--sides` is there with edits of words or at steps
abbrev pub IsNoRequest : SweepArgs → End → Type 0
IsNoRequest asked end =
    AreNoEdits asked end
    ⊎ ((request : Request) × AreEditsOf asked request × ((asked.with_sides && has_others request) ≡ true)
    × (end ≡ Lone Alone.Sides))

abbrev pub nowhere : Places
nowhere = record { first = 0; end = 0 }

-- the end after a last place, or after all places
abbrev pub end_behind : Option ℕ → ℕ → ℕ
end_behind (Some last) all = last + 1
end_behind None all = all

-- places in an input of this length, if there are any and they are in it
abbrev pub inside : ℕ → ℕ → ℕ → Option Places
inside first end len = if nat_lt first end && nat_le end len then Some (record { first = first; end = end }) else None

-- the bytes to edit in an input of this length: those that are named, or all if neither words nor steps are
abbrev pub bytes_by : Option Range → Bool → ℕ → Option Places
bytes_by (Some range) others len = inside range.first (end_behind range.last len) len
bytes_by None true len = Some nowhere
bytes_by None false len = inside 0 len len

unfoldable pub bytes_meant : Request → ℕ → Option Places
bytes_meant request len = bytes_by request.bytes (has_others request) len

-- the words to edit of a program all of whose instructions are words, by a quarter of their addresses: those at the
-- multiples of 4 from one address to another, if one of them is loaded whole
abbrev pub loaded_places : Image → Places → Option Places
loaded_places image words = if any_word image words.first (count words) then Some words else None

abbrev pub words_by : Image → Option Range → Option Places
words_by image (Some range) =
    if has_halves (profile_of image).isa then Some nowhere
    else loaded_places image (record {
      first = (range.first + 3) / 4;
      end = (end_behind range.last 4294967296 + 3) / 4;
    })
words_by image None = Some nowhere

-- the instructions to edit of a program that has some of 16 bits, if there is one: those that begin at one address,
-- rounded up to a multiple of 2, or after it, up to another
abbrev pub halves_in : Range → Places
halves_in range = record { first = (range.first + 1) / 2; end = (end_behind range.last 4294967296 + 1) / 2 }

abbrev pub instructions_in : Image → Range → List SweepPlace
instructions_in image range = instructions image false (2 * (halves_in range).first) (count (halves_in range))

abbrev pub if_any : List SweepPlace → Option (List SweepPlace)
if_any [] = None
if_any (place ∷ places) = Some (place ∷ places)

abbrev pub instructions_by : Image → Option Range → Option (List SweepPlace)
instructions_by image (Some range) =
    if has_halves (profile_of image).isa then if_any (instructions_in image range) else Some []
instructions_by image None = Some []

-- the steps of a request, those below the step of the outcomes, and what is tried at them
abbrev pub steps_by : Option StepRequest → ℕ → Option Places
steps_by (Some steps) step = inside steps.at.first (end_behind steps.at.last step) step
steps_by None step = Some nowhere

abbrev pub models_by : Option StepRequest → FaultModels
models_by (Some steps) = steps.models
models_by None = no_models

abbrev pub code_by : Option StepRequest → Option Range
code_by (Some steps) = steps.code
code_by None = None

abbrev pub pairs_by : Option StepRequest → Bool
pairs_by (Some steps) = steps.pairs
pairs_by None = false

-- why a request has no plan: its bytes are checked first, then its words or its instructions, of which a list is made
-- for which memory may run out, then its steps
abbrev pub NoInstructions : Option Range → Image → End → Type 0
NoInstructions named image end =
    ((end ≡ WordsRefused) × (instructions_by image named ≡ None))
    ⊎ ((end ≡ NoMemory) × (has_halves (profile_of image).isa ≡ true))

abbrev pub NoPlanInstructions : Request → Image → ℕ → End → Type 0
NoPlanInstructions request image step end =
    NoInstructions request.words image end
    ⊎ ((list : List SweepPlace) × (instructions_by image request.words ≡ Some list) × (end ≡ StepsRefused)
    × (steps_by request.steps step ≡ None))

abbrev pub NoPlanWords : Request → Image → ℕ → End → Type 0
NoPlanWords request image step end =
    ((end ≡ WordsRefused) × (words_by image request.words ≡ None))
    ⊎ ((words : Places) × (words_by image request.words ≡ Some words) × NoPlanInstructions request image step end)

abbrev pub HasNoPlan : Request → Image → ℕ → ℕ → End → Type 0
HasNoPlan request image len step end =
    ((end ≡ BytesRefused) × (bytes_meant request len ≡ None))
    ⊎ ((bytes : Places) × (bytes_meant request len ≡ Some bytes) × NoPlanWords request image step end)

-- the plan of a request for a program, an input of this length, and outcomes at this step
pub record IsPlanOf (request : Request) (image : Image) (len step : ℕ) (plan : Plan) : Type 0 where
  pub bytes : bytes_meant request len ≡ Some plan.bytes
  pub byte_values : plan.byte_values ≡ request.byte_values
  pub words : words_by image request.words ≡ Some plan.words
  pub instructions : instructions_by image request.words ≡ Some plan.instructions.items
  pub word_values : plan.word_values ≡ request.word_values
  pub steps : steps_by request.steps step ≡ Some plan.steps
  pub models : plan.models ≡ models_by request.steps
  pub code : plan.code ≡ code_by request.steps
  pub pairs : plan.pairs ≡ pairs_by request.steps

-- the first place of a part, given the number of places, of parts, and of parts that come before it
abbrev pub first_place : ℕ → ℕ → ℕ → ℕ
first_place places done parts = places * done / parts

abbrev pub part_from : Plan → Part → ℕ
part_from plan part = first_place (place_count plan) (part.index - 1) part.count

abbrev pub part_to : Plan → Part → ℕ
part_to plan part = first_place (place_count plan) part.index part.count

-- a part has a number from 1 to the number of parts, of which there aren't too many
pub record IsPart (part : Part) : Type 0 where
  pub some : 1 ≤ part.index
  pub within : part.index ≤ part.count
  pub few : part.count ≤ 1000000
