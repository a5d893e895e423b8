-- Which changes a sweep tries: places of the input, of the program and of the run, in order; at a byte or a word values
-- other than its own, and at a step what the fault models do there.
use Rattle.std.specs.Prelude.{ℕ, zero, suc, ◌+◌, ◌-◌, ◌*◌, ◌%◌, ◌^◌, ◌==◌, ◌&&◌, ◌||◌, ◌<◌, nat_lt, Bool, true, false}
use Rattle.std.specs.Prelude.{not, if◌then◌else◌, List, [], ◌∷◌, ◌++◌, length, map, filter, bit_xor, slice_get, Option}
use Rattle.std.specs.Prelude.{Some, None, unwrap_or}
use Rattle.std.specs.List.{list_any}
use Rattle.guest_elf.specs.declared.image.Image.{Image}
use Rattle.guest_elf.specs.Images.{is_half_word, is_word, loaded_at, profile_of}
use Rattle.guest_elf.specs.Profiles.{is_half}
use Rattle.sweep_plans.specs.declared.plan.SweepPlace.{SweepPlace}
use Rattle.sweep_plans.specs.declared.plan.SweepPlace.TheVariants.{Byte as ByteAt, Word as WordAt, Half as HalfAt}
use Rattle.sweep_plans.specs.declared.plan.SweepPlace.TheVariants.{Step as StepAt, Nowhere}
use Rattle.sweep_plans.specs.declared.plan.Places.{Places}
use Rattle.sweep_plans.specs.declared.plan.Plan.{Plan}
use Rattle.sweep_plans.specs.declared.plan.ByteValues.{ByteValues}
use Rattle.sweep_plans.specs.declared.plan.ByteValues.TheVariants.{All, Flips as FlippedBytes, Edges}
use Rattle.sweep_plans.specs.declared.plan.ByteValues.TheVariants.{Listed as ListedBytes}
use Rattle.sweep_plans.specs.declared.plan.WordValues.{WordValues}
use Rattle.sweep_plans.specs.declared.plan.WordValues.TheVariants.{Flips as FlippedWords, Skip as NoOps}
use Rattle.sweep_plans.specs.declared.plan.WordValues.TheVariants.{Listed as ListedWords}
use Rattle.sweep_plans.specs.declared.change.Change.{Change}
use Rattle.sweep_plans.specs.declared.change.Change.TheVariants.{Byte, Word, Half}
use Rattle.sweep_plans.specs.declared.standing.Standing.{Standing}
use Rattle.sweep_plans.specs.declared.standing.Standing.TheVariants as At
use Rattle.sweep_plans.specs.Glitches.{glitches_at}
use Rattle.sweep_plans.specs.Numbers.{below}

-- the number of places
abbrev pub count : Places → ℕ
count places = places.end - places.first

abbrev pub place_count : Plan → ℕ
place_count plan = count plan.bytes + count plan.words + length plan.instructions.items + count plan.steps

-- is one of some consecutive words loaded whole? They are given by a quarter of their addresses
unfoldable pub any_word : Image → ℕ → ℕ → Bool
any_word image first zero = false
any_word image first (suc n) = is_word image (4 * (first + n)) || any_word image first n

-- ---- the instructions of a program that has some of 16 bits

-- the number in the two bytes that are loaded at an address
abbrev pub loaded_half : Image → ℕ → ℕ
loaded_half image addr = unwrap_or (loaded_at image addr) 0 + 256 * unwrap_or (loaded_at image (addr + 1)) 0

-- the instruction that begins at an address, of 16 or of 32 bits, all of which are loaded. None begins inside of a word
unfoldable pub instruction_at : Image → Bool → ℕ → SweepPlace
instruction_at image inside addr =
    if inside || not (is_half_word image addr) then Nowhere
    else if is_half (profile_of image).isa (loaded_half image addr) then HalfAt addr
    else if is_word image addr then WordAt addr
    else Nowhere

abbrev pub somewhere : SweepPlace → List SweepPlace
somewhere Nowhere = []
somewhere place = place ∷ []

-- is the next half the second one of a word?
abbrev pub is_long : SweepPlace → Bool
is_long (WordAt addr) = true
is_long _ = false

-- the instructions that begin in a number of halves from an address on, the first of which may be inside of a word
unfoldable pub instructions : Image → Bool → ℕ → ℕ → List SweepPlace
instructions image inside addr zero = []
instructions image inside addr (suc n) =
    let place = instruction_at image inside addr in
    somewhere place ++ instructions image (is_long place) (addr + 2) n

-- are all places bytes of the input?
abbrev pub has_only_bytes : Plan → Bool
has_only_bytes plan =
    count plan.words == 0 && (length plan.instructions.items == 0 && count plan.steps == 0)

-- ---- places by their numbers

-- the place of a number, counted from 0, if there is one
abbrev pub nth : Places → ℕ → Option ℕ
nth places i = if nat_lt i (count places) then Some (places.first + i) else None

-- a place by its number: the bytes come first, then the words, each at a multiple of 4, or the instructions, then the
-- steps
abbrev pub step_place : Option ℕ → SweepPlace
step_place (Some step) = StepAt step
step_place None = Nowhere

abbrev pub place_by : (ℕ → SweepPlace) → Option ℕ → SweepPlace → SweepPlace
place_by at (Some n) other = at n
place_by at None other = other

unfoldable pub place_behind_words : Plan → ℕ → SweepPlace
place_behind_words plan i =
    let list = plan.instructions.items in
    unwrap_or (slice_get list i) (step_place (nth plan.steps (i - length list)))

unfoldable pub place_behind : Plan → ℕ → SweepPlace
place_behind plan i =
    place_by (λ word. WordAt (4 * word)) (nth plan.words i) (place_behind_words plan (i - count plan.words))

unfoldable pub place_at : Plan → ℕ → SweepPlace
place_at plan i = place_by ByteAt (nth plan.bytes i) (place_behind plan (i - count plan.bytes))

-- is a number one of these?
abbrev pub is_among : List ℕ → ℕ → Bool
is_among numbers n = list_any (λ m. n == m) numbers

-- do two bytes differ in one bit?
unfoldable pub is_flip : ℕ → ℕ → Bool
is_flip old new = is_among (1 ∷ 2 ∷ 4 ∷ 8 ∷ 16 ∷ 32 ∷ 64 ∷ 128 ∷ []) (bit_xor old new)

-- is a value an edge value: the least and the greatest signed and unsigned ones, 1, one above and one below
unfoldable pub is_edge : ℕ → ℕ → Bool
is_edge old new = is_among (0 ∷ 1 ∷ 127 ∷ 128 ∷ 255 ∷ (old + 1) % 256 ∷ (old + 255) % 256 ∷ []) new

-- is a value one of these, for a byte with this value?
unfoldable pub is_wanted : ByteValues → ℕ → ℕ → Bool
is_wanted All old new = true
is_wanted FlippedBytes old new = is_flip old new
is_wanted Edges old new = is_edge old new
is_wanted (ListedBytes list) old new = is_among list.items new

-- the values that a byte gets instead of its own, from those below a number; and a word, from a list
unfoldable pub byte_values : ByteValues → ℕ → ℕ → List ℕ
byte_values values old n = filter (λ new. not (new == old) && is_wanted values old new) (below n)

unfoldable pub word_values : ℕ → List ℕ → List ℕ
word_values old words = filter (λ new. not (new == old)) words

-- a word with each of its lowest bits flipped in turn
unfoldable pub flips_below : ℕ → ℕ → List ℕ
flips_below old n = map (λ bit. bit_xor old (2 ^ bit)) (below n)

-- the instruction that does nothing: `addi x0, x0, 0` (ISA 2.4), and `c.nop` of 16 bits (ISA 16.5)
abbrev pub no_op : ℕ
no_op = 0x13

abbrev pub half_no_op : ℕ
half_no_op = 1

-- the values for a word with this value, and for a half; a list has words only
abbrev pub wanted_words : WordValues → ℕ → List ℕ
wanted_words FlippedWords old = flips_below old 32
wanted_words NoOps old = no_op ∷ []
wanted_words (ListedWords list) old = list.items

abbrev pub wanted_halves : WordValues → ℕ → List ℕ
wanted_halves FlippedWords old = flips_below old 16
wanted_halves NoOps old = half_no_op ∷ []
wanted_halves (ListedWords list) old = []

-- the change of a byte to another value, of which it gets the low eight bits
abbrev pub byte_to : ℕ → ℕ → Change
byte_to offset value = Byte offset (value % 256)

-- and of a half, which gets the low sixteen
abbrev pub half_to : ℕ → ℕ → Change
half_to addr value = Half addr (value % 65536)

-- there is a number after that of a step
abbrev pub HasNext : Standing → Type 0
HasNext (At.Step step pc half) = step + 1 < 2 ^ 32
HasNext _ = Unit {0}

-- the changes at a place, in order
unfoldable pub changes_of : Plan → Standing → List Change
changes_of plan (At.Byte offset old) = map (byte_to offset) (byte_values plan.byte_values old 256)
changes_of plan (At.Word addr old) = map (Word addr) (word_values old (wanted_words plan.word_values old))
changes_of plan (At.Half addr old) = map (half_to addr) (word_values old (wanted_halves plan.word_values old))
changes_of plan (At.Step step pc half) = glitches_at plan.models step pc half

abbrev pub changes_by : Plan → Option Standing → List Change
changes_by plan (Some standing) = changes_of plan standing
changes_by plan None = []
