-- The one table of edits, and its two laws.
use Rattle.std.specs.Prelude.{◌≡◌, ℕ, zero, suc, ◌+◌, ◌-◌, ◌^◌, ◌==◌, ◌||◌, nat_le, nat_lt, Bool, true}
use Rattle.std.specs.Prelude.{false, not, if◌then◌else◌, List, [], ◌∷◌, ◌++◌, length, take, drop, remove, slice_set}
use Rattle.std.specs.Prelude.{slice_index_or, map, Option, Some, None}
use Rattle.guest_elf.specs.Images.{is_half_word, is_word, profile_of}
use Rattle.guest_elf.specs.Profiles.{has_halves}
use Rattle.guest_elf.specs.declared.image.Image.{Image}
use Rattle.instructions.specs.Codes.{len_of}
use Rattle.instructions.specs.Widths.{width_len}
use Rattle.instructions.specs.declared.code.Code.{Code}
use Rattle.instructions.specs.declared.code.Code.TheVariants.{Word, Half as HalfWord}
use Rattle.instructions.specs.declared.width.Width.{Width}
use Rattle.instructions.specs.declared.width.Width.TheVariants.{Byte, Half, Word as WholeWord}
use Rattle.run_values.specs.declared.alteration.Act.{Act}
use Rattle.run_values.specs.declared.alteration.Act.TheVariants.{Make, Write, Turn}
use Rattle.run_values.specs.declared.alteration.Alteration.{Alteration}
use Rattle.suppressions.specs.Rules.{Rule}
use Rattle.suppressions.specs.declared.leak_kinds.LeakKinds.{LeakKinds}
use Rattle.checkpoints.specs.Effects.{LeadsTo, code_effect}
use Rattle.checkpoints.specs.declared.effect.Effect.{Effect}
use Rattle.checkpoints.specs.declared.effect.Effect.TheVariants.{Nowhere, After, Input as InputFrom, End, Heap}
use Rattle.checkpoints.specs.declared.effect.Effect.TheVariants.{Patch as PatchAt, Anew}
use Rattle.scenario.specs.Limits.{longest_input, most_marks, longest_mark, most_callers, largest_redzone}
use Rattle.scenario.specs.Limits.{largest_volume}
use Rattle.scenario.specs.Scenario.{Scenario, limit_of, run_of}
use Rattle.commands.specs.declared.edit.Edit.{Edit}
use Rattle.commands.specs.declared.edit.Edit.TheVariants.{Input, Append, Cut, Patch, Mark, Unmark, Switch, Add, Callers}
use Rattle.commands.specs.declared.edit.Edit.TheVariants.{PatchHalf, Redzone, Volume, Show, Overwrite, Give}
use Rattle.commands.specs.declared.refusal.Refusal.{Refusal}
use Rattle.commands.specs.declared.refusal.Refusal.TheVariants.{OutsideInput, InputTooLarge, NotPatchable, StepLimit}
use Rattle.commands.specs.declared.refusal.Refusal.TheVariants.{BadRange, TooManyMarks, NoSuchMark, NoSuchSuppression}
use Rattle.commands.specs.declared.refusal.Refusal.TheVariants.{BadOption, NoHalves}

-- a refusal if a test holds
abbrev pub refused_if : Bool → Refusal → Option Refusal
refused_if true refusal = Some refusal
refused_if false refusal = None

-- is a value too wide for an access?
abbrev pub is_too_wide : Width → ℕ → Bool
is_too_wide Byte value = nat_lt 255 value
is_too_wide Half value = nat_lt 65535 value
is_too_wide WholeWord value = false

-- are there no such bytes? A range has one byte at least and isn't too long; no bytes lie past the last address
unfoldable pub is_bad_range : Act → Bool
is_bad_range (Make addr len kind) = nat_lt len 1 || (nat_lt longest_mark len || nat_lt (2 ^ 32) (addr + len))
is_bad_range (Write addr width value) = nat_lt (2 ^ 32) (addr + width_len width) || is_too_wide width value
is_bad_range (Turn addr mask) = nat_lt (2 ^ 32) (addr + 4)
is_bad_range _ = false

-- why a mark is rejected up to this step and for this number of marks so far, in order: its step, its range, too many
-- marks
unfoldable pub mark_refusal : ℕ → ℕ → Alteration → Option Refusal
mark_refusal limit marks mark =
    if nat_lt limit mark.step then Some StepLimit
    else if is_bad_range mark.act then Some BadRange
    else if nat_le most_marks marks then Some TooManyMarks
    else None

-- with another input
abbrev pub with_input : Scenario → List ℕ → Scenario
with_input sc input = record sc { setup = record sc.setup { input = input } }

-- an input with some of its bytes replaced, from an offset on
abbrev pub overwritten : List ℕ → ℕ → List ℕ → List ℕ
overwritten input offset bytes = take offset input ++ bytes ++ drop (offset + length bytes) input

-- why bytes from an offset on are rejected for an input of this length, and why an input is
abbrev pub overwrite_refusal : ℕ → ℕ → List ℕ → Option Refusal
overwrite_refusal len offset bytes = refused_if (nat_lt len (offset + length bytes)) OutsideInput

abbrev pub give_refusal : List ℕ → Option Refusal
give_refusal bytes = refused_if (nat_lt longest_input (length bytes)) InputTooLarge

-- the number of bytes with which two inputs begin alike
unfoldable pub alike : List ℕ → List ℕ → ℕ
alike [] ys = 0
alike (x ∷ xs) [] = 0
alike (x ∷ xs) (y ∷ ys) = if x == y then suc (alike xs ys) else 0

-- where another input shows: at the first byte of the old one that it doesn't have, at the old one's end if it goes on
-- there, and nowhere if it is the same
unfoldable pub input_effect : List ℕ → List ℕ → Effect
input_effect old new =
    if nat_lt (alike old new) (length old) then InputFrom (alike old new)
    else if nat_lt (length old) (length new) then End
    else Nowhere

-- with a code written into the program
abbrev pub with_code : Scenario → ℕ → Code → Scenario
with_code sc addr code = record sc { words = sc.words ++ record { addr = addr; code = code } ∷ [] }

-- why a half isn't written, in order: there are no instructions of 16 bits; there is no loaded half
unfoldable pub half_refusal : Image → ℕ → Option Refusal
half_refusal image addr =
    if has_halves (profile_of image).isa then refused_if (not (is_half_word image addr)) NotPatchable
    else Some NoHalves

-- the step of the mark at an index
abbrev pub mark_step : List Alteration → ℕ → ℕ
mark_step marks i = slice_index_or (map (λ (mark : Alteration). mark.step) marks) i 0

-- the suppressions with one of them switched on or off, and whether one is on
abbrev pub switched : List Rule → ℕ → Bool → List Rule
switched [] i on = []
switched (rule ∷ rules) zero on = (record rule { on = on }) ∷ rules
switched (rule ∷ rules) (suc i) on = rule ∷ switched rules i on

abbrev pub is_on : List Rule → ℕ → Bool
is_on [] i = false
is_on (rule ∷ rules) zero = rule.on
is_on (rule ∷ rules) (suc i) = is_on rules i

-- which kinds of leak are shown: definitely lost, indirectly lost, possibly lost, still reachable
abbrev pub shown : LeakKinds → List Bool
shown kinds = kinds.definite ∷ kinds.indirect ∷ kinds.possible ∷ kinds.reachable ∷ []

-- what the table says of an edit of a scenario: why it is rejected, what it leaves, where it shows, whether memory may
-- run out, and the edit that takes it back, if there is one
pub record Row : Type 0 where
  pub refusal : Option Refusal
  pub after : Scenario
  pub effect : Effect
  pub may_fail : Bool
  pub back : Option Edit

-- the table: a row for each edit
abbrev pub row : Scenario → Edit → Row
row sc (Input offset byte) = record {
  refusal = refused_if (nat_le (length sc.setup.input) offset) OutsideInput;
  after = with_input sc (slice_set sc.setup.input offset byte);
  effect = InputFrom offset;
  may_fail = false;
  back = Some (Input offset (slice_index_or sc.setup.input offset 0));
}
row sc (Append byte) = record {
  refusal = refused_if (nat_le longest_input (length sc.setup.input)) InputTooLarge;
  after = with_input sc (sc.setup.input ++ byte ∷ []);
  effect = End;
  may_fail = true;
  back = Some Cut;
}
row sc Cut = record {
  refusal = refused_if (nat_lt (length sc.setup.input) 1) OutsideInput;
  after = with_input sc (take (length sc.setup.input - 1) sc.setup.input);
  effect = InputFrom (length sc.setup.input - 1);
  may_fail = false;
  back = Some (Append (slice_index_or sc.setup.input (length sc.setup.input - 1) 0));
}
row sc (Overwrite offset bytes) = record {
  refusal = overwrite_refusal (length sc.setup.input) offset bytes;
  after = with_input sc (overwritten sc.setup.input offset bytes);
  effect = input_effect sc.setup.input (overwritten sc.setup.input offset bytes);
  may_fail = true;
  back = Some (Overwrite offset (take (length bytes) (drop offset sc.setup.input)));
}
row sc (Give bytes) = record {
  refusal = give_refusal bytes;
  after = with_input sc bytes;
  effect = input_effect sc.setup.input bytes;
  may_fail = true;
  back = Some (Give sc.setup.input);
}
row sc (Patch addr word) = record {
  refusal = refused_if (not (is_word sc.image addr)) NotPatchable;
  after = with_code sc addr (Word word);
  effect = code_effect (profile_of sc.image).isa sc.marks addr (Word word);
  may_fail = true;
  back = None;
}
row sc (PatchHalf addr half) = record {
  refusal = half_refusal sc.image addr;
  after = with_code sc addr (HalfWord half);
  effect = code_effect (profile_of sc.image).isa sc.marks addr (HalfWord half);
  may_fail = true;
  back = None;
}
row sc (Mark mark) = record {
  refusal = mark_refusal (limit_of sc) (length sc.marks) mark;
  after = record sc { marks = sc.marks ++ mark ∷ [] };
  effect = After mark.step;
  may_fail = true;
  back = Some (Unmark (length sc.marks));
}
row sc (Unmark i) = record {
  refusal = refused_if (nat_le (length sc.marks) i) NoSuchMark;
  after = record sc { marks = remove sc.marks i };
  effect = After (mark_step sc.marks i);
  may_fail = false;
  back = None;
}
row sc (Switch i on) = record {
  refusal = refused_if (nat_le (length sc.rules) i) NoSuchSuppression;
  after = record sc { rules = switched sc.rules i on };
  effect = Nowhere;
  may_fail = false;
  back = Some (Switch i (is_on sc.rules i));
}
row sc (Add rule) = record {
  refusal = None;
  after = record sc { rules = sc.rules ++ rule ∷ [] };
  effect = Nowhere;
  may_fail = true;
  back = None;
}
row sc (Callers n) = record {
  refusal = refused_if (nat_lt n 1 || nat_lt most_callers n) BadOption;
  after = record sc { options = record sc.options { callers = n } };
  effect = Nowhere;
  may_fail = false;
  back = Some (Callers sc.options.callers);
}
row sc (Redzone n) = record {
  refusal = refused_if (nat_lt largest_redzone n) BadOption;
  after = record sc { setup = record sc.setup { redzone = n } };
  effect = Heap;
  may_fail = false;
  back = Some (Redzone sc.setup.redzone);
}
row sc (Volume n) = record {
  refusal = refused_if (nat_lt largest_volume n) BadOption;
  after = record sc { setup = record sc.setup { volume = n } };
  effect = Heap;
  may_fail = false;
  back = Some (Volume sc.setup.volume);
}
row sc (Show kinds) = record {
  refusal = None;
  after = record sc { options = record sc.options { show = shown kinds } };
  effect = Nowhere;
  may_fail = false;
  back = None;
}

-- the edit isn't rejected
abbrev pub IsTaken : Scenario → Edit → Type 0
IsTaken sc edit = (row sc edit).refusal ≡ None

-- an edit that isn't rejected leads from the run of the scenario to that of the edited one, by its effect
abbrev pub Follows : Type 0
Follows =
    (sc : Scenario) (edit : Edit) → IsTaken sc edit
    → LeadsTo (row sc edit).effect (run_of sc) (run_of (row sc edit).after)

-- what takes an edit back leaves the scenario as it was
abbrev pub TakesBack : Type 0
TakesBack =
    (sc : Scenario) (edit back : Edit) → IsTaken sc edit → (row sc edit).back ≡ Some back
    → (row (row sc edit).after back).after ≡ sc

-- is a code of this many bytes loaded at an address?
abbrev pub is_code : Image → ℕ → ℕ → Bool
is_code image addr len = if len == 2 then is_half_word image addr else is_word image addr

-- the code that an effect writes is one in the place of a loaded one
abbrev pub WritesLoaded : Image → Effect → Type 0
WritesLoaded image (PatchAt addr code) = is_code image addr (len_of code) ≡ true
WritesLoaded image (Anew addr code) = is_code image addr (len_of code) ≡ true
WritesLoaded image _ = Unit {0}
