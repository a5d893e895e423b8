-- What is at the places of a scenario, and the changes there.
use Rattle.std.specs.Prelude.{◌≡◌, ℕ, zero, suc, ◌+◌, ◌-◌, ◌<◌, ◌≤◌, min, ◌∷◌, ◌&&◌, nat_lt, nat_le, Bool, true}
use Rattle.std.specs.Prelude.{if◌then◌else◌, List, [], ◌++◌, length, slice_index_or, Option, Some, None, is_none}
use Rattle.std.specs.Prelude.{unwrap_or}
use Rattle.shadow_memory.specs.Ranges.{little_word, window}
use Rattle.guest_elf.specs.Hooks.{hook_at}
use Rattle.guest_elf.specs.Images.{is_half_word, is_word, profile_of}
use Rattle.guest_elf.specs.Profiles.{has_halves, is_half}
use Rattle.guest_elf.specs.declared.hook.Hook.{Hook}
use Rattle.guest_machine.specs.Exec.{half_at, is_running}
use Rattle.guest_machine.specs.Run.{pre}
use Rattle.guest_machine.specs.State.{Core, State}
use Rattle.scenario.specs.Edits.{IsTaken, row}
use Rattle.scenario.specs.Limits.{most_marks}
use Rattle.scenario.specs.Scenario.{Scenario, first_state, limit_of}
use Rattle.commands.specs.declared.edit.Edit.TheVariants.{Input}
use Rattle.sweep_plans.specs.Changes.{IsRight, glitch_edit}
use Rattle.sweep_plans.specs.Plans.{changes_of, place_at}
use Rattle.sweep_plans.specs.declared.change.Change.{Change}
use Rattle.sweep_plans.specs.declared.change.Change.TheVariants.{Byte, Word, Half, Once, Twice}
use Rattle.sweep_plans.specs.declared.change.Glitch.TheVariants.{Skip}
use Rattle.sweep_plans.specs.declared.plan.SweepPlace.{SweepPlace}
use Rattle.sweep_plans.specs.declared.plan.SweepPlace.TheVariants.{Byte as ByteAt, Word as WordAt, Half as HalfAt}
use Rattle.sweep_plans.specs.declared.plan.SweepPlace.TheVariants.{Step as StepAt, Nowhere}
use Rattle.sweep_plans.specs.declared.plan.Plan.{Plan}
use Rattle.sweep_plans.specs.declared.request.Range.{Range}
use Rattle.sweep_plans.specs.declared.standing.Standing.{Standing}
use Rattle.sweep_plans.specs.declared.standing.Standing.TheVariants as At
use Rattle.sweeps.specs.Memory.{memory_at}

-- ---- what is at a place

-- the value at a byte of the input, at a word of the program, and at a half where instructions may have 16 bits;
-- nothing if there is no such byte, or no word or half that is loaded whole
unfoldable pub standing_byte : Scenario → ℕ → Option Standing
standing_byte sc offset =
    if nat_lt offset (length sc.setup.input) then Some (At.Byte offset (slice_index_or sc.setup.input offset 0))
    else None

unfoldable pub standing_word : Scenario → ℕ → Option Standing
standing_word sc addr =
    if is_word sc.image addr then Some (At.Word addr (little_word (window (first_state sc).bytes addr 4))) else None

unfoldable pub standing_half : Scenario → ℕ → Option Standing
standing_half sc addr =
    if has_halves (profile_of sc.image).isa && is_half_word sc.image addr
    then Some (At.Half addr (little_word (window (first_state sc).bytes addr 2)))
    else None

-- the state before a step of the run
abbrev pub state_before : Scenario → ℕ → State
state_before sc step = pre (first_state sc) sc.setup sc.marks step

-- is an address in the code that was named? All are if none was
abbrev pub is_in_code : Option Range → ℕ → Bool
is_in_code None pc = true
is_in_code (Some range) pc = nat_le range.first pc && nat_le pc (unwrap_or range.last 4294967295)

-- may a fault strike the next step? The program runs, in this code, and not at a function of the heap, whose step is no
-- instruction of the program
abbrev pub is_struck : List (ℕ × Hook) → Option Range → Core → Bool
is_struck hooks code core = is_running core.status && (is_in_code code core.pc && is_none (hook_at hooks core.pc))

-- has the next instruction 16 bits? A fetch decides it so, by the half at pc, accessible or not
abbrev pub is_half_next : State → Bool
is_half_next s = is_half s.core.isa (half_at s.core s.bytes)

-- the value of pc before a step below the chosen one, and whether the instruction there has 16 bits, if a fault may
-- strike there
unfoldable pub standing_step : Scenario → Option Range → ℕ → Option Standing
standing_step sc code step =
    if nat_lt step sc.step && is_struck sc.setup.hooks code (state_before sc step).core
    then Some (At.Step step (state_before sc step).core.pc (is_half_next (state_before sc step)))
    else None

-- what is at a place of a plan
abbrev pub standing_in : Scenario → Plan → SweepPlace → Option Standing
standing_in sc plan (ByteAt offset) = standing_byte sc offset
standing_in sc plan (WordAt addr) = standing_word sc addr
standing_in sc plan (HalfAt addr) = standing_half sc addr
standing_in sc plan (StepAt step) = standing_step sc plan.code step
standing_in sc plan Nowhere = None

-- ---- the changes there

-- a scenario in which the instruction of a step is left out
abbrev pub skipped : Scenario → ℕ → Scenario
skipped sc step = (row sc (glitch_edit step Skip)).after

-- two instructions are left out: that of a step, and that of a later step of the run without it, if a fault may strike
-- there
abbrev pub pair_by : ℕ → Option Standing → List Change
pair_by step (Some (At.Step later pc half)) = Twice step Skip later Skip ∷ []
pair_by step _ = []

-- for each of a number of later steps
unfoldable pub pairs_from : Scenario → Option Range → ℕ → ℕ → List Change
pairs_from sc code step zero = []
pairs_from sc code step (suc n) =
    pairs_from sc code step n ++ pair_by step (standing_step (skipped sc step) code (step + 1 + n))

-- the pairs at a place, if they were asked for: with each later step of the plan below the chosen one
unfoldable pub pairs_at : Scenario → Plan → Standing → List Change
pairs_at sc plan (At.Step step pc half) =
    if plan.pairs then pairs_from sc plan.code step (min plan.steps.end sc.step - (step + 1)) else []
pairs_at sc plan _ = []

-- all changes at a place, and at the place of a number: those of the fault models, of which `memory` is the last, and
-- then the pairs
abbrev pub all_changes : Scenario → Plan → Option Standing → List Change
all_changes sc plan (Some standing) =
    changes_of plan standing ++ (memory_at sc plan standing ++ pairs_at sc plan standing)
all_changes sc plan None = []

abbrev pub place_changes : Scenario → Plan → SweepPlace → List Change
place_changes sc plan place = all_changes sc plan (standing_in sc plan place)

abbrev pub changes_at : Scenario → Plan → ℕ → List Change
changes_at sc plan i = place_changes sc plan (place_at plan i)

-- the changes at a number of places from one on
unfoldable pub changes_from : Scenario → Plan → ℕ → ℕ → List Change
changes_from sc plan from zero = []
changes_from sc plan from (suc n) = changes_from sc plan from n ++ changes_at sc plan (from + n)

-- ---- what a change there needs

-- this is what is at a place; at a step, another mark may be made
abbrev pub Stands : Scenario → Standing → Type 0
Stands sc (At.Byte offset old) = standing_byte sc offset ≡ Some (At.Byte offset old)
Stands sc (At.Word addr old) = standing_word sc addr ≡ Some (At.Word addr old)
Stands sc (At.Half addr old) = standing_half sc addr ≡ Some (At.Half addr old)
Stands sc (At.Step step pc half) = (step ≤ limit_of sc) × (length sc.marks < most_marks)

-- a second glitch may follow one at a step: at a step up to the chosen one, with room for its mark
pub record MayFollow (sc : Scenario) (step later : ℕ) : Type 0 where
  pub forward : step ≤ later
  pub within : later ≤ sc.step
  pub near : later ≤ limit_of sc
  pub room : length sc.marks + 1 < most_marks

-- a change is one at this place
abbrev pub IsAt : Scenario → Standing → Change → Type 0
IsAt sc (At.Byte offset old) (Byte at value) = at ≡ offset
IsAt sc (At.Word addr old) (Word at value) = at ≡ addr
IsAt sc (At.Half addr old) (Half at value) = at ≡ addr
IsAt sc (At.Step step pc half) (Once at glitch) = (at ≡ step) × IsRight glitch
IsAt sc (At.Step step pc half) (Twice at glitch later other) =
    (at ≡ step) × IsRight glitch × IsRight other × MayFollow sc step later
IsAt sc _ _ = ⊥

-- a step is below another
abbrev pub IsBelow : ℕ → Standing → Type 0
IsBelow last (At.Step step pc half) = step < last
IsBelow last _ = Unit {0}

-- a scenario with a change at this place can be taken back
abbrev pub GoesBack : Scenario → Standing → Type 0
GoesBack sc (At.Byte offset old) = IsTaken sc (Input offset old)
GoesBack sc (At.Word addr old) = Unit {0}
GoesBack sc (At.Half addr old) = Unit {0}
GoesBack sc (At.Step step pc half) = (1 ≤ length sc.marks) × (length sc.marks ≤ most_marks)
