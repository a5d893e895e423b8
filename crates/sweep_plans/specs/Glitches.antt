-- The changes at a step of the run: one for each way in which a fault model strikes it.
use Rattle.std.specs.Prelude.{ℕ, ◌+◌, ◌-◌, ◌*◌, ◌%◌, ◌^◌, nat_le, Bool, if◌then◌else◌, List, [], ◌∷◌, ◌++◌, map}
use Rattle.std.specs.List.{flat_map}
use Rattle.sweep_plans.specs.Numbers.{below}
use Rattle.sweep_plans.specs.declared.change.Change.{Change}
use Rattle.sweep_plans.specs.declared.change.Change.TheVariants.{Once, Twice}
use Rattle.sweep_plans.specs.declared.change.Glitch.TheVariants.{Skip, Flip, FlipPc, Set, Turn}
use Rattle.sweep_plans.specs.declared.glitches.Target.{Target}
use Rattle.sweep_plans.specs.declared.glitches.Target.TheVariants.{Register, Pc, Word}
use Rattle.sweep_plans.specs.declared.plan.FaultModels.{FaultModels}

-- these, if a test holds
abbrev pub when : {A : Type 0} → Bool → List A → List A
when test xs = if test then xs else []

-- the instruction is left out
abbrev pub skip_at : ℕ → List Change
skip_at step = Once step Skip ∷ []

-- the bits of a mask are turned in a register, in pc, or in a word; the word gets its bits back before the next step
abbrev pub flip_of : ℕ → Target → ℕ → Change
flip_of step (Register r) mask = Once step (Flip r mask)
flip_of step Pc mask = Once step (FlipPc mask)
flip_of step (Word addr) mask = Twice step (Turn addr mask) (step + 1) (Turn addr mask)

-- each of its lowest bits is turned, from bit 0 on
unfoldable pub flips_at : ℕ → Target → ℕ → List Change
flips_at step target bits = map (λ bit. flip_of step target (2 ^ bit)) (below bits)

-- each bit of each of x1 to x31
unfoldable pub register_flips : ℕ → List Change
register_flips step = flat_map (λ r. flips_at step (Register (r + 1)) 32) (below 31)

-- the number of bits of an instruction: of a half, or of a word
abbrev pub bits_of : Bool → ℕ
bits_of is_half = if is_half then 16 else 32

-- each bit of the instruction at pc, in the word there, if that word ends at the last address or before
unfoldable pub word_flips : ℕ → ℕ → Bool → List Change
word_flips step pc is_half = if nat_le pc 4294967292 then flips_at step (Word pc) (bits_of is_half) else []

-- each of x1 to x31 is set to a value
unfoldable pub register_sets : ℕ → ℕ → List Change
register_sets step value = map (λ r. Once step (Set (r + 1) value)) (below 31)

-- each bit of the byte at an address, from bit 0 on, is turned in the word that has the byte, which is at a multiple
-- of 4
unfoldable pub byte_flips : ℕ → ℕ → List Change
byte_flips step addr = map (λ bit. Once step (Turn (addr - addr % 4) (2 ^ (8 * (addr % 4) + bit)))) (below 8)

-- the changes at a step before which pc has this value, and the instruction there has 16 bits or not, in the order of
-- the fault models. Those of the model `memory` depend on later steps, and come after them
unfoldable pub glitches_at : FaultModels → ℕ → ℕ → Bool → List Change
glitches_at models step pc is_half =
    when models.skip (skip_at step)
    ++ when models.registers (register_flips step)
    ++ when models.pc (flips_at step Pc 32)
    ++ when models.words (word_flips step pc is_half)
    ++ when models.zero (register_sets step 0)
    ++ when models.ones (register_sets step 4294967295)
