-- What the next instruction is, and what it asks for.
use Rattle.std.proofs.Common.{◌≡◌, ◌⊎◌, inl, inr, ℕ, ◌+◌, ◌<◌, false}
use Rattle.std.proofs.Common.{List, []}
use Rattle.std.proofs.Common.{Option, Some, None, refl, ap, sym, subst, ◌∙◌, arith}
use Rattle.guest_elf.specs.declared.hook.Hook.{Hook}
use Rattle.instructions.specs.Codes.{code_of, row_of_code}
use Rattle.instructions.specs.declared.code.Code.{Code}
use Rattle.instructions.specs.declared.instruction.Instruction.{Instruction}
use Rattle.shadow_memory.specs.Ranges.{little_word, window}
use Rattle.guest_machine.specs.State.{Core, State}
use Rattle.guest_machine.specs.Exec.{Action, Takes, Cut, CallsByName, Halts, called_here, action_asks, action_at}
use Rattle.guest_machine.specs.Exec.{action_by}
use Rattle.guest_machine.specs.Exec.{row_asks}
use Rattle.guest_machine.specs.Run.{pre}
use Rattle.guest_machine.specs.Shows.{core_of, bytes_of, Holds}
use Rattle.guest_machine.specs.Doing.{IsDecoded}
use Rattle.guest_machine.specs.Streams.{calls_out, row_at, row_in, IsQuietFor}
use Rattle.guest_machine.specs.declared.machine.Guest.{Guest}
use Rattle.guest_machine.specs.declared.setup.Setup.{Setup}

-- ---- the next instruction

-- where a code is taken, or a function called in its place
quiet-by : (function : Option Hook) (code : Code) → calls_out (row_of_code code) ≡ false
    → calls_out (row_in (action_by function (Takes code))) ≡ false
unfolding row_in calls_out
quiet-by (Some function) code h = refl
quiet-by None code h = h

pub quiet-decoded : (core : Core) (bytes : ℕ → ℕ) (len : ℕ) (row : Instruction) → IsDecoded core bytes len row
    → calls_out (Some row) ≡ false → (hooks : List (ℕ × Hook)) → calls_out (row_in (action_at core bytes hooks)) ≡ false
quiet-decoded core bytes len row d h hooks =
    let code = code_of len (little_word (window bytes core.pc len)) in
    let other : calls_out (row_of_code code) ≡ false = ap calls_out d.row ∙ h in
    subst (λ found. calls_out (row_in (action_by (called_here core hooks) found)) ≡ false) (sym d.taken)
    (quiet-by (called_here core hooks) code other)

-- what is asked for follows from the instruction
pub asks_by_row : (core : Core) (action : Action) → row_asks core (row_in action) ≡ action_asks core action
unfolding row_asks row_in
asks_by_row core (Takes code) = refl
asks_by_row core Cut = refl
asks_by_row core (CallsByName function) = refl
asks_by_row core Halts = refl

-- ---- several steps

pub quiet-none : (s : State) (setup : Setup) → IsQuietFor s setup 0
quiet-none s setup = λ k less. absurd (omega arith)

pub quiet-more : (s : State) (setup : Setup) (n : ℕ) → IsQuietFor s setup n
    → calls_out (row_at (pre s setup [] n) setup) ≡ false → IsQuietFor s setup (n + 1)
quiet-more s setup n before now = λ k less. elim (split k n (omega arith)) [
  | inl earlier ↦ before k earlier
  | inr last ↦ subst (λ k. calls_out (row_at (pre s setup [] k) setup) ≡ false) (sym last) now
]
  where
    split : (k n : ℕ) → k < n + 1 → (k < n) ⊎ (k ≡ n)
    split k n less = grind arith

-- of a guest that holds the state
pub quiet-held : (g : Guest) (s : State) (setup : Setup)
    → ((hooks : List (ℕ × Hook)) → calls_out (row_in (action_at (core_of g) (bytes_of g) hooks)) ≡ false)
    → Holds g s → calls_out (row_at s setup) ≡ false
unfolding row_at
quiet-held g s setup quiet h =
    sym (λ i. calls_out (row_in (action_at (h.core i) (h.bytes i) setup.hooks))) ∙ quiet setup.hooks
