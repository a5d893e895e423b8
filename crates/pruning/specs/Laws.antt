-- What follows, for a step and for a run, from what a register is to the step.
use Rattle.std.specs.Prelude.{◌≡◌, ℕ, ◌+◌, ◌^◌, ◌<◌, ◌≤◌, true, List, [], ◌∷◌, ◌++◌}
use Rattle.definedness.specs.declared.Bits.{Bits}
use Rattle.guest_machine.specs.State.{State}
use Rattle.guest_machine.specs.Registers.{register}
use Rattle.guest_machine.specs.Exec.{exec, is_running}
use Rattle.guest_machine.specs.Run.{marks_at, post, pre}
use Rattle.guest_machine.specs.declared.setup.Setup.{Setup}
use Rattle.run_values.specs.declared.alteration.Act.{Act}
use Rattle.run_values.specs.declared.alteration.Act.TheVariants.{Set, Flip, Turn}
use Rattle.run_values.specs.declared.alteration.Alteration.{Alteration}
use Rattle.pruning.specs.declared.passing.Passing.TheVariants.{Keeps, Overwrites}
use Rattle.pruning.specs.Passing.{passing, with_register}
use Rattle.pruning.specs.Words.{passing_word}

-- ---- one step

-- a register that a step keeps may be changed before the step or after it, and is as it was
abbrev pub KeepsRegisters : Type 0
KeepsRegisters =
    (s : State) (setup : Setup) (r : ℕ) (bits : Bits) → 1 ≤ r → passing s setup r ≡ Keeps
    → (exec (with_register s r bits) setup ≡ with_register (exec s setup) r bits)
    × (register (exec s setup).core r ≡ register s.core r)

-- a change of a register that the step overwrites is gone after it
abbrev pub OverwritesRegisters : Type 0
OverwritesRegisters =
    (s : State) (setup : Setup) (r : ℕ) (bits : Bits) → 1 ≤ r → passing s setup r ≡ Overwrites
    → exec (with_register s r bits) setup ≡ exec s setup

-- ---- a run with an alteration of the register before the step

-- is this an alteration of a register: does it set the register, or turn bits of it?
abbrev pub IsOf : Act → ℕ → Type 0
IsOf (Set q value undef) r = q ≡ r
IsOf (Flip q mask) r = q ≡ r
IsOf _ r = ⊥

-- the alterations of a run, with another one at a step, after those there
abbrev pub also : List Alteration → ℕ → Act → List Alteration
also marks k act = marks ++ record { step = k; act = act } ∷ []

-- an alteration of a register that step k keeps may as well be made before step k + 1, if the machine still runs there
-- and nothing else is altered there: that step and each later one then start from the same state, and the states before
-- the alterations of the later ones are the same too
abbrev pub RunsKeep : Type 0
RunsKeep =
    (start : State) (setup : Setup) (marks : List Alteration) (k r : ℕ) (act : Act) → 1 ≤ r → IsOf act r
    → passing (post start setup marks k) setup r ≡ Keeps
    → is_running (pre start setup marks (k + 1)).core.status ≡ true
    → marks_at (k + 1) marks ≡ []
    → ((j : ℕ) → k < j → post start setup (also marks k act) j ≡ post start setup (also marks (k + 1) act) j)
    × ((j : ℕ) → k + 1 < j → pre start setup (also marks k act) j ≡ pre start setup (also marks (k + 1) act) j)

-- an alteration of a register that step k overwrites is as none: after step k the run is the same
abbrev pub RunsOverwrite : Type 0
RunsOverwrite =
    (start : State) (setup : Setup) (marks : List Alteration) (k r : ℕ) (act : Act) → 1 ≤ r → IsOf act r
    → passing (post start setup marks k) setup r ≡ Overwrites
    → (j : ℕ) → k < j
    → (pre start setup (also marks k act) j ≡ pre start setup marks j)
    × (post start setup (also marks k act) j ≡ post start setup marks j)

-- ---- a word of memory

-- the bytes of a word are bytes; those of a machine's memory are
abbrev pub HasBytes : State → ℕ → Type 0
HasBytes s addr = (i : ℕ) → i < 4 → s.bytes (addr + i) < 256

-- likewise, bits of a word that step k keeps may as well be turned before step k + 1
abbrev pub RunsKeepWords : Type 0
RunsKeepWords =
    (start : State) (setup : Setup) (marks : List Alteration) (k addr mask : ℕ) → addr < 2 ^ 32
    → HasBytes (post start setup marks k) addr
    → passing_word (post start setup marks k) setup addr ≡ Keeps
    → is_running (pre start setup marks (k + 1)).core.status ≡ true
    → marks_at (k + 1) marks ≡ []
    → ((j : ℕ) → k < j
    → post start setup (also marks k (Turn addr mask)) j ≡ post start setup (also marks (k + 1) (Turn addr mask)) j)
    × ((j : ℕ) → k + 1 < j
    → pre start setup (also marks k (Turn addr mask)) j ≡ pre start setup (also marks (k + 1) (Turn addr mask)) j)
