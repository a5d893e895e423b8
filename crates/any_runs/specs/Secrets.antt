-- What may be any in a program's run: bytes of its input, bytes of its memory from step zero on, but for what is
-- revealed at some steps.
use Rattle.std.specs.Prelude.{◌≡◌, ℕ, ◌<◌, ◌≤◌, Bool, true, false, if◌then◌else◌, List, []}
use Rattle.shadow_memory.specs.Shadows.{Shadow}
use Rattle.guest_elf.specs.declared.image.Image.{Image}
use Rattle.guest_machine.specs.State.{State}
use Rattle.guest_machine.specs.Exec.{touched_of}
use Rattle.guest_machine.specs.Run.{pre}
use Rattle.guest_machine.specs.declared.setup.Setup.{Setup}
use Rattle.clean_reports.specs.Agreement.{AreBytes}
use Rattle.clean_reports.specs.Disturbed.{IsStartOf}
use Rattle.any_runs.specs.Stands.{Changes}
use Rattle.any_runs.specs.Inputs.{DiffersIn, blurred_at, blurred_before, faded}
use Rattle.any_runs.specs.Echoes.{StandsBut}
use Rattle.any_runs.specs.EchoRuns.{IsEchoFit}

-- the positions of the input whose bytes may be any, the addresses whose bytes may be any from step zero on, and the
-- addresses whose bytes are revealed just before a step
pub record Secrets : Type 0 where
  pub input : ℕ → Bool
  pub memory : ℕ → Bool
  pub revealed : ℕ → ℕ → Bool

-- a state whose bytes at addresses that pass a test are undefined, if they may be accessed
unfoldable pub faded_at : (ℕ → Bool) → State → State
faded_at test s =
    record s {
      core = record s.core { shadow = λ a. if test a then faded (s.core.shadow a) else s.core.shadow a };
    }

-- a byte that may be accessed made defined
unfoldable pub known_byte : Shadow → Shadow
known_byte s = if s.accessible then record { accessible = true; undef = 0 } else s

-- a state whose bytes at addresses that pass a test are defined, if they may be accessed
unfoldable pub known_at : (ℕ → Bool) → State → State
known_at test s =
    record s {
      core = record s.core { shadow = λ a. if test a then known_byte (s.core.shadow a) else s.core.shadow a };
    }

-- what is revealed before each step
abbrev pub reveals : Secrets → Changes
reveals secrets k s = known_at (secrets.revealed k) s

-- the one run, before step k, and as that step starts
abbrev pub secret_before : Secrets → State → Setup → ℕ → State
secret_before secrets start setup k =
    blurred_before secrets.input (faded_at secrets.memory start) setup (reveals secrets) k

abbrev pub secret_at : Secrets → State → Setup → ℕ → State
secret_at secrets start setup k =
    blurred_at secrets.input (faded_at secrets.memory start) setup (reveals secrets) k

-- what is asked of it
abbrev pub IsSecretFit : Secrets → State → Setup → ℕ → Type 0
IsSecretFit secrets start setup n = IsEchoFit secrets.input (faded_at secrets.memory start) setup (reveals secrets) n

-- another run: its input and its memory differ at most where they may be any, and each byte that is revealed is the
-- same in both, and defined
pub record IsAnother (secrets : Secrets) (start begun : State) (setup other : Setup) (n : ℕ) : Type 0 where
  pub input : DiffersIn secrets.input setup other
  pub begins : begun ≡ record start { bytes = begun.bytes }
  pub bytes : AreBytes begun.bytes
  pub memory : (a : ℕ) → secrets.memory a ≡ false → start.bytes a ≡ begun.bytes a
  pub revealed : (k a : ℕ) → k ≤ n → secrets.revealed k a ≡ true
      → (secret_before secrets start setup k).bytes a ≡ (pre begun other [] k).bytes a
  pub defined : (k a : ℕ) → k ≤ n → secrets.revealed k a ≡ true → ((pre begun other [] k).core.shadow a).undef ≡ 0

-- What holds of each other run: before each step up to n, and after it, it has the same instructions ahead at the same
-- addresses, the same status, calls, blocks, errors and numbers of bytes read and written; and each step touches the
-- same addresses
pub record IsSame (secrets : Secrets) (start begun : State) (setup other : Setup) (n : ℕ) : Type 0 where
  pub stands : (k : ℕ) → k ≤ n → StandsBut (secret_at secrets start setup k) (pre begun other [] k)
  pub touched : (k : ℕ) → k < n
      → touched_of (secret_at secrets start setup k) setup ≡ touched_of (pre begun other [] k) other

-- The theorem: one run of a program with these bytes undefined that is fit stands for all others
abbrev pub AnySecrets : List ℕ → List ℕ → Type 0
AnySecrets input another =
    (image : Image) (start begun : State) (setup other : Setup) (secrets : Secrets) (n : ℕ) → IsStartOf image start
    → AreBytes start.bytes → setup.input ≡ input → other.input ≡ another
    → IsSecretFit secrets start setup n → IsAnother secrets start begun setup other n
    → IsSame secrets start begun setup other n
