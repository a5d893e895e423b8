-- The next and the last step of a run that runs, reads, writes, changes what is known of a byte or raises an error in a
-- range of memory.
use Rattle.std.specs.Prelude.{◌≡◌, ℕ, ◌+◌, ◌-◌, ◌<◌, ◌≤◌, true, List, length, Option, Some, None}
use Rattle.shadow_memory.specs.Ranges.{is_in}
use Rattle.shadow_memory.specs.Shadows.{Shadow}
use Rattle.guest_machine.specs.State.{State}
use Rattle.guest_machine.specs.Exec.{exec, is_running, touched_of}
use Rattle.guest_machine.specs.Run.{post}
use Rattle.guest_machine.specs.Spans.{covers}
use Rattle.run_values.specs.declared.alteration.Alteration.{Alteration}
use Rattle.guest_machine.specs.declared.setup.Setup.{Setup}
use Rattle.run_values.specs.declared.span.Span.{Span}
use Rattle.checkpoints.specs.declared.searches.Watch.{Watch}
use Rattle.checkpoints.specs.declared.searches.Watch.TheVariants.{Run, Read, Write, Shadow as OfShadow, Error}
use Rattle.checkpoints.specs.declared.searches.Sought.{Sought}

-- ---- what is sought

-- a byte of a range is one of another range, if there is one
abbrev pub Meets : Span → Option Span → Type 0
Meets range touched = (a : ℕ) × (is_in range.start range.len a ≡ true) × (covers touched a ≡ true)

-- for a byte of a range, its undefined bits or whether it may be accessed differ before and after
abbrev pub DiffersIn : Span → (ℕ → Shadow) → (ℕ → Shadow) → Type 0
DiffersIn range before after = (a : ℕ) × (is_in range.start range.len a ≡ true) × (before a ≡ after a → ⊥)

-- for each byte they are the same
abbrev pub AreAlikeIn : Span → (ℕ → Shadow) → (ℕ → Shadow) → Type 0
AreAlikeIn range before after = (a : ℕ) → is_in range.start range.len a ≡ true → before a ≡ after a

-- the step of a state runs at an address of a range, reads one of its bytes besides the step's word, writes one,
-- changes the undefined bits or the access of one, or raises an error at an address of it. A step's change is from the
-- state that it starts from, after the marks of that step, to the one that it leaves, before the marks of the next
-- step; so a mark changes nothing here
abbrev pub HitsIn : Watch → Span → State → Setup → Type 0
HitsIn Run range s setup = (is_running s.core.status ≡ true) × (is_in range.start range.len s.core.pc ≡ true)
HitsIn Read range s setup = Meets range (touched_of s setup).reads
HitsIn Write range s setup = Meets range (touched_of s setup).writes
HitsIn OfShadow range s setup = DiffersIn range s.core.shadow (exec s setup).core.shadow
HitsIn Error range s setup =
    (is_in range.start range.len s.core.pc ≡ true) × (length s.events < length (exec s setup).events)

-- step k of a run does what is sought, from the state after its marks
unfoldable pub Hits : Sought → State → Setup → List Alteration → ℕ → Type 0
Hits sought start setup marks k = HitsIn sought.watch sought.range (post start setup marks k) setup

-- ---- which step it is

-- the least number from one on, below another, at which something holds, if there is one
abbrev pub IsNext : (ℕ → Type 0) → ℕ → ℕ → Option ℕ → Type 0
IsNext P from end None = (k : ℕ) → from ≤ k → k < end → P k → ⊥
IsNext P from end (Some f) = (from ≤ f) × (f < end) × P f × ((k : ℕ) → from ≤ k → k < f → P k → ⊥)

-- and the greatest one
abbrev pub IsLast : (ℕ → Type 0) → ℕ → ℕ → Option ℕ → Type 0
IsLast P from before None = (k : ℕ) → from ≤ k → k < before → P k → ⊥
IsLast P from before (Some l) = (from ≤ l) × (l < before) × P l × ((k : ℕ) → l < k → k < before → P k → ⊥)

-- ---- the number of steps executed

-- the greatest number of steps to look for the next one: those up to and including the step that is found, or all
abbrev pub next_price : ℕ → ℕ → Option ℕ → ℕ
next_price from end None = end - from
next_price from end (Some found) = found + 1 - from
