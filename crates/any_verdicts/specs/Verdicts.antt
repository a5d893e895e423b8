-- What the verdict on a run for every value of some bytes says.
use Rattle.std.specs.Prelude.{◌≡◌, ℕ, ◌-◌, ◌<◌, ◌≤◌, ◌&&◌, not, Bool, true, false, List, Option, Some, None, find}
use Rattle.std.specs.Prelude.{is_some}
use Rattle.std.specs.Prelude.{IsSomeAnd}
use Rattle.error_events.specs.declared.event.Event.{Event}
use Rattle.error_events.specs.declared.kind.Kind.{Kind}
use Rattle.shadow_memory.specs.Ranges.{above}
use Rattle.shadow_memory.specs.Shadows.{first_bad}
use Rattle.run_values.specs.declared.span.Span.{Span}
use Rattle.guest_machine.specs.State.{State}
use Rattle.guest_machine.specs.Exec.{exec, touched_of}
use Rattle.guest_machine.specs.declared.setup.Setup.{Setup}
use Rattle.clean_reports.specs.Disturbed.{HasBytes}
use Rattle.clean_reports.specs.Uses.{NoUse, is_use}
use Rattle.clean_reports.specs.Verdicts.{has_ended}
use Rattle.clean_reports.specs.declared.verdict.FirstUse.{FirstUse}
use Rattle.any_runs.specs.Echoes.{WritesOpen, is_echo, kept}
use Rattle.any_runs.specs.Secrets.{IsAnother, IsSame, IsSecretFit, Secrets, known_at, secret_at, secret_before}
use Rattle.any_runs.specs.Sharper.{HasStackPointer}
use Rattle.any_verdicts.specs.declared.verdict.AnyVerdict.{AnyVerdict}
use Rattle.any_verdicts.specs.declared.verdict.AnyVerdict.TheVariants.{Same, Use, StackPointer, Write, Closed}
use Rattle.any_verdicts.specs.declared.verdict.Closed.TheVariants as closed

-- is an error a use, other than that of a write of undefined bytes?
abbrev pub is_kept_use : Kind → Bool
is_kept_use kind = is_use kind && not (is_echo kind)

abbrev pub first_kept_use : List Event → Option Event
first_kept_use es = find (λ e. is_kept_use e.kind) es

-- a use is the first of some errors, which a step raises
pub record IsFirstKept (events : List Event) (step : ℕ) (found : FirstUse) : Type 0 where
  pub event : Event
  pub first : first_kept_use events ≡ Some event
  pub at : found.step ≡ step
  pub kind : found.kind ≡ event.kind
  pub trace : found.trace ≡ event.trace

-- may each byte of a range be accessed, if there is one?
abbrev pub IsOpen : State → Option Span → Type 0
IsOpen s range = (span : Span) → range ≡ Some span → first_bad s.core.shadow span.start span.len false ≡ None

abbrev pub IsShut : State → Option Span → Type 0
IsShut s range = IsSomeAnd range (λ (span : Span). is_some (first_bad s.core.shadow span.start span.len false) ≡ true)

-- what is in the way of a step k, in the errors after it or in what it has read
abbrev pub IsFault : State → Option Span → ℕ → AnyVerdict → Type 0
IsFault s reads k (Use found) = IsFirstKept s.events k found
IsFault s reads k (Write j) = (j ≡ k) × IsShut s reads
IsFault s reads k _ = ⊥

-- what is asked of a step
pub record IsFitStep (s : State) (setup : Setup) : Type 0 where
  pub pointer : HasStackPointer s
  pub left : HasStackPointer (exec s setup)
  pub writes : WritesOpen s setup
  pub uses : NoUse (kept s.events) → NoUse (kept (exec s setup).events)

-- a byte of the input that may be any is written to where it may not be accessed, by the positions of the bytes that
-- fill a range
pub record IsReadTo (any : ℕ → Bool) (s : State) (from : ℕ) (range : Option Span) (position : ℕ) : Type 0 where
  pub chosen : any position ≡ true
  pub span : Span
  pub written : range ≡ Some span
  pub low : from ≤ position
  pub high : position < s.position
  pub shut : (s.core.shadow (above span.start (position - from))).accessible ≡ false

-- so it is in the state after step k, by the position before it and what it wrote
abbrev pub IsShutAt : (ℕ → Bool) → State → ℕ → Option Span → ℕ → AnyVerdict → Type 0
IsShutAt any s from writes k (Closed (closed.Input j position)) =
    (j ≡ k) × IsReadTo any s from writes position
IsShutAt any s from writes k _ = ⊥

-- what is in the way at step k, which a state starts
abbrev pub FailsAt : (ℕ → Bool) → State → Setup → ℕ → AnyVerdict → Type 0
FailsAt any s setup k (Same ended read) = ⊥
FailsAt any s setup k (Use found) = IsFirstKept (exec s setup).events k found
FailsAt any s setup k (StackPointer j) = (j ≡ k) × (HasStackPointer s → HasStackPointer (exec s setup) → ⊥)
FailsAt any s setup k (Write j) = (j ≡ k) × IsShut (exec s setup) (touched_of s setup).reads
FailsAt any s setup k (Closed byte) =
    IsShutAt any (exec s setup) s.position (touched_of s setup).writes k (Closed byte)

-- what is in the way at step k of a run, in the state before what is revealed then
abbrev pub FailsBefore : Secrets → State → Setup → ℕ → AnyVerdict → Type 0
FailsBefore secrets s setup k (Closed (closed.Revealed j addr)) =
    (j ≡ k) × (secrets.revealed k addr ≡ true) × ((s.core.shadow addr).accessible ≡ false)
FailsBefore secrets s setup k verdict = FailsAt secrets.input (known_at (secrets.revealed k) s) setup k verdict

-- a step up to n, before which each is fit, isn't
pub record FailsFirst (secrets : Secrets) (start : State) (setup : Setup) (n : ℕ) (verdict : AnyVerdict) : Type 0
  where
    pub step : ℕ
    pub below : step ≤ n
    pub fit : IsSecretFit secrets start setup step
    pub fails : FailsBefore secrets (secret_before secrets start setup step) setup step verdict

-- each other run of a program is the same up to step n
abbrev pub AllOthersAreSame : Secrets → State → Setup → ℕ → Type 0
AllOthersAreSame secrets start setup n =
    (begun : State) (other : Setup) → HasBytes other → IsAnother secrets start begun setup other n
    → IsSame secrets start begun setup other n

-- the verdict on a run up to step n: it is fit, and so the same for every value; or the first step that isn't, and why;
-- or a byte that may not be accessed where one was chosen
abbrev pub IsAnyVerdict : Secrets → State → Setup → ℕ → AnyVerdict → Type 0
IsAnyVerdict secrets start setup n (Same ended read) =
    IsSecretFit secrets start setup n × (ended ≡ has_ended (secret_at secrets start setup n) setup)
    × (read ≡ (secret_at secrets start setup n).position)
IsAnyVerdict secrets start setup n (Closed (closed.Memory addr)) =
    (secrets.memory addr ≡ true) × ((start.core.shadow addr).accessible ≡ false)
IsAnyVerdict secrets start setup n verdict = FailsFirst secrets start setup n verdict
