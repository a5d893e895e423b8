-- The errors that are uses: after a use, a run may depend on what undefined or inaccessible bytes hold. A use is a use
-- of undefined bits, or a read of inaccessible bytes: from then on Memcheck takes the value as defined (Memcheck
-- manual, sections 4.2.1 to 4.2.3 and 4.5).
use Rattle.std.specs.Prelude.{◌≡◌, Bool, true, false, List, [], ◌∷◌, Option, find}
use Rattle.error_events.specs.declared.event.Event.{Event}
use Rattle.error_events.specs.declared.kind.Kind.{Kind}
use Rattle.error_events.specs.declared.kind.Kind.TheVariants.{Read, Write, Value, Cond, Param, Free, Jump}
use Rattle.error_events.specs.declared.kind.ParameterFault.{ParameterFault}
use Rattle.error_events.specs.declared.kind.ParameterFault.TheVariants.{Contains, Uninit, Unaddressable}
use Rattle.error_events.specs.declared.parameter.Parameter.{Parameter}
use Rattle.error_events.specs.declared.parameter.Parameter.TheVariants.{ReadBuffer}

-- is a fault of a parameter a use? `read` fills its buffer and reads nothing from it
abbrev pub fault_is_use : Parameter → ParameterFault → Bool
fault_is_use parameter Contains = true
fault_is_use parameter Uninit = true
fault_is_use ReadBuffer Unaddressable = false
fault_is_use _ Unaddressable = true

-- is an error a use? An invalid write, free or jump uses no value
abbrev pub is_use : Kind → Bool
is_use (Read n) = true
is_use (Write n) = false
is_use Value = true
is_use Cond = true
is_use (Param parameter fault) = fault_is_use parameter fault
is_use Free = false
is_use Jump = false

-- none of these errors is a use
abbrev pub NoUse : List Event → Type 0
NoUse [] = Unit {0}
NoUse (e ∷ es) = (is_use e.kind ≡ false) × NoUse es

-- the first of these errors that is a use
abbrev pub first_use : List Event → Option Event
first_use es = find (λ e. is_use e.kind) es
