-- What a suppression is for: the kinds of errors of Memcheck (Memcheck manual, section 4.4), where an access of 1, 2 or
-- 4 bytes is a read or a write.
use Rattle.std.specs.Prelude.{◌≡◌, ◌==◌, Bool, true, false, IsTrue}
use Rattle.std.specs.Str.{bytes_eq}
use Rattle.error_events.specs.declared.kind.Kind.TheVariants as kinds
use Rattle.leak_graph.specs.declared.leak_kind.LeakKind.{LeakKind}
use Rattle.leak_graph.specs.declared.leak_kind.LeakKind.TheVariants.{Definite, Indirect, Possible, Reachable}
use Rattle.error_events.specs.Parameters.{parameter_text}
use Rattle.suppressions.specs.declared.target.Target.{Target}
use Rattle.suppressions.specs.declared.target.Target.TheVariants as targets
use Rattle.suppressions.specs.declared.leak_kinds.LeakKinds.{LeakKinds}
use Rattle.suppressions.specs.declared.subject.Subject.{Subject}
use Rattle.suppressions.specs.declared.subject.Subject.TheVariants.{Access, Value, Condition, Parameter, Release, Jump}
use Rattle.suppressions.specs.declared.subject.Subject.TheVariants.{Leak}

-- does a set have a leak kind?
abbrev pub has_kind : LeakKinds → LeakKind → Bool
has_kind kinds Definite = kinds.definite
has_kind kinds Indirect = kinds.indirect
has_kind kinds Possible = kinds.possible
has_kind kinds Reachable = kinds.reachable

-- a suppression is for an error of a kind, or a leak of one; a parameter's text is compared exactly
abbrev pub IsFor : Subject → Target → Type 0
IsFor (Access size) (targets.Error (kinds.Read n)) = n ≡ size
IsFor (Access size) (targets.Error (kinds.Write n)) = n ≡ size
IsFor Value (targets.Error kinds.Value) = Unit {0}
IsFor Condition (targets.Error kinds.Cond) = Unit {0}
IsFor (Parameter text) (targets.Error (kinds.Param parameter fault)) = parameter_text parameter ≡ text
IsFor Release (targets.Error kinds.Free) = Unit {0}
IsFor Jump (targets.Error kinds.Jump) = Unit {0}
IsFor (Leak kinds) (targets.Leak kind) = IsTrue (has_kind kinds kind)
IsFor subject target = ⊥

-- the same as a function
abbrev pub is_for : Subject → Target → Bool
is_for (Access size) (targets.Error (kinds.Read n)) = n == size
is_for (Access size) (targets.Error (kinds.Write n)) = n == size
is_for Value (targets.Error kinds.Value) = true
is_for Condition (targets.Error kinds.Cond) = true
is_for (Parameter text) (targets.Error (kinds.Param parameter fault)) = bytes_eq (parameter_text parameter) text
is_for Release (targets.Error kinds.Free) = true
is_for Jump (targets.Error kinds.Jump) = true
is_for (Leak kinds) (targets.Leak kind) = has_kind kinds kind
is_for subject target = false
