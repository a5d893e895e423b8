-- Errors, and their groups: for each kind and trace, in order of first occurrence, the number of errors, and the note
-- of the first one (Valgrind user manual, section 2.4: an error is compared with the earlier ones, and one that is the
-- same is only counted).
use Rattle.std.specs.Prelude.{ℕ, ◌==◌, ◌&&◌, Bool, true, false, nat_eq, if◌then◌else◌, List, [], ◌∷◌, ◌++◌, map, min}
use Rattle.std.specs.Prelude.{count_by}
use Rattle.std.specs.List.{list_any}
use Rattle.std.specs.Str.{bytes_eq}
use Rattle.std.specs.Cmp.Lexicographic.{pointwise}
use Rattle.error_events.specs.Parameters.{parameter_text}
use Rattle.error_events.specs.declared.kind.ParameterFault.{ParameterFault}
use Rattle.error_events.specs.declared.kind.ParameterFault.TheVariants.{Contains, Uninit, Unaddressable}
use Rattle.error_events.specs.declared.kind.Kind.{Kind}
use Rattle.error_events.specs.declared.kind.Kind.TheVariants.{Read, Write, Value, Cond, Param, Free, Jump}
use Rattle.error_events.specs.declared.event.Event.{Event}
use Rattle.error_events.specs.declared.event.Group.{Group}

abbrev pub same_fault : ParameterFault → ParameterFault → Bool
same_fault Contains Contains = true
same_fault Uninit Uninit = true
same_fault Unaddressable Unaddressable = true
same_fault _ _ = false

-- do two kinds have one text?
abbrev pub same_kind : Kind → Kind → Bool
same_kind (Read m) (Read n) = m == n
same_kind (Write m) (Write n) = m == n
same_kind Value Value = true
same_kind Cond Cond = true
same_kind (Param p f) (Param q g) = bytes_eq (parameter_text p) (parameter_text q) && same_fault f g
same_kind Free Free = true
same_kind Jump Jump = true
same_kind _ _ = false

abbrev pub same_trace : List ℕ → List ℕ → Bool
same_trace = pointwise nat_eq

-- do two errors have one kind and one trace?
unfoldable pub same_key : Event → Event → Bool
same_key d e = same_kind d.kind e.kind && same_trace d.trace e.trace

-- of some errors, those that are the first of their key, after these
unfoldable pub firsts_after : List Event → List Event → List Event
firsts_after seen [] = []
firsts_after seen (e ∷ es) =
    if list_any (λ d. same_key d e) seen then firsts_after seen es else e ∷ firsts_after (seen ++ e ∷ []) es

-- the greatest count
abbrev pub most : ℕ
most = 18446744073709551615

-- the group of an error that is the first of its key
unfoldable pub group_of : List Event → Event → Group
group_of es e = record { kind = e.kind; trace = e.trace; count = min (count_by (same_key e) es) most; note = e.note }

-- the groups of a list of errors
unfoldable pub grouped : List Event → List Group
grouped es = map (group_of es) (firsts_after [] es)
