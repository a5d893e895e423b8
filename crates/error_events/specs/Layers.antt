-- Maps in order of age: their entries, and that no key is in two of them.
use Rattle.std.specs.Prelude.{Bool, List, [], ◌∷◌}
use Rattle.std.specs.List.{flat_map}
use Rattle.error_events.specs.Entries.{AreNew}

-- the entries of each map in turn
abbrev pub entries_in : {X : Type 0} → List (List X) → List X
entries_in maps = flat_map (λ entries. entries) maps

-- no key of a map is among those of a later one
unfoldable pub AreApart : {K V : Type 0} → (K → K → Bool) → List (List (K × V)) → Type 0
AreApart eq [] = Unit {0}
AreApart eq (entries ∷ later) = AreNew eq entries (entries_in later) × AreApart eq later
