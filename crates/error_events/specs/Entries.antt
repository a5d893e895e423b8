-- The entries of a map that may be absent.
use Rattle.std.specs.Prelude.{◌≡◌, Bool, List, [], ◌∷◌, map, position, Option, Some, None}
use Rattle.std.specs.declared.rc.Rc.{Rc}
use Rattle.std.specs.declared.alloc.Global.{Global}
use Rattle.std.specs.declared.hash.FoldHasher.{FoldHasher}
use Rattle.std.specs.declared.hash.BuildHasherDefault.{BuildHasherDefault}
use Rattle.indexmap.specs.IndexMap.{IndexMap}

abbrev pub entries_of : {K V : Type 0} → Option (Rc (IndexMap K V (BuildHasherDefault FoldHasher)) Global)
    → List (K × V)
entries_of None = []
entries_of (Some shared) = shared.value.entries

-- the keys of some entries are not among those of others
unfoldable pub AreNew : {K V : Type 0} → (K → K → Bool) → List (K × V) → List (K × V) → Type 0
AreNew eq old [] = Unit {0}
AreNew eq old (e ∷ es) = (position (eq e.0) (map (λ x. x.0) old) ≡ None) × AreNew eq old es
