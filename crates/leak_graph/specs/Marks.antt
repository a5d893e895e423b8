-- What the private functions say of their marks: lists with one `Bool` for each block.
use Rattle.std.specs.Prelude.{◌≡◌, ℕ, ◌+◌, ◌<◌, ◌≤◌, ◌≢◌, Bool, true, false, List, length, ◌⊎◌, slice_index_or}
use Rattle.std.specs.Prelude.{slice_get, Some, not, count_by}
use Rattle.std.specs.Prelude.{if◌then◌else◌}
use Rattle.std.specs.List.{Contains}
use Rattle.leak_graph.specs.declared.leak_kind.LeakKind.{LeakKind}
use Rattle.leak_graph.specs.declared.leak_kind.LeakKind.TheVariants.{Definite, Indirect, Possible, Reachable}
use Rattle.leak_graph.specs.Paths.{HasPath, IsReached}

abbrev pub IsMarked : List Bool → ℕ → Type 0
IsMarked marks b = slice_index_or marks b false ≡ true

abbrev pub IsBlank : List Bool → Type 0
IsBlank marks = (b : ℕ) → IsMarked marks b → ⊥

-- no edge leads out of the marked nodes
abbrev pub IsClosed : (ℕ → ℕ → Type 0) → List Bool → Type 0
IsClosed edge marks = (a b : ℕ) → IsMarked marks a → edge a b → IsMarked marks b

unfoldable pub unmarked : List Bool → ℕ
unmarked marks = count_by not marks

-- the marks grew only by the targets, and those that weren't marked before are on the work list
pub record Grows (target : ℕ → Type 0) (old new : List Bool) (before after : List ℕ) : Type 0 where
  pub keeps : (b : ℕ) → IsMarked old b → IsMarked new b
  pub marks : (b : ℕ) → target b → IsMarked new b
  pub sound : (b : ℕ) → IsMarked new b → IsMarked old b ⊎ (target b × Contains after b)
  pub waits : (b : ℕ) → Contains before b → Contains after b
  pub fresh : (b : ℕ) → Contains after b → Contains before b ⊎ IsMarked new b
  pub count : unmarked new + length after ≡ unmarked old + length before

-- closed marks grew by the node and by what has a path from it, and are closed again
pub record Spreads (edge : ℕ → ℕ → Type 0) (from : ℕ) (old new : List Bool) : Type 0 where
  pub closed : IsClosed edge new
  pub keeps : (b : ℕ) → IsMarked old b → IsMarked new b
  pub start : IsMarked new from
  pub sound : (b : ℕ) → IsMarked new b → IsMarked old b ⊎ HasPath edge from b

-- exactly what has a path from a root is marked
pub record Reaches (root : ℕ → Type 0) (edge : ℕ → ℕ → Type 0) (marks : List Bool) : Type 0 where
  pub closed : IsClosed edge marks
  pub roots : (a : ℕ) → root a → IsMarked marks a
  pub sound : (b : ℕ) → IsMarked marks b → IsReached root edge b

-- among the n nodes that aren't marked, a node is a head exactly if no lesser head leads to it
pub record HeadsOf (edge : ℕ → ℕ → Type 0) (n : ℕ) (found heads : List Bool) : Type 0 where
  pub lost : (h : ℕ) → IsMarked heads h → IsMarked found h → ⊥
  pub apart : (h k : ℕ) → IsMarked heads h → IsMarked heads k → h < k → HasPath edge h k → ⊥
  pub owned : (c : ℕ) → c < n → IsMarked found c ⊎ ((h : ℕ) × IsMarked heads h × (h ≤ c) × HasPath edge h c)

-- among the heads, those to which no other head leads
pub record DefiniteOf (edge : ℕ → ℕ → Type 0) (heads definite : List Bool) : Type 0 where
  pub among : (h : ℕ) → IsMarked definite h → IsMarked heads h
  pub alone : (h k : ℕ) → IsMarked definite h → IsMarked heads k → k ≢ h → HasPath edge k h → ⊥
  pub others : (h : ℕ) → IsMarked heads h → IsMarked definite h
      ⊎ ((k : ℕ) × IsMarked heads k × (h < k) × HasPath edge k h)

-- the kind of a block by its marks
unfoldable pub kind_by : Bool → Bool → Bool → LeakKind
kind_by reachable found definite =
    if reachable then Reachable else (if found then Possible else (if definite then Definite else Indirect))

abbrev pub AreBy : List Bool → List Bool → List Bool → List LeakKind → Type 0
AreBy reachable found definite kinds = (b : ℕ) (kind : LeakKind) → slice_get kinds b ≡ Some kind
    → kind ≡ kind_by (slice_index_or reachable b false) (slice_index_or found b false) (slice_index_or definite b false)
