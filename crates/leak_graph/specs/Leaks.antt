-- The leak kind of each block, which paths of pointers define (Memcheck manual, section 4.2, "Memory leak detection").
-- In a ring that no other lost block leads to, the block with the lowest address is definitely lost, which is this
-- project's own rule.
use Rattle.std.specs.Prelude.{ℕ, ◌<◌, ◌≢◌, ◌⊎◌}
use Rattle.leak_graph.specs.Paths.{HasPath, IsReached}
use Rattle.leak_graph.specs.declared.leak_kind.LeakKind.{LeakKind}
use Rattle.leak_graph.specs.declared.leak_kind.LeakKind.TheVariants.{Definite, Indirect, Possible, Reachable}

-- Which block points to which; the blocks are numbered from 0 in the order of their addresses.
pub record Links : Type 1 where
  -- the number of blocks
  pub count : ℕ
  -- a root has a start-pointer to this block; a root has a pointer of either sort to it
  pub start_root : ℕ → Type 0
  pub root : ℕ → Type 0
  -- the first block has a start-pointer to the second; it has a pointer of either sort to it
  pub start_edge : ℕ → ℕ → Type 0
  pub edge : ℕ → ℕ → Type 0

-- a path of start-pointers from a root
abbrev pub IsReachable : Links → ℕ → Type 0
IsReachable links b = IsReached links.start_root links.start_edge b

-- some path from a root
abbrev pub IsFound : Links → ℕ → Type 0
IsFound links b = IsReached links.root links.edge b

-- a block to which no path leads
abbrev pub IsLost : Links → ℕ → Type 0
IsLost links b = (b < links.count) × (IsFound links b → ⊥)

-- a pointer of either sort, from a lost block to a lost block
abbrev pub LostEdge : Links → ℕ → ℕ → Type 0
LostEdge links a b = IsLost links a × IsLost links b × links.edge a b

-- another lost block c leads to b through lost blocks, and b doesn't lead back, or c's address is lower
abbrev pub IsHeldBy : Links → ℕ → ℕ → Type 0
IsHeldBy links b c =
    IsLost links c × (c ≢ b) × HasPath (LostEdge links) c b × ((HasPath (LostEdge links) b c → ⊥) ⊎ (c < b))

abbrev pub HasKind : Links → ℕ → LeakKind → Type 0
HasKind links b Reachable = IsReachable links b
HasKind links b Possible = IsFound links b × (IsReachable links b → ⊥)
HasKind links b Indirect = IsLost links b × ((c : ℕ) × IsHeldBy links b c)
HasKind links b Definite = IsLost links b × ((c : ℕ) → IsHeldBy links b c → ⊥)
