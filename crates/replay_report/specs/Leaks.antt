-- The live blocks that a report shows as leaked, their groups, and their sums (Memcheck manual, section 4.2, "Memory
-- leak detection", and options `--show-leak-kinds` and `--num-callers`).
use Rattle.std.specs.Prelude.{ℕ, ◌+◌, ◌&&◌, Bool, true, false, not, if◌then◌else◌, List, [], ◌∷◌, filter, fold, length}
use Rattle.std.specs.Prelude.{min, sum_by, take, slice_index_or}
use Rattle.guest_elf.specs.declared.image.Image.{Image}
use Rattle.error_events.specs.Groups.{same_trace, most}
use Rattle.leak_graph.specs.declared.leak_kind.LeakKind.{LeakKind}
use Rattle.leak_graph.specs.declared.leak_kind.LeakKind.TheVariants.{Definite, Indirect, Possible, Reachable}
use Rattle.leak_search.specs.declared.record.LeakRecord.{LeakRecord}
use Rattle.suppressions.specs.Rules.{Rule, is_suppressed}
use Rattle.suppressions.specs.declared.target.Target.TheVariants.{Leak}
use Rattle.replay_report.specs.Filtering.{names_of}
use Rattle.replay_report.specs.declared.leaks.LeakKey.{LeakKey}
use Rattle.replay_report.specs.declared.leaks.BlockSum.{BlockSum}

-- is the leak of a block suppressed? A suppression sees the whole trace of the block's allocation
abbrev pub is_hidden : List Rule → Image → LeakRecord → Bool
is_hidden rules image r = is_suppressed rules (Leak r.kind) (names_of image r.trace)

-- the records that no suppression matches, and the others
unfoldable pub shown_records : List Rule → Image → List LeakRecord → List LeakRecord
shown_records rules image records = filter (λ r. not (is_hidden rules image r)) records

unfoldable pub hidden_records : List Rule → Image → List LeakRecord → List LeakRecord
hidden_records rules image records = filter (is_hidden rules image) records

-- are two leak kinds the same?
abbrev pub same_leak : LeakKind → LeakKind → Bool
same_leak Definite Definite = true
same_leak Indirect Indirect = true
same_leak Possible Possible = true
same_leak Reachable Reachable = true
same_leak _ _ = false

-- the records of a kind
unfoldable pub of_kind : LeakKind → List LeakRecord → List LeakRecord
of_kind kind records = filter (λ r. same_leak kind r.kind) records

-- the sum of some blocks: of their sizes, and their number; both stop at the greatest 64-bit number
unfoldable pub sum_of : List LeakRecord → BlockSum
sum_of records = record { bytes = min (sum_by (λ r. r.size) records) most; blocks = min (length records) most }

abbrev pub no_blocks : BlockSum
no_blocks = record { bytes = 0; blocks = 0 }

-- with another block
abbrev pub with_block : BlockSum → ℕ → BlockSum
with_block sum size = record { bytes = min (sum.bytes + size) most; blocks = min (sum.blocks + 1) most }

-- what the blocks of a group have in common: the kind, and the first addresses of the traces of their allocations
abbrev pub key_of : ℕ → LeakRecord → LeakKey
key_of callers r = record { kind = r.kind; trace = take callers r.trace }

abbrev pub same_key : LeakKey → LeakKey → Bool
same_key a b = same_leak a.kind b.kind && same_trace a.trace b.trace

-- groups with another block: it is counted in the group of its key, or begins a new last one
unfoldable pub with_leak : List (LeakKey × BlockSum) → LeakKey → ℕ → List (LeakKey × BlockSum)
with_leak [] key size = (key, with_block no_blocks size) ∷ []
with_leak (g ∷ gs) key size = if same_key key g.0 then (g.0, with_block g.1 size) ∷ gs else g ∷ with_leak gs key size

-- the groups of some records, in order of their first blocks
unfoldable pub leak_groups : ℕ → List LeakRecord → List (LeakKey × BlockSum)
leak_groups callers records = fold (λ groups r. with_leak groups (key_of callers r) r.size) [] records

-- is a kind among those that are shown?
abbrev pub is_shown : List Bool → LeakKind → Bool
is_shown show Definite = slice_index_or show 0 false
is_shown show Indirect = slice_index_or show 1 false
is_shown show Possible = slice_index_or show 2 false
is_shown show Reachable = slice_index_or show 3 false
