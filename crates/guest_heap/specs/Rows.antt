-- The entries of consecutive parts, by the number of a part and the place in it, and by places numbered through.
use Rattle.std.specs.Prelude.{ℕ, ◌+◌, ◌<◌, ◌≤◌, ◌==◌, ◌/◌, ◌%◌, Option, None}
use Rattle.std.specs.Prelude.{if◌then◌else◌, slice_index_or}
use Rattle.guest_heap.specs.Entries.{Entries, entries_at, with_entry, AreNone, FirstAt, LastAt}
use Rattle.guest_heap.specs.declared.entry.Entry.{Entry}
use Rattle.guest_heap.specs.declared.table.row.Row.{Row}

abbrev pub Grid : Type 0
Grid = ℕ → Entries

unfoldable pub grid_of : {P : Type 0} → (P → Entries) → Row P → Grid
grid_of entries row = λ i. entries_at entries (slice_index_or row.parts.items i None)

-- the grid with one entry changed
abbrev pub with_cell : Grid → ℕ → ℕ → Option Entry → Grid
with_cell grid part at entry = λ i. if i == part then with_entry (grid i) at entry else grid i

-- the place in a part at which a search upwards begins: the given one in the first part, 0 in the others
abbrev pub begin_in : ℕ → ℕ → ℕ → ℕ
begin_in part at i = if i == part then at else 0

-- from a place of one part on there are no entries, in the parts up to, but not including, another; each has this
-- number of places
abbrev pub AreNoneUpTo : Grid → ℕ → ℕ → ℕ → ℕ → Type 0
AreNoneUpTo grid places part at end =
    (i : ℕ) → part ≤ i → i < end → AreNone (grid i) (begin_in part at i) places

-- the first place that has an entry
pub record FirstIn (grid : Grid) (places part at end i n : ℕ) : Type 0 where
  pub above : part ≤ i
  pub below : i < end
  pub first : FirstAt (grid i) (begin_in part at i) places n
  pub none : AreNoneUpTo grid places part at i

-- the place in a part at which a search downwards begins: the given one in the last part, its end in the others
abbrev pub end_in : ℕ → ℕ → ℕ → ℕ → ℕ
end_in places part at i = if i == part then at else places

-- below a place of one part there are no entries, in the parts from another on
abbrev pub AreNoneDownTo : Grid → ℕ → ℕ → ℕ → ℕ → Type 0
AreNoneDownTo grid places part at begin =
    (i : ℕ) → begin ≤ i → i ≤ part → AreNone (grid i) 0 (end_in places part at i)

-- the last place that has an entry
pub record LastIn (grid : Grid) (places part at i n : ℕ) : Type 0 where
  pub below : i ≤ part
  pub last : LastAt (grid i) (end_in places part at i) n
  pub none : AreNoneDownTo grid places part at (i + 1)

-- the entries of parts with w places each, by places numbered through
unfoldable pub entries_along : {P : Type 0} → ℕ → (P → Entries) → Row P → Entries
entries_along w entries row = λ k. grid_of entries row (k / w) (k % w)
