-- What a heap knows of its places, as blocks come and go.
use Rattle.std.proofs.Common.{◌≡◌, ℕ, ◌+◌, ◌-◌, ◌%◌, ◌<◌, List, [], Some, inl, inr, drop, refl, sym, subst}
use Rattle.call_stacks.specs.declared.block.Block.{Block}
use Rattle.guest_heap.specs.Blocks.{Blocks, IsKept, IsPlace, with_block, queue_with, freed_by}
use Rattle.guest_heap.specs.Entries.{Entries}
use Rattle.guest_heap.specs.Runs.{first_of}
use Rattle.guest_heap.specs.States.{AreSound, EndsBelow, BeginsAbove, shown}
use Rattle.guest_heap.specs.Bounds.{AreBounds, AreFresh, IsLowered}
use Rattle.guest_heap.specs.Gaps.{AreKnown, IsRaised}
use Rattle.guest_heap.specs.declared.bounds.Bound.{Bound}
use Rattle.guest_heap.specs.declared.bounds.Opened.{Opened}
use Rattle.guest_heap.specs.declared.entry.Entry.{Entry}
use Rattle.guest_heap.specs.declared.gaps.row.GapRow.{GapRow}
use Rattle.guest_heap.proofs.Bounding.{absent_bounds, fresh_bounds}
use Rattle.guest_heap.proofs.BoundSteps.{no_more_bounds, put_keeps, freed_keeps, forgotten}
use Rattle.guest_heap.proofs.GapSteps.{kept_gaps, no_gaps, raised_gaps}
use Rattle.guest_heap.proofs.NoPlaces.{SameEnds, no_more}

-- where each interval is kept
kept_known : (old new : Blocks) (redzone : ℕ) (bounds : List Bound) (rows : List GapRow) → new.begin ≡ old.begin
    → ((b : Block) → IsKept old b → SameEnds new b)
    → AreKnown old redzone bounds rows → AreKnown new redzone bounds rows
kept_known old new redzone bounds rows same kept known = record {
  by_class = no_more_bounds old new redzone bounds same kept known.by_class;
  by_part =
      kept_gaps old new redzone rows (λ size from to. no_more old new size redzone from to same kept) known.by_part;
}

pub known_put : (blocks : Blocks) (b : Block) (redzone : ℕ) (bounds : List Bound) (rows : List GapRow)
    → IsPlace blocks b.size b.redzone b.start → AreKnown blocks redzone bounds rows
    → AreKnown (with_block blocks b) redzone bounds rows
known_put blocks b redzone bounds rows place =
    kept_known blocks (with_block blocks b) redzone bounds rows refl (put_keeps blocks b place)

pub known_freed : (blocks : Blocks) (b : Block) (trace : List ℕ) (redzone : ℕ) (bounds : List Bound)
    (rows : List GapRow) → blocks.live b.start ≡ Some b → AreKnown blocks redzone bounds rows
    → AreKnown (queue_with blocks (freed_by trace b)) redzone bounds rows
known_freed blocks b trace redzone bounds rows there =
    kept_known blocks (queue_with blocks (freed_by trace b)) redzone bounds rows refl (freed_keeps blocks b trace there)

pub same_known : (begin : ℕ) (live live' : Entries) (queue queue' : List Entry) (redzone : ℕ) (bounds : List Bound)
    (rows : List GapRow) → live' ≡ live → queue' ≡ queue
    → AreKnown (shown begin live queue) redzone bounds rows → AreKnown (shown begin live' queue') redzone bounds rows
same_known begin live live' queue queue' redzone bounds rows l q known =
    let P : Entries → Type 0 = λ f. AreKnown (shown begin f queue') redzone bounds rows in
    let Q : List Entry → Type 0 = λ es. AreKnown (shown begin live es) redzone bounds rows in
    subst P (sym l) (subst Q (sym q) known)

pub known_anew : (blocks : Blocks) (redzone : ℕ) (bounds : List Bound) (rows : List GapRow) → AreFresh bounds
    → rows ≡ [] → AreKnown blocks redzone bounds rows
known_anew blocks redzone bounds rows fresh none = record {
  by_class = fresh_bounds blocks redzone bounds fresh;
  by_part = no_gaps blocks redzone rows none;
}

-- the oldest entry has left
pub known_forgotten : (begin : ℕ) (live freed : Entries) (queue rest : List Entry) (number : ℕ)
    (sound : AreSound begin live freed queue number) (e : Entry)
    → Some e ≡ first_of queue → rest ≡ drop 1 queue → (redzone end : ℕ) (o : Opened)
    → EndsBelow (shown begin live queue) e.start end
    → BeginsAbove (shown begin live queue) e.start o.end → o.first % 16 ≡ 0 → o.first < end + redzone + 16
    → o.room ≡ o.end - (o.first + redzone)
    → (bounds bounds' : List Bound) (rows rows' : List GapRow) → IsLowered o bounds bounds' → IsRaised o rows rows'
    → AreKnown (shown begin live queue) redzone bounds rows → AreKnown (shown begin live rest) redzone bounds' rows'
known_forgotten begin live freed queue rest number sound e h d redzone end o low high even near fits bounds bounds' rows
    rows' lower raise known =
    let f = forgotten begin live freed queue rest number sound e h d redzone end o low high even near fits in
    let P : List Bound → Type 0 = AreBounds (shown begin live rest) redzone in
    record {
      by_class = elim lower [
        | inl is ↦ subst P (sym is) (f.1 bounds known.by_class)
        | inr none ↦ absent_bounds (shown begin live rest) redzone bounds' none
      ];
      by_part =
          raised_gaps (shown begin live queue) (shown begin live rest) o redzone f.0 rows rows' raise known.by_part;
    }
