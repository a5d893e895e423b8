-- Steps of the heap calls.
use Rattle.std.proofs.Common.{◌≡◌, ℕ, ◌+◌, ◌-◌, ◌<◌, ◌≤◌, max, Bool, true, false, cond, nat_lt, refl, ap, sym, subst}
use Rattle.std.proofs.Common.{inl, [], Option, Some, None, slice_index, arith}
use Rattle.std.proofs.lemmas.Bool.Decides.{nat_tests}
use Rattle.std.proofs.Math.Path.{fun_ext}
use Rattle.shadow_memory.specs.Ranges.{above, offset, is_in, changed_in, window, written, copied}
use Rattle.shadow_memory.specs.Changes.{AreApart}
use Rattle.call_stacks.specs.declared.block.Block.{Block}
use Rattle.guest_machine.specs.HeapCalls.{IsClearOf}
use Rattle.memory_map.specs.Regions.{greatest_heap_begin, heap_size}
use Rattle.guest_heap.specs.Blocks.{Blocks, IsKept, Places, IsFirstLive, greatest_size, low_end, high_end}
use Rattle.guest_heap.specs.Steps.{place, AreInRegion}
use Rattle.guest_heap.specs.Laws.{PlaceIsLeast}
use Rattle.guest_machine.specs.Effects.{no_bytes}

-- the bytes of an empty slice, and zeros
pub zeros_written : (f : ℕ → ℕ) (start n : ℕ) → written f start n (slice_index []) ≡ written f start n no_bytes
zeros_written f start n = ap (written f start n) (fun_ext (λ i. refl))

-- there is no place for what is greater than the greatest block
pub no_place : PlaceIsLeast → (blocks : Blocks) (size redzone : ℕ) → AreInRegion blocks → 0xFFFFFFFF < size
    → place blocks size redzone ≡ None
no_place law blocks size redzone region large = go (place blocks size redzone) (law blocks size redzone region)
  where
    go : (found : Option ℕ) → Places blocks size redzone found → found ≡ None
    go None h = refl
    go (Some p) h = absurd (omega (arith, h.place.small))

-- the live block at an address, by the first from there on
pub live_there : (blocks : Blocks) (p : ℕ) (b : Block) → IsFirstLive blocks.live p b → b.start ≡ p
    → blocks.live p ≡ Some b
live_there blocks p b h e = subst (λ a. blocks.live a ≡ Some b) e h.there

-- none, where the first begins above
pub live_none : (blocks : Blocks) (p : ℕ) (b : Block) → IsFirstLive blocks.live p b → (b.start ≡ p → ⊥)
    → blocks.live p ≡ None
live_none blocks p b h n = h.least p (omega arith) (let above : p ≤ b.start = h.above in omega arith)

-- a copy writes what it takes
pub copied_written : (f : ℕ → ℕ) (from to n : ℕ) → copied f from to n ≡ written f to n (window f from n)
unfolding copied written changed_in window
copied_written f from to n = fun_ext (λ a. go a (is_in to n a) refl)
  where
    go : (a : ℕ) (b : Bool) → is_in to n a ≡ b
        → cond b (f (above from (offset to a))) (f a)
        ≡ cond b (cond (nat_lt (offset to a) n) (f (above from (offset to a))) 0) (f a)
    go a false h = refl
    go a true h =
        let within : nat_lt (offset to a) n ≡ true = grind (arith, nat_tests) in
        ap (λ b. cond b (f (above from (offset to a))) 0) (sym within)

-- a live block lies apart from one that is allocated then
pub moved_apart : (blocks : Blocks) (b : Block) (p q size redzone n : ℕ) → blocks.live p ≡ Some b → b.start ≡ p
    → p < greatest_heap_begin + heap_size → IsClearOf blocks size redzone q → size ≤ greatest_size
    → redzone ≤ q → q + max size 1 + redzone ≤ greatest_heap_begin + heap_size → n ≤ b.size → n ≤ size
    → AreApart p q n
moved_apart blocks b p q size redzone n live start low clear small left right few some i h =
    let kept : IsKept blocks b = inl (subst (λ a. blocks.live a ≡ Some b) (sym start) live) in
    let not-met : (q - redzone < high_end b) → (low_end b < q + max size 1 + redzone)
    → ⊥ = λ x y. clear b kept (x, y) in
    go p q size redzone n i b.start b.size b.redzone start not-met low small left right few some h
  where
    go : (p q size redzone n i start bytes zone : ℕ) → start ≡ p
        → ((q - redzone < start + max bytes 1 + zone) → (start - zone < q + max size 1 + redzone) → ⊥)
        → p < greatest_heap_begin + heap_size → size ≤ greatest_size → redzone ≤ q
        → q + max size 1 + redzone ≤ greatest_heap_begin + heap_size → n ≤ bytes → n ≤ size → i < n
        → is_in q n (above p i) ≡ false
    go p q size redzone n i start bytes zone s m low small left right few some h = grind (arith, nat_tests)
