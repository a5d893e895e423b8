-- A clone of a leaf, and a new one.
use Rattle.std.proofs.Common.{◌≡◌, ℕ, zero, suc, List, [], ◌∷◌, Option, None, Some, slice_index_or}
use Rattle.std.proofs.Common.{replicate, is_some, true, false, refl, ap, ◌∙◌}
use Rattle.std.proofs.Math.Path.{fun_ext}
use Rattle.std.specs.List.{AllZip}
use Rattle.std.specs.declared.alloc.Global.{Global}
use Rattle.std.specs.declared.rc.Rc.{Rc}
use Rattle.guest_heap.specs.Entries.{entry_of}
use Rattle.guest_heap.specs.Leaves.{entries_in}
use Rattle.guest_heap.specs.Unused.{AreUnused}
use Rattle.guest_heap.specs.declared.entry.Entry.{Entry}
use Rattle.guest_heap.specs.declared.table.leaf.Leaf.{Leaf}

-- what `clone` ensures of an optional pointer
abbrev pub slot_clone : {T : Type 0} → Option (Rc T Global) → Option (Rc T Global) → Type 0
slot_clone None None = Unit {0}
slot_clone None (Some q) = ⊥
slot_clone (Some p) None = ⊥
slot_clone (Some p) (Some q) = q.value ≡ p.value

-- a list and its clone, slot by slot, where a clone of a pointer points to the same value
module _ {T : Type 0} {S : Type 0} (R : Option (Rc T Global) → Option (Rc T Global) → Type 0)
    (both : (p q : Rc T Global) → R (Some p) (Some q) → q.value ≡ p.value) (left : (p : Rc T Global) → R (Some p) None
    → ⊥)
    (right : (p : Rc T Global) → R None (Some p) → ⊥) (shown : Option (Rc T Global) → S)
    (by_value : (p q : Rc T Global) → q.value ≡ p.value → shown (Some q) ≡ shown (Some p)) where
  same_slot : (x y : Option (Rc T Global)) → R x y → shown y ≡ shown x
  same_slot None None h = refl
  same_slot None (Some q) h = absurd (right q h)
  same_slot (Some p) None h = absurd (left p h)
  same_slot (Some p) (Some q) h = by_value p q (both p q h)

  pub same_slots : (xs ys : List (Option (Rc T Global))) → AllZip R xs ys → (i : ℕ)
      → shown (slice_index_or ys i None) ≡ shown (slice_index_or xs i None)
  same_slots [] [] h i = refl
  same_slots [] (y ∷ ys) h i = absurd h
  same_slots (x ∷ xs) [] h i = absurd h
  same_slots (x ∷ xs) (y ∷ ys) h zero = same_slot x y h.0
  same_slots (x ∷ xs) (y ∷ ys) h (suc i) = same_slots xs ys h.1 i

pub same_in : (a b : Leaf) → ((i : ℕ) → entry_of (slice_index_or b.slots.items i None)
    ≡ entry_of (slice_index_or a.slots.items i None)) → entries_in b ≡ entries_in a
unfolding entries_in
same_in a b h = fun_ext h

pub entry_by_value : (p q : Rc Entry Global) → q.value ≡ p.value → entry_of (Some q) ≡ entry_of (Some p)
entry_by_value p q e = rw e refl

-- a clone of no pointer is none
pub cloned_none : {T : Type 0} (clone : Option (Rc T Global)) → slot_clone None clone → clone ≡ None
cloned_none None h = refl
cloned_none (Some p) h = absurd h

-- n slots, each empty: what is at a place, and that none is in use
none_replicated : {T : Type 0} (n k : ℕ) → slice_index_or (replicate n (let none : Option T = None in none)) k None
    ≡ None
none_replicated zero k = refl
none_replicated (suc n) zero = refl
none_replicated (suc n) (suc k) = none_replicated n k

pub none_used : {T : Type 0} (slots : List (Option T)) (n : ℕ) → slots ≡ replicate n None → AreUnused slots 0
none_used slots n e k _ = ap (λ xs. is_some (slice_index_or xs k None)) e ∙ ap is_some (none_replicated n k)

-- a leaf of nothing
pub none_in : (leaf : Leaf) (n : ℕ) → leaf.slots.items ≡ replicate n None → entries_in leaf ≡ (λ _. None)
unfolding entries_in
none_in leaf n e = fun_ext (λ k. ap (λ xs. entry_of (slice_index_or xs k None)) e ∙ ap entry_of (none_replicated n k))

pub entry_found : (slot : Option (Rc Entry Global)) → is_some slot ≡ true → is_some (entry_of slot) ≡ true
entry_found None h = h
entry_found (Some p) h = refl

pub entry_missing : (slot : Option (Rc Entry Global)) → is_some slot ≡ false → entry_of slot ≡ None
entry_missing None h = refl
entry_missing (Some p) h = cc

-- slots that are not used --

same-use : {T : Type 0} (x y : Option (Rc T Global)) → slot_clone x y → is_some y ≡ is_some x
same-use None None c = refl
same-use None (Some q) c = absurd c
same-use (Some p) None c = absurd c
same-use (Some p) (Some q) c = refl

pub same_uses : {T : Type 0} (us vs : List (Option (Rc T Global))) → AllZip slot_clone us vs → (i : ℕ)
    → is_some (slice_index_or vs i None) ≡ is_some (slice_index_or us i None)
same_uses [] [] c i = refl
same_uses [] (v ∷ vs) c i = absurd c
same_uses (u ∷ us) [] c i = absurd c
same_uses (u ∷ us) (v ∷ vs) c zero = same-use u v c.0
same_uses (u ∷ us) (v ∷ vs) c (suc i) = same_uses us vs c.1 i
