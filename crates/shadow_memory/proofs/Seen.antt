-- A change of cells, as a change of bytes and as one of shadows.
use Rattle.std.proofs.Common.{◌≡◌, ℕ, Bool, true, false, refl, ap, sym, ◌∙◌, ◌==◌, ◌≢◌, ◌⊎◌, inl, inr, eq-eqb, ne_eqb}
use Rattle.std.proofs.Common.{Result, Ok, Err, IfOk, OnOk, OnErr, List, slice_index, rules, if◌then◌else◌}
use Rattle.std.proofs.Math.Path.{fun_ext}
use Rattle.std.proofs.lemmas.Bool.{cases_eq}
use Rattle.shadow_memory.specs.Cells.{set_at, shadow_in}
use Rattle.shadow_memory.specs.Places.{changed_from}
use Rattle.shadow_memory.specs.Changes.{copied_cell, filled, ranged, received, stored, SomeFront}
use Rattle.shadow_memory.specs.Fronts.{HasCopied, HasFilled, HasReceived, HasStored}
use Rattle.shadow_memory.specs.Memories.{bytes_in, shadows_in, cells_of}
use Rattle.shadow_memory.specs.Ranges.{above, byte_of, changed_in, copied, written}
use Rattle.shadow_memory.specs.Shadows.{copied_undef, loaded_undef, made_so, shadow_of, stored_shadow, stored_undef}
use Rattle.shadow_memory.specs.declared.cells.Cell.{Cell}
use Rattle.shadow_memory.specs.declared.cells.RangeKind.{RangeKind}
use Rattle.shadow_memory.specs.declared.cells.RangeKind.TheVariants.{NoAccess, Undefined, Defined}
use Rattle.shadow_memory.specs.declared.memory.Memory.{Memory}
use Rattle.shadow_memory.proofs.Growing.{choose-through, range-seen, range-unseen, set-one}
use Rattle.definedness.specs.declared.Bits.{Bits}

stored-cell-seen : (accessible : Bool) (undef made byte : ℕ)
    → shadow_in (record { byte = byte; accessible = accessible; undef = if accessible then made else undef })
    ≡ stored_shadow made (record { accessible = accessible; undef = undef })
stored-cell-seen true undef made byte = refl
stored-cell-seen false undef made byte = refl

pub stored-seen : (old new : Memory) (start n : ℕ) (bits : Bits)
    → cells_of new ≡ changed_in (cells_of old) start n (stored bits) → HasStored old new start n bits
unfolding bytes_in shadows_in written stored_undef
stored-seen old new start n bits is = (
  ap (λ (f : ℕ → Cell). λ a. (f a).byte) is
      ∙ range-seen (λ c. c.byte) (cells_of old) start n (stored bits) (λ i b. byte_of bits.value i) (λ i c. refl),
  ap (λ (f : ℕ → Cell). λ a. shadow_in (f a)) is
      ∙ range-seen shadow_in (cells_of old) start n (stored bits) (λ i s. stored_shadow (byte_of bits.undef i) s)
      (λ i c. stored-cell-seen c.accessible c.undef (byte_of bits.undef i) (byte_of bits.value i)),
)

kind-seen : (kind : RangeKind) (i : ℕ) (c : Cell) → shadow_in (ranged kind i c) ≡ shadow_of kind
kind-seen NoAccess i c = refl
kind-seen Undefined i c = refl
kind-seen Defined i c = refl

pub made-unseen : (old new : Memory) (start n : ℕ) (kind : RangeKind)
    → cells_of new ≡ changed_in (cells_of old) start n (ranged kind) → bytes_in new ≡ bytes_in old
unfolding bytes_in
made-unseen old new start n kind is =
    ap (λ (f : ℕ → Cell). λ a. (f a).byte) is
    ∙ range-unseen (λ c. c.byte) (cells_of old) start n (ranged kind) (λ i c. refl)

pub made-seen : (old new : Memory) (start n : ℕ) (kind : RangeKind)
    → cells_of new ≡ changed_in (cells_of old) start n (ranged kind)
    → shadows_in new ≡ made_so (shadows_in old) start n kind
unfolding shadows_in made_so
made-seen old new start n kind is =
    ap (λ (f : ℕ → Cell). λ a. shadow_in (f a)) is
    ∙ range-seen shadow_in (cells_of old) start n (ranged kind) (λ i s. shadow_of kind) (kind-seen kind)

pub filled-seen : (old new : Memory) (start n : ℕ) (bytes : List ℕ)
    → cells_of new ≡ changed_in (cells_of old) start n (filled (slice_index bytes)) → HasFilled old new start n bytes
unfolding bytes_in shadows_in written made_so
filled-seen old new start n bytes is = (
  ap (λ (f : ℕ → Cell). λ a. (f a).byte) is
      ∙ range-seen (λ c. c.byte) (cells_of old) start n (filled (slice_index bytes)) (λ i b. slice_index bytes i)
      (λ i c. refl),
  ap (λ (f : ℕ → Cell). λ a. shadow_in (f a)) is
      ∙ range-seen shadow_in (cells_of old) start n (filled (slice_index bytes)) (λ i s. shadow_of Defined)
      (λ i c. refl),
)

-- a number of no bits set has bytes of none
pub zero-byte : (i : ℕ) → byte_of 0 i ≡ 0
unfolding byte_of
zero-byte i = search rules

pub received-seen : (old new : Memory) (start n : ℕ) (bytes : List ℕ)
    → cells_of new ≡ changed_in (cells_of old) start n (received (slice_index bytes))
    → HasReceived old new start n bytes
unfolding bytes_in shadows_in written stored_undef
received-seen old new start n bytes is = (
  ap (λ (f : ℕ → Cell). λ a. (f a).byte) is
      ∙ range-seen (λ c. c.byte) (cells_of old) start n (received (slice_index bytes)) (λ i b. slice_index bytes i)
      (λ i c. refl),
  ap (λ (f : ℕ → Cell). λ a. shadow_in (f a)) is
      ∙ range-seen shadow_in (cells_of old) start n (received (slice_index bytes))
      (λ i s. stored_shadow (byte_of 0 i) s)
      (λ i c. stored-cell-seen c.accessible c.undef 0 (slice_index bytes i)
      ∙ ap (λ b. stored_shadow b (shadow_in c)) (sym (zero-byte i))),
)

copied-cell-seen : (source target : Cell)
    → shadow_in (record {
      byte = source.byte;
      accessible = target.accessible;
      undef = if target.accessible
          then loaded_undef (shadow_in source) else target.undef;
    })
    ≡ stored_shadow (loaded_undef (shadow_in source)) (shadow_in target)
copied-cell-seen source target =
    stored-cell-seen target.accessible target.undef (loaded_undef (shadow_in source)) source.byte

pub copied-seen : (old new : Memory) (from to n : ℕ)
    → cells_of new ≡ changed_in (cells_of old) to n (copied_cell (cells_of old) from) → HasCopied old new from to n
unfolding bytes_in shadows_in written copied copied_undef
copied-seen old new from to n is = (
  ap (λ (f : ℕ → Cell). λ a. (f a).byte) is
      ∙ range-seen (λ c. c.byte) (cells_of old) to n (copied_cell (cells_of old) from)
      (λ i b. (cells_of old (above from i)).byte) (λ i c. refl),
  ap (λ (f : ℕ → Cell). λ a. shadow_in (f a)) is
      ∙ range-seen shadow_in (cells_of old) to n (copied_cell (cells_of old) from)
      (λ i s. stored_shadow (loaded_undef (shadow_in (cells_of old (above from i)))) s)
      (λ i c. copied-cell-seen (cells_of old (above from i)) c),
)

-- one cell that takes a byte, and keeps what else is known of it
pub poked-seen : (old new : Memory) (addr byte : ℕ) (cell : Cell) → cell ≡ cells_of old addr
    → cells_of new ≡ changed_from (cells_of old) addr 1
    (λ i x. record { byte = byte; accessible = cell.accessible; undef = cell.undef })
    → (bytes_in new ≡ set_at (bytes_in old) addr byte) × (shadows_in new ≡ shadows_in old)
unfolding bytes_in shadows_in
poked-seen old new addr byte cell cell-is is =
    let made : Cell = record { byte = byte; accessible = cell.accessible; undef = cell.undef } in
    let set : cells_of new ≡ set_at (cells_of old) addr made = is ∙ set-one (cells_of old) addr made in (
      ap (λ (f : ℕ → Cell). λ a. (f a).byte) set
          ∙ fun_ext (λ a. choose-through (λ (c : Cell). c.byte) (a == addr) made (cells_of old a) byte refl),
      ap (λ (f : ℕ → Cell). λ a. shadow_in (f a)) set ∙ fun_ext (λ a. keeps-shadow a (cases_eq a addr)),
    )
  where
    keeps-shadow : (a : ℕ) → (a ≡ addr) ⊎ (a ≢ addr)
        → shadow_in (set_at (cells_of old) addr
        (record { byte = byte; accessible = cell.accessible; undef = cell.undef }) a) ≡ shadow_in (cells_of old a)
    keeps-shadow a (inl here) = rw (here, eq-eqb addr addr refl, cell-is) refl
    keeps-shadow a (inr away) = rw (ne_eqb a addr away) refl

pub unchanged-bytes : (old new : Memory) → cells_of new ≡ cells_of old → bytes_in new ≡ bytes_in old
unfolding bytes_in
unchanged-bytes old new is = ap (λ (f : ℕ → Cell). λ a. (f a).byte) is

pub unchanged-shadows : (old new : Memory) → cells_of new ≡ cells_of old → shadows_in new ≡ shadows_in old
unfolding shadows_in
unchanged-shadows old new is = ap (λ (f : ℕ → Cell). λ a. shadow_in (f a)) is

-- what holds at success and at failure
pub either_way : {T E P : Type 0} (r : Result T E) → OnOk r P → OnErr r P → P
either_way (Ok x) h k = h
either_way (Err e) h k = k

-- what holds anyway holds at a failure
pub at_refusal : {T E P : Type 0} (r : Result T E) → P → OnErr r P
at_refusal (Ok x) p = tt
at_refusal (Err e) p = p

-- two clauses on a value, if there is one
pub both-ok : {T E : Type 0} (r : Result T E) (P Q : T → Type 0) → IfOk r P → IfOk r Q → IfOk r (λ x. P x × Q x)
both-ok (Ok x) P Q p q = (p, q)
both-ok (Err e) P Q p q = tt

-- a front, seen otherwise
pub front-seen : (n : ℕ) (P Q : ℕ → Type 0) → ((k : ℕ) → P k → Q k) → SomeFront n P → SomeFront n Q
front-seen n P Q seen front = (front.0, front.1, seen front.0 front.2)
