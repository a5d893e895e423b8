-- All values that point to a block lie in one range; so the words with values in it have all the pointers.
use Rattle.std.proofs.Common.{◌≡◌, ℕ, ◌+◌, ◌<◌, ◌≤◌, ◌%◌, ◌^◌, ◌==◌, ◌&&◌, nat_le, nat_lt, if◌then◌else◌, inl, inr}
use Rattle.std.proofs.Common.{List, Bool, true, false, None, Some, length, arith, sym, ◌∙◌, ap, slice_get}
use Rattle.std.proofs.lemmas.Bool.{cases_eq, false≢true}
use Rattle.std.proofs.lemmas.Bool.Decides.{nat_tests}
use Rattle.std.proofs.lemmas.Option.{same_Some, none-some, slice_get_within}
use Rattle.std.specs.declared.vec.Vec.{Vec}
use Rattle.std.specs.declared.alloc.Global.{Global}
use Rattle.call_stacks.specs.declared.block.Block.{Block}
use Rattle.leak_graph.specs.declared.graph.Pointer.{Pointer}
use Rattle.shadow_memory.specs.Shadows.{Shadow, holds_word}
use Rattle.shadow_memory.specs.Values.{value_at}
use Rattle.leak_search.specs.Words.{word_at}
use Rattle.leak_search.specs.Pointing.{IsPointer, PointsTo}
use Rattle.leak_search.specs.Gathering.{AreOrdered, word_within, Gains, EdgesGain, RootAny, EdgeAny}
use Rattle.leak_search.proofs.GatherSteps.{gains_as, edges_as}

from_start : (starts : Bool) (value : ℕ) (block : Block) → IsPointer starts value block → block.start ≤ value
from_start true value block p = omega arith
from_start false value block p = elim p [ inl e ↦ omega arith | inr i ↦ (let l = i.0 in omega arith) ]

to_end : (starts : Bool) (value : ℕ) (block : Block) → IsPointer starts value block
    → value < block.start + block.size + 1
to_end true value block p = omega arith
to_end false value block p = elim p [ inl e ↦ omega arith | inr i ↦ (let l = i.1 in omega arith) ]

pub from_first : (blocks : List Block) (first : Block) → AreOrdered blocks → slice_get blocks 0 ≡ Some first
    → (starts : Bool) (value b : ℕ) → PointsTo starts blocks value b → first.start ≤ value
from_first blocks first ordered at starts value b points =
    let low : points.0.start ≤ value = from_start starts value points.0 points.2 in
    elim (cases_eq b 0) [
      | inl e ↦
          let same : points.0 ≡ first = same_Some points.0 first (sym points.1 ∙ ap (λ x. slice_get blocks x) e ∙ at) in
          (let s = ap (λ (z : Block). z.start) same in omega arith)
      | inr other ↦ (let s = ordered.lower 0 b first points.0 (omega arith) at points.1 in omega arith)
    ]

pub to_last : (blocks : List Block) (last : Block) (k : ℕ) → AreOrdered blocks → length blocks ≡ k + 1
    → slice_get blocks k ≡ Some last → (starts : Bool) (value b : ℕ) → PointsTo starts blocks value b
    → value < last.start + last.size + 1
to_last blocks last k ordered len at starts value b points =
    let high : value < points.0.start + points.0.size + 1 = to_end starts value points.0 points.2 in
    let within : b < length blocks = slice_get_within blocks b points.0 points.1 in
    elim (cases_eq b k) [
      | inl e ↦
          let same : points.0 ≡ last = same_Some points.0 last (sym points.1 ∙ ap (λ x. slice_get blocks x) e ∙ at) in
          (let s = ap (λ (z : Block). z.start) same in let t = ap (λ (z : Block). z.size) same in omega arith)
      | inr other ↦ (let s = ordered.below b k points.0 last (omega arith) points.1 at in omega arith)
    ]

pub to_nothing : (blocks : List Block) → length blocks ≡ 0 → (starts : Bool) (value b : ℕ)
    → PointsTo starts blocks value b → ⊥
to_nothing blocks len starts value b points = (let within = slice_get_within blocks b points.0 points.1 in omega arith)

drop_range : (a b p q w : Bool) (x v : ℕ) → (if a && (b && (p && q && w)) then Some x else None) ≡ Some v
    → (if a && (b && w) then Some x else None) ≡ Some v
drop_range false b p q w x v h = h
drop_range true false p q w x v h = h
drop_range true true true true w x v h = h
drop_range true true true false w x v h = absurd (none-some v h)
drop_range true true false q w x v h = absurd (none-some v h)

add_range : (a b p q w : Bool) (x v : ℕ) → (x ≡ v → p ≡ true) → (x ≡ v → q ≡ true)
    → (if a && (b && w) then Some x else None) ≡ Some v → (if a && (b && (p && q && w)) then Some x else None) ≡ Some v
add_range false b p q w x v f g h = h
add_range true false p q w x v f g h = h
add_range true true p q false x v f g h = absurd (none-some v h)
add_range true true true true true x v f g h = h
add_range true true true false true x v f g h = absurd (false≢true (g (same_Some x v h)))
add_range true true false q true x v f g h = absurd (false≢true (f (same_Some x v h)))

le_true : (m n : ℕ) → m ≤ n → nat_le m n ≡ true
le_true m n h = grind (arith, nat_tests)

lt_true : (m n : ℕ) → m < n → nat_lt m n ≡ true
lt_true m n h = grind (arith, nat_tests)

-- a word with a value in a range is a word
pub within_is_word : (bytes : ℕ → ℕ) (shadows : ℕ → Shadow) (low high w v : ℕ)
    → word_within bytes shadows low high w ≡ Some v → word_at bytes shadows w ≡ Some v
unfolding word_at word_within
within_is_word bytes shadows low high w v h =
    drop_range (nat_lt w (2 ^ 32)) (w % 4 == 0) (nat_le low (value_at bytes w)) (nat_lt (value_at bytes w) high)
    (holds_word shadows w) (value_at bytes w) v h

-- and a word is one of those if its value is
pub word_is_within : (bytes : ℕ → ℕ) (shadows : ℕ → Shadow) (low high w v : ℕ) → low ≤ v → v < high
    → word_at bytes shadows w ≡ Some v → word_within bytes shadows low high w ≡ Some v
unfolding word_at word_within
word_is_within bytes shadows low high w v from to h =
    add_range (nat_lt w (2 ^ 32)) (w % 4 == 0) (nat_le low (value_at bytes w)) (nat_lt (value_at bytes w) high)
    (holds_word shadows w) (value_at bytes w) v
    (λ e. ap (nat_le low) e ∙ le_true low v from) (λ e. ap (λ n. nat_lt n high) e ∙ lt_true v high to) h

module _ (bytes : ℕ → ℕ) (shadows : ℕ → Shadow) (low high : ℕ) (blocks : List Block)
    (from : (starts : Bool) (value b : ℕ) → PointsTo starts blocks value b → low ≤ value)
    (to : (starts : Bool) (value b : ℕ) → PointsTo starts blocks value b → value < high) where
  pub roots_within : (old new : List Pointer) → Gains (RootAny (word_within bytes shadows low high) blocks) old new
      → Gains (RootAny (word_at bytes shadows) blocks) old new
  roots_within old new gained =
      gains_as (RootAny (word_within bytes shadows low high) blocks) (RootAny (word_at bytes shadows) blocks) old new
      (λ starts b r. (r.0, (r.1.0, within_is_word bytes shadows low high r.1.0 r.0 r.1.1, r.1.2), r.2))
      (λ starts b r. (
        r.0,
        (
          r.1.0,
          word_is_within bytes shadows low high r.1.0 r.0 (from starts r.0 b r.2)
              (to starts r.0 b r.2) r.1.1,
          r.1.2,
        ),
        r.2,
      ))
      gained

  pub edges_within : (old new : List (Vec Pointer Global))
      → EdgesGain (EdgeAny (word_within bytes shadows low high) blocks) old new
      → EdgesGain (EdgeAny (word_at bytes shadows) blocks) old new
  edges_within old new gained =
      edges_as (EdgeAny (word_within bytes shadows low high) blocks) (EdgeAny (word_at bytes shadows) blocks) old new
      (λ starts a b r. (r.0, (r.1.0, within_is_word bytes shadows low high r.1.0 r.0 r.1.1, r.1.2), r.2))
      (λ starts a b r. (
        r.0,
        (
          r.1.0,
          word_is_within bytes shadows low high r.1.0 r.0 (from starts r.0 b r.2)
              (to starts r.0 b r.2) r.1.1,
          r.1.2,
        ),
        r.2,
      ))
      gained
