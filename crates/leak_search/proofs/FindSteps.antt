-- Which block a value points to, and where a word lies.
use Rattle.std.proofs.Common.{◌≡◌, ℕ, ◌+◌, ◌-◌, ◌<◌, ◌≤◌, ◌%◌, inl, inr, Bool, List, true, false, Some, length}
use Rattle.std.proofs.Common.{get_or, arith, refl, sym, ◌∙◌, subst, slice_get, nat_le}
use Rattle.std.proofs.lemmas.Bool.{cases_lt, cases_eq, false≢true}
use Rattle.std.proofs.lemmas.Bool.Decides.{nat_tests}
use Rattle.std.proofs.lemmas.Option.{same_Some, slice_get-get_or, slice_get_within, get_or_from_slice_get}
use Rattle.std.specs.List.Sorted.{IsPartitionPoint, IsPartitionedBy}
use Rattle.call_stacks.specs.declared.block.Block.{Block}
use Rattle.leak_search.specs.Pointing.{IsPointer, PointsTo, IsInNoBlock, IsWordIn}
use Rattle.leak_search.specs.Gathering.{AreOrdered, Finds, IsLastAt}

le_true : (m n : ℕ) → m ≤ n → nat_le m n ≡ true
le_true m n h = grind (arith, nat_tests)

true_le : (m n : ℕ) → nat_le m n ≡ true → m ≤ n
true_le m n h = grind (arith, nat_tests)

false_lt : (m n : ℕ) → nat_le m n ≡ false → n < m
false_lt m n h = grind (arith, nat_tests)

pub partitioned : (blocks : List Block) (addr : ℕ) → AreOrdered blocks
    → IsPartitionedBy (λ b. nat_le b.start addr) blocks
partitioned blocks addr apart i j d le within h =
    elim (cases_eq i j) [
      | inl e ↦ subst (λ (x : ℕ). nat_le (get_or blocks x d).start addr ≡ true) (sym e) h
      | inr ne ↦
          let less : i < j = omega arith in
          let before : i < length blocks = omega arith in
          let lower = apart.lower i j (get_or blocks i d) (get_or blocks j d) less (slice_get-get_or blocks i d before)
          (slice_get-get_or blocks j d within) in
          let under = true_le (get_or blocks j d).start addr h in
          le_true (get_or blocks i d).start addr (omega arith)
    ]

pub last_some : (blocks : List Block) (addr count : ℕ) → count ≤ length blocks → (count ≡ 0 → ⊥)
    → IsPartitionPoint (λ b. nat_le b.start addr ≡ true) (λ b. nat_le b.start addr ≡ false) blocks count
    → IsLastAt blocks addr (count - 1)
last_some blocks addr count bound some point = record {
  within = omega arith;
  here =
      λ b at. (let h = point.0 (count - 1) b (omega arith) (omega arith) in
      true_le b.start addr (subst (λ (x : Block). nat_le x.start addr ≡ true)
      (get_or_from_slice_get blocks (count - 1) b b at) h));
  after = λ j b less at.
      (let within = slice_get_within blocks j b at in
      let h = point.1 j b (omega arith) within in
      false_lt b.start addr (subst (λ (x : Block). nat_le x.start addr ≡ false) (get_or_from_slice_get blocks j b b at)
      h));
}

pub last_none : (blocks : List Block) (addr count : ℕ) → count ≡ 0
    → IsPartitionPoint (λ b. nat_le b.start addr ≡ true) (λ b. nat_le b.start addr ≡ false) blocks count
    → (k : ℕ) (b : Block) → slice_get blocks k ≡ Some b → addr < b.start
last_none blocks addr count zero point k b at =
    let within = slice_get_within blocks k b at in
    let h = point.1 k b (omega arith) within in
    false_lt b.start addr (subst (λ (x : Block). nat_le x.start addr ≡ false) (get_or_from_slice_get blocks k b b at) h)

-- a value points to no block but the last that starts at it or below
only_last : (blocks : List Block) (value k : ℕ) → AreOrdered blocks → IsLastAt blocks value k → (b : ℕ) (block : Block)
    → slice_get blocks b ≡ Some block → IsPointer false value block → k ≡ b
only_last blocks value k apart last b block at p =
    let low : block.start ≤ value = elim p [ inl e ↦ omega arith | inr w ↦ omega arith ] in
    elim (cases_lt b k) [
      | inl less ↦
          let there = get_or blocks k block in
          let is = slice_get-get_or blocks k block last.within in
          let lower = apart.lower b k block there less at is in
          let below = apart.below b k block there less at is in
          let here = last.here there is in
          absurd (elim p as (λ _. ⊥) [ inl e ↦ omega arith | inr w ↦ (let over = w.1 in omega arith) ])
      | inr le ↦ elim (cases_eq k b) [
        | inl e ↦ e
        | inr ne ↦ (let above = last.after b block (omega arith) at in
            absurd (omega arith))
      ]
    ]

-- a pointer of one sort is one of either sort, and doesn't lie below its block
of_either : (starts : Bool) (value : ℕ) (block : Block) → IsPointer starts value block → IsPointer false value block
of_either true value block p = inl p
of_either false value block p = p

not_below : (value : ℕ) (block : Block) → IsPointer false value block → block.start ≤ value
not_below value block (inl e) = omega arith
not_below value block (inr w) = let low = w.0 in omega arith

at_start : (starts : Bool) (value : ℕ) (block : Block) → value ≡ block.start → IsPointer starts value block
at_start true value block e = e
at_start false value block e = inl e

-- above the start of its block it is no start-pointer
not_start : (starts : Bool) (value : ℕ) (block : Block) → block.start < value → IsPointer starts value block
    → starts ≡ true → false ≡ true
not_start true value block above p e = absurd (omega arith)
not_start false value block above p e = e

-- below the blocks a value points to none
pub points_below : (blocks : List Block) (value : ℕ)
    → ((k : ℕ) (b : Block) → slice_get blocks k ≡ Some b → value < b.start)
    → (starts : Bool) (b : ℕ) → PointsTo starts blocks value b → ⊥
points_below blocks value above starts b p =
    let over = above b p.0 p.1 in
    let low = not_below value p.0 (of_either starts value p.0 p.2) in
    omega arith

module _ (blocks : List Block) (value k : ℕ) (block : Block)
    (apart : AreOrdered blocks) (last : IsLastAt blocks value k) (at : slice_get blocks k ≡ Some block) where
  -- what it points to is the last block that starts at it or below
  the_last : (starts : Bool) (b : ℕ) → PointsTo starts blocks value b → (k ≡ b) × IsPointer starts value block
  the_last starts b p =
      let same : k ≡ b = only_last blocks value k apart last b p.0 p.1 (of_either starts value p.0 p.2) in
      let there : p.0 ≡ block = same_Some p.0 block (sym p.1
      ∙ subst (λ (x : ℕ). slice_get blocks x ≡ Some block) same at) in
      (same, subst (λ (x : Block). IsPointer starts value x) there p.2)

  pub points_past : (value ≡ block.start → ⊥) → block.start + block.size ≤ value
      → (starts : Bool) (b : ℕ) → PointsTo starts blocks value b → ⊥
  points_past other past starts b p =
      elim (of_either starts value block (the_last starts b p).1) as (λ _. ⊥) [
        | inl e ↦ other e
        | inr w ↦ (let high = w.1 in omega arith)
      ]

  pub finds_start : value ≡ block.start → Finds blocks value (record { block = k; is_start = true })
  finds_start e = record {
    to = λ starts b leads. subst (λ (n : ℕ). PointsTo starts blocks value n) leads.0
        (block, at, at_start starts value block e);
    back = λ starts b p. ((the_last starts b p).0, λ _. refl);
  }

  pub finds_inside : block.start < value → value < block.start + block.size
      → Finds blocks value (record { block = k; is_start = false })
  finds_inside low high = record {
    to = inside;
    back = λ starts b p. (let there = the_last starts b p in (there.0, not_start starts value block low there.1));
  }
    where
      inside : (starts : Bool) (b : ℕ) → (k ≡ b) × (starts ≡ true → false ≡ true) → PointsTo starts blocks value b
      inside true b leads = absurd (false≢true (leads.1 refl))
      inside false b leads =
          subst (λ (n : ℕ). PointsTo false blocks value n) leads.0 (block, at, inr (low, high))

-- a word of a block begins at a pointer into it
word_points : (blocks : List Block) (w a : ℕ) (word : IsWordIn blocks w a) → IsPointer false w word.0
word_points blocks w a word =
    elim (cases_eq w word.0.start) [
      | inl e ↦ inl e
      | inr ne ↦ inr (
        let low = word.2 in omega arith,
        let high = word.3 in
            omega arith,
      )
    ]

-- and holds its first byte
not_outside : (blocks : List Block) (w a : ℕ) (block : Block) → slice_get blocks a ≡ Some block → block.start ≤ w
    → w < block.start + block.size
    → IsInNoBlock blocks w → ⊥
not_outside blocks w a block at low high none = none a block at 0 (omega arith) (omega arith, omega arith)

no_word : (blocks : List Block) (w : ℕ) → IsInNoBlock blocks w → (a : ℕ) → IsWordIn blocks w a → ⊥
no_word blocks w none a word = not_outside blocks w a word.0 word.1 word.2 (let high = word.3 in omega arith) none

next_multiple : (w s : ℕ) → w % 4 ≡ 0 → s % 4 ≡ 0 → w < s → w + 4 ≤ s
next_multiple w s e f less = omega arith

pub outside_none : (blocks : List Block) (w : ℕ) → AreOrdered blocks → w % 4 ≡ 0
    → ((k : ℕ) (b : Block) → slice_get blocks k ≡ Some b → w < b.start)
    → IsInNoBlock blocks w × ((a : ℕ) → IsWordIn blocks w a → ⊥)
outside_none blocks w apart aligned above =
    let none : IsInNoBlock blocks w = λ a block at i four holds.
    (let far = next_multiple w block.start aligned (apart.aligned a block at) (above a block at) in let low = holds.0 in
    omega arith) in
    (none, no_word blocks w none)

pub outside_past : (blocks : List Block) (w k : ℕ) (block : Block) → AreOrdered blocks → w % 4 ≡ 0 → IsLastAt blocks w k
    → slice_get blocks k ≡ Some block → block.start + block.size ≤ w
    → IsInNoBlock blocks w × ((a : ℕ) → IsWordIn blocks w a → ⊥)
outside_past blocks w k block apart aligned last at past =
    let none : IsInNoBlock blocks w = λ a there is i four holds.
    (let low = holds.0 in let high = holds.1 in
    elim (cases_lt k a) [
      | inl less ↦ (let far = next_multiple w there.start aligned (apart.aligned a there is)
          (last.after a there less is) in omega arith)
      | inr le ↦ elim (cases_eq k a) [
        | inl e ↦
            let same : there ≡ block = same_Some there block (sym is
            ∙ subst (λ (x : ℕ). slice_get blocks x ≡ Some block) e at) in
            let end : there.start + there.size ≤ w = subst (λ (x : Block). x.start + x.size ≤ w) (sym same) past in
            omega arith
        | inr ne ↦
            let below = apart.below a k there block (omega arith) is at in
            let here = last.here block at in
            omega arith
      ]
    ]) in
    (none, no_word blocks w none)

pub inside_is : (blocks : List Block) (w k : ℕ) (block : Block) → AreOrdered blocks → IsLastAt blocks w k
    → slice_get blocks k ≡ Some block → block.start ≤ w → w + 4 ≤ block.start + block.size
    → IsWordIn blocks w k × ((a : ℕ) → IsWordIn blocks w a → k ≡ a) × (IsInNoBlock blocks w → ⊥)
inside_is blocks w k block apart last at low high = (
  (block, at, low, high),
  (λ a word. only_last blocks w k apart last a word.0 word.1 (word_points blocks w a word)),
  not_outside blocks w k block at low (omega arith),
)

pub across_is : (blocks : List Block) (w k : ℕ) (block : Block) → AreOrdered blocks → IsLastAt blocks w k
    → slice_get blocks k ≡ Some block → block.start ≤ w → w < block.start + block.size
    → block.start + block.size < w + 4
    → (IsInNoBlock blocks w → ⊥) × ((a : ℕ) → IsWordIn blocks w a → ⊥)
across_is blocks w k block apart last at low high over = (
  not_outside blocks w k block at low high,
  λ a word.
      (let same : k ≡ a = only_last blocks w k apart last a word.0 word.1 (word_points blocks w a word) in
      let there : word.0 ≡ block = same_Some word.0 block (sym word.1
      ∙ subst (λ (x : ℕ). slice_get blocks x ≡ Some block) same at) in
      let end : w + 4 ≤ block.start + block.size = subst (λ (x : Block). w + 4 ≤ x.start + x.size) there word.3 in
      omega arith),
)
