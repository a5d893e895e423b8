-- Places in a row of parts, numbered through: a number gives the part and the place in it.
use Rattle.std.proofs.Common.{◌≡◌, ℕ, ◌+◌, ◌*◌, ◌/◌, ◌%◌, ◌<◌, ◌≤◌, ◌==◌, inl, inr, is_some, false}
use Rattle.std.proofs.Common.{Bool, Option, refl, cond, mul_comm, ap, ap₂, sym, ◌∙◌, subst, arith, eq-eqb}
use Rattle.std.proofs.Math.Path.{fun_ext}
use Rattle.std.proofs.Math.Nat.{mod-lt, mul-le-mul_right, div-mul-le_self, div-add-mod, div-lt_iff_lt-mul}
use Rattle.std.proofs.lemmas.Nat.{le-div, div-mul-add, mod-mul-add, mul-add-lt}
use Rattle.std.proofs.lemmas.Bool.{cases_lt}
use Rattle.std.proofs.lemmas.Bool.Decides.{nat_tests}
use Rattle.guest_heap.specs.Entries.{with_entry, AreNone, FirstAt, LastAt}
use Rattle.guest_heap.specs.declared.entry.Entry.{Entry}
use Rattle.guest_heap.specs.Rows.{Grid, with_cell, begin_in, end_in, AreNoneUpTo, AreNoneDownTo, FirstIn, LastIn}
use Rattle.guest_heap.specs.Sizes.{IsSize, row_sized, parts_of, places_of}
use Rattle.guest_heap.proofs.PutSteps.{same_or}

differ : (a b : ℕ) → (a ≡ b → ⊥) → (a == b) ≡ false
differ a b h = grind (arith, nat_tests)

begin-same : (part at i : ℕ) → i ≡ part → begin_in part at i ≡ at
begin-same part at i e = ap (λ b. cond b at 0) (eq-eqb i part e)

begin-other : (part at i : ℕ) → (i ≡ part → ⊥) → begin_in part at i ≡ 0
begin-other part at i h = ap (λ b. cond b at 0) (differ i part h)

end-same : (w part at i : ℕ) → i ≡ part → end_in w part at i ≡ at
end-same w part at i e = ap (λ b. cond b at w) (eq-eqb i part e)

end-other : (w part at i : ℕ) → (i ≡ part → ⊥) → end_in w part at i ≡ w
end-other w part at i h = ap (λ b. cond b at w) (differ i part h)

-- how the places of a number of parts, with w places each, are numbered
pub record IsNumbering (w count total : ℕ) (part place : ℕ → ℕ) (number : ℕ → ℕ → ℕ) : Type 0 where
  pub in_part : (k : ℕ) → place k < w
  pub grows : (a b : ℕ) → a ≤ b → part a ≤ part b
  pub within : (a b : ℕ) → a ≤ b → part a ≡ part b → place a ≤ place b
  pub one : (a b : ℕ) → part a ≡ part b → place a ≡ place b → a ≡ b
  pub part_of : (i n : ℕ) → n < w → part (number i n) ≡ i
  pub place_of : (i n : ℕ) → n < w → place (number i n) ≡ n
  pub low : (k : ℕ) → k < total → part k < count
  pub high : (i n : ℕ) → i < count → n < w → number i n < total

module _ (w count total : ℕ) (part place : ℕ → ℕ) (number : ℕ → ℕ → ℕ)
    (is : IsNumbering w count total part place number) where
  less-place : (a b : ℕ) → a < b → part a ≡ part b → place a < place b
  less-place a b less same =
      let le = is.within a b (omega arith) same in
      elim (same_or (place a) (place b)) [
        | inl e ↦ absurd (let h = is.one a b same e in omega arith)
        | inr n ↦ elim (cases_lt (place a) (place b)) [
          | inl l ↦ l
          | inr g ↦ absurd (n (omega arith))
        ]
      ]

  module _ (grid : Grid) where
    there : (i n : ℕ) → n < w → grid (part (number i n)) (place (number i n)) ≡ grid i n
    there i n less = ap₂ grid (is.part_of i n less) (is.place_of i n less)

    begun : (at k : ℕ) → at ≤ k → begin_in (part at) (place at) (part k) ≤ place k
    begun at k le =
        elim (same_or (part k) (part at)) [
          | inl e ↦
              (let begin = begin-same (part at) (place at) (part k) e in
              let h = is.within at k le (sym e) in
              omega arith)
          | inr n ↦ (let begin = begin-other (part at) (place at) (part k) n in omega arith)
        ]

    ended : (at k : ℕ) → k < at → place k < end_in w (part at) (place at) (part k)
    ended at k less =
        elim (same_or (part k) (part at)) [
          | inl e ↦
              (let end = end-same w (part at) (place at) (part k) e in
              let h = less-place k at less e in
              omega arith)
          | inr n ↦
              (let end = end-other w (part at) (place at) (part k) n in
              let h = is.in_part k in
              omega arith)
        ]

    pub next_none : (at : ℕ) → AreNoneUpTo grid w (part at) (place at) count
        → AreNone (λ k. grid (part k) (place k)) at total
    next_none at none k above less =
        none (part k) (is.grows at k above) (is.low k less) (place k) (begun at k above) (is.in_part k)

    pub next_some : (at i n : ℕ) → FirstIn grid w (part at) (place at) count i n
        → FirstAt (λ k. grid (part k) (place k)) at total (number i n)
    next_some at i n h =
        let small = h.first.below in
        let part-is = is.part_of i n small in
        let place-is = is.place_of i n small in
        record {
          above = elim (cases_lt (number i n) at) [
            | inl l ↦ absurd (
                let grown = is.grows (number i n) at (omega arith) in
                let same : i ≡ part at = (let a = h.above in omega arith) in
                let begin = begin-same (part at) (place at) i same in
                let less = less-place (number i n) at l (part-is ∙ same) in
                let from = h.first.above in
                omega arith)
            | inr g ↦ g
          ];
          below = is.high i n h.below small;
          found = ap is_some (there i n small) ∙ h.first.found;
          none = λ k above less.
              let grown = is.grows k (number i n) (omega arith) in
              elim (same_or (part k) i) [
                | inl e ↦
                    (let under = less-place k (number i n) less (e ∙ sym part-is) in
                    let begin = begun at k above in
                    let P : ℕ → Type 0 = λ x. begin_in (part at) (place at) x ≤ place k in
                    ap (λ x. grid x (place k)) e
                    ∙ h.first.none (place k) (subst P e begin) (omega arith))
                | inr d ↦
                    (let before : part k < i = elim (cases_lt (part k) i) [
                      | inl l ↦ l
                      | inr g ↦ absurd (d (omega arith))
                    ] in
                    h.none (part k) (is.grows at k above) before (place k) (begun at k above) (is.in_part k))
              ];
        }

    pub last_none : (at : ℕ) → AreNoneDownTo grid w (part at) (place at) 0
        → AreNone (λ k. grid (part k) (place k)) 0 at
    last_none at none k _ less =
        none (part k) (omega arith) (is.grows k at (omega arith)) (place k) (omega arith) (ended at k less)

    pub last_some : (at i n : ℕ) → LastIn grid w (part at) (place at) i n
        → LastAt (λ k. grid (part k) (place k)) at (number i n)
    last_some at i n h =
        let under = h.last.below in
        let small : n < w = elim (same_or i (part at)) [
          | inl e ↦
              (let end = end-same w (part at) (place at) i e in
              let most = is.in_part at in
              omega arith)
          | inr d ↦ (let end = end-other w (part at) (place at) i d in omega arith)
        ] in
        let part-is = is.part_of i n small in
        let place-is = is.place_of i n small in
        record {
          below = elim (cases_lt (number i n) at) [
            | inl l ↦ l
            | inr g ↦ absurd (
                let grown = is.grows at (number i n) g in
                let same : i ≡ part at = (let b = h.below in omega arith) in
                let end = end-same w (part at) (place at) i same in
                let over = is.within at (number i n) g (sym (part-is ∙ same)) in
                omega arith)
          ];
          found = ap is_some (there i n small) ∙ h.last.found;
          none = λ k above less.
              let grown = is.grows (number i n) k (omega arith) in
              elim (same_or (part k) i) [
                | inl e ↦
                    (let over = less-place (number i n) k (omega arith) (part-is ∙ sym e) in
                    let end = ended at k less in
                    let P : ℕ → Type 0 = λ x. place k < end_in w (part at) (place at) x in
                    ap (λ x. grid x (place k)) e
                    ∙ h.last.none (place k) (omega arith) (subst P e end))
                | inr d ↦
                    (let after : i + 1 ≤ part k = elim (cases_lt i (part k)) [
                      | inl l ↦ omega arith
                      | inr g ↦ absurd (d (omega arith))
                    ] in
                    h.none (part k) after (is.grows k at (omega arith)) (place k) (omega arith) (ended at k less))
              ];
        }

    -- what is written at one place is at its number
    pub written_along : (at : ℕ) (entry : Option Entry) (k : ℕ)
        → with_cell grid (part at) (place at) entry (part k) (place k)
        ≡ with_entry (λ n. grid (part n) (place n)) at entry k
    written_along at entry k =
        let stays = grid (part k) (place k) in
        let cell : Bool → Option Entry =
        λ b. cond b (with_entry (grid (part k)) (place at) entry) (grid (part k)) (place k) in
        let at-place : Bool → Option Entry = λ b. cond b entry stays in
        elim (same_or (part k) (part at)) [
          | inl p ↦
              (let here = ap cell (eq-eqb (part k) (part at) p) in
              elim (same_or (place k) (place at)) [
                | inl q ↦ here ∙ ap at-place (eq-eqb (place k) (place at) q)
                    ∙ sym (ap at-place (eq-eqb k at (is.one k at p q)))
                | inr d ↦ here ∙ ap at-place (differ (place k) (place at) d)
                    ∙ sym (ap at-place (differ k at (λ e. d (ap place e))))
              ])
          | inr d ↦ ap cell (differ (part k) (part at) d) ∙ sym (ap at-place (differ k at (λ e. d (ap part e))))
        ]

-- by division
less-rest : (p q x y a b : ℕ) → p + x ≡ a → q + y ≡ b → p ≡ q → a ≤ b → x ≤ y
less-rest p q x y a b h g same le = omega arith

same-sum : (p q x y a b : ℕ) → p + x ≡ a → q + y ≡ b → p ≡ q → x ≡ y → a ≡ b
same-sum p q x y a b h g same rest = omega arith

pub divided : (count w total : ℕ) → 0 < w → total ≡ count * w
    → IsNumbering w count total (λ k. k / w) (λ k. k % w) (λ i n. i * w + n)
divided count w total some whole =
    record {
      in_part = λ k. mod-lt k some;
      grows = λ a b le. le-div (a / w) b w some (omega (arith, div-mul-le_self a w, le));
      within = λ a b le same. less-rest (w * (a / w)) (w * (b / w)) (a % w) (b % w) a b (div-add-mod a w)
          (div-add-mod b w) (ap (λ q. w * q) same) le;
      one = λ a b p q. same-sum (w * (a / w)) (w * (b / w)) (a % w) (b % w) a b (div-add-mod a w)
          (div-add-mod b w) (ap (λ x. w * x) p) q;
      part_of = λ i n less. div-mul-add i w n less;
      place_of = λ i n less. mod-mul-add i w n less;
      low = λ k less. (let P : ℕ → Type 0 = λ t. k < t in (div-lt_iff_lt-mul some).1 (subst P whole less));
      high = λ i n low less. (let P : ℕ → Type 0 = λ t. i * w + n < t in
          subst P (mul_comm w count ∙ sym whole) (mul-add-lt i w n count low less));
    }

-- the places of a row --

row-numbering : (w : ℕ) → 0 < w
    → IsNumbering w (parts_of w) (places_of w) (λ k. k / w) (λ k. k % w) (λ i n. i * w + n)
unfolding places_of
row-numbering w some = divided (parts_of w) w (parts_of w * w) some refl

-- what follows is the same, where the numbers go by other names

-- the number of a place
pub number_fits : (w v : ℕ) → IsSize w → v ≡ w → (i n : ℕ) → i < parts_of v → n < w → i * v + n < 33554432
number_fits w v sized each i n low less =
    let P : ℕ → Type 0 = λ x. i < parts_of x in
    let R : ℕ → Type 0 = λ x. i * x + n < places_of w in
    let below = subst R (sym each) ((row-numbering w sized.some).high i n (subst P each low) less) in
    let few = (row_sized w sized).few in
    omega arith

-- a place below the end of a search downwards
pub end_within : (w v part at i end n : ℕ) → 0 < w → v ≡ w → end ≡ end_in v part (at % v) i → n < end → n < w
end_within w v part at i end n some each is less =
    let some-v : 0 < v = omega arith in
    elim (same_or i part) [
      | inl e ↦ (let same = end-same v part (at % v) i e in let rest = mod-lt at some-v in omega arith)
      | inr d ↦ (let other = end-other v part (at % v) i d in omega arith)
    ]

-- the number of a place in a part that isn't past that of another number
pub number_small : (w v at : ℕ) → IsSize w → at ≤ places_of w → (i n : ℕ) → i ≤ at / v → n < w → i * v + n < 67108864
number_small w v at sized within i n below less =
    let under = mul-le-mul_right v below in
    let most = div-mul-le_self at v in
    let few = sized.few in
    let all = (row_sized w sized).few in
    omega arith

module _ (grid : Grid) (w : ℕ) (sized : IsSize w) (at v p : ℕ) (each : v ≡ w) where
  pub next_some_by : (i n : ℕ) → p ≡ parts_of v → FirstIn grid w (at / v) (at % v) p i n
      → FirstAt (λ k. grid (k / w) (k % w)) at (places_of w) (i * v + n)
  next_some_by i n all h =
      let P : ℕ → Type 0 = λ x. FirstIn grid w (at / x) (at % x) p i n in
      let Q : ℕ → Type 0 = λ x. FirstIn grid w (at / w) (at % w) x i n in
      let R : ℕ → Type 0 = λ x. FirstAt (λ k. grid (k / w) (k % w)) at (places_of w) (i * x + n) in
      subst R (sym each) (next_some _ _ _ _ _ _ (row-numbering w sized.some) grid at i n
      (subst Q (all ∙ ap parts_of each) (subst P each h)))

  pub next_none_by : p ≡ parts_of v → AreNoneUpTo grid w (at / v) (at % v) p
      → AreNone (λ k. grid (k / w) (k % w)) at (places_of w)
  next_none_by all h =
      let P : ℕ → Type 0 = λ x. AreNoneUpTo grid w (at / x) (at % x) p in
      let Q : ℕ → Type 0 = λ x. AreNoneUpTo grid w (at / w) (at % w) x in
      next_none _ _ _ _ _ _ (row-numbering w sized.some) grid at
      (subst Q (all ∙ ap parts_of each) (subst P each h))

  pub last_some_by : (i n : ℕ) → LastIn grid w (at / v) (at % v) i n
      → LastAt (λ k. grid (k / w) (k % w)) at (i * v + n)
  last_some_by i n h =
      let P : ℕ → Type 0 = λ x. LastIn grid w (at / x) (at % x) i n in
      let R : ℕ → Type 0 = λ x. LastAt (λ k. grid (k / w) (k % w)) at (i * x + n) in
      subst R (sym each) (last_some _ _ _ _ _ _ (row-numbering w sized.some) grid at i n (subst P each h))

  pub last_none_by : AreNoneDownTo grid w (at / v) (at % v) 0 → AreNone (λ k. grid (k / w) (k % w)) 0 at
  last_none_by h =
      let P : ℕ → Type 0 = λ x. AreNoneDownTo grid w (at / x) (at % x) 0 in
      last_none _ _ _ _ _ _ (row-numbering w sized.some) grid at (subst P each h)

  pub written_by : (old mid new : Grid) (entry : Option Entry) → new ≡ mid
      → mid ≡ with_cell old (at / v) (at % v) entry → old ≡ grid
      → (λ k. new (k / w) (k % w)) ≡ with_entry (λ k. grid (k / w) (k % w)) at entry
  written_by old mid new entry last write first =
      let P : ℕ → Type 0 = λ x. new ≡ with_cell grid (at / x) (at % x) entry in
      let all = last ∙ write ∙ ap (λ g. with_cell g (at / v) (at % v) entry) first in
      fun_ext (λ k. ap (λ f. f (k / w) (k % w)) (subst P each all)
      ∙ written_along _ _ _ _ _ _ (row-numbering w sized.some) grid at entry k)
