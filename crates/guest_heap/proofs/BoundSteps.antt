-- The bound below which there is no place, as blocks come and go.
use Rattle.std.proofs.Common.{◌≡◌, ℕ, zero, suc, ◌+◌, ◌-◌, ◌%◌, ◌<◌, ◌≤◌, ◌==◌, inl, inr, max, min, nat_le, Bool, List}
use Rattle.std.proofs.Common.{[], ◌∷◌, ◌++◌, true, false, cond, Option, Some}
use Rattle.std.proofs.Common.{None, length, map, drop, set, refl, ap, sym, ◌∙◌, subst, arith, ◌&&◌, nat_lt}
use Rattle.std.specs.List.{Contains}
use Rattle.std.proofs.lemmas.Bool.{cases_lt}
use Rattle.std.proofs.lemmas.Bool.Decides.{nat_tests}
use Rattle.call_stacks.specs.declared.block.Block.{Block}
use Rattle.guest_heap.specs.Blocks.{Blocks, IsKept, IsPlace, Places, with_block, queue_with, freed_by, low_end}
use Rattle.guest_heap.specs.Blocks.{high_end, Meets}
use Rattle.guest_heap.specs.Entries.{Entries, block_of}
use Rattle.guest_heap.specs.Runs.{first_of}
use Rattle.guest_heap.specs.States.{AreNoPlaces, AreSound, EndsBelow, BeginsAbove, shown}
use Rattle.guest_heap.specs.Bounds.{Holds, AreBounds, IsKnown, IsTaken, lowered}
use Rattle.guest_heap.specs.Gaps.{Opens}
use Rattle.guest_heap.specs.declared.bounds.Bound.{Bound}
use Rattle.guest_heap.specs.declared.bounds.Opened.{Opened}
use Rattle.guest_heap.specs.declared.entry.Entry.{Entry}
use Rattle.guest_heap.proofs.KeptSteps.{some-same}
use Rattle.guest_heap.proofs.PutSteps.{same_or}
use Rattle.guest_heap.proofs.Each.{each_set, each_mapped}
use Rattle.guest_heap.proofs.NoPlaces.{SameEnds, no_more, skipped_too}

pub no_more_bounds : (old new : Blocks) (redzone : ℕ) (bounds : List Bound) → new.begin ≡ old.begin
    → ((b : Block) → IsKept old b → SameEnds new b)
    → AreBounds old redzone bounds → AreBounds new redzone bounds
no_more_bounds old new redzone bounds same kept hold i n there =
    let h = hold i n there in
    record {
      below = no_more old new n.size redzone 0 n.from same kept h.below;
      between = no_more old new n.size redzone n.next n.until same kept h.between;
    }

-- another live block, where none begins
pub put_keeps : (blocks : Blocks) (b : Block) → IsPlace blocks b.size b.redzone b.start → (c : Block) → IsKept blocks c
    → SameEnds (with_block blocks b) c
put_keeps blocks b place = still
  where
    apart : (c : Block) → IsKept blocks c → c.start ≡ b.start → ⊥
    apart c kept same =
        let l : b.start - b.redzone < high_end c = omega arith in
        let h : low_end c < b.start + max b.size 1 + b.redzone = omega arith in
        place.apart c kept (l, h)

    still : (c : Block) → IsKept blocks c → SameEnds (with_block blocks b) c
    still c (inr h) = record { other = c; kept = inr h; low = refl; high = refl }
    still c (inl h) =
        let t : (c.start == b.start) ≡ false = (let n : c.start ≡ b.start → ⊥ = apart c (inl h) in
        grind (arith, nat_tests)) in
        record {
          other = c;
          kept = inl (ap (λ x. cond x (Some b) (blocks.live c.start)) t ∙ h);
          low = refl;
          high = refl;
        }

contains-front : (xs : List Block) (e c : Block) → Contains xs c → Contains (xs ++ e ∷ []) c
contains-front [] e c (k, p, q) = absurd (let r : k < 0 = p in omega arith)
contains-front (x ∷ xs) e c (zero, p, q) = (0, (let r : 0 < suc (length (xs ++ e ∷ [])) = omega arith in r), q)
contains-front (x ∷ xs) e c (suc k, p, q) =
    let (i, r, s) = contains-front xs e c (k, (let t : suc k < suc (length xs) = p in omega arith), q) in
    (suc i, (let t : suc i < suc (length (xs ++ e ∷ [])) = omega arith in t), s)

contains-last : (xs : List Block) (e : Block) → Contains (xs ++ e ∷ []) e
contains-last [] e = (0, (let r : 0 < 1 = omega arith in r), refl)
contains-last (x ∷ xs) e =
    let (i, r, s) = contains-last xs e in
    (suc i, (let t : suc i < suc (length (xs ++ e ∷ [])) = omega arith in t), s)

-- a live block that is freed
pub freed_keeps : (blocks : Blocks) (b : Block) (trace : List ℕ) → blocks.live b.start ≡ Some b → (c : Block)
    → IsKept blocks c → SameEnds (queue_with blocks (freed_by trace b)) c
freed_keeps blocks b trace there = still
  where
    freed : SameEnds (queue_with blocks (freed_by trace b)) b
    freed = record {
      other = freed_by trace b;
      kept = inr (contains-last blocks.queue (freed_by trace b));
      low = refl;
      high = refl;
    }

    still : (c : Block) → IsKept blocks c → SameEnds (queue_with blocks (freed_by trace b)) c
    still c (inr h) = record {
      other = c;
      kept = inr (contains-front blocks.queue (freed_by trace b) c h);
      low = refl;
      high = refl;
    }
    still c (inl h) = elim (same_or c.start b.start) [
      | inl s ↦ (let same : b ≡ c = some-same (sym there ∙ sym (ap blocks.live s) ∙ h) in
          let P : Block → Type 0 = SameEnds (queue_with blocks (freed_by trace b)) in subst P same freed)
      | inr n ↦
          (let t : (c.start == b.start) ≡ false = grind (arith, nat_tests) in
          record { other = c; kept = inl (ap (λ x. cond x None (blocks.live c.start)) t ∙ h); low = refl; high = refl })
    ]

-- the oldest leaves: a place that comes lies in the range round it --

module _ (begin : ℕ) (live : ℕ → Option Block) (queue rest : List Block) (e : Block) (is : queue ≡ e ∷ rest)
    (apart : (b c : Block) → IsKept (record { begin = begin; live = live; queue = queue }) b
    → IsKept (record { begin = begin; live = live; queue = queue }) c → b.start < c.start
    → high_end b ≤ low_end c) where
  abbrev with_oldest : Blocks
  with_oldest = record { begin = begin; live = live; queue = queue }

  abbrev without_oldest : Blocks
  without_oldest = record { begin = begin; live = live; queue = rest }

  oldest : IsKept with_oldest e
  oldest =
      let P : List Block → Type 0 = λ bs. IsKept (record { begin = begin; live = live; queue = bs }) e in
      subst P (sym is) (inr (0, (let r : 0 < suc (length rest) = omega arith in r), refl))

  -- the others stay
  still : (b : Block) → IsKept with_oldest b → (b.start ≡ e.start → ⊥) → IsKept without_oldest b
  still b kept other =
      go (let P : List Block → Type 0 = λ bs. IsKept (record { begin = begin; live = live; queue = bs }) b in
      subst P is kept)
    where
      go : IsKept (record { begin = begin; live = live; queue = e ∷ rest }) b → IsKept without_oldest b
      go (inl h) = inl h
      go (inr (zero, p, s)) = absurd (other (let same : e ≡ b = s in ap (λ x. x.start) (sym same)))
      go (inr (suc k, p, s)) = inr (k, (let t : suc k < suc (length rest) = p in omega arith), s)

  -- it lies above what is below the block
  above_low : (size redzone q end : ℕ) → EndsBelow with_oldest e.start end → IsPlace without_oldest size redzone q
      → low_end e < q + max size 1 + redzone → end + redzone ≤ q
  above_low size redzone q end (inl h) place meets = let above = place.above in omega arith
  above_low size redzone q end (inr (b, kept, below, ends)) place meets =
      let above = place.above in
      let clear : high_end b ≤ low_end e = apart b e kept oldest below in
      let other : b.start ≡ e.start → ⊥ = λ h. omega arith in
      let under : low_end b < q + max size 1 + redzone = omega arith in
      elim (cases_lt (q - redzone) (high_end b)) [
        | inl lt ↦ absurd (place.apart b (still b kept other) (lt, under))
        | inr ge ↦ omega arith
      ]

  -- and below what is above it
  below_high : (size redzone q end : ℕ) → BeginsAbove with_oldest e.start end
      → IsPlace without_oldest size redzone q → q - redzone < high_end e → q + max size 1 + redzone ≤ end
  below_high size redzone q end (inl h) place meets = let below = place.below in omega arith
  below_high size redzone q end (inr (b, kept, above, begins)) place meets =
      let clear : high_end e ≤ low_end b = apart e b oldest kept above in
      let other : b.start ≡ e.start → ⊥ = λ h. omega arith in
      let past : q - redzone < high_end b = omega arith in
      elim (cases_lt (low_end b) (q + max size 1 + redzone)) [
        | inl lt ↦ absurd (place.apart b (still b kept other) (past, lt))
        | inr ge ↦ omega arith
      ]

  -- a place whose range doesn't meet the block's interval was one before
  place_before : (size redzone q : ℕ) → IsPlace without_oldest size redzone q
      → (q - redzone < high_end e → low_end e < q + max size 1 + redzone → ⊥)
      → IsPlace with_oldest size redzone q
  place_before size redzone q place outside = record {
    small = place.small;
    multiple = place.multiple;
    above = place.above;
    below = place.below;
    apart =
        λ b kept meets. (let P : List Block → Type 0 =
        λ bs. IsKept (record { begin = begin; live = live; queue = bs }) b in
        go b (subst P is kept) meets);
  }
    where
      go : (b : Block) → IsKept (record { begin = begin; live = live; queue = e ∷ rest }) b
          → Meets (q - redzone) (q + max size 1 + redzone) b → ⊥
      go b (inl h) meets = place.apart b (inl h) meets
      go b (inr (zero, p, s)) meets =
          let P : Block → Type 0 = λ x. Meets (q - redzone) (q + max size 1 + redzone) x in
          let there : Meets (q - redzone) (q + max size 1 + redzone) e = subst P (sym s) meets in
          outside there.0 there.1
      go b (inr (suc k, p, s)) meets =
          place.apart b (inr (k, (let t : suc k < suc (length rest) = p in omega arith), s)) meets

  -- where no place lies in that range
  none_comes : (size redzone from to : ℕ) → AreNoPlaces with_oldest size redzone from to
      → ((q : ℕ) → from ≤ q → q < to → IsPlace without_oldest size redzone q → q - redzone < high_end e
      → low_end e < q + max size 1 + redzone → ⊥)
      → AreNoPlaces without_oldest size redzone from to
  none_comes size redzone from to none outside q over less place =
      none q over less (place_before size redzone q place (outside q over less place))

  module _ (redzone end : ℕ) (o : Opened) (low : EndsBelow with_oldest e.start end)
      (high : BeginsAbove with_oldest e.start o.end) (even : o.first % 16 ≡ 0)
      (near : o.first < end + redzone + 16) (fits : o.room ≡ o.end - (o.first + redzone)) where
    from_first : (size q : ℕ) → IsPlace without_oldest size redzone q → q - redzone < high_end e
        → low_end e < q + max size 1 + redzone → (o.first ≤ q) × (max size 1 ≤ o.room) × (q < o.end)
    from_first size q place past under =
        let l : end + redzone ≤ q = above_low size redzone q end low place under in
        let h : q + max size 1 + redzone ≤ o.end = below_high size redzone q o.end high place past in
        let m : q % 16 ≡ 0 = place.multiple in
        let f : o.first ≤ q = omega arith in
        (f, omega arith, omega arith)

    -- a part of a range without places that lies below the first or from the end on, or where none fits
    part : (size from to from' to' : ℕ) → AreNoPlaces with_oldest size redzone from' to' → from' ≤ from → to ≤ to'
        → ((q : ℕ) → from ≤ q → q < to → o.first ≤ q → q < o.end → max size 1 ≤ o.room → ⊥)
        → AreNoPlaces without_oldest size redzone from to
    part size from to from' to' none l h out =
        none_comes size redzone from to
        (λ q over less. none q (omega arith) (omega arith))
        (λ q over less place past under. (let f = from_first size q place past under in out q over less f.0 f.2 f.1))

    lowered_holds : (b : Bound) → Holds with_oldest redzone b → Holds without_oldest redzone (lowered o b)
    lowered_holds b h =
        go (nat_lt o.room (max b.size 1)) (nat_le b.until b.from && nat_lt o.end b.from) (nat_lt o.end b.until) refl
        refl refl
      where
        front : AreNoPlaces without_oldest b.size redzone 0 (min b.from o.first)
        front =
            part b.size 0 (min b.from o.first) 0 b.from h.below (omega arith) (omega arith)
            (λ q over less f g r. omega arith)

        made : Bool → Bool → Bool → Bound
        made x y z =
            cond x b (cond y (record { size = b.size; from = min b.from o.first; next = o.end; until = b.from })
            (cond z (record { size = b.size; from = min b.from o.first; next = max b.next o.end; until = b.until })
            (record { size = b.size; from = min b.from o.first; next = b.next; until = min b.until o.first })))

        go : (x y z : Bool) → nat_lt o.room (max b.size 1) ≡ x → (nat_le b.until b.from && nat_lt o.end b.from) ≡ y
            → nat_lt o.end b.until ≡ z → Holds without_oldest redzone (made x y z)
        go true y z s t u =
            let none : o.room < max b.size 1 = grind (arith, nat_tests) in
            record {
              below =
                  part b.size 0 b.from 0 b.from h.below (omega arith) (omega arith) (λ q over less f g r. omega arith);
              between =
                  part b.size b.next b.until b.next b.until h.between (omega arith) (omega arith)
                  (λ q over less f g r. omega arith);
            }
        go false true z s t u = record {
          below = front;
          between =
              part b.size o.end b.from 0 b.from h.below (omega arith) (omega arith) (λ q over less f g r. omega arith);
        }
        go false false true s t u = record {
          below = front;
          between =
              part b.size (max b.next o.end) b.until b.next b.until h.between (omega arith) (omega arith)
              (λ q over less f g r. omega arith);
        }
        go false false false s t u = record {
          below = front;
          between =
              part b.size b.next (min b.until o.first) b.next b.until h.between (omega arith) (omega arith)
              (λ q over less f g r. omega arith);
        }

    bounds_hold : (bounds : List Bound) → AreBounds with_oldest redzone bounds
        → AreBounds without_oldest redzone (map (lowered o) bounds)
    bounds_hold = each_mapped (Holds with_oldest redzone) (Holds without_oldest redzone) (lowered o) lowered_holds

    -- the places that come
    opens : Opens o redzone with_oldest without_oldest
    opens size q place gone =
        elim (cases_lt (q - redzone) (high_end e)) [
          | inr ge ↦ absurd (gone (back (λ past under. omega (arith, ge, past))))
          | inl past ↦ (elim (cases_lt (low_end e) (q + max size 1 + redzone)) [
            | inr ge ↦ absurd (gone (back (λ _ under. omega (arith, ge, under))))
            | inl under ↦ (let f = from_first size q place past under in (f.0, f.2, f.1))
          ])
        ]
      where
        back : (q - redzone < high_end e → low_end e < q + max size 1 + redzone → ⊥)
            → IsPlace with_oldest size redzone q
        back outside = place_before size redzone q place outside

-- from a bound up to the next multiple of 16 there is no place for a block that isn't less
pub none_up_to : (blocks : Blocks) (size least redzone bound from : ℕ) → AreNoPlaces blocks least redzone 0 bound
    → max least 1 ≤ max size 1 → from % 16 ≡ 0
    → from < max bound (blocks.begin + redzone) + 16 → (q : ℕ) → q < from → ¬ (IsPlace blocks size redzone q)
none_up_to blocks size least redzone bound from none less_size even near q less place =
    elim (cases_lt q bound) [
      | inl l ↦ skipped_too blocks size least redzone 0 bound none less_size q (omega arith) l place
      | inr g ↦ (let above = place.above in let multiple = place.multiple in omega arith)
    ]

-- what the bounds say of where a search begins
pub raised_from : (blocks : Blocks) (bounds : List Bound) (redzone size known from : ℕ)
    → AreBounds blocks redzone bounds → IsKnown bounds size known
    → from % 16 ≡ 0 → from < max known (blocks.begin + redzone) + 16 → (q : ℕ) → q < from
    → ¬ (IsPlace blocks size redzone q)
raised_from blocks bounds redzone size known from hold (inr (i, b, there, less, is)) even near =
    none_up_to blocks size b.size redzone b.from from (hold i b there).below (omega arith) even (omega arith)
raised_from blocks bounds redzone size known from hold (inl h) even near =
    none_up_to blocks size size redzone 0 from (λ q over less. absurd (omega arith)) (omega arith) even (omega arith)

-- a bound that was taken holds
pub taken_holds : (blocks : Blocks) (bounds : List Bound) (redzone : ℕ) (taken : Bound)
    → AreBounds blocks redzone bounds → IsTaken bounds taken → Holds blocks redzone taken
taken_holds blocks bounds redzone taken hold (inl h) = record {
  below = λ q over less. absurd (omega (arith, h.0));
  between = λ q over less. absurd (omega (arith, h.1));
}
taken_holds blocks bounds redzone taken hold (inr (i, b, there, less, from, next, until)) =
    let h = hold i b there in
    record {
      below =
          λ q over under. skipped_too blocks taken.size b.size redzone 0 b.from h.below (omega arith) q over
          (omega arith);
      between =
          λ q over under. skipped_too blocks taken.size b.size redzone b.next b.until h.between (omega arith) q
          (omega arith) (omega arith);
    }

-- one bound is written anew
pub put_holds : (blocks : Blocks) (redzone : ℕ) (bounds : List Bound) (i : ℕ) (b : Bound)
    → AreBounds blocks redzone bounds → Holds blocks redzone b → AreBounds blocks redzone (set bounds i b)
put_holds blocks redzone = each_set (Holds blocks redzone)

-- below what a search answers there is no place
pub none_below : (blocks : Blocks) (size redzone p : ℕ) → Places blocks size redzone (Some p)
    → AreNoPlaces blocks size redzone 0 p
none_below blocks size redzone p h q over = h.least q

pub none_at_all : (blocks : Blocks) (size redzone p : ℕ) → Places blocks size redzone None
    → AreNoPlaces blocks size redzone 0 p
none_at_all blocks size redzone p h q over less = h q

-- what is known once the oldest entry has left
pub forgotten : (begin : ℕ) (live freed : Entries) (queue rest : List Entry) (number : ℕ)
    (sound : AreSound begin live freed queue number) (e : Entry)
    → Some e ≡ first_of queue → rest ≡ drop 1 queue → (redzone end : ℕ) (o : Opened)
    → EndsBelow (shown begin live queue) e.start end
    → BeginsAbove (shown begin live queue) e.start o.end → o.first % 16 ≡ 0 → o.first < end + redzone + 16
    → o.room ≡ o.end - (o.first + redzone)
    → (Opens o redzone (shown begin live queue) (shown begin live rest))
    × ((bounds : List Bound) → AreBounds (shown begin live queue) redzone bounds
    → AreBounds (shown begin live rest) redzone (map (lowered o) bounds))
forgotten begin live freed [] rest number sound e h d redzone end o low high even near fits = cc
forgotten begin live freed (x ∷ xs) rest number sound e h d redzone end o low high even near fits =
    let same : e ≡ x = some-same h in
    let P : Entry → Type 0 = λ y. EndsBelow (shown begin live (x ∷ xs)) y.start end in
    let Q : Entry → Type 0 = λ y. BeginsAbove (shown begin live (x ∷ xs)) y.start o.end in
    let R : List Entry → Type 0 = λ es. (Opens o redzone (shown begin live (x ∷ xs)) (shown begin live es))
    × ((bounds : List Bound) → AreBounds (shown begin live (x ∷ xs)) redzone bounds
    → AreBounds (shown begin live es) redzone (map (lowered o) bounds)) in
    let comes = opens begin (shown begin live (x ∷ xs)).live (map block_of (x ∷ xs)) (map block_of xs)
    (block_of x) refl sound.apart redzone end o (subst P same low) (subst Q same high) even near fits in
    let holds = bounds_hold begin (shown begin live (x ∷ xs)).live (map block_of (x ∷ xs)) (map block_of xs)
    (block_of x) refl sound.apart redzone end o (subst P same low) (subst Q same high) even near fits in
    subst R (sym d) (comes, holds)

-- a bound that was taken, once it is raised
pub raised_holds : (old blocks : Blocks) (before redzone : ℕ) (own : Bound) (size from : ℕ) → blocks ≡ old
    → redzone ≡ before → own.size ≡ size → AreNoPlaces blocks size redzone 0 from → Holds old before own
    → Holds blocks redzone (record { size = own.size; from = from; next = own.next; until = own.until })
raised_holds old blocks before redzone own size from same kept is none hold =
    let P : ℕ → Type 0 = λ n. AreNoPlaces blocks n redzone 0 from in
    let Q : Blocks → Type 0 = λ bs. AreNoPlaces bs own.size redzone own.next own.until in
    let R : ℕ → Type 0 = λ r. AreNoPlaces old own.size r own.next own.until in
    record { below = subst P (sym is) none; between = subst Q (sym same) (subst R (sym kept) hold.between) }
