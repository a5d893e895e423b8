-- The kept blocks by their places, and by the tables and the queue.
use Rattle.std.proofs.Common.{◌≡◌, ℕ, zero, suc, ◌+◌, ◌-◌, ◌*◌, ◌/◌, ◌<◌, ◌≤◌, ◌==◌, inl, inr, nat_le, List, [], ◌∷◌}
use Rattle.std.proofs.Common.{Bool, true, false, cond, Option, Some, None, length}
use Rattle.std.proofs.Common.{map, slice_get, refl, ap, ap₂, sym, ◌∙◌, subst, arith, eq-eqb}
use Rattle.std.specs.List.{Contains}
use Rattle.std.proofs.lemmas.Bool.{cases_lt}
use Rattle.std.proofs.lemmas.Bool.Decides.{nat_tests}
use Rattle.call_stacks.specs.declared.block.Block.{Block}
use Rattle.guest_heap.specs.Blocks.{Blocks, IsKept, low_end, high_end, Meets}
use Rattle.memory_map.specs.Regions.{heap_size}
use Rattle.guest_heap.specs.Entries.{Entries, FirstAt, LastAt, block_of}
use Rattle.guest_heap.specs.States.{slot_of, beginning, shown, kept_at, either, IsPlaced, AreSound, FirstKept, LastKept}
use Rattle.guest_heap.specs.States.{IsNextKept, IsLastKept, MeetsBelow, MeetsFrom}
use Rattle.guest_heap.specs.States.{PastBelow, BeforeFrom, EndsBelow, BeginsAbove}
use Rattle.guest_heap.specs.declared.entry.Entry.{Entry}

pub some-same : {T : Type 0} {a b : T} → Some a ≡ Some b → a ≡ b
some-same h = cc

pub some-none : {T : Type 0} {a : T} → Some a ≡ None → ⊥
some-none h = cc

-- the block that begins at an address --

pub begins : (a : ℕ) (e : Entry) → e.start ≡ a → beginning a (Some e) ≡ Some (block_of e)
begins a e h = ap (λ b. cond b (Some (block_of e)) None) (eq-eqb e.start a h)

pub begun : (a : ℕ) (entry : Option Entry) (b : Block) → beginning a entry ≡ Some b
    → (e : Entry) × (entry ≡ Some e) × (block_of e ≡ b)
begun a None b h = cc
begun a (Some e) b h = go (e.start == a) h
  where
    go : (t : Bool) → cond t (Some (block_of e)) None ≡ Some b → (f : Entry) × (Some e ≡ Some f) × (block_of f ≡ b)
    go true k = (e, refl, some-same k)
    go false k = cc

pub placed-slot : (begin a k : ℕ) → a ≡ begin + 16 * k → slot_of begin a ≡ k
placed-slot begin a k h = omega arith

-- entries of the queue --

pub contains-block : (entries : List Entry) (i : ℕ) (e : Entry) → slice_get entries i ≡ Some e
    → Contains (map block_of entries) (block_of e)
contains-block [] i e h = cc
contains-block (x ∷ xs) zero e h =
    (0, (let p : 0 < suc (length (map block_of xs)) = omega arith in p), ap block_of (some-same h))
contains-block (x ∷ xs) (suc i) e h =
    let (k, p, q) = contains-block xs i e h in
    (suc k, (let r : suc k < suc (length (map block_of xs)) = omega arith in r), q)

pub block-contained : (entries : List Entry) (b : Block) → Contains (map block_of entries) b
    → (i : ℕ) × (e : Entry) × (slice_get entries i ≡ Some e) × (block_of e ≡ b)
block-contained [] b (k, p, q) = absurd (let r : k < 0 = p in omega arith)
block-contained (x ∷ xs) b (zero, p, q) = (0, x, refl, q)
block-contained (x ∷ xs) b (suc k, p, q) =
    let (i, e, there, same) = block-contained xs b (
      k,
      (let r : suc k < suc (length (map block_of xs)) = p in
          omega arith),
      q,
    ) in
    (suc i, e, there, same)

-- no entry, no block
pub none_kept : (live freed : Entries) (first k : ℕ) → either live freed k ≡ None → kept_at live freed first k ≡ None
none_kept live freed first k h = go (live k) (freed k) h refl refl
  where
    go : (x y : Option Entry) → either live freed k ≡ None → live k ≡ x → freed k ≡ y
        → kept_at live freed first k ≡ None
    go None None h e d = ap₂ (λ u v. kept_at (λ _. u) (λ _. v) first k) e d
    go None (Some f) h e d = cc (ap₂ (λ u v. either (λ _. u) (λ _. v) k) e d)
    go (Some f) y h e d = cc (ap (λ u. either (λ _. u) freed k) e)

module _ (begin : ℕ) (live freed : Entries) (queue : List Entry) (first : ℕ)
    (sound : AreSound begin live freed queue first) where
  kept-live : (k : ℕ) (e : Entry) → live k ≡ Some e → kept_at live freed first k ≡ Some (block_of e)
  kept-live k e h = ap (λ u. kept_at (λ _. u) freed first k) h

  kept-freed : (k : ℕ) (e : Entry) → live k ≡ None → freed k ≡ Some e → first ≤ e.number
      → kept_at live freed first k ≡ Some (block_of e)
  kept-freed k e h g n =
      let t : nat_le first e.number ≡ true = grind (arith, nat_tests) in
      ap₂ (λ u v. kept_at (λ _. u) (λ _. v) first k) h g ∙ ap (λ b. cond b (Some (block_of e)) None) t

  pub shown-live : (k : ℕ) (e : Entry) → live k ≡ Some e → (shown begin live queue).live e.start ≡ Some (block_of e)
  shown-live k e h =
      ap (λ n. beginning e.start (live n)) (placed-slot begin e.start k (sound.lives k e h).placed.start)
      ∙ ap (beginning e.start) h ∙ begins e.start e refl

  -- the block at a place is kept, and begins there
  pub record StandsAt (b : Block) (k : ℕ) : Type 0 where
    pub kept : IsKept (shown begin live queue) b
    pub placed : IsPlaced begin b k

  pub stands : (k : ℕ) (b : Block) → kept_at live freed first k ≡ Some b → StandsAt b k
  stands k b h = go (live k) (freed k) refl refl
    where
      as-block : (e : Entry) → block_of e ≡ b → StandsAt (block_of e) k → StandsAt b k
      as-block e d s = let P : Block → Type 0 = λ x. StandsAt x k in subst P d s

      from-queue : (e : Entry) → live k ≡ None → freed k ≡ Some e → first ≤ e.number → StandsAt (block_of e) k
      from-queue e l f n =
          let found = sound.finds k e f n l in
          let queued = sound.queues (e.number - first) e found.queued in
          let P : ℕ → Type 0 = λ m. IsPlaced begin (block_of e) m in
          record {
            kept = inr (contains-block queue (e.number - first) e found.queued);
            placed = subst P (placed-slot begin e.start k found.start) queued.placed;
          }

      aged : (e : Entry) (t : Bool) → nat_le first e.number ≡ t → live k ≡ None → freed k ≡ Some e
          → cond t (Some (block_of e)) None ≡ Some b → StandsAt b k
      aged e true t l f c = as-block e (some-same c) (from-queue e l f (grind (arith, nat_tests)))
      aged e false t l f c = cc

      go : (x y : Option Entry) → live k ≡ x → freed k ≡ y → StandsAt b k
      go None None l f = cc (h, ap₂ (λ u v. kept_at (λ _. u) (λ _. v) first k) l f)
      go None (Some e) l f =
          aged e (nat_le first e.number) refl l f (sym (ap₂ (λ u v. kept_at (λ _. u) (λ _. v) first k) l f) ∙ h)
      go (Some e) y l f =
          as-block e (some-same (sym (kept-live k e l) ∙ h))
          (record { kept = inl (shown-live k e l); placed = (sound.lives k e l).placed })

  pub record FoundAt (b : Block) : Type 0 where
    pub there : kept_at live freed first (slot_of begin b.start) ≡ Some b
    pub placed : IsPlaced begin b (slot_of begin b.start)

  pub found_at : (b : Block) → IsKept (shown begin live queue) b → FoundAt b
  found_at b (inl h) =
      let (e, l, d) = begun b.start (live (slot_of begin b.start)) b h in
      let P : Block → Type 0 = λ x. IsPlaced begin x (slot_of begin b.start) in
      record {
        there = kept-live (slot_of begin b.start) e l
            ∙ ap Some d;
        placed = subst P d (sound.lives (slot_of begin b.start) e l).placed;
      }
  found_at b (inr h) =
      let (i, e, q, d) = block-contained queue b h in
      let queued = sound.queues i e q in
      let recent : first ≤ e.number = omega (arith, queued.number) in
      let P : Block → Type 0 = FoundAt in
      subst P d (record {
        there = kept-freed (slot_of begin e.start) e queued.gone queued.found recent;
        placed = queued.placed;
      })

  -- searches by place --

  pub before : (k n : ℕ) (b c : Block) → kept_at live freed first k ≡ Some b → kept_at live freed first n ≡ Some c
      → k < n → high_end b ≤ low_end c
  before k n b c h g o =
      let x = stands k b h in
      let y = stands n c g in
      sound.apart b c x.kept y.kept (omega (arith, x.placed.start, y.placed.start))

  pub below_past : (to low : ℕ) (b : Block) → LastKept (kept_at live freed first) to b → low < high_end b
      → PastBelow (shown begin live queue) to low b
  below_past to low b h g =
      let x = stands h.place b h.there in
      record { kept = x.kept; below = omega (arith, x.placed.start, h.below); past = g; within = x.placed.high }

  pub below_clear : (to low : ℕ) (b : Block) → LastKept (kept_at live freed first) to b → high_end b ≤ low
      → MeetsBelow (shown begin live queue) to low None
  below_clear to low b h g c kept under =
      let x = stands h.place b h.there in
      let y = found_at c kept in
      let k = slot_of begin c.start in
      let within : k < to = omega (arith, y.placed.start) in
      elim (cases_lt k h.place) [
        | inl lt ↦ (let e = before k h.place c b y.there h.there lt in omega (arith, e, g))
        | inr ge ↦ elim (cases_lt h.place k) [
          | inl lt ↦ absurd (some-none (sym y.there ∙ h.none k lt within))
          | inr le ↦
              let same : k ≡ h.place = omega arith in
              let e : c ≡ b = some-same (sym y.there ∙ ap (kept_at live freed first) same ∙ h.there) in
              let P : Block → Type 0 = λ z. high_end z ≤ low in subst P (sym e) g
        ]
      ]

  pub below_none : (to low : ℕ) → IsLastKept (kept_at live freed first) to None
      → MeetsBelow (shown begin live queue) to low None
  below_none to low h c kept under =
      let y = found_at c kept in
      absurd (some-none (sym y.there ∙ h (slot_of begin c.start) (omega (arith, y.placed.start))))

  -- the ends of the blocks on either side
  pub ends_below : (to start : ℕ) (b : Block) → LastKept (kept_at live freed first) to b → begin + 16 * to ≤ start
      → (EndsBelow (shown begin live queue) start (high_end b)) × (high_end b ≤ begin + heap_size)
  ends_below to start b h g =
      let x = stands h.place b h.there in
      let under : b.start < start = omega (arith, x.placed.start, h.below) in
      (inr (b, x.kept, under, refl), x.placed.high)

  pub begins_above : (from start : ℕ) (b : Block) → FirstKept (kept_at live freed first) from b
      → start < begin + 16 * from → BeginsAbove (shown begin live queue) start (low_end b)
  begins_above from start b h g =
      let x = stands h.place b h.there in
      let over : start < b.start = omega (arith, x.placed.start, h.above) in
      inr (b, x.kept, over, refl)

  pub from_before : (from high : ℕ) (b : Block) → FirstKept (kept_at live freed first) from b → low_end b < high
      → BeforeFrom (shown begin live queue) from high b
  from_before from high b h g =
      let x = stands h.place b h.there in
      record { kept = x.kept; above = omega (arith, x.placed.start, h.above); before = g; within = x.placed.high }

  pub from_clear : (from high : ℕ) (b : Block) → FirstKept (kept_at live freed first) from b → high ≤ low_end b
      → MeetsFrom (shown begin live queue) from high None
  from_clear from high b h g c kept over =
      let y = found_at c kept in
      let k = slot_of begin c.start in
      let within : from ≤ k = omega (arith, y.placed.start) in
      elim (cases_lt k h.place) [
        | inl lt ↦ absurd (some-none (sym y.there ∙ h.none k within lt))
        | inr ge ↦ elim (cases_lt h.place k) [
          | inl lt ↦ (let e = before h.place k b c h.there y.there lt in omega (arith, e, g))
          | inr le ↦
              let same : k ≡ h.place = omega arith in
              let e : c ≡ b = some-same (sym y.there ∙ ap (kept_at live freed first) same ∙ h.there) in
              let P : Block → Type 0 = λ z. high ≤ low_end z in subst P (sym e) g
        ]
      ]

  pub from_none : (from high : ℕ) → IsNextKept (kept_at live freed first) from None
      → MeetsFrom (shown begin live queue) from high None
  from_none from high h c kept over =
      let y = found_at c kept in
      absurd (some-none (sym y.there ∙ h (slot_of begin c.start) (omega (arith, y.placed.start))
      (omega (arith, y.placed.start, y.placed.high))))

pub first_kept : (live freed : Entries) (first from at to n : ℕ) (b : Block)
    → ((k : ℕ) → from ≤ k → k < at → kept_at live freed first k ≡ None) → from ≤ at
    → FirstAt (either live freed) at to n → Some b ≡ kept_at live freed first n
    → FirstKept (kept_at live freed first) from b
first_kept live freed first from at to n b earlier order h there = record {
  place = n;
  above = omega (arith, h.above);
  there = sym there;
  none =
      λ k low high. elim (cases_lt k at) [
        | inl lt ↦ earlier k low lt
        | inr ge ↦ none_kept live freed first k
            (h.none k ge high)
      ];
}

pub last_kept : (live freed : Entries) (first to at n : ℕ) (b : Block)
    → ((k : ℕ) → at ≤ k → k < to → kept_at live freed first k ≡ None) → at ≤ to
    → LastAt (either live freed) at n → Some b ≡ kept_at live freed first n → LastKept (kept_at live freed first) to b
last_kept live freed first to at n b later order h there = record {
  place = n;
  below = omega (arith, h.below);
  there = sym there;
  none =
      λ k low high. elim (cases_lt k at) [
        | inl lt ↦ none_kept live freed first k (h.none k (omega arith) lt)
        | inr ge ↦
            later k ge high
      ];
}

-- a range that meets none before it and none after it
pub clear : (blocks : Blocks) (low high from : ℕ) → MeetsBelow blocks from low None → MeetsFrom blocks from high None
    → (b : Block) → IsKept blocks b → ¬ (Meets low high b)
clear blocks low high from under over b kept meets =
    elim (cases_lt b.start (blocks.begin + 16 * from)) [
      | inl lt ↦ (let e = under b kept lt in omega (arith, e, meets.0))
      | inr ge ↦ (let e = over b kept ge in omega (arith, e, meets.1))
    ]

pub meets_below : (blocks : Blocks) (low high from : ℕ) (b : Block) → blocks.begin ≤ low → low < high
    → from ≡ (low - blocks.begin + 15) / 16 → PastBelow blocks from low b → Meets low high b
meets_below blocks low high from b above order is h =
    let under : b.start < low = omega (arith, h.below) in
    (h.past, omega arith)

pub meets_from : (blocks : Blocks) (low high from : ℕ) (b : Block) → blocks.begin ≤ low → low < high
    → from ≡ (low - blocks.begin + 15) / 16 → BeforeFrom blocks from high b → Meets low high b
meets_from blocks low high from b above order is h =
    let over : low ≤ b.start = omega (arith, h.above) in
    (omega arith, h.before)
