-- malloc and free keep the heap open and closed.
use Rattle.std.proofs.Common.{◌≡◌, ℕ, ◌+◌, ◌-◌, ◌^◌, ◌<◌, ◌≤◌, max, true, false, cond, refl}
use Rattle.std.proofs.Common.{sym, ap, ◌∙◌, subst, inl, inr, ◌⊎◌, arith, List, Option, Some, None}
use Rattle.std.proofs.lemmas.Bool.{false≢true, cases_lt, cases_eq, eq-eqb, ne_eqb}
use Rattle.std.proofs.lemmas.Bool.Decides.{nat_tests}
use Rattle.shadow_memory.specs.Ranges.{is_in, changed_in}
use Rattle.shadow_memory.specs.Shadows.{Shadow, shadow_of, made_so}
use Rattle.shadow_memory.specs.declared.cells.RangeKind.{RangeKind}
use Rattle.shadow_memory.specs.declared.cells.RangeKind.TheVariants.{NoAccess}
use Rattle.call_stacks.specs.declared.block.Block.{Block}
use Rattle.guest_heap.specs.Blocks.{IsPlace, IsKept, Places, allocated, freed_by, with_live, released_at, done_or}
use Rattle.guest_heap.specs.Steps.{place, after_release, AreInRegion, AreApart}
use Rattle.guest_heap.specs.declared.released.Released.TheVariants.{Done, Nothing}
use Rattle.guest_heap.proofs.KeptSteps.{some-same, some-none}
use Rattle.guest_heap.proofs.StepLaws.{places}
use Rattle.guest_heap.proofs.LawSteps.{keeps-region}
use Rattle.guest_heap.proofs.ApartLaws.{keeps-apart}
use Rattle.guest_machine.specs.State.{Core}
use Rattle.guest_machine.specs.Errors.{here}
use Rattle.guest_machine.specs.HeapCalls.{placed, carved, freed}
use Rattle.clean_reports.specs.Heap.{HeapIsOpen, HeapIsClosed, IsInLive}

-- ranges that don't wrap --

is-inside : (start n a : ℕ) → start ≤ a → a < start + n → start + n ≤ 2 ^ 32 → is_in start n a ≡ true
is-inside start n a low high fits = grind (arith, nat_tests)

pub is-outside : (start n a : ℕ) → (a < start) ⊎ (start + n ≤ a) → start + n ≤ 2 ^ 32 → is_in start n a ≡ false
is-outside start n a (inl h) fits = grind (arith, nat_tests)
is-outside start n a (inr h) fits = grind (arith, nat_tests)

made-inside : (shadows : ℕ → Shadow) (start n a : ℕ) (kind : RangeKind) → is_in start n a ≡ true
    → made_so shadows start n kind a ≡ shadow_of kind
unfolding made_so changed_in
made-inside shadows start n a kind e = ap (λ b. cond b (shadow_of kind) (shadows a)) e

pub made-outside : (shadows : ℕ → Shadow) (start n a : ℕ) (kind : RangeKind) → is_in start n a ≡ false
    → made_so shadows start n kind a ≡ shadows a
unfolding made_so changed_in
made-outside shadows start n a kind e = ap (λ b. cond b (shadow_of kind) (shadows a)) e

-- the live blocks after a change at one address
pub record LivePut (live : ℕ → Option Block) (at : ℕ) (r : Option Block) (a : ℕ) (b : Block) : Type 0 where
  pub either : ((a ≡ at) × (r ≡ Some b)) ⊎ ((a ≡ at → ⊥) × (live a ≡ Some b))

live-put : (live : ℕ → Option Block) (at : ℕ) (r : Option Block) (a : ℕ) (b : Block)
    → with_live live at r a ≡ Some b → LivePut live at r a b
live-put live at r a b h = go (cases_eq a at)
  where
    go : (a ≡ at) ⊎ (a ≡ at → ⊥) → LivePut live at r a b
    go (inl e) = record { either = inl (e, ap (λ t. cond t r (live a)) (sym (eq-eqb a at e)) ∙ h) }
    go (inr n) = record { either = inr (n, ap (λ t. cond t r (live a)) (sym (ne_eqb a at n)) ∙ h) }

put-there : (live : ℕ → Option Block) (at : ℕ) (r : Option Block) → with_live live at r at ≡ r
put-there live at r = ap (λ t. cond t r (live at)) (eq-eqb at at refl)

put-else : (live : ℕ → Option Block) (at : ℕ) (r : Option Block) (a : ℕ) → (a ≡ at → ⊥) → with_live live at r a ≡ live a
put-else live at r a n = ap (λ t. cond t r (live a)) (ne_eqb a at n)

-- a new block --

module _ (c : Core) (stands : HeapIsOpen c) (size redzone : ℕ) (kind : RangeKind) (p : ℕ)
    (seen : (shadow_of kind).accessible ≡ true) (e : place c.blocks size redzone ≡ Some p) where
  is-place : IsPlace c.blocks size redzone p
  is-place = (subst (λ r. Places c.blocks size redzone r) e (places c.blocks size redzone stands.region)).place

  -- the core after the allocation
  abbrev new-core : Core
  new-core = carved (placed c (Some p) size redzone) p size redzone kind

  made-block : Block
  made-block = record { start = p; size = size; redzone = redzone; trace = here c; freed = None }

  -- each byte of an old block lies outside of the new interval
  old-apart : (q : ℕ) (b : Block) → c.blocks.live q ≡ Some b → (a : ℕ) → q ≤ a → a < q + b.size
      → (a < p - redzone) ⊎ (p + max size 1 + redzone ≤ a)
  old-apart q b there a low high =
      let begins = (stands.region.live q b there).start in
      let kept : IsKept c.blocks b = inl (ap c.blocks.live begins ∙ there) in
      let apart = is-place.apart b kept in
      elim (cases_lt a (p - redzone)) [
        | inl l ↦ inl l
        | inr r ↦ elim (cases_lt a (p + max size 1 + redzone)) [
          | inl m ↦ absurd (apart (omega arith, omega arith))
          | inr n ↦ inr n
        ]
      ]

  -- so its shadow stays
  old-shadow : (a : ℕ) → (a < p - redzone) ⊎ (p + max size 1 + redzone ≤ a) → new-core.shadow a ≡ c.shadow a
  old-shadow a side =
      let most = stands.region.within in
      let above = is-place.above in
      let below = is-place.below in
      made-outside _ p size a kind
      (is-outside p size a (elim side [ inl l ↦ inl (omega arith) | inr r ↦ inr (omega arith) ])
      (omega arith))
      ∙ made-outside c.shadow (p - redzone) (redzone + max size 1 + redzone) a NoAccess
      (is-outside (p - redzone) (redzone + max size 1 + redzone) a
      (elim side [ inl l ↦ inl l | inr r ↦ inr (omega arith) ]) (omega arith))

  new-shadow : (a : ℕ) → p ≤ a → a < p + size → new-core.shadow a ≡ shadow_of kind
  new-shadow a low high =
      let most = stands.region.within in
      let below = is-place.below in
      made-inside _ p size a kind (is-inside p size a low high (omega arith))

  pub allocated-open : HeapIsOpen new-core
  unfolding made-block
  allocated-open =
      let below = is-place.below in
      record {
        region = subst (λ r. AreInRegion (allocated c.blocks r size (here c) redzone)) e
            (keeps-region.allocated c.blocks size (here c) redzone stands.region);
        beside = stands.beside;
        stack = stands.stack;
        apart = subst (λ r. AreApart (allocated c.blocks r size (here c) redzone)) e
            (keeps-apart.allocated c.blocks size (here c) redzone stands.region stands.apart);
        fits = λ q b there. elim (live-put c.blocks.live p (Some made-block) q b there).either [
          | inl m ↦ (let same = some-same m.1 in let at = m.0 in
              let sized : size ≡ b.size = ap (λ (x : Block). x.size) same in omega arith)
          | inr m ↦ stands.fits q b m.1
        ];
        opened = λ q b there i h. elim (live-put c.blocks.live p (Some made-block) q b there).either [
          | inl m ↦
              (let same = some-same m.1 in let at = m.0 in
              let sized : size ≡ b.size = ap (λ (x : Block). x.size) same in
              ap (λ (s : Shadow). s.accessible) (new-shadow (q + i) (omega arith) (omega arith)) ∙ seen)
          | inr m ↦
              ap (λ (s : Shadow). s.accessible)
              (old-shadow (q + i) (old-apart q b m.1 (q + i) (omega arith) (omega arith)))
              ∙ stands.opened q b m.1 i h
        ];
      }

  -- no old block begins there
  not-there : (q : ℕ) (b : Block) → c.blocks.live q ≡ Some b → q ≡ p → ⊥
  not-there q b there same =
      let begins = (stands.region.live q b there).start in
      let kept : IsKept c.blocks b = inl (ap c.blocks.live begins ∙ there) in
      is-place.apart b kept (omega arith, omega arith)

  hidden : (a : ℕ) → p - redzone ≤ a → a < p + max size 1 + redzone → (a < p) ⊎ (p + size ≤ a)
      → (new-core.shadow a).accessible ≡ false
  hidden a low high side =
      let most = stands.region.within in
      let above = is-place.above in
      let below = is-place.below in
      ap (λ (s : Shadow). s.accessible) (made-outside _ p size a kind (is-outside p size a side (omega arith))
      ∙ made-inside c.shadow (p - redzone) (redzone + max size 1 + redzone) a NoAccess
      (is-inside (p - redzone) (redzone + max size 1 + redzone) a low (omega arith) (omega arith)))

  pub allocated-closed : HeapIsClosed c → HeapIsClosed new-core
  unfolding made-block
  allocated-closed closed a low high can = elim (cases_lt a (p - redzone)) [
    | inl l ↦ from-old (inl l)
    | inr r ↦ elim (cases_lt a (p + max size 1 + redzone)) [
      | inl m ↦ elim (cases_lt a p) [
        | inl under ↦ absurd (false≢true (sym (hidden a r m (inl under)) ∙ can))
        | inr over ↦ elim (cases_lt a (p + size)) [
          | inl within ↦ record {
            start = p;
            block = made-block;
            live = put-there c.blocks.live p (Some made-block);
            low = over;
            high = within;
          }
          | inr past ↦ absurd (false≢true (sym (hidden a r m (inr past)) ∙ can))
        ]
      ]
      | inr n ↦ from-old (inr n)
    ]
  ]
    where
      from-old : (a < p - redzone) ⊎ (p + max size 1 + redzone ≤ a) → IsInLive new-core a
      from-old side =
          let was = closed a low high (sym (ap (λ (s : Shadow). s.accessible) (old-shadow a side)) ∙ can) in
          record {
            start = was.start;
            block = was.block;
            live = put-else c.blocks.live p (Some made-block) was.start (not-there was.start was.block was.live)
                ∙ was.live;
            low = was.low;
            high = was.high;
          }

-- a freed block --

module _ (c : Core) (stands : HeapIsOpen c) (x volume : ℕ) (trace : List ℕ) (b : Block)
    (there : c.blocks.live x ≡ Some b) where
  begins : b.start ≡ x
  begins = (stands.region.live x b there).start

  -- the core after the release
  abbrev left-core : Core
  left-core = freed c (Done (freed_by trace b)) volume

  is-released : released_at c.blocks x trace ≡ Done (freed_by trace b)
  is-released =
      let above = (stands.region.live x b there).above in
      let some = stands.region.some in
      ap (λ t. cond t Nothing (done_or trace (c.blocks.live x))) (ne_eqb x 0 (omega arith)) ∙ ap (done_or trace) there

  -- each block that is left lies outside of the freed one
  left-apart : (q : ℕ) (d : Block) → c.blocks.live q ≡ Some d → (q ≡ b.start → ⊥) → (a : ℕ) → q ≤ a → a < q + d.size
      → (a < b.start) ⊎ (b.start + b.size ≤ a)
  left-apart q d lives other a low high =
      let start = (stands.region.live q d lives).start in
      let kept-d : IsKept c.blocks d = inl (ap c.blocks.live start ∙ lives) in
      let kept-b : IsKept c.blocks b = inl (ap c.blocks.live begins ∙ there) in
      elim (stands.apart.apart b d kept-b kept-d) [
        | inl same ↦ absurd (other (sym start ∙ ap (λ (y : Block). y.start) (sym same)))
        | inr clear ↦ elim clear [ inl l ↦ inr (omega arith) | inr l ↦ inl (omega arith) ]
      ]

  pub released-open : HeapIsOpen left-core
  unfolding freed
  released-open =
      let most = stands.region.within in
      let fits = stands.fits x b there in
      let at = begins in
      record {
        beside = stands.beside;
        stack = stands.stack;
        region = subst (λ r. AreInRegion (after_release r volume c.blocks)) is-released
            (keeps-region.released c.blocks x trace volume stands.region);
        apart = subst (λ r. AreApart (after_release r volume c.blocks)) is-released
            (keeps-apart.released c.blocks x trace volume stands.region stands.apart);
        fits = λ q d here. elim (live-put c.blocks.live b.start None q d here).either [
          | inl m ↦ absurd (some-none (sym m.1))
          | inr m ↦ stands.fits q d m.1
        ];
        opened = λ q d here i h. elim (live-put c.blocks.live b.start None q d here).either [
          | inl m ↦ absurd (some-none (sym m.1))
          | inr m ↦
              ap (λ (s : Shadow). s.accessible) (made-outside c.shadow b.start b.size (q + i) NoAccess
              (is-outside b.start b.size (q + i) (left-apart q d m.1 m.0 (q + i) (omega arith) (omega arith))
              (omega arith)))
              ∙ stands.opened q d m.1 i h
        ];
      }

  pub released-closed : HeapIsClosed c → HeapIsClosed left-core
  unfolding freed
  released-closed closed a low high can = elim (cases_lt a b.start) [
    | inl l ↦ from-old (inl l)
    | inr r ↦ elim (cases_lt a (b.start + b.size)) [
      | inl m ↦
          absurd (false≢true (sym (ap (λ (s : Shadow). s.accessible) (made-inside c.shadow b.start b.size a NoAccess
          (is-inside b.start b.size a r m (let most = stands.region.within in
          let fits = stands.fits x b there in let at = begins in omega arith))))
          ∙ can))
      | inr n ↦ from-old (inr n)
    ]
  ]
    where
      from-old : (a < b.start) ⊎ (b.start + b.size ≤ a) → IsInLive left-core a
      from-old side =
          let most = stands.region.within in
          let fits = stands.fits x b there in
          let at = begins in
          let was = closed a low high (sym (ap (λ (s : Shadow). s.accessible) (made-outside c.shadow b.start b.size a
          NoAccess (is-outside b.start b.size a side (omega arith)))) ∙ can) in
          record {
            start = was.start;
            block = was.block;
            live = put-else c.blocks.live b.start None was.start (other was.start was.block was.live was.low was.high)
                ∙ was.live;
            low = was.low;
            high = was.high;
          }
        where
          other : (q : ℕ) (d : Block) → c.blocks.live q ≡ Some d → q ≤ a → a < q + d.size → q ≡ b.start → ⊥
          other q d lives lo hi same =
              let at : c.blocks.live q ≡ Some b = ap c.blocks.live (same ∙ begins) ∙ there in
              let one : d ≡ b = some-same (sym lives ∙ at) in
              let sized : d.size ≡ b.size = ap (λ (y : Block). y.size) one in
              elim side [ inl l ↦ absurd (omega arith) | inr l ↦ absurd (omega arith) ]
