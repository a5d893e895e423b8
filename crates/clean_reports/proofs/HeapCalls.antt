-- Effects that agree, of the heap calls by number and by name.
use Rattle.std.proofs.Common.{◌&&◌, nat_le, ◌≡◌, ℕ, ◌+◌, ◌-◌, ◌*◌, ◌/◌, ◌^◌, ◌<◌, ◌≤◌, min, max, Bool, true}
use Rattle.std.proofs.Common.{false, cond, refl, sym, ap, ◌∙◌, subst, inl, inr, ◌⊎◌, arith, lt-ltb, List, [], ◌++◌}
use Rattle.std.proofs.Common.{Option, Some, None, ◌==◌, nat_lt, leb-true}
use Rattle.std.proofs.lemmas.Bool.{false≢true, and_parts, cases_lt}
use Rattle.std.proofs.lemmas.Bool.Decides.{nat_tests}
use Rattle.std.specs.Option.{option_map}
use Rattle.std.specs.Int.{bit_at}
use Rattle.error_events.specs.declared.event.Event.{Event}
use Rattle.error_events.specs.declared.kind.Kind.TheVariants.{Value}
use Rattle.shadow_memory.specs.Ranges.{window, written, above, is_in, changed_in}
use Rattle.shadow_memory.specs.Shadows.{Shadow, shadow_of, loaded_undef, stored_shadow, made_so, copied_undef}
use Rattle.shadow_memory.specs.declared.cells.RangeKind.{RangeKind}
use Rattle.shadow_memory.specs.declared.cells.RangeKind.TheVariants.{NoAccess, Undefined, Defined}
use Rattle.run_values.specs.declared.span.Span.{Span}
use Rattle.run_values.specs.declared.status.Stop.TheVariants.{Misaligned}
use Rattle.memory_map.specs.Regions.{greatest_heap_begin}
use Rattle.call_stacks.specs.declared.block.Block.{Block}
use Rattle.guest_elf.specs.declared.hook.Hook.{Hook}
use Rattle.guest_elf.specs.declared.hook.Hook.TheVariants.{Malloc, Free, Calloc, Realloc}
use Rattle.guest_heap.specs.Blocks.{Blocks, end_of, greatest_size, IsPlace, Meets, IsKept, Places}
use Rattle.guest_heap.specs.Steps.{place, is_free, is_place, starts, BeginsAt}
use Rattle.guest_heap.specs.declared.released.Released.{Released}
use Rattle.guest_heap.specs.declared.released.Released.TheVariants.{Done, Nothing, Invalid}
use Rattle.guest_heap.proofs.Firsts.{first-some}
use Rattle.guest_heap.proofs.StepLaws.{places}
use Rattle.guest_machine.specs.State.{Core}
use Rattle.guest_machine.specs.Registers.{known, set_register, tested}
use Rattle.guest_machine.specs.Spans.{span_at}
use Rattle.guest_machine.specs.Errors.{value_errors}
use Rattle.guest_machine.specs.Effects.{Effect, quiet, raising, moved_to, stopped, no_bytes}
use Rattle.guest_machine.specs.Calls.{argument, answered, heap_parameters, tested_from, errors_from}
use Rattle.guest_machine.specs.Calls.{parameters_of}
use Rattle.guest_machine.specs.HeapCalls.{placed, carved, block_at, given_block, freed, released_here, free_errors}
use Rattle.guest_machine.specs.HeapCalls.{Resizing, Allocates, Refuses, Frees, Keeps, Moves, resizing, resizing_block}
use Rattle.guest_machine.specs.HeapCalls.{moving}
use Rattle.guest_machine.specs.HeapCalls.{copied, resized, resize_errors, heap_work}
use Rattle.guest_machine.specs.HeapCalls.{between, heap_call}
use Rattle.guest_machine.specs.NamedCalls.{return_address, named_tested, named_errors, returned_to, named_by}
use Rattle.guest_machine.specs.Exec.{taken_from, heap_uses, named_uses_by, work_uses}
use Rattle.guest_machine.specs.Exec.{moved_from, moved_into, Uses}
use Rattle.clean_reports.specs.Agreement.{MemoriesAgree}
use Rattle.clean_reports.specs.Uses.{NoUse}
use Rattle.clean_reports.specs.Heap.{BlocksAreOpen}
use Rattle.clean_reports.proofs.Bits.{Under}
use Rattle.clean_reports.proofs.Values.{known-agrees}
use Rattle.clean_reports.proofs.Memory.{made-agrees, filled-agrees, range-agrees, window-bytes, stored-bytes}
use Rattle.clean_reports.proofs.Memory.{stored-bits, loaded-lt}
use Rattle.clean_reports.proofs.Registers.{Held, HeldAgree, held-of, swap, set-in, set-in-agrees, IsKnown, AreKnown}
use Rattle.clean_reports.proofs.Registers.{same-argument, other-known}
use Rattle.clean_reports.proofs.Registers.{others-known}
use Rattle.clean_reports.proofs.Registers.{left-none, right-none, known-by, no-errors, tested-same, all-known}
use Rattle.clean_reports.proofs.Registers.{all-tested}
use Rattle.clean_reports.proofs.Registers.{none-raised}
use Rattle.clean_reports.proofs.Effects.{EffectsAgree}
use Rattle.clean_reports.proofs.Calls.{carried-along, test-errors, call-known, call-tested, call-raises, call-others}

-- the place of a new block is an address
place-lt : (blocks : Blocks) (size redzone p : ℕ) → blocks.begin ≤ greatest_heap_begin
    → place blocks size redzone ≡ Some p → p < 2 ^ 32
unfolding place is_place
place-lt blocks size redzone p most e =
    let first = first-some (is_place blocks size redzone) (starts blocks.begin) p e in
    let free = is_free blocks (p - redzone) (p + max size 1 + redzone) in
    let below = nat_le (p + max size 1 + redzone) (end_of blocks) in
    let above = nat_le (blocks.begin + redzone) p in
    let first-two = (and_parts (nat_le size greatest_size) (above && (below && free)) first.passes).1 in
    let last-two = (and_parts above (below && free) first-two).1 in
    let low : p + max size 1 + redzone ≤ end_of blocks = leb-true (p + max size 1 + redzone) (end_of blocks)
    (and_parts below free last-two).0 in
    omega arith

pub not-no : NoAccess ≡ Defined → ⊥
not-no e = cc

pub not-un : Undefined ≡ Defined → ⊥
not-un e = cc

-- a block that realloc moves is live, and its new place is free
pub record IsMove (blocks : Blocks) (x y redzone : ℕ) (b : Block) (q : ℕ) : Type 0 where
  pub live : blocks.live x ≡ Some b
  pub place : place blocks y redzone ≡ Some q

pub is-move : (blocks : Blocks) (x y redzone : ℕ) (b : Block) (q : ℕ) → resizing blocks x y redzone ≡ Moves b q
    → IsMove blocks x y redzone b q
unfolding resizing
is-move blocks x y redzone b q e = go (x == 0) (blocks.live x) refl e
  where
    there : (d : Block) (u : Bool) (r : Option ℕ) → blocks.live x ≡ Some d → place blocks y redzone ≡ r
        → cond u Frees (moving d r) ≡ Moves b q → IsMove blocks x y redzone b q
    there d true r k l e = cc
    there d false None k l e = cc
    there d false (Some p) k l e =
        let same : d ≡ b = cc in
        let at : p ≡ q = cc in
        record { live = k ∙ ap Some same; place = l ∙ ap Some at }

    go : (t : Bool) (o : Option Block) → blocks.live x ≡ o
        → cond t Allocates (resizing_block blocks o y redzone) ≡ Moves b q → IsMove blocks x y redzone b q
    go true o k e = cc
    go false None k e = cc
    go false (Some d) k e = there d (y == 0) (place blocks y redzone) k refl e

out-of : (start n a : ℕ) → (a < start) ⊎ (start + n ≤ a) → start + n ≤ 2 ^ 32 → is_in start n a ≡ false
out-of start n a (inl h) fits = grind (arith, nat_tests)
out-of start n a (inr h) fits = grind (arith, nat_tests)

-- no byte of the old block lies in the interval of the new one
pub record LiesApart (q redzone y a : ℕ) : Type 0 where
  pub interval : is_in (q - redzone) (redzone + max y 1 + redzone) a ≡ false
  pub block : is_in q y a ≡ false

apart-from : (blocks : Blocks) (x y redzone : ℕ) (b : Block) (q : ℕ) → blocks.begin ≤ greatest_heap_begin
    → BeginsAt blocks b x → IsPlace blocks y redzone q → IsKept blocks b → (i : ℕ) → i < min b.size y
    → LiesApart q redzone y (above x i)
apart-from blocks x y redzone b q most begins is kept i h =
    let low = is.above in
    let high = is.below in
    let begin = begins.start in
    let under = begins.below in
    let small = is.small in
    let flat : above x i ≡ x + i = omega arith in
    let side : ((x + i) < q - redzone) ⊎ (q + max y 1 + redzone ≤ x + i) =
    side-of (is.apart b kept) in
    record {
      interval = subst (λ n. is_in (q - redzone) (redzone + max y 1 + redzone) n ≡ false) (sym flat)
          (out-of (q - redzone) (redzone + max y 1 + redzone) (x + i)
          (elim side [ inl l ↦ inl l | inr r ↦ inr (omega arith) ]) (omega arith));
      block = subst (λ n. is_in q y n ≡ false) (sym flat)
          (out-of q y (x + i) (elim side [ inl l ↦ inl (omega arith) | inr r ↦ inr (omega arith) ]) (omega arith));
    }
  where
    side-of : ¬ (Meets (q - redzone) (q + max y 1 + redzone) b)
        → ((x + i) < q - redzone) ⊎ (q + max y 1 + redzone ≤ x + i)
    side-of apart = elim (cases_lt (x + i) (q - redzone)) [
      | inl l ↦ inl l
      | inr r ↦ elim (cases_lt (x + i) (q + max y 1 + redzone)) [
        | inl m ↦ let begin = begins.start in absurd (apart (omega arith, omega arith))
        | inr n ↦ inr n
      ]
    ]

-- free
frees : (c : Core) (qs : Held) → HeldAgree (held-of c) qs → (f g : ℕ → ℕ) → MemoriesAgree c.shadow f g
    → (released : Released) (n : ℕ) (es others : List Event) (volume : ℕ) → n < 2 ^ 32 → es ≡ others
    → EffectsAgree f g None None (raising (answered (freed c released volume) n) es)
    (raising (answered (freed (swap c qs) released volume) n) others)
unfolding freed set_register
frees c qs a f g m (Done b) n es others volume small same = record {
  registers = set-in qs 10 (known n);
  core = refl;
  agree = set-in-agrees (held-of c) qs a 10 _ _ (known-agrees n small);
  raised = same;
  output = refl;
  memory = made-agrees c.shadow f g m b.start b.size NoAccess not-no;
}
frees c qs a f g m Nothing n es others volume small same = record {
  registers = set-in qs 10 (known n);
  core = refl;
  agree = set-in-agrees (held-of c) qs a 10 _ _ (known-agrees n small);
  raised = same;
  output = refl;
  memory = m;
}
frees c qs a f g m Invalid n es others volume small same = record {
  registers = set-in qs 10 (known n);
  core = refl;
  agree = set-in-agrees (held-of c) qs a 10 _ _ (known-agrees n small);
  raised = same;
  output = refl;
  memory = m;
}

module _ (c : Core) (qs : Held) (a : HeldAgree (held-of c) qs) (f g : ℕ → ℕ)
    (m : MemoriesAgree c.shadow f g) where
  -- malloc
  gives : (opened : BlocksAreOpen c) (size redzone : ℕ) (kind : RangeKind) → (kind ≡ Defined → ⊥) → (o : Option ℕ)
      → place c.blocks size redzone ≡ o
      → EffectsAgree f g None None (quiet (block_at c o size redzone kind))
      (quiet (block_at (swap c qs) o size redzone kind))
  unfolding block_at set_register
  gives opened size redzone kind loose None e = record {
    registers = set-in qs 10 (known 0);
    core = refl;
    agree = set-in-agrees (held-of c) qs a 10 _ _ (known-agrees 0 (omega arith));
    raised = refl;
    output = refl;
    memory = m;
  }
  gives opened size redzone kind loose (Some p) e = record {
    registers = set-in qs 10 (known p);
    core = refl;
    agree =
        set-in-agrees (held-of c) qs a 10 _ _
        (known-agrees p (place-lt c.blocks size redzone p opened.region.within e));
    raised = refl;
    output = refl;
    memory = made-agrees _ f g
        (made-agrees c.shadow f g m (p - redzone) (redzone + max size 1 + redzone) NoAccess not-no)
        p size kind loose;
  }

  -- calloc
  zeroes : (opened : BlocksAreOpen c) (size redzone : ℕ) → (o : Option ℕ) → place c.blocks size redzone ≡ o
      → EffectsAgree f g (option_map (λ p. span_at p size) o) (option_map (λ p. span_at p size) o)
      (quiet (block_at c o size redzone Defined)) (quiet (block_at (swap c qs) o size redzone Defined))
  unfolding block_at set_register
  zeroes opened size redzone None e = record {
    registers = set-in qs 10 (known 0);
    core = refl;
    agree = set-in-agrees (held-of c) qs a 10 _ _ (known-agrees 0 (omega arith));
    raised = refl;
    output = refl;
    memory = m;
  }
  zeroes opened size redzone (Some p) e = record {
    registers = set-in qs 10 (known p);
    core = refl;
    agree =
        set-in-agrees (held-of c) qs a 10 _ _
        (known-agrees p (place-lt c.blocks size redzone p opened.region.within e));
    raised = refl;
    output = refl;
    memory = filled-agrees _ f g
        (made-agrees c.shadow f g m (p - redzone) (redzone + max size 1 + redzone) NoAccess not-no)
        p size Defined no_bytes (λ i. omega arith);
  }

  free-same : (released : Released) (x : ℕ) → free_errors c released x ≡ free_errors (swap c qs) released x
  unfolding free_errors
  free-same (Done b) x = refl
  free-same Nothing x = refl
  free-same Invalid x = refl

  -- the effect of realloc, by which of its five cases it is
  abbrev resize-by : Core → ℕ → ℕ → ℕ → ℕ → Resizing → (ℕ → ℕ) → Effect
  resize-by d x y redzone volume what bytes = record {
    core = resized d x y redzone volume what;
    raised = resize_errors d x what;
    made = taken_from bytes (moved_from what x y);
    output = [];
  }

  -- the core of a move, before the old block is freed
  abbrev full-of : ℕ → ℕ → ℕ → Block → ℕ → Core
  full-of x y redzone b q = copied (carved (placed c (Some q) y redzone) q y redzone Undefined) x q (min b.size y)

  abbrev both-shadow : ℕ → ℕ → ℕ → ℕ → Shadow
  both-shadow y redzone q =
      made_so (made_so c.shadow (q - redzone) (redzone + max y 1 + redzone) NoAccess) q y Undefined

  kept-shadow : (y redzone q k : ℕ) → LiesApart q redzone y k → both-shadow y redzone q k ≡ c.shadow k
  unfolding made_so changed_in
  kept-shadow y redzone q k apart =
      ap (λ t. cond t (shadow_of Undefined)
      (cond (is_in (q - redzone) (redzone + max y 1 + redzone) k) (shadow_of NoAccess)
      (c.shadow k))) apart.block
      ∙ ap (λ t. cond t (shadow_of NoAccess) (c.shadow k)) apart.interval

  copies : (opened : BlocksAreOpen c) (x y redzone : ℕ) (b : Block) (q : ℕ) → IsMove c.blocks x y redzone b q
      → MemoriesAgree (copied_undef (both-shadow y redzone q) x q (min b.size y))
      (written f q (min b.size y) (window f x (min b.size y))) (written g q (min b.size y) (window g x (min b.size y)))
  unfolding copied_undef window
  copies opened x y redzone b q move =
      let n = min b.size y in
      let both = made-agrees _ f g
      (made-agrees c.shadow f g m (q - redzone) (redzone + max y 1 + redzone) NoAccess not-no)
      q y Undefined not-un in
      let begins = opened.region.live x b move.live in
      let kept : IsKept c.blocks b = inl (ap c.blocks.live begins.start ∙ move.live) in
      let least = subst (λ r. Places c.blocks y redzone r) move.place (places c.blocks y redzone opened.region) in
      range-agrees (both-shadow y redzone q) f g both q n
      (λ i s. stored_shadow (loaded_undef (both-shadow y redzone q (above x i))) s) (window f x n) (window g x n)
      (λ i k h. stored-bytes (both-shadow y redzone q k).accessible _ (both-shadow y redzone q k) _ _ refl
      (under i h (sym (kept-shadow y redzone q (above x i)
      (apart-from c.blocks x y redzone b q opened.region.within begins least.place kept i h)))
      (opened.opened x b move.live i (omega (arith, h)))))
      (λ i k. stored-bits (both-shadow y redzone q k).accessible _ (both-shadow y redzone q k)
      (loaded-lt (both-shadow y redzone q (above x i)).accessible _ (both.bits (above x i))) (both.bits k))
      (window-bytes f x n m.one) (window-bytes g x n m.other)
    where
      under : (i : ℕ) → i < min b.size y → c.shadow (above x i) ≡ both-shadow y redzone q (above x i)
          → (c.shadow (above x i)).accessible ≡ true
          → Under (loaded_undef (both-shadow y redzone q (above x i))) (window f x (min b.size y) i)
          (window g x (min b.size y) i)
      under i h same there = subst (λ (s : Shadow). Under (loaded_undef s) (window f x (min b.size y) i)
          (window g x (min b.size y) i)) same (go (nat_lt i (min b.size y)) (lt-ltb i (min b.size y) h))
        where
          go : (t : Bool) → t ≡ true → Under (loaded_undef (c.shadow (above x i))) (cond t (f (above x i)) 0)
              (cond t (g (above x i)) 0)
          go false e = absurd (false≢true e)
          go true e =
              λ j l clear. m.each (above x i) there j l
              (ap (λ t. bit_at (cond t (c.shadow (above x i)).undef 0) j) (sym there) ∙ clear)

  resizes : (opened : BlocksAreOpen c) (x y redzone volume : ℕ) (what : Resizing) → resizing c.blocks x y redzone ≡ what
      → EffectsAgree f g (moved_into what y) (moved_into what y) (resize-by c x y redzone volume what f)
      (resize-by (swap c qs) x y redzone volume what g)
  unfolding resized resize_errors set_register
  resizes opened x y redzone volume Allocates e =
      gives opened y redzone Undefined not-un (place c.blocks y redzone) refl
  resizes opened x y redzone volume Refuses e = record {
    registers = set-in qs 10 (known 0);
    core = refl;
    agree = set-in-agrees (held-of c) qs a 10 _ _ (known-agrees 0 (omega arith));
    raised = refl;
    output = refl;
    memory = m;
  }
  resizes opened x y redzone volume Frees e = frees c qs a f g m (released_here c x) 0 [] [] volume (omega arith) refl
  resizes opened x y redzone volume Keeps e = record {
    registers = set-in qs 10 (known 0);
    core = refl;
    agree = set-in-agrees (held-of c) qs a 10 _ _ (known-agrees 0 (omega arith));
    raised = refl;
    output = refl;
    memory = m;
  }
  resizes opened x y redzone volume (Moves b q) e =
      let full = full-of x y redzone b q in
      let small = place-lt c.blocks y redzone q opened.region.within (is-move c.blocks x y redzone b q e).place in
      let moved = frees full qs a (written f q (min b.size y) (window f x (min b.size y)))
      (written g q (min b.size y) (window g x (min b.size y)))
      (copies opened x y redzone b q (is-move c.blocks x y redzone b q e)) (released_here full x) q []
      [] volume small refl in
      record {
        registers = moved.registers;
        core = moved.core;
        agree = moved.agree;
        raised = refl;
        output = refl;
        memory = moved.memory;
      }

  -- the work of a function, with its two arguments
  abbrev work-by : Core → Hook → ℕ → ℕ → ℕ → ℕ → (ℕ → ℕ) → Effect
  work-by d function x y redzone volume h =
      heap_work function d x y redzone volume (taken_from h (work_uses function d.blocks x y redzone).reads)

  works : (opened : BlocksAreOpen c) (function : Hook) (x y redzone volume : ℕ)
      → EffectsAgree f g (work_uses function c.blocks x y redzone).writes
      (work_uses function c.blocks x y redzone).writes
      (work-by c function x y redzone volume f) (work-by (swap c qs) function x y redzone volume g)
  unfolding heap_work work_uses
  works opened Malloc x y redzone volume = gives opened x redzone Undefined not-un (place c.blocks x redzone) refl
  works opened Free x y redzone volume =
      frees c qs a f g m (released_here c x) 0 _ _ volume (omega arith) (free-same (released_here c x) x)
  works opened Calloc x y redzone volume = zeroes opened (x * y) redzone (place c.blocks (x * y) redzone) refl
  works opened Realloc x y redzone volume =
      resizes opened x y redzone volume (resizing c.blocks x y redzone) refl

-- what comes before and after the work --

-- the same errors may come before an effect, and the same change of pc after it
advances : (f g : ℕ → ℕ) (u v : Option Span) (e h : Effect) (es : List Event) (next : ℕ) → EffectsAgree f g u v e h
    → EffectsAgree f g u v (between es e (λ after. moved_to after next)) (between es h (λ after. moved_to after next))
advances f g u v e h es next x = record {
  registers = x.registers;
  core = ap (λ after. moved_to after next) x.core;
  agree = x.agree;
  raised = ap (λ r. es ++ r) x.raised;
  output = x.output;
  memory = x.memory;
}

come-back : (f g : ℕ → ℕ) (u v : Option Span) (e h : Effect) (es : List Event) (to : ℕ) → EffectsAgree f g u v e h
    → EffectsAgree f g u v (between es e (returned_to to)) (between es h (returned_to to))
come-back f g u v e h es to x = record {
  registers = x.registers;
  core = ap (returned_to to) x.core;
  agree = x.agree;
  raised = ap (λ r. es ++ r) x.raised;
  output = x.output;
  memory = x.memory;
}

pub heap-first : (c : Core) (next : ℕ) (function : Hook) (redzone volume : ℕ) (taken : ℕ → ℕ)
    → NoUse (heap_call function c next redzone volume taken).raised → NoUse (test-errors c (heap_parameters function))
unfolding parameters_of
heap-first c next function redzone volume taken none = left-none _ _ none

-- the work only looks at arguments that are defined, so it is the same
pub record SameWork (function : Hook) (x y v w : ℕ) : Type 0 where
  pub uses : (blocks : Blocks) (redzone : ℕ)
      → work_uses function blocks x y redzone ≡ work_uses function blocks v w redzone
  pub work : (d : Core) (redzone volume : ℕ) (taken : ℕ → ℕ)
      → heap_work function d x y redzone volume taken ≡ heap_work function d v w redzone volume taken

same-work : (c : Core) (qs : Held) → HeldAgree (held-of c) qs → (function : Hook)
    → AreKnown c 10 (heap_parameters function)
    → SameWork function (argument c 10) (argument c 11) (argument (swap c qs) 10) (argument (swap c qs) 11)
unfolding heap_parameters heap_work work_uses
same-work c qs a Malloc known =
    let p = same-argument c qs a 10 known.0 in
    record {
      uses = λ blocks redzone. refl;
      work = λ d redzone volume taken. ap (λ x. quiet (given_block d x redzone Undefined)) p;
    }
same-work c qs a Free known =
    let p = same-argument c qs a 10 known.0 in
    record {
      uses = λ blocks redzone. refl;
      work = λ d redzone volume taken. ap (λ x. heap_work Free d x 0 redzone volume taken) p;
    }
same-work c qs a Calloc known =
    let p = same-argument c qs a 10 known.0 in
    let q = same-argument c qs a 11 known.1.0 in
    record {
      uses = λ blocks redzone. (λ i. work_uses Calloc blocks (p i) (q i) redzone);
      work = λ d redzone volume taken. (λ i. heap_work Calloc d (p i) (q i) redzone volume taken);
    }
same-work c qs a Realloc known =
    let p = same-argument c qs a 10 known.0 in
    let q = same-argument c qs a 11 known.1.0 in
    record {
      uses = λ blocks redzone. (λ i. work_uses Realloc blocks (p i) (q i) redzone);
      work = λ d redzone volume taken. (λ i. heap_work Realloc d (p i) (q i) redzone volume taken);
    }

module _ (c : Core) (qs : Held) (a : HeldAgree (held-of c) qs) (f g : ℕ → ℕ)
    (m : MemoriesAgree c.shadow f g) (opened : BlocksAreOpen c) (function : Hook) (redzone volume : ℕ) where
  -- each core's work has its own arguments
  abbrev own-work : Core → (ℕ → ℕ) → Effect
  own-work d h =
      heap_work function d (argument d 10) (argument d 11) redzone volume
      (taken_from h (heap_uses function d redzone).reads)

  works-alike : AreKnown c 10 (heap_parameters function)
      → EffectsAgree f g (heap_uses function c redzone).writes (heap_uses function (swap c qs) redzone).writes
      (own-work c f) (own-work (swap c qs) g)
  works-alike known =
      let same = same-work c qs a function known in
      let x = argument (swap c qs) 10 in
      let y = argument (swap c qs) 11 in
      carried-along f g _ _ _ _ _ _ _ _ refl (ap (λ (u : Uses). u.writes) (same.uses c.blocks redzone)) refl
      (ap (λ (u : Uses). heap_work function (swap c qs) (argument c 10) (argument c 11) redzone volume
      (taken_from g u.reads)) (same.uses c.blocks redzone)
      ∙ same.work (swap c qs) redzone volume (taken_from g (work_uses function c.blocks x y redzone).reads))
      (works c qs a f g m opened function (argument c 10) (argument c 11) redzone volume)

  pub heap-calls : (next : ℕ) → NoUse
      (heap_call function c next redzone volume (taken_from f (heap_uses function c redzone).reads)).raised
      → EffectsAgree f g (heap_uses function c redzone).writes (heap_uses function (swap c qs) redzone).writes
      (heap_call function c next redzone volume (taken_from f (heap_uses function c redzone).reads))
      (heap_call function (swap c qs) next redzone volume (taken_from g (heap_uses function (swap c qs) redzone).reads))
  unfolding parameters_of
  heap-calls next none =
      let known = call-known c (heap_parameters function) (heap-first c next function redzone volume _ none) in
      let known' = call-others c qs a (heap_parameters function) known in
      let by : Core → Core → List Event → (ℕ → ℕ) → Effect = λ d now es h.
      between es (heap_work function now (argument d 10) (argument d 11) redzone volume
      (taken_from h (heap_uses function d redzone).reads)) (λ after. moved_to after next) in
      carried-along f g _ _ _ _ _ _ _ _ refl refl
      (λ i. by c (sym (call-tested c (heap_parameters function) known) i)
      (sym (call-raises c (heap_parameters function) known) i) f)
      (λ i. by (swap c qs) (sym (call-tested (swap c qs) (heap_parameters function) known') i)
      (sym (call-raises (swap c qs) (heap_parameters function) known') i) g)
      (advances f g _ _ (own-work c f) (own-work (swap c qs) g) [] next (works-alike known.1))

-- a call by name that raises no use has a defined x1
pub named-first : (b : Bool) (c : Core) (function : Hook) (redzone volume : ℕ) (taken : ℕ → ℕ)
    → NoUse (named_by b function c redzone volume taken).raised → IsKnown c 1
unfolding named_by
named-first true c function redzone volume taken none = known-by c 1 Value refl (left-none _ _ (left-none _ _ none))
named-first false c function redzone volume taken none = known-by c 1 Value refl none

-- and defined parameters
named-known : (c : Core) (function : Hook) → IsKnown c 1 → NoUse (named_errors c function)
    → AreKnown c 10 (heap_parameters function)
named-known c function one none =
    all-known c 10 (heap_parameters function) (subst (λ now. NoUse (errors_from now 10 (heap_parameters function)))
    (tested-same c 1 one) (right-none (value_errors c 1) _ none))

named-tested : (c : Core) (function : Hook) → IsKnown c 1 → AreKnown c 10 (heap_parameters function)
    → named_tested c function ≡ c
named-tested c function one known =
    ap (λ now. tested_from now 10 (heap_parameters function)) (tested-same c 1 one)
    ∙ all-tested c 10 (heap_parameters function) known

named-raises : (c : Core) (function : Hook) → IsKnown c 1 → AreKnown c 10 (heap_parameters function)
    → named_errors c function ≡ []
named-raises c function one known =
    ap (λ es. es ++ errors_from (tested c 1) 10 (heap_parameters function)) (no-errors c 1 Value one)
    ∙ ap (λ now. errors_from now 10 (heap_parameters function)) (tested-same c 1 one)
    ∙ none-raised c 10 (heap_parameters function) known

pub same-return : (c : Core) (qs : Held) → HeldAgree (held-of c) qs → IsKnown c 1
    → return_address c ≡ return_address (swap c qs)
same-return c qs a one = ap (λ n. n / 2 * 2) (same-argument c qs a 1 one)

module _ (c : Core) (qs : Held) (a : HeldAgree (held-of c) qs) (f g : ℕ → ℕ)
    (m : MemoriesAgree c.shadow f g) (opened : BlocksAreOpen c) (function : Hook) (redzone volume : ℕ) where
  -- the effect of a call by name, by whether x1 is a place to return to
  abbrev named-leaves : Bool → Core → (ℕ → ℕ) → Effect
  named-leaves b d h =
      named_by b function d redzone volume (taken_from h (named_uses_by b function d redzone).reads)

  pub named-calls : (b : Bool) → NoUse (named-leaves b c f).raised
      → EffectsAgree f g (named_uses_by b function c redzone).writes
      (named_uses_by b function (swap c qs) redzone).writes
      (named-leaves b c f) (named-leaves b (swap c qs) g)
  unfolding named_by named_uses_by
  named-calls true none =
      let one = known-by c 1 Value refl (left-none _ _ (left-none _ _ none)) in
      let known = named-known c function one (left-none _ _ none) in
      let one' = other-known c qs a 1 one in
      let known' = others-known c qs a 10 (heap_parameters function) known in
      let to = return_address c in
      let by : Core → Core → List Event → ℕ → (ℕ → ℕ) → Effect = λ d now es to h.
      between es (heap_work function now (argument d 10) (argument d 11) redzone volume
      (taken_from h (heap_uses function d redzone).reads)) (returned_to to) in
      carried-along f g _ _ _ _ _ _ _ _ refl refl
      (λ i. by c (sym (named-tested c function one known) i) (sym (named-raises c function one known) i) to f)
      (λ i. by (swap c qs) (sym (named-tested (swap c qs) function one' known') i)
      (sym (named-raises (swap c qs) function one' known') i) (same-return c qs a one i) g)
      (come-back f g _ _ (own-work c qs a f g m opened function redzone volume c f)
      (own-work c qs a f g m opened function redzone volume (swap c qs) g) [] to
      (works-alike c qs a f g m opened function redzone volume known))
  named-calls false none =
      let one = known-by c 1 Value refl none in
      let one' = other-known c qs a 1 one in
      carried-along f g _ _ _ _ _ _ _ _ refl refl
      (λ i. raising (stopped (sym (tested-same c 1 one) i) Misaligned) (sym (no-errors c 1 Value one) i))
      (λ i. raising (stopped (sym (tested-same (swap c qs) 1 one') i) Misaligned)
      (sym (no-errors (swap c qs) 1 Value one') i))
      (record { registers = qs; core = refl; agree = a; raised = refl; output = refl; memory = m })
