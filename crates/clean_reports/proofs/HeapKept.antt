-- Changes that leave the heap as it is, and so open, and closed.
use Rattle.std.proofs.Common.{◌≡◌, ℕ, ◌+◌, ◌-◌, ◌<◌, ◌≤◌, ◌&&◌, min, Bool, true, false}
use Rattle.std.proofs.Common.{cond, refl, sym, ap, ap₂, ◌∙◌, subst, max, ◌⊎◌, inl, inr}
use Rattle.std.proofs.Common.{arith, List, [], ◌∷◌}
use Rattle.std.proofs.Common.{◌==◌, nat_lt, nat_le, leb-true}
use Rattle.std.proofs.lemmas.Bool.{false≢true, cases_lt, and_parts, ltb-true, ltb-false}
use Rattle.definedness.specs.declared.Bits.{Bits}
use Rattle.shadow_memory.specs.Ranges.{is_in, offset, changed_in, above, byte_of}
use Rattle.shadow_memory.specs.Shadows.{Shadow, copied_undef, loaded_undef, made_so, shadow_of, stored_shadow}
use Rattle.shadow_memory.specs.Shadows.{stored_undef}
use Rattle.shadow_memory.specs.declared.cells.RangeKind.{RangeKind}
use Rattle.shadow_memory.specs.declared.cells.RangeKind.TheVariants.{NoAccess, Undefined}
use Rattle.memory_map.specs.Regions.{greatest_stack_end, heap_size, overlap}
use Rattle.memory_map.specs.declared.regions.StackRegion.{StackRegion}
use Rattle.guest_heap.specs.Blocks.{Blocks, end_of}
use Rattle.guest_heap.specs.Steps.{AreApart, AreInRegion}
use Rattle.error_events.specs.declared.parameter.Parameter.{Parameter}
use Rattle.instructions.specs.declared.hint.StackHint.{StackHint}
use Rattle.run_values.specs.declared.status.Stop.TheVariants.{Misaligned}
use Rattle.guest_elf.specs.Profiles.{is_aligned}
use Rattle.guest_machine.specs.State.{Core}
use Rattle.guest_machine.specs.Registers.{known, register, set_register, tested, defined}
use Rattle.guest_machine.specs.Effects.{branched, followed, jumped, linked_jump, moved_to, stopped, stored_core}
use Rattle.guest_machine.specs.StackPointer.{stack_ruled, stack_moved, framed, ranged, is_stack_pointer, is_in_stack}
use Rattle.guest_machine.specs.StackPointer.{largest_frame}
use Rattle.guest_machine.specs.Calls.{tested_from}
use Rattle.guest_machine.specs.HeapCalls.{copied}
use Rattle.clean_reports.specs.Heap.{HeapIsOpen, HeapIsClosed}
use Rattle.clean_reports.proofs.Blocks.{is-outside}

-- the heap is open, and closed where b asks for it
abbrev pub IfClosed : Bool → Core → Type 0
IfClosed true c = HeapIsClosed c
IfClosed false c = Unit {0}

abbrev pub Stands : Bool → Core → Type 0
Stands b c = HeapIsOpen c × IfClosed b c

-- changes that leave the heap as it is --

pub record LeavesHeap (c e : Core) : Type 0 where
  pub blocks : e.blocks ≡ c.blocks
  pub stack : e.stack ≡ c.stack
  pub same : (a : ℕ) → c.blocks.begin ≤ a → a < end_of c.blocks → (e.shadow a).accessible ≡ (c.shadow a).accessible

pub then : (c d e : Core) → LeavesHeap c d → LeavesHeap d e → LeavesHeap c e
then c d e p q = record {
  blocks = q.blocks ∙ p.blocks;
  stack = q.stack ∙ p.stack;
  same = λ a low high.
      (let P : Blocks → Type 0 = λ x. x.begin ≤ a in
      let Q : Blocks → Type 0 = λ x. a < end_of x in
      q.same a (subst P (sym p.blocks) low) (subst Q (sym p.blocks) high) ∙ p.same a low high);
}

pub as-is : (c : Core) → LeavesHeap c c
as-is c = record { blocks = refl; stack = refl; same = λ a low high. refl }

open-on : (c e : Core) → LeavesHeap c e → HeapIsOpen c → HeapIsOpen e
open-on c e l h = record {
  region = subst (λ (x : Blocks). AreInRegion x) (sym l.blocks) h.region;
  apart = subst (λ (x : Blocks). AreApart x) (sym l.blocks) h.apart;
  beside = ap₂ (λ (x : Blocks) (y : StackRegion). overlap x.begin y.begin y.end) l.blocks l.stack ∙ h.beside;
  stack = subst (λ (y : StackRegion). y.end ≤ greatest_stack_end) (sym l.stack) h.stack;
  fits = λ p b there.
      (let P : Blocks → Type 0 = λ x. p + b.size ≤ end_of x in
      subst P (sym l.blocks) (h.fits p b (ap (λ (x : Blocks). x.live p) (sym l.blocks) ∙ there)));
  opened = λ p b there i k.
      (let was = ap (λ (x : Blocks). x.live p) (sym l.blocks) ∙ there in
      let fits = h.fits p b was in
      let low = (h.region.live p b was).above in
      l.same (p + i) (omega arith) (omega arith) ∙ h.opened p b was i k);
}

closed-on : (c e : Core) → LeavesHeap c e → HeapIsClosed c → HeapIsClosed e
closed-on c e l h a low high can =
    let P : Blocks → Type 0 = λ x. x.begin ≤ a in
    let Q : Blocks → Type 0 = λ x. a < end_of x in
    let over = subst P l.blocks low in
    let under = subst Q l.blocks high in
    let was = h a over under (sym (l.same a over under) ∙ can) in
    record {
      start = was.start;
      block = was.block;
      live = ap (λ (x : Blocks). x.live was.start) l.blocks ∙ was.live;
      low = was.low;
      high = was.high;
    }

pub on : (b : Bool) (c e : Core) → LeavesHeap c e → Stands b c → Stands b e
on true c e l h = (open-on c e l h.0, closed-on c e l h.1)
on false c e l h = (open-on c e l h.0, tt)

-- the parts of a step that do --

pub sets : (c : Core) (r : ℕ) (x : Bits) → LeavesHeap c (set_register c r x)
unfolding set_register
sets c r x = record { blocks = refl; stack = refl; same = λ a low high. refl }

pub tests : (c : Core) (r : ℕ) → LeavesHeap c (tested c r)
unfolding tested
tests c r = go ((register c r).undef == 0)
  where
    go : (b : Bool) → LeavesHeap c (cond b c (defined c r))
    go true = as-is c
    go false = sets c r (known (register c r).value)

all-tests : (c : Core) (r : ℕ) (ps : List Parameter) → LeavesHeap c (tested_from c r ps)
unfolding tested_from
all-tests c r [] = as-is c
all-tests c r (p ∷ ps) = then c (tested c r) (tested_from (tested c r) (r + 1) ps) (tests c r)
    (all-tests (tested c r) (r + 1) ps)

pub call-tests : (c : Core) (first : ℕ) (ps : List Parameter) → LeavesHeap c (tested_from (tested c first) 10 ps)
call-tests c first ps = then c (tested c first) _ (tests c first) (all-tests (tested c first) 10 ps)

changes : (c e : Core) (start n : ℕ) (change : ℕ → Shadow → Shadow) → e.blocks ≡ c.blocks → e.stack ≡ c.stack
    → ((i a : ℕ) → c.blocks.begin ≤ a → a < end_of c.blocks → is_in start n a ≡ true
    → (change i (c.shadow a)).accessible ≡ (c.shadow a).accessible)
    → e.shadow ≡ changed_in c.shadow start n change → LeavesHeap c e
unfolding changed_in
changes c e start n change blocks stack each is = record {
  blocks = blocks;
  stack = stack;
  same = λ a low high. ap (λ (s : ℕ → Shadow). (s a).accessible) is ∙ go a low high (is_in start n a) refl;
}
  where
    go : (a : ℕ) → c.blocks.begin ≤ a → a < end_of c.blocks → (b : Bool) → is_in start n a ≡ b
        → (cond b (change (offset start a) (c.shadow a)) (c.shadow a)).accessible ≡ (c.shadow a).accessible
    go a low high true e = each (offset start a) a low high e
    go a low high false e = refl

stored-same : (undef : ℕ) (s : Shadow) → (stored_shadow undef s).accessible ≡ s.accessible
stored-same undef s = go s.accessible refl
  where
    go : (b : Bool) → s.accessible ≡ b
        → (cond b (record { accessible = true; undef = undef }) s).accessible ≡ s.accessible
    go true e = sym e
    go false e = refl

pub stores : (c : Core) (start n undef : ℕ) → LeavesHeap c (stored_core c start n undef)
unfolding stored_undef
stores c start n undef =
    changes c (stored_core c start n undef) start n (λ i s. stored_shadow (byte_of undef i) s) refl refl
    (λ i a low high e. stored-same (byte_of undef i) (c.shadow a)) refl

pub copies : (c : Core) (from to n : ℕ) → LeavesHeap c (copied c from to n)
unfolding copied_undef
copies c from to n =
    changes c (copied c from to n) to n (λ i s. stored_shadow (loaded_undef (c.shadow (above from i))) s) refl refl
    (λ i a low high e. stored-same (loaded_undef (c.shadow (above from i))) (c.shadow a)) refl

-- a range outside of the heap region
misses : (c : Core) (start n : ℕ) (kind : RangeKind)
    → ((a : ℕ) → c.blocks.begin ≤ a → a < end_of c.blocks → is_in start n a ≡ false)
    → LeavesHeap c (ranged c start n kind)
unfolding made_so
misses c start n kind miss =
    changes c (ranged c start n kind) start n (λ i s. shadow_of kind) refl refl
    (λ i a low high e. absurd (false≢true (sym (miss a low high) ∙ e))) refl

-- the stack pointer rule --

in-stack : (stack : StackRegion) (x : Bits) → is_stack_pointer stack x ≡ true
    → (stack.begin ≤ x.value) × (x.value ≤ stack.end)
in-stack stack x e =
    let region = (and_parts (x.undef == 0) (is_in_stack stack x.value) e).1 in
    let parts = and_parts (nat_le stack.begin x.value) (nat_le x.value stack.end) region in
    (leb-true stack.begin x.value parts.0, leb-true x.value stack.end parts.1)

-- a range of the stack's region has no address of the heap's
clear-of : (heap begin end low high a : ℕ) → overlap heap begin end ≡ false → end ≤ greatest_stack_end → begin ≤ low
    → low ≤ high → high ≤ end → heap ≤ a → a < heap + heap_size → is_in low (high - low) a ≡ false
unfolding overlap
clear-of heap begin end low high a apart small over order under l h =
    let none = ltb-false (max heap begin) (min (heap + heap_size) end) apart in
    go none (cases_lt a low)
  where
    go : min (heap + heap_size) end ≤ max heap begin → (a < low) ⊎ (low ≤ a) → is_in low (high - low) a ≡ false
    go none (inl less) = is-outside low (high - low) a (inl less) (omega arith)
    go none (inr more) = is-outside low (high - low) a (inr (omega arith)) (omega arith)

frames : (c : Core) (low high : ℕ) (kind : RangeKind) → HeapIsOpen c → c.stack.begin ≤ low → low ≤ high
    → high ≤ c.stack.end → LeavesHeap c (framed c low high kind)
unfolding framed
frames c low high kind stands over order under = go (nat_le (high - low) largest_frame)
  where
    go : (b : Bool) → LeavesHeap c (cond b (ranged c low (high - low) kind) c)
    go true =
        misses c low (high - low) kind
        (λ a l h. clear-of c.blocks.begin c.stack.begin c.stack.end low high a stands.beside stands.stack over order
        under l h)
    go false = as-is c

moves : (c : Core) (old new : ℕ) → HeapIsOpen c → c.stack.begin ≤ old → old ≤ c.stack.end → c.stack.begin ≤ new
    → new ≤ c.stack.end → LeavesHeap c (stack_moved c old new)
unfolding stack_moved
moves c old new stands p q r s = go (nat_lt new old) (nat_lt old new) refl refl
  where
    go : (b d : Bool) → nat_lt new old ≡ b → nat_lt old new ≡ d
        → LeavesHeap c (cond b (framed c new old Undefined) (cond d (framed c old new NoAccess) c))
    go true d e f = let less = ltb-true new old e in frames c new old Undefined stands r (omega arith) q
    go false true e f = let less = ltb-true old new f in frames c old new NoAccess stands p (omega arith) s
    go false false e f = as-is c

pub rules : (c : Core) (x : Bits) → HeapIsOpen c → LeavesHeap c (stack_ruled x c)
unfolding stack_ruled
rules c x stands = go (is_stack_pointer c.stack x && is_stack_pointer c.stack (register c 2)) refl
  where
    go : (b : Bool) → (is_stack_pointer c.stack x && is_stack_pointer c.stack (register c 2)) ≡ b
        → LeavesHeap c (cond b (stack_moved c x.value (register c 2).value) c)
    go true e =
        let parts = and_parts (is_stack_pointer c.stack x) (is_stack_pointer c.stack (register c 2)) e in
        let old = in-stack c.stack x parts.0 in
        let new = in-stack c.stack (register c 2) parts.1 in
        moves c x.value (register c 2).value stands old.0 old.1 new.0 new.1
    go false e = as-is c

-- jumps --

pub links : (c : Core) (next : ℕ) (hint : StackHint) (rd to : ℕ) → LeavesHeap c (linked_jump c next hint rd to)
unfolding linked_jump set_register
links c next hint rd to = go (is_aligned c.isa to)
  where
    go : (b : Bool) → LeavesHeap c
        (cond b (moved_to (set_register (followed c next hint to) rd (known next)) to)
        (stopped c Misaligned))
    go true = record { blocks = refl; stack = refl; same = λ a low high. refl }
    go false = record { blocks = refl; stack = refl; same = λ a low high. refl }

pub branches : (b : Bool) (c : Core) (next to : ℕ) → LeavesHeap c (branched b c next to)
unfolding branched jumped
branches true c next to = go (is_aligned c.isa to)
  where
    go : (b : Bool) → LeavesHeap c (cond b (moved_to c to) (stopped c Misaligned))
    go true = record { blocks = refl; stack = refl; same = λ a low high. refl }
    go false = record { blocks = refl; stack = refl; same = λ a low high. refl }
branches false c next to = record { blocks = refl; stack = refl; same = λ a low high. refl }

pub branch-tests : (c : Core) (u : Bool) (rs1 rs2 : ℕ) → LeavesHeap c (cond u (defined (defined c rs1) rs2) c)
branch-tests c true rs1 rs2 =
    then c (defined c rs1) (defined (defined c rs1) rs2) (sets c rs1 (known (register c rs1).value))
    (sets (defined c rs1) rs2 (known (register (defined c rs1) rs2).value))
branch-tests c false rs1 rs2 = as-is c

pub goes : (c : Core) (to : ℕ) → LeavesHeap c (moved_to c to)
goes c to = record { blocks = refl; stack = refl; same = λ a low high. refl }
