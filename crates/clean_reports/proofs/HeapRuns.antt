-- The heap stays open and closed, by induction over the steps of a run.
use Rattle.std.proofs.Common.{◌≡◌, ℕ, zero, suc, ◌+◌, ◌∷◌, ◌==◌, Bool, true, false, cond, refl, sym, inr}
use Rattle.std.proofs.Common.{ap, ◌∙◌, subst, arith, List, [], filter, fold, inl, Option, Some, None}
use Rattle.std.specs.Prelude.{is_some}
use Rattle.std.proofs.lemmas.Bool.{false≢true}
use Rattle.shadow_memory.specs.Ranges.{above, is_in, changed_in}
use Rattle.shadow_memory.specs.Shadows.{Shadow, shadow_of, made_so, first_inaccessible}
use Rattle.shadow_memory.specs.declared.cells.RangeKind.{RangeKind}
use Rattle.shadow_memory.specs.declared.cells.RangeKind.TheVariants.{NoAccess, Undefined, Defined}
use Rattle.memory_map.specs.Regions.{first_stack_bytes}
use Rattle.guest_heap.specs.Blocks.{Blocks}
use Rattle.guest_heap.proofs.LawSteps.{keeps-region}
use Rattle.guest_heap.proofs.ApartLaws.{keeps-apart}
use Rattle.guest_elf.specs.declared.image.Image.{Image}
use Rattle.guest_elf.specs.Images.{profile_of}
use Rattle.run_values.specs.declared.alteration.Act.{Act}
use Rattle.run_values.specs.declared.alteration.Act.TheVariants.{Make, Set, Flip, Jump, FlipPc, Write, Turn, Skip}
use Rattle.run_values.specs.declared.alteration.Alteration.{Alteration}
use Rattle.guest_machine.specs.State.{Core, State}
use Rattle.guest_machine.specs.Registers.{set_register}
use Rattle.guest_machine.proofs.IsaLaw.{keeps-regions}
use Rattle.guest_machine.specs.Errors.{event_about, here}
use Rattle.guest_machine.specs.Alterations.{altered, altered_core, core_by}
use Rattle.guest_machine.specs.Exec.{is_running}
use Rattle.guest_machine.specs.Run.{after_marks, pre, post, start_state, stack_start, image_shadows}
use Rattle.guest_machine.specs.declared.setup.Setup.{Setup}
use Rattle.clean_reports.specs.Heap.{BlocksAreOpen, HeapIsOpen, HeapIsClosed}
use Rattle.clean_reports.specs.Marks.{HideNothing, HidesNothing, MissTheHeap, MissesHeap, MissesTheHeap, hides}
use Rattle.clean_reports.specs.Laws.{HeapStaysOpen, HeapStaysClosed, AccessesAreLive}
use Rattle.clean_reports.proofs.Memory.{accessible-from}
use Rattle.clean_reports.proofs.Blocks.{made-outside}
use Rattle.clean_reports.proofs.HeapKept.{Stands, LeavesHeap, as-is, goes, on, sets, stores}
use Rattle.clean_reports.proofs.HeapSteps.{steps}
use Rattle.clean_reports.proofs.Programs.{LoadsNoneInHeap, none-in-heap}
use Rattle.clean_reports.proofs.StartRegions.{lie, start-clear}

-- marks --

-- a mark that hides nothing leaves bytes accessible
seen-same : (kind : RangeKind) → hides kind ≡ false → (shadow_of kind).accessible ≡ true
seen-same NoAccess e = absurd (false≢true (sym e))
seen-same Undefined e = refl
seen-same Defined e = refl

-- a range outside of the heap region leaves it as it is
missed-made : (core : Core) (addr len : ℕ) (kind : RangeKind) → MissesHeap core.blocks.begin addr len
    → LeavesHeap core (record core { shadow = made_so core.shadow addr len kind })
missed-made core addr len kind miss = record {
  blocks = refl;
  stack = refl;
  same = λ a low high. ap (λ (x : Shadow). x.accessible) (made-outside core.shadow addr len a kind (miss a low high));
}

seen-made : (core : Core) (addr len : ℕ) (kind : RangeKind) → hides kind ≡ false → HeapIsOpen core
    → HeapIsOpen (record core { shadow = made_so core.shadow addr len kind })
unfolding made_so changed_in
seen-made core addr len kind seen h = record {
  region = h.region;
  beside = h.beside;
  stack = h.stack;
  apart = h.apart;
  fits = h.fits;
  opened = λ p b there i k. go (is_in addr len (p + i)) (h.opened p b there i k);
}
  where
    go : {a : ℕ} (t : Bool) → (core.shadow a).accessible ≡ true
        → (cond t (shadow_of kind) (core.shadow a)).accessible ≡ true
    go true was = seen-same kind seen
    go false was = was

-- an act that makes no range leaves which bytes are accessible
left-if : (b : Bool) (c e : Core) → LeavesHeap c e → LeavesHeap c (cond b e c)
left-if true c e l = l
left-if false c e l = as-is c

abbrev MakesNoRange : Act → Type 0
MakesNoRange (Make addr len kind) = ⊥
MakesNoRange _ = Unit {0}

left-by : (act : Act) (c : Core) (f : ℕ → ℕ) → MakesNoRange act → LeavesHeap c (core_by act c f)
left-by (Make addr len kind) c f none = absurd none
left-by (Set r value undef) c f none = sets c r _
left-by (Flip r mask) c f none = sets c r _
left-by (Jump target) c f none = goes c target
left-by (FlipPc mask) c f none = goes c _
left-by (Write addr width value) c f none = stores c addr _ 0
left-by (Turn addr mask) c f none = as-is c
left-by Skip c f none = record { blocks = refl; stack = refl; same = λ a low high. refl }

-- a mark that hides nothing keeps the heap open
open-act : (s : State) (step : ℕ) (act : Act) → HidesNothing s.core.blocks.begin act → HeapIsOpen s.core
    → HeapIsOpen (altered s (record { step = step; act = act })).core
unfolding altered altered_core
open-act s step (Make addr len kind) (inl seen) h = seen-made s.core addr len kind seen h
open-act s step (Make addr len kind) (inr miss) h =
    (on false s.core (record s.core { shadow = made_so s.core.shadow addr len kind })
    (missed-made s.core addr len kind miss) (h, tt)).0
open-act s step act hide h =
    (on false s.core _ (left-if (is_running s.core.status) s.core _ (left-by act s.core s.bytes tt)) (h, tt)).0

-- and one outside of the heap region leaves it
missed-act : (s : State) (step : ℕ) (act : Act) → MissesTheHeap s.core.blocks.begin act → Stands true s.core
    → Stands true (altered s (record { step = step; act = act })).core
unfolding altered altered_core
missed-act s step (Make addr len kind) miss h =
    on true s.core (record s.core { shadow = made_so s.core.shadow addr len kind })
    (missed-made s.core addr len kind miss) h
missed-act s step act miss h =
    on true s.core _ (left-if (is_running s.core.status) s.core _ (left-by act s.core s.bytes tt)) h

-- a mark doesn't change the blocks
kept-by : (act : Act) (c : Core) (f : ℕ → ℕ) → (core_by act c f).blocks ≡ c.blocks
unfolding set_register
kept-by (Make addr len kind) c f = refl
kept-by (Set r value undef) c f = refl
kept-by (Flip r mask) c f = refl
kept-by (Jump target) c f = refl
kept-by (FlipPc mask) c f = refl
kept-by (Write addr width value) c f = refl
kept-by (Turn addr mask) c f = refl
kept-by Skip c f = refl

either-blocks : (b : Bool) (c e : Core) → e.blocks ≡ c.blocks → (cond b e c).blocks ≡ c.blocks
either-blocks true c e same = same
either-blocks false c e same = refl

kept-act : (s : State) (step : ℕ) (act : Act)
    → (altered s (record { step = step; act = act })).core.blocks ≡ s.core.blocks
unfolding altered altered_core
kept-act s step (Make addr len kind) = refl
kept-act s step act = either-blocks (is_running s.core.status) s.core _ (kept-by act s.core s.bytes)

kept-marks : (k : ℕ) (marks : List Alteration) (s : State)
    → (fold altered s (filter (λ m. m.step == k) marks)).core.blocks ≡ s.core.blocks
kept-marks k [] s = refl
kept-marks k (m ∷ ms) s = go (m.step == k) (λ t. kept-marks k ms t)
  where
    go : (b : Bool)
        → ((t : State) → (fold altered t (filter (λ m. m.step == k) ms)).core.blocks ≡ t.core.blocks)
        → (fold altered s (cond b (m ∷ filter (λ m. m.step == k) ms) (filter (λ m. m.step == k) ms))).core.blocks
        ≡ s.core.blocks
    go true rest = rest (altered s m) ∙ kept-act s m.step m.act
    go false rest = rest s

open-marks : (k : ℕ) (marks : List Alteration) (s : State) → HideNothing s.core.blocks.begin marks
    → HeapIsOpen s.core → HeapIsOpen (fold altered s (filter (λ m. m.step == k) marks)).core
open-marks k [] s hide h = h
open-marks k (m ∷ ms) s hide h =
    go (m.step == k)
    (λ t same g. open-marks k ms t (subst (λ (x : Blocks). HideNothing x.begin ms) (sym same) hide.1) g)
  where
    go : (b : Bool)
        → ((t : State) → t.core.blocks ≡ s.core.blocks → HeapIsOpen t.core
        → HeapIsOpen (fold altered t (filter (λ m. m.step == k) ms)).core)
        → HeapIsOpen (fold altered s (cond b (m ∷ filter (λ m. m.step == k) ms) (filter (λ m. m.step == k) ms))).core
    go true rest = rest (altered s m) (kept-act s m.step m.act) (open-act s m.step m.act hide.0 h)
    go false rest = rest s refl h

missed-marks : (k : ℕ) (marks : List Alteration) (s : State) → MissTheHeap s.core.blocks.begin marks
    → Stands true s.core → Stands true (fold altered s (filter (λ m. m.step == k) marks)).core
missed-marks k [] s miss h = h
missed-marks k (m ∷ ms) s miss h =
    go (m.step == k)
    (λ t same g. missed-marks k ms t (subst (λ (x : Blocks). MissTheHeap x.begin ms) (sym same) miss.1) g)
  where
    go : (b : Bool)
        → ((t : State) → t.core.blocks ≡ s.core.blocks → Stands true t.core
        → Stands true (fold altered t (filter (λ m. m.step == k) ms)).core)
        → Stands true (fold altered s (cond b (m ∷ filter (λ m. m.step == k) ms) (filter (λ m. m.step == k) ms))).core
    go true rest = rest (altered s m) (kept-act s m.step m.act) (missed-act s m.step m.act miss.0 h)
    go false rest = rest s refl h

-- the start --

-- no block is live at the start
image-open : (image : Image) → HeapIsOpen (start_state image).core
unfolding start_state
image-open image =
    let regions = (profile_of image).regions in
    let at = lie regions in
    record {
      region = keeps-region.none regions.heap at.grid at.some at.within;
      beside = at.beside;
      stack = at.end;
      apart = keeps-apart.none regions.heap;
      fits = λ p b there. cc;
      opened = λ p b there i k. cc;
    }

-- and no byte of the heap region is loaded
image-closed : (image : Image) → LoadsNoneInHeap image → HeapIsClosed (start_state image).core
unfolding start_state
image-closed image none a low high can =
    let regions = (profile_of image).regions in
    let at = lie regions in
    let out = made-outside (image_shadows image) (stack_start image) first_stack_bytes a Defined
    (start-clear regions.heap regions.stack.begin regions.stack.end a at.beside at.long at.end low high) in
    let hidden : (image_shadows image a).accessible ≡ false =
    ap (λ o. (cond (is_some o) (shadow_of Defined) (shadow_of NoAccess)).accessible) (none a low high) in
    absurd (false≢true (sym (ap (λ (s : Shadow). s.accessible) out ∙ hidden) ∙ can))

-- runs --

module _ (start : State) (setup : Setup) (marks : List Alteration) where
  -- the heap's region stays where it is
  pre-begin : (k : ℕ) → (pre start setup marks k).core.blocks.begin ≡ start.core.blocks.begin
  unfolding pre after_marks
  pre-begin zero = refl
  pre-begin (suc k) =
      keeps-regions.heap setup (after_marks k marks (pre start setup marks k))
      ∙ ap (λ (x : Blocks). x.begin) (kept-marks k marks (pre start setup marks k)) ∙ pre-begin k

  pub post-begin : (k : ℕ) → (post start setup marks k).core.blocks.begin ≡ start.core.blocks.begin
  unfolding post after_marks
  post-begin k = ap (λ (x : Blocks). x.begin) (kept-marks k marks (pre start setup marks k)) ∙ pre-begin k

  runs-open : HideNothing start.core.blocks.begin marks → HeapIsOpen start.core → (k : ℕ)
      → HeapIsOpen (post start setup marks k).core
  unfolding post after_marks pre
  runs-open hide begins k = open-marks k marks (pre start setup marks k) (hides k) (before k)
    where
      hides : (k : ℕ) → HideNothing (pre start setup marks k).core.blocks.begin marks
      hides k = subst (λ n. HideNothing n marks) (sym (pre-begin k)) hide

      before : (k : ℕ) → HeapIsOpen (pre start setup marks k).core
      before zero = begins
      before (suc k) =
          (steps false setup (after_marks k marks (pre start setup marks k))
          (open-marks k marks (pre start setup marks k) (hides k) (before k), tt)).0

  runs-closed : MissTheHeap start.core.blocks.begin marks → Stands true start.core → (k : ℕ)
      → Stands true (post start setup marks k).core
  unfolding post after_marks pre
  runs-closed miss begins k = missed-marks k marks (pre start setup marks k) (misses k) (before k)
    where
      misses : (k : ℕ) → MissTheHeap (pre start setup marks k).core.blocks.begin marks
      misses k = subst (λ n. MissTheHeap n marks) (sym (pre-begin k)) miss

      before : (k : ℕ) → Stands true (pre start setup marks k).core
      before zero = begins
      before (suc k) =
          steps true setup (after_marks k marks (pre start setup marks k))
          (missed-marks k marks (pre start setup marks k) (misses k) (before k))

pub heap-stays-open : HeapStaysOpen
heap-stays-open image start setup marks begins hide =
    runs-open start setup marks hide (subst HeapIsOpen (sym begins.core) (image-open image))

pub heap-stays-closed : HeapStaysClosed
heap-stays-closed profile file image start setup marks is begins miss =
    runs-closed start setup marks miss (subst (Stands true) (sym begins.core)
    (image-open image, image-closed image (none-in-heap profile file image is)))

pub accesses-are-live : AccessesAreLive
unfolding event_about
accesses-are-live core kind start n closed none i h low high =
    closed (above start i) low high
    (accessible-from core.shadow start n (go (first_inaccessible core.shadow start n) none) i h)
  where
    go : (o : Option ℕ) → event_about core.stack core.blocks (here core) kind o ≡ [] → o ≡ None
    go None e = refl
    go (Some a) e = cc

-- the blocks of an open heap are open
pub blocks-open : (c : Core) → HeapIsOpen c → BlocksAreOpen c
blocks-open c h = record {
  region = h.region;
  opened = λ p b there i k.
      (let most = h.region.within in
      let fits = h.fits p b there in
      let flat : above p i ≡ p + i = omega arith in
      ap (λ a. (c.shadow a).accessible) flat ∙ h.opened p b there i k);
}
