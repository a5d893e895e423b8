-- Verdicts: what marks do, and what is certified.
use Rattle.std.proofs.Common.{◌≡◌, ◌+◌, ℕ, ◌^◌, ◌<◌, ◌≤◌, ◌⊎◌, ◌&&◌, ◌==◌, Bool, true, false, cond, refl, sym, ap}
use Rattle.std.proofs.Common.{◌∙◌}
use Rattle.std.proofs.Common.{arith, subst, List, [], ◌∷◌, Option, Some, None, inl, inr, nat_lt, find}
use Rattle.std.specs.List.{list_any}
use Rattle.std.specs.Option.{option_map}
use Rattle.std.proofs.lemmas.Bool.{or_parts, and_parts, not-false, eqb-true, ltb-true, true≢false}
use Rattle.std.proofs.lemmas.Bool.Decides.{nat_tests}
use Rattle.error_events.specs.Groups.{group_of, grouped}
use Rattle.error_events.specs.declared.event.Event.{Event}
use Rattle.error_events.specs.declared.event.Group.{Group}
use Rattle.guest_elf.specs.declared.image.Image.{Image}
use Rattle.guest_elf.specs.declared.profile.Isa.{Isa}
use Rattle.memory_map.specs.Regions.{heap_size}
use Rattle.shadow_memory.specs.Ranges.{is_in}
use Rattle.run_values.specs.declared.alteration.Act.{Act}
use Rattle.run_values.specs.declared.alteration.Act.TheVariants.{Make, Set, Flip, Write, Turn, Skip}
use Rattle.run_values.specs.declared.alteration.Alteration.{Alteration}
use Rattle.shadow_memory.specs.declared.cells.RangeKind.{RangeKind}
use Rattle.guest_elf.specs.Images.{profile_of}
use Rattle.guest_machine.specs.State.{Core, State}
use Rattle.guest_machine.specs.Run.{post, start_state}
use Rattle.guest_machine.specs.declared.setup.Setup.{Setup}
use Rattle.clean_reports.specs.Disturbed.{HasBytes, IsStartOf}
use Rattle.clean_reports.specs.Marks.{DefineNothing, DefinesNothing, HideNothing, HidesNothing, MissesHeap, defines}
use Rattle.clean_reports.specs.Marks.{hides}
use Rattle.clean_reports.specs.Marks.{all_bits, hinders, is_in_the_way, is_word, meets_heap}
use Rattle.clean_reports.specs.Uses.{NoUse, first_use, is_use}
use Rattle.clean_reports.specs.Verdicts.{IsCertified, IsFirstUse, NoneInTheWay, RaisesFirstUse}
use Rattle.clean_reports.specs.declared.verdict.FirstUse.{FirstUse}
use Rattle.clean_reports.proofs.Clean.{run-agrees}
use Rattle.clean_reports.proofs.Groups.{first-group, kinds, none-is-use}
use Rattle.clean_reports.proofs.Halving.{marked-events}
use Rattle.clean_reports.proofs.Reports.{reports-agree}
use Rattle.clean_reports.proofs.Runs.{states-sym}
use Rattle.clean_reports.proofs.StartRegions.{lie}
use Rattle.clean_reports.proofs.Steps.{step-agrees}

-- marks none of which is in the way --

misses : (heap addr len a : ℕ) → heap + heap_size ≤ 2 ^ 32 → is_in addr len heap ≡ false
    → (nat_lt 0 len && is_in heap heap_size addr) ≡ false → heap ≤ a → a < heap + heap_size
    → is_in addr len a ≡ false
misses heap addr len a end one other low high = grind (arith, nat_tests)

misses-heap : (heap addr len : ℕ) → heap + heap_size ≤ 2 ^ 32 → meets_heap heap addr len ≡ false
    → MissesHeap heap addr len
misses-heap heap addr len end e a low high =
    let parts = or_parts (is_in addr len heap) _ e in
    misses heap addr len a end parts.0 parts.1 low high

either : (b : Bool) (heap addr len : ℕ) (kind : RangeKind) → heap + heap_size ≤ 2 ^ 32 → hides kind ≡ b
    → (b && meets_heap heap addr len) ≡ false → (hides kind ≡ false) ⊎ MissesHeap heap addr len
either false heap addr len kind end is e = inl is
either true heap addr len kind end is e = inr (misses-heap heap addr len end e)

defines-nothing : (isa : Isa) (heap : ℕ) (act : Act) → hinders isa heap act ≡ false → DefinesNothing isa act
defines-nothing isa heap (Make addr len kind) e =
    (or_parts (defines kind) (hides kind && meets_heap heap addr len) e).0
defines-nothing isa heap (Set register value undef) e =
    let parts = and_parts (undef == all_bits) (is_word value) (not-false _ e) in
    (ltb-true value (2 ^ 32) parts.1, eqb-true undef all_bits parts.0)
defines-nothing isa heap (Flip register mask) e = ltb-true mask (2 ^ 32) (not-false _ e)
defines-nothing isa heap (Write addr width value) e = absurd (true≢false e)
defines-nothing isa heap (Turn addr mask) e = ltb-true addr (2 ^ 32) (not-false _ e)
defines-nothing isa heap Skip e = e
defines-nothing isa heap _ e = tt

hides-nothing : (isa : Isa) (heap : ℕ) (act : Act) → heap + heap_size ≤ 2 ^ 32 → hinders isa heap act ≡ false
    → HidesNothing heap act
hides-nothing isa heap (Make addr len kind) end e =
    either (hides kind) heap addr len kind end refl
    (or_parts (defines kind) (hides kind && meets_heap heap addr len) e).1
hides-nothing isa heap _ end e = tt

pub define-nothing : (isa : Isa) (heap : ℕ) (marks : List Alteration) → NoneInTheWay isa heap marks
    → DefineNothing isa marks
define-nothing isa heap [] none = tt
define-nothing isa heap (m ∷ ms) none =
    let parts = or_parts (is_in_the_way isa heap m) (list_any (is_in_the_way isa heap) ms) none in
    (defines-nothing isa heap m.act parts.0, define-nothing isa heap ms parts.1)

pub hide-nothing : (isa : Isa) (heap : ℕ) (marks : List Alteration) → heap + heap_size ≤ 2 ^ 32
    → NoneInTheWay isa heap marks → HideNothing heap marks
hide-nothing isa heap [] end none = tt
hide-nothing isa heap (m ∷ ms) end none =
    let parts = or_parts (is_in_the_way isa heap m) (list_any (is_in_the_way isa heap) ms) none in
    (hides-nothing isa heap m.act end parts.0, hide-nothing isa heap ms end parts.1)

-- what is certified --

-- the heap's region ends at an address
end-fits : (image : Image) (start : State) → IsStartOf image start → start.core.blocks.begin + heap_size ≤ 2 ^ 32
unfolding start_state
end-fits image start begins =
    let most = (lie (profile_of image).regions).within in
    subst (λ (c : Core). c.blocks.begin + heap_size ≤ 2 ^ 32) (sym begins.core) (omega arith)

pub certified : (image : Image) (start : State) (setup : Setup) (marks : List Alteration) (n : ℕ)
    → IsStartOf image start
    → HasBytes setup → NoneInTheWay start.core.isa start.core.blocks.begin marks
    → NoUse (post start setup marks n).events
    → IsCertified image start setup marks n
certified image start setup marks n begins bytes clear none =
    let before = subst NoUse (marked-events start setup marks n) none in
    let agree = run-agrees image start setup (step-agrees setup bytes) marks n begins
    (define-nothing start.core.isa start.core.blocks.begin marks clear)
    (hide-nothing start.core.isa start.core.blocks.begin marks (end-fits image start begins) clear) before in
    record {
      runs = agree;
      reports = λ states run rules options step input_len text. (
        reports-agree _ _ image rules options step input_len text (agree states run),
        reports-agree _ _ image rules options step input_len text (states-sym _ _ (agree states run)),
      );
    }

-- the first use, from the first group that is one --

pub no-use : (gs : List Group) (es : List Event) → gs ≡ grouped es → None ≡ find (λ g. is_use g.kind) gs → NoUse es
no-use gs es is none = (none-is-use gs es is None none).0 refl

pub some-use : (es : List Event) (group : Group) → Some group ≡ find (λ g. is_use g.kind) (grouped es)
    → NoUse es → ⊥
some-use es group is none =
    let e : ◌≡◌ {A = Option Group} (Some group) (option_map (group_of es) (first_use es)) =
    is ∙ first-group is_use kinds es in
    go (first_use es) refl e
  where
    go : (o : Option Event) → first_use es ≡ o → ◌≡◌ {A = Option Group} (Some group) (option_map (group_of es) o) → ⊥
    go None at e = cc
    go (Some x) at e = used es x at none
      where
        used : (es : List Event) (x : Event) → first_use es ≡ Some x → NoUse es → ⊥
        used [] x at none = cc
        used (y ∷ ys) x at none =
            used ys x (sym (ap (λ u. cond u (Some y) (first_use ys)) none.0) ∙ at) none.1

pub found-use : (start : State) (setup : Setup) (marks : List Alteration) (n : ℕ) (step : ℕ) (group : Group)
    → Some group ≡ find (λ g. is_use g.kind) (grouped (post start setup marks n).events) → step < n
    → RaisesFirstUse start setup marks step → (found : FirstUse) → found.step ≡ step → found.kind ≡ group.kind
    → found.trace ≡ group.trace → IsFirstUse start setup marks n found
unfolding group_of
found-use start setup marks n step group is below raises found at kind same =
    go (first_use (post start setup marks n).events) refl
    (is ∙ first-group is_use kinds (post start setup marks n).events)
  where
    go : (o : Option Event) → first_use (post start setup marks n).events ≡ o
        → ◌≡◌ {A = Option Group} (Some group) (option_map (group_of (post start setup marks n).events) o)
        → IsFirstUse start setup marks n found
    go None first e = cc
    go (Some x) first e =
        let one : group ≡ group_of (post start setup marks n).events x = cc in
        record {
          event = x;
          first = first;
          kind = kind ∙ ap (λ (g : Group). g.kind) one;
          trace = same ∙ ap (λ (g : Group). g.trace) one;
          below = subst (λ k. k < n) (sym at) below;
          raises = subst (λ k. RaisesFirstUse start setup marks k) (sym at) raises;
        }
