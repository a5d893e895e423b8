-- Effects with fewer undefined bits, of the instructions that make no call.
use Rattle.std.proofs.Common.{◌≡◌, ℕ, ◌+◌, ◌*◌, ◌/◌, ◌%◌, ◌^◌, ◌<◌, not, Bool, true, false, cond, refl}
use Rattle.std.proofs.Common.{sym, ap, ◌∙◌, subst, subst₂, arith, List, [], ◌++◌, Option, Some, None}
use Rattle.std.proofs.lemmas.Bool.{not-true}
use Rattle.definedness.specs.declared.Bits.{Bits}
use Rattle.error_events.specs.declared.event.Event.{Event}
use Rattle.error_events.specs.declared.kind.Kind.{Kind}
use Rattle.error_events.specs.declared.kind.Kind.TheVariants.{Read, Write, Value, Cond}
use Rattle.shadow_memory.specs.Ranges.{little_word, byte_of}
use Rattle.shadow_memory.specs.Shadows.{stored_undef, first_inaccessible}
use Rattle.instructions.specs.Alu.{passes, extended}
use Rattle.instructions.specs.CallStack.{jal_hint, jalr_hint}
use Rattle.instructions.specs.Widths.{width_len}
use Rattle.instructions.specs.declared.hint.StackHint.{StackHint}
use Rattle.instructions.specs.declared.width.Width.{Width}
use Rattle.instructions.specs.declared.width.Width.TheVariants.{Byte, Half, Word}
use Rattle.instructions.specs.declared.instruction.Comparison.{Comparison}
use Rattle.instructions.specs.declared.instruction.Operation.{Operation}
use Rattle.run_values.specs.declared.status.Stop.TheVariants.{Misaligned}
use Rattle.std.specs.Int.{bit_at}
use Rattle.guest_elf.specs.Profiles.{is_aligned}
use Rattle.guest_machine.specs.State.{Core}
use Rattle.guest_machine.specs.Registers.{known, register, set_register, defined}
use Rattle.guest_machine.specs.Errors.{access_errors, event_unless, event_about, here, taken_undef}
use Rattle.guest_machine.specs.Effects.{Effect, raising, moved_to, stopped, stored_core, results_in}
use Rattle.guest_machine.specs.Effects.{target, load, store, jumped, is_undefined, branch_tested, branched}
use Rattle.guest_machine.specs.Effects.{branch, followed, linked_jump, jump, jump_register, compute, compute_immediate}
use Rattle.guest_machine.specs.Effects.{load_upper, add_upper}
use Rattle.any_runs.specs.Sharper.{Sharper}
use Rattle.clean_reports.specs.Uses.{NoUse}
use Rattle.clean_reports.proofs.Bits.{extended-agree, extended-lt, window-lt}
use Rattle.any_runs.proofs.Mono.{computed-sharper, undecided-sharper, zero-bit}
use Rattle.any_runs.proofs.Memory.{bad-same, stored-sharper, bytes-within, taken-within, window-lt8, window-past}
use Rattle.any_runs.proofs.Memory.{undef-window, as-agree}
use Rattle.any_runs.proofs.Held.{Held, HeldSharper, held-of, swap, set-in, shaded, set-in-sharper, register-sharper}
use Rattle.any_runs.proofs.Held.{known-sharper, same-argument, other-known}
use Rattle.any_runs.proofs.Tests.{no-event, left-none, known-by, no-errors, tested-same}

-- after two effects the cores differ only in what is undefined, and fewer bits are in the second; all else is the same
pub record EffectsSharper (e h : Effect) : Type 0 where
  pub held : Held
  pub core : h.core ≡ swap e.core held
  pub agree : HeldSharper (held-of e.core) held
  pub raised : e.raised ≡ h.raised
  pub made : e.made ≡ h.made
  pub output : e.output ≡ h.output

-- carried along an equation for each
pub carried : (e e' h h' : Effect) → e ≡ e' → h ≡ h' → EffectsSharper e h → EffectsSharper e' h'
carried e e' h h' p q a = subst₂ EffectsSharper p q a

module _ (c : Core) (qs : Held) (a : HeldSharper (held-of c) qs) (next : ℕ) where
  abbrev d : Core
  d = swap c qs

  -- an effect that leaves what is undefined
  pub alike : (make : Core → Core) (es : List Event)
      → make d ≡ swap (make c) qs → held-of (make c) ≡ held-of c
      → EffectsSharper (raising (make c) es) (raising (make d) es)
  alike make es shape same = record {
    held = qs;
    core = shape;
    agree = subst (λ x. HeldSharper x qs) (sym same) a;
    raised = refl;
    made = refl;
    output = refl;
  }

  pub moves : (to : ℕ) (es : List Event) → EffectsSharper (raising (moved_to c to) es) (raising (moved_to d to) es)
  moves to es = alike (λ k. moved_to k to) es refl refl

  pub results : (rd : ℕ) (x y : Bits) → Sharper x y → EffectsSharper (results_in c next rd x) (results_in d next rd y)
  unfolding set_register
  results rd x y v = record {
    held = set-in qs rd y;
    core = refl;
    agree = set-in-sharper (held-of c) qs a rd x y v;
    raised = refl;
    made = refl;
    output = refl;
  }

  pub computes : (operation : Operation) (rd rs1 rs2 : ℕ)
      → EffectsSharper (compute c next operation rd rs1 rs2) (compute d next operation rd rs1 rs2)
  computes operation rd rs1 rs2 =
      results rd _ _ (computed-sharper operation (register c rs1) (register c rs2) (register d rs1) (register d rs2)
      (register-sharper c qs a rs1) (register-sharper c qs a rs2))

  pub computes-with : (operation : Operation) (rd rs1 imm : ℕ)
      → EffectsSharper (compute_immediate c next operation rd rs1 imm) (compute_immediate d next operation rd rs1 imm)
  computes-with operation rd rs1 imm =
      results rd _ _ (computed-sharper operation (register c rs1) (known imm) (register d rs1) (known imm)
      (register-sharper c qs a rs1) (known-sharper imm))

  pub uppers : (rd imm : ℕ) → EffectsSharper (load_upper c next rd imm) (load_upper d next rd imm)
  uppers rd imm = results rd (known imm) (known imm) (known-sharper imm)

  pub adds : (rd imm : ℕ) → EffectsSharper (add_upper c next rd imm) (add_upper d next rd imm)
  adds rd imm = results rd _ _ (known-sharper ((c.pc + imm) % 2 ^ 32))

  -- jumps --

  pub links : (hint : StackHint) (rd to : ℕ) (es : List Event)
      → EffectsSharper (raising (linked_jump c next hint rd to) es) (raising (linked_jump d next hint rd to) es)
  unfolding linked_jump set_register
  links hint rd to es = go (is_aligned c.isa to)
    where
      go : (b : Bool) → EffectsSharper
          (raising (cond b (moved_to (set_register (followed c next hint to) rd (known next)) to)
          (stopped c Misaligned)) es)
          (raising (cond b (moved_to (set_register (followed d next hint to) rd (known next)) to)
          (stopped d Misaligned)) es)
      go true = record {
        held = set-in qs rd (known next);
        core = refl;
        agree = set-in-sharper (held-of c) qs a rd _ _ (known-sharper next);
        raised = refl;
        made = refl;
        output = refl;
      }
      go false = alike (λ k. stopped k Misaligned) es refl refl

  pub jumps : (rd imm : ℕ) → EffectsSharper (jump c next rd imm) (jump d next rd imm)
  jumps rd imm = links (jal_hint rd) rd ((c.pc + imm) % 2 ^ 32) []

  pub same-target : (rs1 imm : ℕ) → target c rs1 imm ≡ target d rs1 imm
  unfolding target
  same-target rs1 imm = ap (λ n. (n + imm) % 2 ^ 32) (same-argument c qs a rs1)

  pub jumps-to : (rd rs1 imm : ℕ) → NoUse (jump_register c next rd rs1 imm).raised
      → EffectsSharper (jump_register c next rd rs1 imm) (jump_register d next rd rs1 imm)
  jumps-to rd rs1 imm none =
      let one = known-by c rs1 Value refl none in
      let two = other-known c qs a rs1 one in
      carried _ _ _ _
      (λ i. raising (linked_jump (sym (tested-same c rs1 one) i) next (jalr_hint rd rs1) rd (target c rs1 imm / 2 * 2))
      (sym (no-errors c rs1 Value one) i))
      (λ i. raising (linked_jump (sym (tested-same d rs1 two) i) next (jalr_hint rd rs1) rd
      (same-target rs1 imm i / 2 * 2)) (sym (no-errors d rs1 Value two) i))
      (links (jalr_hint rd rs1) rd (target c rs1 imm / 2 * 2) [])

  -- branches --

  branches-by : (b : Bool) (to : ℕ) (es : List Event)
      → EffectsSharper (raising (branched b c next to) es) (raising (branched b d next to) es)
  unfolding branched jumped
  branches-by true to es = go (is_aligned c.isa to)
    where
      go : (b : Bool) → EffectsSharper (raising (cond b (moved_to c to) (stopped c Misaligned)) es)
          (raising (cond b (moved_to d to) (stopped d Misaligned)) es)
      go true = moves to es
      go false = alike (λ k. stopped k Misaligned) es refl refl
  branches-by false to es = moves next es

  pub branches : (test : Comparison) (rs1 rs2 imm : ℕ) → NoUse (branch c next test rs1 rs2 imm).raised
      → EffectsSharper (branch c next test rs1 rs2 imm) (branch d next test rs1 rs2 imm)
  unfolding branch_tested event_unless
  branches test rs1 rs2 imm none =
      let decided : is_undefined c test rs1 rs2 ≡ false =
      not-true (is_undefined c test rs1 rs2) (no-event (not (is_undefined c test rs1 rs2)) (here c) Cond refl none) in
      let too : is_undefined d test rs1 rs2 ≡ false =
      undecided-sharper test (register c rs1) (register c rs2) (register d rs1) (register d rs2)
      (register-sharper c qs a rs1) (register-sharper c qs a rs2) decided in
      let to = (c.pc + imm) % 2 ^ 32 in
      let by : (k : Core) → Bool → ℕ → ℕ → Effect = λ k u x y.
      raising (branched (passes test x y) (cond u (defined (defined k rs1) rs2) k) next to)
      (event_unless (not u) (here k) Cond) in
      carried _ _ _ _
      (λ i. by c (sym decided i) (register c rs1).value (register c rs2).value)
      (λ i. by d (sym too i) (same-argument c qs a rs1 i) (same-argument c qs a rs2 i))
      (branches-by (passes test (register c rs1).value (register c rs2).value) to [])

  -- errors of accesses --

  pub same-access : (kind : Kind) (start n : ℕ) → access_errors c kind start n ≡ access_errors d kind start n
  unfolding event_about
  same-access kind start n =
      (λ i. event_about c.stack c.blocks (here c) kind (bad-same c.shadow qs.shadow a.shadow start n i))
      ∙ about (first_inaccessible qs.shadow start n)
    where
      about : (o : Option ℕ)
          → event_about c.stack c.blocks (here c) kind o ≡ event_about d.stack d.blocks (here d) kind o
      about None = refl
      about (Some n) = refl

  -- loads and stores --

  few : (width : Width) (i : ℕ) → i < width_len width → i < 4
  few Byte i h = omega (arith, h)
  few Half i h = omega (arith, h)
  few Word i h = h

  -- the undefined bits of what is loaded
  pub loaded-sharper : (width : Width) (signed : Bool) (start v : ℕ)
      → Sharper (record { value = v; undef = extended width signed (taken_undef c start (width_len width)) })
      (record { value = v; undef = extended width signed (taken_undef d start (width_len width)) })
  unfolding extended
  loaded-sharper width signed start v =
      let n = width_len width in
      let lu = window-lt width (undef-window c.shadow start n) (window-lt8 c.shadow (λ k. (a.shadow k).one) start n)
      (λ i past. window-past c.shadow start n i past) in
      let lw = window-lt width (undef-window qs.shadow start n)
      (window-lt8 qs.shadow (λ k. (a.shadow k).other) start n)
      (λ i past. window-past qs.shadow start n i past) in
      let w = taken-within c.shadow qs.shadow a.shadow start n in
      record {
        value = refl;
        undef = λ i h e.
            extended-agree width signed (taken_undef c start n) (taken_undef d start n) 0 lu lw (zero-fits width)
            (as-agree 32 _ _ w) i h e ∙ ap (λ z. bit_at z i) (extended-zero width signed) ∙ zero-bit i;
        small = extended-lt width signed (taken_undef d start n) lw;
      }
    where
      zero-fits : (width : Width) → 0 < 2 ^ (8 * width_len width)
      zero-fits Byte = omega arith
      zero-fits Half = omega arith
      zero-fits Word = omega arith

      extended-zero : (width : Width) (signed : Bool) → extended width signed 0 ≡ 0
      extended-zero Byte true = refl
      extended-zero Half true = refl
      extended-zero Word true = refl
      extended-zero Byte false = refl
      extended-zero Half false = refl
      extended-zero Word false = refl

  -- the effect of a load, by the core after the test, the test's errors and the address
  abbrev load-by : Core → List Event → ℕ → Width → Bool → ℕ → (ℕ → ℕ) → Effect
  load-by now es start width signed rd taken =
      raising (moved_to (set_register now rd (record {
        value = extended width signed (little_word taken);
        undef = extended width signed (taken_undef now start (width_len width));
      })) next) (es ++ access_errors now (Read (width_len width)) start (width_len width))

  loads-by : (width : Width) (signed : Bool) (rd start : ℕ) (taken : ℕ → ℕ)
      → EffectsSharper (load-by c [] start width signed rd taken) (load-by d [] start width signed rd taken)
  unfolding set_register
  loads-by width signed rd start taken =
      let y : Bits = record {
        value = extended width signed (little_word taken);
        undef = extended width signed (taken_undef d start (width_len width));
      } in
      record {
        held = set-in qs rd y;
        core = refl;
        agree = set-in-sharper (held-of c) qs a rd _ y (loaded-sharper width signed start _);
        raised = same-access (Read (width_len width)) start (width_len width);
        made = refl;
        output = refl;
      }

  pub loads : (width : Width) (signed : Bool) (rd rs1 imm : ℕ) (taken : ℕ → ℕ)
      → NoUse (load c next width signed rd rs1 imm taken).raised
      → EffectsSharper (load c next width signed rd rs1 imm taken) (load d next width signed rd rs1 imm taken)
  loads width signed rd rs1 imm taken none =
      let one = known-by c rs1 Value refl (left-none _ _ none) in
      let two = other-known c qs a rs1 one in
      carried _ _ _ _
      (λ i. load-by (sym (tested-same c rs1 one) i) (sym (no-errors c rs1 Value one) i) (target c rs1 imm) width signed
      rd taken)
      (λ i. load-by (sym (tested-same d rs1 two) i) (sym (no-errors d rs1 Value two) i) (same-target rs1 imm i) width
      signed rd taken)
      (loads-by width signed rd (target c rs1 imm) taken)

  -- the effect of a store, by the same
  abbrev store-by : Core → List Event → ℕ → Width → ℕ → Effect
  store-by now es start width rs2 =
      record {
        core = moved_to (stored_core now start (width_len width) (register now rs2).undef) next;
        raised = es ++ access_errors now (Write (width_len width)) start (width_len width);
        made = byte_of (register now rs2).value;
        output = [];
      }

  stores-by : (width : Width) (rs2 start : ℕ)
      → EffectsSharper (store-by c [] start width rs2) (store-by d [] start width rs2)
  unfolding register
  stores-by width rs2 start =
      let v = register-sharper c qs a rs2 in
      let shadow = stored_undef qs.shadow start (width_len width) (register d rs2).undef in
      record {
        held = shaded qs shadow;
        core = refl;
        agree = record {
          registers = a.registers;
          controls = a.controls;
          shadow = stored-sharper c.shadow qs.shadow a.shadow start (width_len width) (register c rs2).undef
              (register d rs2).undef (λ i h. bytes-within _ _ v.undef i (few width i h));
        };
        raised = same-access (Write (width_len width)) start (width_len width);
        made = ap byte_of v.value;
        output = refl;
      }

  pub stores : (width : Width) (rs1 rs2 imm : ℕ) → NoUse (store c next width rs1 rs2 imm).raised
      → EffectsSharper (store c next width rs1 rs2 imm) (store d next width rs1 rs2 imm)
  stores width rs1 rs2 imm none =
      let one = known-by c rs1 Value refl (left-none _ _ none) in
      let two = other-known c qs a rs1 one in
      carried _ _ _ _
      (λ i. store-by (sym (tested-same c rs1 one) i) (sym (no-errors c rs1 Value one) i) (target c rs1 imm) width rs2)
      (λ i. store-by (sym (tested-same d rs1 two) i) (sym (no-errors d rs1 Value two) i) (same-target rs1 imm i) width
      rs2)
      (stores-by width rs2 (target c rs1 imm))
