-- Effects that agree, of the instructions that make no call.
use Rattle.std.proofs.Common.{◌≡◌, ℕ, ◌+◌, ◌*◌, ◌/◌, ◌%◌, ◌^◌, ◌<◌, not, Bool, true, false, cond, refl}
use Rattle.std.proofs.Common.{sym, ap, ◌∙◌, subst, subst₂, arith, List, [], ◌++◌, Option, Some, None}
use Rattle.std.proofs.lemmas.Bool.{false≢true, not-true}
use Rattle.std.proofs.lemmas.Nat.{mod_below}
use Rattle.definedness.specs.declared.Bits.{Bits}
use Rattle.error_events.specs.declared.event.Event.{Event}
use Rattle.error_events.specs.declared.kind.Kind.TheVariants.{Read, Write, Value, Cond}
use Rattle.shadow_memory.specs.Ranges.{little_word, window, byte_of}
use Rattle.shadow_memory.specs.Shadows.{loaded_undef, first_inaccessible}
use Rattle.instructions.specs.Alu.{passes, extended}
use Rattle.instructions.specs.CallStack.{jal_hint, jalr_hint}
use Rattle.instructions.specs.Widths.{width_len}
use Rattle.instructions.specs.declared.hint.StackHint.{StackHint}
use Rattle.instructions.specs.declared.width.Width.{Width}
use Rattle.instructions.specs.declared.width.Width.TheVariants.{Byte, Half, Word}
use Rattle.instructions.specs.declared.instruction.Comparison.{Comparison}
use Rattle.instructions.specs.declared.instruction.Operation.{Operation}
use Rattle.run_values.specs.declared.span.Span.{Span}
use Rattle.run_values.specs.declared.status.Stop.{Stop}
use Rattle.run_values.specs.declared.status.Stop.TheVariants.{Misaligned}
use Rattle.guest_elf.specs.Profiles.{is_aligned}
use Rattle.guest_machine.specs.State.{Core}
use Rattle.guest_machine.specs.Registers.{known, register, set_register, tested, defined}
use Rattle.guest_machine.specs.Errors.{value_errors, access_errors, event_unless, event_about, here, taken_undef}
use Rattle.guest_machine.specs.Effects.{Effect, quiet, raising, moved_to, stopped, stored_core, results_in}
use Rattle.guest_machine.specs.Effects.{target, load, store, jumped, is_undefined, branch_tested, branched}
use Rattle.guest_machine.specs.Effects.{branch, followed, linked_jump, jump, jump_register, compute, compute_immediate}
use Rattle.guest_machine.specs.Effects.{load_upper, add_upper}
use Rattle.guest_machine.specs.Exec.{written_to, taken_from, accessed}
use Rattle.guest_machine.specs.Spans.{span_at}
use Rattle.clean_reports.specs.Agreement.{ValuesAgree, MemoriesAgree}
use Rattle.clean_reports.specs.Uses.{NoUse}
use Rattle.clean_reports.proofs.Bits.{extended-agree, extended-lt, window-lt, bytes-of}
use Rattle.clean_reports.proofs.Values.{known-agrees, computed-agree, undecided-agree, passes-agree}
use Rattle.clean_reports.proofs.Memory.{accessible-from, numbers-agree, stored-agrees, byte-lt, window-bytes, loaded-lt}
use Rattle.clean_reports.proofs.Memory.{window-past}
use Rattle.clean_reports.proofs.Registers.{Held, HeldAgree, held-of, swap, set-in, set-in-agrees, register-agrees}
use Rattle.clean_reports.proofs.Registers.{IsKnown, same-argument}
use Rattle.clean_reports.proofs.Registers.{other-known}
use Rattle.clean_reports.proofs.Registers.{no-event, left-none, right-none, known-by, no-errors, tested-same}

-- after two effects the cores differ only in registers, which agree; the memories agree after the writes; errors and
-- output are the same
pub record EffectsAgree (f g : ℕ → ℕ) (u v : Option Span) (e h : Effect) : Type 0 where
  pub registers : Held
  pub core : h.core ≡ swap e.core registers
  pub agree : HeldAgree (held-of e.core) registers
  pub raised : e.raised ≡ h.raised
  pub output : e.output ≡ h.output
  pub memory : MemoriesAgree e.core.shadow (written_to f u e.made) (written_to g v h.made)

-- no byte of a range is inaccessible
abbrev pub NoneBad : Core → ℕ → ℕ → Type 0
NoneBad c start n = first_inaccessible c.shadow start n ≡ None

pub none-about : (c : Core) (n start len : ℕ) → NoUse (access_errors c (Read n) start len) → NoneBad c start len
unfolding event_about
none-about c n start len none = go (first_inaccessible c.shadow start len) none
  where
    go : (o : Option ℕ) → NoUse (event_about c.stack c.blocks (here c) (Read n) o) → o ≡ None
    go None none = refl
    go (Some a) none = absurd (false≢true (sym none.0))

module _ (c : Core) (qs : Held) (a : HeldAgree (held-of c) qs) (f g : ℕ → ℕ)
    (m : MemoriesAgree c.shadow f g) (next : ℕ) (fits : next < 2 ^ 32) where
  -- an effect that only changes the core
  pub still : (e : Effect) → e ≡ quiet c → EffectsAgree f g None None e (quiet (swap c qs))
  still e is = subst (λ x. EffectsAgree f g None None x (quiet (swap c qs))) (sym is) (record {
    registers = qs;
    core = refl;
    agree = a;
    raised = refl;
    output = refl;
    memory = m;
  })

  pub moves : (to : ℕ) (es : List Event)
      → EffectsAgree f g None None (raising (moved_to c to) es) (raising (moved_to (swap c qs) to) es)
  moves to es = record { registers = qs; core = refl; agree = a; raised = refl; output = refl; memory = m }

  pub halts : (stop : Stop) (es : List Event)
      → EffectsAgree f g None None (raising (stopped c stop) es) (raising (stopped (swap c qs) stop) es)
  halts stop es = record { registers = qs; core = refl; agree = a; raised = refl; output = refl; memory = m }

  pub results : (rd : ℕ) (x y : Bits) → ValuesAgree x y
      → EffectsAgree f g None None (results_in c next rd x) (results_in (swap c qs) next rd y)
  unfolding set_register
  results rd x y v = record {
    registers = set-in qs rd y;
    core = refl;
    agree = set-in-agrees (held-of c) qs a rd x y v;
    raised = refl;
    output = refl;
    memory = m;
  }

  pub computes : (operation : Operation) (rd rs1 rs2 : ℕ)
      → EffectsAgree f g None None (compute c next operation rd rs1 rs2) (compute (swap c qs) next operation rd rs1 rs2)
  computes operation rd rs1 rs2 =
      results rd _ _ (computed-agree operation (register c rs1) (register c rs2) (register (swap c qs) rs1)
      (register (swap c qs) rs2) (register-agrees c qs a rs1) (register-agrees c qs a rs2))

  pub computes-with : (operation : Operation) (rd rs1 imm : ℕ) → imm < 2 ^ 32
      → EffectsAgree f g None None (compute_immediate c next operation rd rs1 imm)
      (compute_immediate (swap c qs) next operation rd rs1 imm)
  computes-with operation rd rs1 imm small =
      results rd _ _ (computed-agree operation (register c rs1) (known imm) (register (swap c qs) rs1) (known imm)
      (register-agrees c qs a rs1) (known-agrees imm small))

  pub uppers : (rd imm : ℕ) → imm < 2 ^ 32
      → EffectsAgree f g None None (load_upper c next rd imm) (load_upper (swap c qs) next rd imm)
  uppers rd imm small = results rd (known imm) (known imm) (known-agrees imm small)

  pub adds : (rd imm : ℕ) → EffectsAgree f g None None (add_upper c next rd imm) (add_upper (swap c qs) next rd imm)
  adds rd imm =
      results rd _ _ (known-agrees ((c.pc + imm) % 2 ^ 32) (mod_below (c.pc + imm) (2 ^ 32) (omega arith)))

  -- jumps --

  pub links : (hint : StackHint) (rd to : ℕ) (es : List Event)
      → EffectsAgree f g None None (raising (linked_jump c next hint rd to) es)
      (raising (linked_jump (swap c qs) next hint rd to) es)
  unfolding linked_jump set_register
  links hint rd to es = go (is_aligned c.isa to)
    where
      go : (b : Bool) → EffectsAgree f g None None
          (raising (cond b (moved_to (set_register (followed c next hint to) rd (known next)) to)
          (stopped c Misaligned)) es)
          (raising (cond b (moved_to (set_register (followed (swap c qs) next hint to) rd (known next)) to)
          (stopped (swap c qs) Misaligned)) es)
      go true = record {
        registers = set-in qs rd (known next);
        core = refl;
        agree = set-in-agrees (held-of c) qs a rd _ _ (known-agrees next fits);
        raised = refl;
        output = refl;
        memory = m;
      }
      go false = record { registers = qs; core = refl; agree = a; raised = refl; output = refl; memory = m }

  pub jumps : (rd imm : ℕ) → EffectsAgree f g None None (jump c next rd imm) (jump (swap c qs) next rd imm)
  jumps rd imm = links (jal_hint rd) rd ((c.pc + imm) % 2 ^ 32) []

  pub same-target : (rs1 imm : ℕ) → IsKnown c rs1 → target c rs1 imm ≡ target (swap c qs) rs1 imm
  unfolding target
  same-target rs1 imm known = ap (λ n. (n + imm) % 2 ^ 32) (same-argument c qs a rs1 known)

  pub jumps-to : (rd rs1 imm : ℕ) → NoUse (jump_register c next rd rs1 imm).raised
      → EffectsAgree f g None None (jump_register c next rd rs1 imm) (jump_register (swap c qs) next rd rs1 imm)
  jumps-to rd rs1 imm none =
      let known = known-by c rs1 Value refl none in
      let known' = other-known c qs a rs1 known in
      let P : Core → Core → List Event → List Event → ℕ → Type 0 = λ now other es others to.
      EffectsAgree f g None None (raising (linked_jump now next (jalr_hint rd rs1) rd (target c rs1 imm / 2 * 2)) es)
      (raising (linked_jump other next (jalr_hint rd rs1) rd (to / 2 * 2)) others) in
      let at : P c (swap c qs) [] [] (target c rs1 imm) = links (jalr_hint rd rs1) rd (target c rs1 imm / 2 * 2) [] in
      let one = subst (λ t. P c (swap c qs) [] [] t) (same-target rs1 imm known) at in
      let two = subst₂ (λ x y. P x y [] [] (target (swap c qs) rs1 imm)) (sym (tested-same c rs1 known))
      (sym (tested-same (swap c qs) rs1 known')) one in
      subst₂ (λ x y. P (tested c rs1) (tested (swap c qs) rs1) x y (target (swap c qs) rs1 imm))
      (sym (no-errors c rs1 Value known)) (sym (no-errors (swap c qs) rs1 Value known')) two

  -- branches --

  branches-by : (b : Bool) (to : ℕ) (es : List Event)
      → EffectsAgree f g None None (raising (branched b c next to) es) (raising (branched b (swap c qs) next to) es)
  unfolding branched jumped
  branches-by true to es = go (is_aligned c.isa to)
    where
      go : (b : Bool) → EffectsAgree f g None None
          (raising (cond b (moved_to c to) (stopped c Misaligned)) es)
          (raising (cond b (moved_to (swap c qs) to)
          (stopped (swap c qs) Misaligned)) es)
      go true = moves to es
      go false = halts Misaligned es
  branches-by false to es = moves next es

  pub branches : (test : Comparison) (rs1 rs2 imm : ℕ) → NoUse (branch c next test rs1 rs2 imm).raised
      → EffectsAgree f g None None (branch c next test rs1 rs2 imm) (branch (swap c qs) next test rs1 rs2 imm)
  unfolding branch_tested event_unless
  branches test rs1 rs2 imm none =
      let x = register-agrees c qs a rs1 in
      let y = register-agrees c qs a rs2 in
      let decided : is_undefined c test rs1 rs2 ≡ false =
      not-true (is_undefined c test rs1 rs2) (no-event (not (is_undefined c test rs1 rs2)) (here c) Cond refl none) in
      let alike : is_undefined c test rs1 rs2 ≡ is_undefined (swap c qs) test rs1 rs2 =
      undecided-agree test (register c rs1) (register c rs2) (register (swap c qs) rs1)
      (register (swap c qs) rs2) x y in
      let way = passes-agree test (register c rs1) (register c rs2) (register (swap c qs) rs1)
      (register (swap c qs) rs2)
      x y decided in
      let to = (c.pc + imm) % 2 ^ 32 in
      let by : (d : Core) → Bool → Bool → Effect = λ d u b.
      raising (branched b (cond u (defined
      (defined d rs1) rs2) d) next to) (event_unless (not u) (here d) Cond) in
      subst₂ (λ e h. EffectsAgree f g None None e h)
      (ap (λ u. by c u (passes test (register c rs1).value (register c rs2).value)) (sym decided))
      ((λ i. by (swap c qs) (sym decided i) (way i)) ∙ ap (λ u. by (swap c qs) u
      (passes test (register (swap c qs) rs1).value (register (swap c qs) rs2).value)) alike)
      (branches-by (passes test (register c rs1).value (register c rs2).value) to [])

  -- loads and stores --

  -- the effect of a load, by the core after the test, the test's errors and the address
  abbrev load-by : Core → List Event → ℕ → Width → Bool → ℕ → (ℕ → ℕ) → Effect
  load-by now es start width signed rd taken =
      raising (moved_to (set_register now rd (record {
        value = extended width signed (little_word taken);
        undef = extended width signed (taken_undef now start (width_len width));
      })) next) (es ++ access_errors now (Read (width_len width)) start (width_len width))

  loads-by : (width : Width) (signed : Bool) (rd start : ℕ) → NoneBad c start (width_len width)
      → EffectsAgree f g None None (load-by c [] start width signed rd (window f start (width_len width)))
      (load-by (swap c qs) [] start width signed rd (window g start (width_len width)))
  unfolding set_register
  loads-by width signed rd start opened =
      let n = width_len width in
      let under = λ (k : ℕ). loaded_undef (c.shadow k) in
      let small = λ (k : ℕ). loaded-lt (c.shadow k).accessible (c.shadow k).undef (m.bits k) in
      let lu = window-lt width (window under start n) (window-bytes under start n small)
      (λ i past. window-past under start n i past) in
      let lf = window-lt width (window f start n) (window-bytes f start n m.one)
      (λ i past. window-past f start n i past) in
      let lg = window-lt width (window g start n) (window-bytes g start n m.other)
      (λ i past. window-past g start n i past) in
      record {
        registers = set-in qs rd (record {
          value = extended width signed (little_word (window g start n));
          undef = extended width signed (taken_undef c start n);
        });
        core = refl;
        agree = set-in-agrees (held-of c) qs a rd _ _ (record {
          undef = refl;
          value = extended-agree width signed (taken_undef c start n) (little_word (window f start n))
              (little_word (window g start n)) lu lf lg
              (numbers-agree c.shadow f g m start n (accessible-from c.shadow start n opened));
          one = extended-lt width signed (little_word (window f start n)) lf;
          other = extended-lt width signed (little_word (window g start n)) lg;
        });
        raised = refl;
        output = refl;
        memory = m;
      }

  pub loads : (width : Width) (signed : Bool) (rd rs1 imm : ℕ)
      → NoUse (load c next width signed rd rs1 imm (taken_from f (Some (accessed c rs1 imm width)))).raised
      → EffectsAgree f g None None
      (load c next width signed rd rs1 imm (taken_from f (Some (accessed c rs1 imm width))))
      (load (swap c qs) next width signed rd rs1 imm (taken_from g (Some (accessed (swap c qs) rs1 imm width))))
  loads width signed rd rs1 imm none =
      let n = width_len width in
      let start = target c rs1 imm in
      let known = known-by c rs1 Value refl (left-none _ _ none) in
      let known' = other-known c qs a rs1 known in
      let same = tested-same c rs1 known in
      let opened : NoneBad c start n = none-about c n start n
      (subst (λ now. NoUse (access_errors now (Read n) start n)) same
      (right-none (value_errors c rs1) _ none)) in
      let P : Core → Core → List Event → List Event → ℕ → Type 0 = λ now other es others to.
      EffectsAgree f g None None (load-by now es start width signed rd (window f start n))
      (load-by other others to width signed rd (window g to n)) in
      let one = subst (λ t. P c (swap c qs) [] [] t) (same-target rs1 imm known)
      (loads-by width signed rd start opened) in
      let two = subst₂ (λ x y. P x y [] [] (target (swap c qs) rs1 imm)) (sym same)
      (sym (tested-same (swap c qs) rs1 known')) one in
      subst₂ (λ x y. P (tested c rs1) (tested (swap c qs) rs1) x y (target (swap c qs) rs1 imm))
      (sym (no-errors c rs1 Value known)) (sym (no-errors (swap c qs) rs1 Value known')) two

  -- the effect of a store, by the same
  abbrev store-by : Core → List Event → ℕ → Width → ℕ → Effect
  store-by now es start width rs2 =
      record {
        core = moved_to (stored_core now start (width_len width) (register now rs2).undef) next;
        raised = es ++ access_errors now (Write (width_len width)) start (width_len width);
        made = byte_of (register now rs2).value;
        output = [];
      }

  few : (width : Width) (i : ℕ) → i < width_len width → i < 4
  few Byte i h = omega (arith, h)
  few Half i h = omega (arith, h)
  few Word i h = h

  stores-by : (width : Width) (rs2 start : ℕ)
      → EffectsAgree f g (Some (span_at start (width_len width))) (Some (span_at start (width_len width)))
      (store-by c [] start width rs2) (store-by (swap c qs) [] start width rs2)
  unfolding register
  stores-by width rs2 start =
      let v = register-agrees c qs a rs2 in
      record {
        registers = qs;
        core = λ i. moved_to (stored_core (swap c qs) start (width_len width) (sym v.undef i)) next;
        agree = a;
        raised = refl;
        output = refl;
        memory = stored-agrees c.shadow f g m start (width_len width) (register c rs2).undef
            (byte_of (register c rs2).value) (byte_of (register (swap c qs) rs2).value)
            (λ i h. bytes-of (register c rs2).undef (register c rs2).value (register (swap c qs) rs2).value v.value i
            (few width i h))
            (byte-lt (register c rs2).value) (byte-lt (register (swap c qs) rs2).value);
      }

  pub stores : (width : Width) (rs1 rs2 imm : ℕ) → NoUse (store c next width rs1 rs2 imm).raised
      → EffectsAgree f g (Some (accessed c rs1 imm width)) (Some (accessed (swap c qs) rs1 imm width))
      (store c next width rs1 rs2 imm) (store (swap c qs) next width rs1 rs2 imm)
  stores width rs1 rs2 imm none =
      let n = width_len width in
      let start = target c rs1 imm in
      let known = known-by c rs1 Value refl (left-none _ _ none) in
      let known' = other-known c qs a rs1 known in
      let P : Core → Core → List Event → List Event → ℕ → Type 0 = λ now other es others to.
      EffectsAgree f g (Some (span_at start n)) (Some (span_at to n)) (store-by now es start width rs2)
      (store-by other others to width rs2) in
      let one = subst (λ t. P c (swap c qs) [] [] t) (same-target rs1 imm known) (stores-by width rs2 start) in
      let two = subst₂ (λ x y. P x y [] [] (target (swap c qs) rs1 imm)) (sym (tested-same c rs1 known))
      (sym (tested-same (swap c qs) rs1 known')) one in
      subst₂ (λ x y. P (tested c rs1) (tested (swap c qs) rs1) x y (target (swap c qs) rs1 imm))
      (sym (no-errors c rs1 Value known)) (sym (no-errors (swap c qs) rs1 Value known')) two
