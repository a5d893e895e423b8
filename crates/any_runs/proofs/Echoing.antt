-- A step that may write bytes that may be any stands for others.
use Rattle.std.proofs.Common.{◌≡◌, ◌⊎◌, ℕ, ◌+◌, ◌%◌, ◌^◌, ◌<◌, ◌≤◌, ◌==◌, ◌&&◌, Bool, true, false, cond, refl, sym}
use Rattle.std.proofs.Common.{ap, ◌∙◌}
use Rattle.std.proofs.Common.{subst, subst₂, inl, inr, arith, List, [], ◌++◌, length, Option, Some, None}
use Rattle.std.proofs.Common.{slice_index_or}
use Rattle.std.proofs.Common.{slice_set}
use Rattle.std.specs.List.{range_with_len}
use Rattle.std.specs.Int.{bit_at}
use Rattle.std.proofs.lemmas.Bool.{cases_Bool, eqb-true, cases_eq, cases_lt}
use Rattle.guest_elf.specs.Profiles.{has_controls, is_aligned}
use Rattle.any_runs.proofs.Mono.{none-within}
use Rattle.any_runs.proofs.Calls.{write-parameters}
use Rattle.std.proofs.lemmas.List.{length-append, length-map, get_or-set_same, get_or-set_other, get_or_past}
use Rattle.std.proofs.lemmas.List.{length-set}
use Rattle.std.proofs.lemmas.Nat.Bits.{same_from_bits_below, bit_at_above}
use Rattle.definedness.specs.declared.Bits.{Bits}
use Rattle.error_events.specs.declared.event.Event.{Event}
use Rattle.error_events.specs.declared.kind.Kind.TheVariants.{Value}
use Rattle.instructions.specs.Codes.{len_of, row_of_code}
use Rattle.instructions.specs.declared.code.Code.{Code}
use Rattle.instructions.specs.declared.instruction.Instruction.{Instruction}
use Rattle.instructions.specs.declared.instruction.Instruction.TheVariants.{CallEnvironment as CallRow}
use Rattle.shadow_memory.specs.Shadows.{first_inaccessible}
use Rattle.guest_machine.specs.State.{Core, State}
use Rattle.guest_machine.specs.Registers.{known, register, set_register}
use Rattle.guest_machine.specs.Errors.{here, fetch_errors, fetch_undef}
use Rattle.guest_machine.specs.Effects.{moved_to, next_of}
use Rattle.guest_machine.specs.Calls.{argument, answered, appends, moved_from_start, moved_len, call_at, call_of}
use Rattle.guest_machine.specs.Calls.{is_heap, write_call, is_output, has_room, parameters_of}
use Rattle.guest_machine.specs.Exec.{Action, Takes, Terms, action_at, action_terms, plan, outcome, exec, given_at}
use Rattle.guest_machine.specs.Exec.{taken_from, written_to, stepped, seen_also, counted, is_heap_action, terms_of}
use Rattle.guest_machine.specs.Exec.{rounded}
use Rattle.guest_machine.specs.Exec.{calls_heap, row_asks, row_uses, row_effect, call_asks, call_uses, call_effect}
use Rattle.guest_machine.specs.Exec.{effect_at, uses_at, intake_at, write_uses, is_running}
use Rattle.guest_machine.specs.declared.setup.Setup.{Setup}
use Rattle.clean_reports.specs.Uses.{NoUse}
use Rattle.clean_reports.specs.Heap.{BlocksAreOpen}
use Rattle.clean_reports.specs.Disturbed.{HasBytes}
use Rattle.any_runs.specs.Sharper.{HasStackPointer}
use Rattle.any_runs.specs.Stands.{Stands, BitsStand, MemoryStands, RegistersStand, ControlsStand}
use Rattle.std.proofs.Common.{All}
use Rattle.guest_machine.specs.Exec.{touched_of, touched_at, fetch_span}
use Rattle.guest_machine.specs.Spans.{span_at}
use Rattle.guest_machine.specs.declared.setup.Touched.{Touched as Ranges}
use Rattle.any_runs.proofs.Touched.{touched-stands}
use Rattle.any_runs.specs.Echoes.{StandsBut, WritesOpen, IsWrite, kept, EchoesStand}
use Rattle.any_runs.proofs.Standing.{step-stands}
use Rattle.any_runs.proofs.Kept.{AllKept, kept-append, unless-kept, tests-kept, rows-kept, none-kept, about-kept}
use Rattle.any_runs.proofs.Kept.{both-kept, value-kept, from-kept, work-kept}
use Rattle.any_runs.proofs.Calls.{write-cases}
use Rattle.any_runs.proofs.Echo.{action-alike, IsFetched}
use Rattle.any_runs.proofs.Memory.{taken-within, window-lt8, bad-same, moved-same}
use Rattle.guest_machine.proofs.Moving.{moved-small}
use Rattle.any_runs.proofs.Held as Ours
use Rattle.any_runs.proofs.Standing.{between, agrees, sharpens}
use Rattle.any_runs.proofs.Steps.{action-same}
use Rattle.clean_reports.proofs.Registers as Clean
use Rattle.std.proofs.Common.{min, nat_le}
use Rattle.std.proofs.lemmas.Bool.{and_parts, false≢true}
use Rattle.shadow_memory.specs.Ranges.{little_word}
use Rattle.error_events.specs.declared.kind.Kind.TheVariants.{Jump as JumpError}
use Rattle.error_events.specs.declared.parameter.Parameter.TheVariants.{WriteBuffer}
use Rattle.guest_elf.specs.declared.hook.Hook.{Hook}
use Rattle.run_values.specs.declared.status.Stop.TheVariants.{Misaligned}
use Rattle.guest_machine.specs.Registers.{tested}
use Rattle.guest_machine.specs.Errors.{buffer_errors, taken_undef}
use Rattle.guest_machine.specs.Effects.{quiet, stops}
use Rattle.guest_machine.specs.Calls.{heap_parameters}
use Rattle.guest_machine.specs.NamedCalls.{named_by, returns}
use Rattle.guest_machine.specs.Exec.{Cut, CallsByName, Halts, jump_fault, unfetched, fetch_fault, word_fault}
use Rattle.any_runs.proofs.Echo.{left-kept, right-kept, none-of, write-rounded}
use Rattle.any_runs.proofs.Tests.{HasKnown, IsKnown, no-event, after-tests, test-errors, call-known}
use Rattle.any_runs.proofs.Steps.{after, exec-is}

module _ (setup : Setup) (s t : State) (d : StandsBut s t) where
  -- the states without their errors, and with the same output
  abbrev s0 : State
  s0 = record s { events = [] }

  abbrev t0 : State
  t0 = record t { output = s.output; events = [] }

  stands0 : Stands s0 t0
  stands0 = record {
    memory = d.memory;
    registers = d.registers;
    controls = d.controls;
    pc = d.pc;
    status = d.status;
    frames = d.frames;
    blocks = d.blocks;
    isa = d.isa;
    stack = d.stack;
    limits = d.limits;
    reserved = d.reserved;
    steps = d.steps;
    position = d.position;
    end_seen = d.end_seen;
    output = refl;
    heap_calls = d.heap_calls;
    events = refl;
  }

  -- a step of t, by the length of output that it sees, and the output and errors before it
  abbrev by : ℕ → List ℕ → List Event → State
  by n output events =
      let intake = intake_at t.core t.bytes t.position setup in
      let uses = uses_at t.core t.bytes t.position n setup in
      let effect = effect_at t.core t.bytes t.position n setup in
      record {
        bytes = written_to t.bytes uses.writes effect.made;
        core = effect.core;
        position = t.position + intake.count;
        end_seen = seen_also t.end_seen intake.ends;
        output = output ++ effect.output;
        heap_calls = counted t.heap_calls (is_heap_action t.core (action_at t.core t.bytes setup.hooks));
        events = events ++ effect.raised;
      }

  -- a step that raises no use at all
  quiet-step : HasBytes setup → BlocksAreOpen s.core → HasStackPointer s → HasStackPointer (exec s setup)
      → NoUse (exec s0 setup).events → StandsBut (exec s setup) (exec t setup)
  unfolding exec
  quiet-step bytes opened before later none =
      let e = step-stands setup bytes s0 t0 stands0 opened before later none in
      let r : (exec s0 setup).events ≡ (effect_at t.core t.bytes t.position (length s.output) setup).raised =
      e.events in
      let o = ap (λ (xs : List ℕ). length xs) e.output in
      let x = (effect_at s.core s.bytes s.position (length s.output) setup).output in
      let y = (effect_at t.core t.bytes t.position (length s.output) setup).output in
      let one : length (s.output ++ x) ≡ length s.output + length x = length-append s.output x in
      let two : length (s.output ++ y) ≡ length s.output + length y = length-append s.output y in
      let three : length (t.output ++ y) ≡ length t.output + length y = length-append t.output y in
      let same : length s.output ≡ length t.output = d.output in
      subst (λ (v : State). StandsBut (exec s setup) v) (λ i. by (d.output i) t.output t.events) (record {
        memory = e.memory;
        registers = e.registers;
        controls = e.controls;
        pc = e.pc;
        status = e.status;
        frames = e.frames;
        blocks = e.blocks;
        isa = e.isa;
        stack = e.stack;
        limits = e.limits;
        reserved = e.reserved;
        steps = e.steps;
        position = e.position;
        end_seen = e.end_seen;
        output = omega (arith, one, two, three, o, same);
        heap_calls = e.heap_calls;
        events = kept-append s.events (exec s0 setup).events
            ∙ (λ i. d.events i ++ kept (r i)) ∙ sym (kept-append t.events _);
      })

  quiet-touched : HasBytes setup → BlocksAreOpen s.core → NoUse (exec s0 setup).events
      → touched_of s setup ≡ touched_of t setup
  quiet-touched bytes opened none =
      touched-stands setup bytes s0 t0 stands0 opened none
      ∙ (λ i. touched_at t.core t.bytes t.position (d.output i) setup)

-- registers of states of which one stands for the other --

zero-bit : (i : ℕ) → bit_at 0 i ≡ 0
zero-bit i = bit_at_above 0 0 i (omega arith) (omega arith)

known-stands : (n : ℕ) → n < 2 ^ 32 → BitsStand (known n) (known n)
known-stands n h = record { value = λ i l e. refl; undef = λ i l e. e; one = h; other = h; small = omega arith }

register-stands : (c k : Core) → RegistersStand c.registers k.registers → (r : ℕ)
    → BitsStand (register c r) (register k r)
unfolding register
register-stands c k a r = go (r == 0)
  where
    go : (b : Bool) → BitsStand (cond b (known 0) (slice_index_or c.registers r (known 0)))
        (cond b (known 0) (slice_index_or k.registers r (known 0)))
    go true = known-stands 0 (omega arith)
    go false = a.each r

same-value : (x y : Bits) → BitsStand x y → x.undef ≡ 0 → x.value ≡ y.value
same-value x y b none =
    same_from_bits_below 32 x.value y.value b.one b.other
    (λ i h. b.value i h (ap (λ n. bit_at n i) none ∙ zero-bit i))

same-undef : (x y : Bits) → BitsStand x y → x.undef ≡ 0 → y.undef ≡ 0
same-undef x y b none = none-within 32 x.undef y.undef b.small b.undef none

set-stands : (xs ys : List Bits) → RegistersStand xs ys → (r : ℕ) (x y : Bits) → BitsStand x y
    → RegistersStand (slice_set xs r x) (slice_set ys r y)
set-stands xs ys a r x y v = record {
  count = length-set xs r x ∙ a.count ∙ sym (length-set ys r y);
  each = λ k. elim (cases_eq k r) [
    | inl same ↦ elim (cases_lt r (length xs)) [
      | inl within ↦
          let other : r < length ys = subst (λ n. r < n) a.count within in
          subst (λ n. BitsStand (slice_index_or (slice_set xs r x) n (known 0))
          (slice_index_or (slice_set ys r y) n (known 0))) (sym same)
          (subst (λ b. BitsStand b (slice_index_or (slice_set ys r y) r (known 0)))
          (sym (get_or-set_same xs r x (known 0) within))
          (subst (λ b. BitsStand x b) (sym (get_or-set_same ys r y (known 0) other)) v))
      | inr past ↦
          let far : length (slice_set xs r x) ≤ k = subst (λ n. n ≤ k) (sym (length-set xs r x)) (omega arith) in
          let other : length (slice_set ys r y) ≤ k = subst (λ n. n ≤ k) (a.count ∙ sym (length-set ys r y))
          (omega arith) in
          subst (λ b. BitsStand b (slice_index_or (slice_set ys r y) k (known 0)))
          (sym (get_or_past (slice_set xs r x) k (known 0) far))
          (subst (λ b. BitsStand (known 0) b) (sym (get_or_past (slice_set ys r y) k (known 0) other))
          (known-stands 0 (omega arith)))
    ]
    | inr apart ↦
        subst (λ b. BitsStand b (slice_index_or (slice_set ys r y) k (known 0)))
        (sym (get_or-set_other xs r k x (known 0) apart))
        (subst (λ b. BitsStand (slice_index_or xs k (known 0)) b)
        (sym (get_or-set_other ys r k y (known 0) apart)) (a.each k))
  ];
}

-- what a write leaves of a state --

abbrev pub written-core : Core → ℕ → Core
written-core c len = stepped c (moved_to (answered c (moved_len c)) (next_of c len))

pub record AfterWrite (x y : State) (len : ℕ) : Type 0 where
  pub bytes : y.bytes ≡ x.bytes
  pub core : y.core ≡ written-core x.core len
  pub position : y.position ≡ x.position + 0
  pub end_seen : y.end_seen ≡ x.end_seen
  pub output : length y.output ≡ length x.output + length (range_with_len 0 (moved_len x.core))
  pub heap_calls : y.heap_calls ≡ x.heap_calls
  pub events : kept y.events ≡ kept x.events ++ []

-- the state after a row, and after the call of a number
abbrev pub after-row : State → Setup → ℕ → Option Instruction → State
after-row x setup len row =
    let c = x.core in
    let terms = terms_of (calls_heap c row) (row_asks c row) x.position (length x.output) setup in
    let uses = row_uses c row terms in
    let effect = rounded c len (row_effect c (next_of c len) row terms (given_at x.position terms.intake.count setup)
    (taken_from x.bytes uses.reads)) in
    record {
      bytes = written_to x.bytes uses.writes effect.made;
      core = stepped c effect.core;
      position = x.position + terms.intake.count;
      end_seen = seen_also x.end_seen terms.intake.ends;
      output = x.output ++ effect.output;
      heap_calls = counted x.heap_calls (calls_heap c row);
      events = x.events ++ effect.raised;
    }

abbrev pub after-call : State → Setup → ℕ → ℕ → State
after-call x setup len k =
    let c = x.core in
    let terms = terms_of (is_heap (call_of k)) (call_asks c (call_of k)) x.position (length x.output) setup in
    let uses = call_uses c (call_of k) terms in
    let effect = rounded c len (call_effect c (next_of c len) (call_of k) terms
    (given_at x.position terms.intake.count setup) (taken_from x.bytes uses.reads)) in
    record {
      bytes = written_to x.bytes uses.writes effect.made;
      core = stepped c effect.core;
      position = x.position + terms.intake.count;
      end_seen = seen_also x.end_seen terms.intake.ends;
      output = x.output ++ effect.output;
      heap_calls = counted x.heap_calls (is_heap (call_of k));
      events = x.events ++ effect.raised;
    }

pub call-is : (x : State) (setup : Setup) (len : ℕ)
    → after-row x setup len (Some CallRow) ≡ after-call x setup len (argument x.core 17)
unfolding row_effect row_uses calls_heap row_asks call_at
call-is x setup len = refl

write-leaves : (x : State) (setup : Setup) (len : ℕ) → fetch_undef x.core len ≡ 0 → HasKnown x.core write-parameters
    → appends x.core (length x.output) ≡ true
    → first_inaccessible x.core.shadow (argument x.core 11) (moved_len x.core) ≡ None
    → AfterWrite x (after-call x setup len 64) len
unfolding call_effect call_uses call_asks
write-leaves x setup len defined known fits opened =
    let c = x.core in
    let taken = taken_from x.bytes (write_uses c (length x.output)).reads in
    let w = write-rounded c len (next_of c len) (length x.output) taken defined known fits opened in
    record {
      bytes = refl;
      core = ap (λ (k : Core). stepped c k) w.core;
      position = refl;
      end_seen = refl;
      output = length-append x.output _
          ∙ ap (λ (xs : List ℕ). length x.output + length xs) w.output
          ∙ ap (λ n. length x.output + n) (length-map (range_with_len 0 (moved_len c)) taken);
      heap_calls = refl;
      events = kept-append x.events _ ∙ ap (λ es. kept x.events ++ es) w.raised;
    }

pub write-after : (x : State) (setup : Setup) (code : Code) → action_at x.core x.bytes setup.hooks ≡ Takes code
    → IsWrite x.core (row_of_code code) → fetch_undef x.core (len_of code) ≡ 0 → HasKnown x.core write-parameters
    → appends x.core (length x.output) ≡ true
    → first_inaccessible x.core.shadow (argument x.core 11) (moved_len x.core) ≡ None
    → AfterWrite x (exec x setup) (len_of code)
write-after x setup code action is defined known fits opened =
    let len = len_of code in
    let whole : exec x setup ≡ after-call x setup len 64 =
    exec-is x setup ∙ ap (after x setup) action ∙ ap (after-row x setup len) is.0 ∙ call-is x setup len
    ∙ ap (after-call x setup len) is.1 in
    subst (λ (y : State). AfterWrite x y len) (sym whole) (write-leaves x setup len defined known fits opened)

-- the write of both
write-both : (s t y z : State) (len : ℕ) → StandsBut s t → AfterWrite s y len → AfterWrite t z len
    → moved_len s.core ≡ moved_len t.core → moved_len s.core < 2 ^ 32 → StandsBut y z
unfolding set_register
write-both s t y z len d p q same small =
    let next : next_of s.core len ≡ next_of t.core len = ap (λ n. (n + len) % 2 ^ 32) d.pc in
    record {
      memory = subst (λ (k : Core). MemoryStands k.shadow z.core.shadow y.bytes z.bytes) (sym p.core)
          (subst (λ (k : Core). MemoryStands s.core.shadow k.shadow y.bytes z.bytes) (sym q.core)
          (subst₂ (λ f g. MemoryStands s.core.shadow t.core.shadow f g) (sym p.bytes) (sym q.bytes) d.memory));
      registers = subst₂ (λ (k l : Core). RegistersStand k.registers l.registers) (sym p.core) (sym q.core)
          (subst (λ n. RegistersStand (slice_set s.core.registers 10 (known (moved_len s.core)))
          (slice_set t.core.registers 10 (known n))) same
          (set-stands s.core.registers t.core.registers d.registers 10 _ _ (known-stands (moved_len s.core) small)));
      controls = subst₂ (λ (k l : Core). ControlsStand k.controls l.controls) (sym p.core) (sym q.core) d.controls;
      pc = ap (λ (k : Core). k.pc) p.core ∙ next ∙ sym (ap (λ (k : Core). k.pc) q.core);
      status = ap (λ (k : Core). k.status) p.core ∙ d.status ∙ sym (ap (λ (k : Core). k.status) q.core);
      frames = ap (λ (k : Core). k.frames) p.core ∙ d.frames ∙ sym (ap (λ (k : Core). k.frames) q.core);
      blocks = ap (λ (k : Core). k.blocks) p.core ∙ d.blocks ∙ sym (ap (λ (k : Core). k.blocks) q.core);
      isa = ap (λ (k : Core). k.isa) p.core ∙ d.isa ∙ sym (ap (λ (k : Core). k.isa) q.core);
      stack = ap (λ (k : Core). k.stack) p.core ∙ d.stack ∙ sym (ap (λ (k : Core). k.stack) q.core);
      limits = ap (λ (k : Core). k.limits) p.core ∙ d.limits ∙ sym (ap (λ (k : Core). k.limits) q.core);
      reserved = ap (λ (k : Core). k.reserved) p.core ∙ d.reserved ∙ sym (ap (λ (k : Core). k.reserved) q.core);
      steps = ap (λ (k : Core). k.steps) p.core
          ∙ (λ i. cond (is_running (d.status i) && is_aligned (d.isa i) (d.pc i))
          (cond (has_controls (d.isa i)) ((d.steps i + 1) % 2 ^ 64) (d.steps i)) (d.steps i))
          ∙ sym (ap (λ (k : Core). k.steps) q.core);
      position = p.position ∙ ap (λ n. n + 0) d.position ∙ sym q.position;
      end_seen = p.end_seen ∙ d.end_seen ∙ sym q.end_seen;
      output = p.output ∙ (λ i. d.output i + length (range_with_len 0 (same i))) ∙ sym q.output;
      heap_calls = p.heap_calls ∙ d.heap_calls ∙ sym q.heap_calls;
      events = p.events ∙ ap (λ es. es ++ []) d.events ∙ sym q.events;
    }

-- what a write touches
pub write-touches : (x : State) (setup : Setup) (code : Code) → action_at x.core x.bytes setup.hooks ≡ Takes code
    → IsWrite x.core (row_of_code code)
    → touched_of x setup ≡ record {
      fetch = Some (span_at x.core.pc (len_of code));
      reads = (write_uses x.core (length x.output)).reads;
      writes = None;
    }
unfolding touched_at uses_at row_uses calls_heap row_asks call_at call_uses call_asks
write-touches x setup code action is =
    let c = x.core in
    let n = length x.output in
    let by-action : Action → Ranges = λ e. record {
      fetch = fetch_span c e;
      reads = (plan c (action_terms c e x.position n setup) e).reads;
      writes = (plan c (action_terms c e x.position n setup) e).writes;
    } in
    let by-row : Option Instruction → Ranges = λ row.
    (let uses = row_uses c row (terms_of (calls_heap c row) (row_asks c row) x.position n setup) in
    record { fetch = Some (span_at c.pc (len_of code)); reads = uses.reads; writes = uses.writes }) in
    let by-call : ℕ → Ranges = λ k.
    (let uses = call_uses c (call_of k) (terms_of (is_heap (call_of k)) (call_asks c (call_of k)) x.position n setup) in
    record { fetch = Some (span_at c.pc (len_of code)); reads = uses.reads; writes = uses.writes }) in
    ap by-action action ∙ ap by-row is.0 ∙ ap by-call is.1

-- which errors a step raises --

jump-kept : (c : Core) (o : Option ℕ) → AllKept (jump_fault c o).raised
jump-kept c None = none-kept
jump-kept c (Some a) = about-kept c JumpError (Some a) refl

unfetched-kept : (c : Core) → AllKept (unfetched c).raised
unfolding unfetched
unfetched-kept c = go (is_running c.status) (is_aligned c.isa c.pc)
  where
    go : (b d : Bool) → AllKept (cond b (cond d (jump_fault c (fetch_fault c)) (stops c Misaligned)) (quiet c)).raised
    go true true = jump-kept c (fetch_fault c)
    go true false = none-kept
    go false d = none-kept

named-kept : (b : Bool) (function : Hook) (c : Core) (redzone volume : ℕ) (taken : ℕ → ℕ)
    → AllKept (named_by b function c redzone volume taken).raised
unfolding named_by
named-kept true function c redzone volume taken =
    both-kept _ _ (both-kept _ _ (value-kept c 1) (from-kept (tested c 1) 10 (heap_parameters function)))
    (work-kept function _ _ _ _ _ taken)
named-kept false function c redzone volume taken = value-kept c 1

action-kept : (c : Core) (terms : Terms) (action : Action) (given : List ℕ) (taken : ℕ → ℕ)
    → ((code : Code) × ((action ≡ Takes code) × IsWrite c (row_of_code code)))
    ⊎ AllKept (outcome c terms action given taken).raised
action-kept c terms (Takes code) given taken =
    elim (rows-kept c (next_of c (len_of code)) (row_of_code code) terms given taken) [
      | inl write ↦ inl (code, (refl, write))
      | inr all ↦ inr (both-kept _ _ (unless-kept _ _ Value refl) all)
    ]
action-kept c terms Cut given taken =
    inr (both-kept _ _ (unless-kept _ _ Value refl) (jump-kept c (word_fault c)))
action-kept c terms (CallsByName function) given taken =
    inr (named-kept (returns c) function c terms.redzone terms.volume taken)
action-kept c terms Halts given taken = inr (unfetched-kept c)

-- the errors of a write
pub write-raised : (c : Core) (next written : ℕ) (taken : ℕ → ℕ) → appends c written ≡ true
    → (write_call c next written taken).raised
    ≡ test-errors c write-parameters
    ++ buffer_errors (after-tests c write-parameters) WriteBuffer true (argument c 11) (moved_len c)
unfolding write_call appends parameters_of
write-raised c next written taken fits =
    let parts = and_parts (is_output (argument c 10)) (has_room c written) fits in
    λ i. (write-cases (after-tests c write-parameters) next (test-errors c write-parameters) (parts.0 i) (parts.1 i)
    (argument c 11) (moved_len c) taken).raised

write-full : (c : Core) (next written : ℕ) (taken : ℕ → ℕ) → appends c written ≡ false
    → AllKept (write_call c next written taken).raised
unfolding write_call appends parameters_of
write-full c next written taken none = go (is_output (argument c 10)) (has_room c written) none
  where
    go : (p q : Bool) → (p && q) ≡ false
        → AllKept (write-cases (after-tests c write-parameters) next (test-errors c write-parameters) p q
        (argument c 11) (moved_len c) taken).raised
    go true true e = absurd (false≢true (sym e))
    go true false e = tests-kept c write-parameters
    go false q e = tests-kept c write-parameters

-- the errors of a step that takes a write
pub taken-raised : (c : Core) (code : Code) (terms : Terms) (given : List ℕ) (taken : ℕ → ℕ)
    → IsWrite c (row_of_code code)
    → (outcome c terms (Takes code) given taken).raised
    ≡ fetch_errors c (len_of code) ++ (write_call c (next_of c (len_of code)) terms.written taken).raised
unfolding row_effect call_at call_effect
taken-raised c code terms given taken is =
    let next = next_of c (len_of code) in
    (λ i. fetch_errors c (len_of code) ++ (row_effect c next (is.0 i) terms given taken).raised)
    ∙ (λ i. fetch_errors c (len_of code) ++ (call_effect c next (call_of (is.1 i)) terms given taken).raised)

-- the other state of a write
module _ (setup : Setup) (s t : State) (d : StandsBut s t) (bytes : HasBytes setup) where
  abbrev u : State
  u = s0 setup s t d

  abbrev v : State
  v = t0 setup s t d

  abbrev x : State
  x = between u v

  action-too : (code : Code) → action_at s.core s.bytes setup.hooks ≡ Takes code → fetch_undef s.core (len_of code) ≡ 0
      → action_at t.core t.bytes setup.hooks ≡ Takes code
  action-too code action defined =
      let a = agrees u v (stands0 setup s t d) in
      let b = sharpens u v (stands0 setup s t d) in
      let qs = Clean.held-of x.core in
      let held : Clean.HeldAgree (Clean.held-of s.core) qs =
      record { registers = a.registers; controls = a.controls } in
      let one = action-alike s.core qs held s.bytes t.bytes a.memory setup.hooks
      (subst (IsFetched s.core qs held s.bytes t.bytes a.memory) (sym action) defined) in
      let same : Clean.swap s.core qs ≡ x.core =
      λ i. record {
        shadow = s.core.shadow;
        registers = x.core.registers;
        pc = d.pc i;
        status = d.status i;
        frames = d.frames i;
        blocks = d.blocks i;
        isa = d.isa i;
        stack = d.stack i;
        limits = d.limits i;
        reserved = d.reserved i;
        controls = x.core.controls;
        steps = d.steps i;
      } in
      let three = action-same x.core (Ours.held-of t.core)
      (record { registers = b.registers; controls = b.controls; shadow = b.shadow }) t.bytes setup.hooks in
      sym three ∙ sym (ap (λ (k : Core). action_at k t.bytes setup.hooks) same) ∙ sym one ∙ action

  stands-at : (r : ℕ) → BitsStand (register s.core r) (register t.core r)
  stands-at r = register-stands s.core t.core d.registers r

  same-at : (r : ℕ) → IsKnown s.core r → argument s.core r ≡ argument t.core r
  same-at r none = same-value _ _ (stands-at r) none

  none-at : (r : ℕ) → IsKnown s.core r → IsKnown t.core r
  none-at r none = same-undef _ _ (stands-at r) none

  known-too : HasKnown s.core write-parameters → HasKnown t.core write-parameters
  known-too k =
      (none-at 17 k.0, (none-at 10 k.1.0, (none-at 11 k.1.1.0, (none-at 12 k.1.1.1.0, tt))))

  moved-alike : HasKnown s.core write-parameters → moved_len s.core ≡ moved_len t.core
  unfolding moved_len
  moved-alike known =
      moved-same s.core.shadow t.core.shadow d.memory.shadow (argument s.core 11)
      (min (argument s.core 12) s.core.limits.most_moved)
      ∙ (λ i. moved_from_start t.core.shadow (same-at 11 known.1.1.0 i)
      (min (same-at 12 known.1.1.1.0 i) (d.limits i).most_moved))

  write-step : (code : Code) → action_at s.core s.bytes setup.hooks ≡ Takes code → IsWrite s.core (row_of_code code)
      → fetch_undef s.core (len_of code) ≡ 0 → HasKnown s.core write-parameters
      → appends s.core (length s.output) ≡ true
      → first_inaccessible s.core.shadow (argument s.core 11) (moved_len s.core) ≡ None
      → StandsBut (exec s setup) (exec t setup)
  unfolding appends little_word
  write-step code action is defined known fits opened =
      let len = len_of code in
      let p = same-at 10 known.1.0 in
      let q = same-at 11 known.1.1.0 in
      let moved = moved-alike known in
      let few : moved_len s.core < 2 ^ 32 = moved-small s.core (stands-at 12).one in
      let within = taken-within s.core.shadow t.core.shadow (λ a. d.memory.shadow a) s.core.pc len in
      let small = window-lt8 t.core.shadow (λ a. (d.memory.shadow a).other) s.core.pc len in
      let there : taken_undef t.core s.core.pc len ≡ 0 =
      none-within 32 (fetch_undef s.core len) (taken_undef t.core s.core.pc len)
      (omega (arith, small 0, small 1, small 2, small 3)) within defined in
      write-both s t (exec s setup) (exec t setup) len d
      (write-after s setup code action is defined known fits opened)
      (write-after t setup code (action-too code action defined) (is.0, sym (same-at 17 known.0) ∙ is.1)
      (subst (λ pc. taken_undef t.core pc len ≡ 0) d.pc there)
      (known-too known)
      (sym (λ i. is_output (p i) && nat_le (d.output i + moved i) (d.limits i).most_output) ∙ fits)
      (sym (λ i. first_inaccessible t.core.shadow (q i) (moved i))
      ∙ sym (bad-same s.core.shadow t.core.shadow d.memory.shadow (argument s.core 11) (moved_len s.core)) ∙ opened))
      moved few

  write-touched : (code : Code) → action_at s.core s.bytes setup.hooks ≡ Takes code → IsWrite s.core (row_of_code code)
      → fetch_undef s.core (len_of code) ≡ 0 → HasKnown s.core write-parameters
      → touched_of s setup ≡ touched_of t setup
  unfolding appends
  write-touched code action is defined known =
      let p = same-at 10 known.1.0 in
      let q = same-at 11 known.1.1.0 in
      let moved = moved-alike known in
      write-touches s setup code action is
      ∙ (λ i. record {
        fetch = Some (span_at (d.pc i) (len_of code));
        reads = cond (is_output (p i) && nat_le (d.output i + moved i) (d.limits i).most_output)
            (Some (span_at (q i) (moved i))) None;
        writes = None;
      })
      ∙ sym (write-touches t setup code (action-too code action defined) (is.0, sym (same-at 17 known.0) ∙ is.1))

  -- the law of a step
  pub echo-step : BlocksAreOpen s.core → HasStackPointer s → HasStackPointer (exec s setup) → WritesOpen s setup
      → NoUse (kept (exec s setup).events)
      → StandsBut (exec s setup) (exec t setup) × (touched_of s setup ≡ touched_of t setup)
  echo-step opened before later writes none =
      let action = action_at s.core s.bytes setup.hooks in
      let terms = action_terms s.core action s.position (length s.output) setup in
      let given = given_at s.position terms.intake.count setup in
      let taken = taken_from s.bytes (plan s.core terms action).reads in
      let raised = (outcome s.core terms action given taken).raised in
      let now : NoUse (kept raised) =
      right-kept s.events raised (subst (λ (y : State). NoUse (kept y.events)) (exec-is s setup) none) in
      let quiet : AllKept raised → StandsBut (exec s setup) (exec t setup) × (touched_of s setup ≡ touched_of t setup) =
      λ all.
      (let none' = subst (λ (y : State). NoUse y.events) (sym (exec-is u setup)) (none-of raised all now) in
      (quiet-step setup s t d bytes opened before later none', quiet-touched setup s t d bytes opened none')) in
      elim (action-kept s.core terms action given taken) [
        | inr all ↦ quiet all
        | inl (code, (is, write)) ↦
            let c = s.core in
            let next = next_of c (len_of code) in
            let shape : raised
            ≡ fetch_errors c (len_of code) ++ (write_call c next (length s.output) taken).raised =
            ap (λ (x : Action). (outcome c terms x given taken).raised) is
            ∙ taken-raised c code terms given taken write in
            let parts = subst (λ es. NoUse (kept es)) shape now in
            let fetch = left-kept (fetch_errors c (len_of code)) _ parts in
            let call = right-kept (fetch_errors c (len_of code)) _ parts in
            elim (cases_Bool (appends c (length s.output))) [
              | inl fits ↦
                  let tests = left-kept (test-errors c write-parameters) _
                  (subst (λ es. NoUse (kept es)) (write-raised c next (length s.output) taken fits) call) in
                  let defined = eqb-true (fetch_undef c (len_of code)) 0
                  (no-event (fetch_undef c (len_of code) == 0) (here c) Value refl
                  (none-of _ (unless-kept _ _ Value refl) fetch)) in
                  let known = call-known c write-parameters (none-of _ (tests-kept c write-parameters) tests) in (
                    write-step code is write defined known fits (writes code is write fits),
                    write-touched code is write defined known,
                  )
              | inr full ↦
                  quiet (subst AllKept (sym shape) (both-kept _ _ (unless-kept _ _ Value refl)
                  (write-full c next (length s.output) taken full)))
            ]
      ]

pub echoes-stand : (input : List ℕ) → All (λ byte. byte < 2 ^ 8) input → EchoesStand input
echoes-stand input small setup s t is d opened before later writes none =
    (echo-step setup s t d (subst (λ xs. All (λ byte. byte < 2 ^ 8) xs) (sym is) small) opened before later writes
    none).0
