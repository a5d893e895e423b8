-- Steps with other bytes of the input.
use Rattle.std.proofs.Common.{◌≡◌, ◌⊎◌, ℕ, ◌+◌, ◌-◌, ◌^◌, ◌<◌, ◌==◌, ◌&&◌, Bool, true, false, cond, refl}
use Rattle.std.proofs.Common.{sym, ap, ◌∙◌, subst, inl, inr, List, [], ◌++◌, length, drop, slice_index}
use Rattle.std.proofs.Common.{Option, Some, None, nat_lt}
use Rattle.std.proofs.lemmas.Bool.{cases_eq, and_parts, ltb-true}
use Rattle.std.proofs.lemmas.List.{get_or-take, get_or-drop}
use Rattle.shadow_memory.specs.Ranges.{is_in, offset, written, changed_in}
use Rattle.instructions.specs.Codes.{len_of, row_of_code}
use Rattle.instructions.specs.declared.instruction.Instruction.{Instruction}
use Rattle.instructions.specs.declared.instruction.Instruction.TheVariants.{CallEnvironment as CallRow}
use Rattle.run_values.specs.declared.span.Span.{Span}
use Rattle.guest_machine.specs.State.{Core, State}
use Rattle.guest_machine.specs.Spans.{span_at}
use Rattle.guest_machine.specs.Effects.{Effect, next_of, moved_to, stored_core}
use Rattle.guest_machine.specs.Errors.{fetch_errors, buffer_errors}
use Rattle.guest_machine.specs.Calls.{argument, call_at, call_of, read_call, moved_len, answered, call_tested}
use Rattle.guest_machine.specs.Calls.{call_errors}
use Rattle.guest_machine.specs.Calls.{answers, failure, ebadf}
use Rattle.guest_machine.specs.StackPointer.{stack_ruled}
use Rattle.guest_machine.specs.Registers.{register}
use Rattle.error_events.specs.declared.parameter.Parameter.TheVariants.{ReadBuffer}
use Rattle.guest_machine.specs.Exec.{Action, Takes, Cut, CallsByName, Halts, Terms, action_at, plan, outcome}
use Rattle.guest_machine.specs.Exec.{given_at, taken_from, written_to, exec, row_effect, row_uses, call_effect}
use Rattle.guest_machine.specs.Exec.{call_uses}
use Rattle.guest_machine.specs.Exec.{intake_at, uses_at, seen_also, counted, stepped, is_heap_action, action_asks}
use Rattle.guest_machine.specs.Exec.{intake_of}
use Rattle.guest_machine.specs.Exec.{touched_of, touched_at, effect_at, outcome_at, fetch_span}
use Rattle.guest_machine.specs.declared.setup.Setup.{Setup}
use Rattle.any_runs.specs.Inputs.{DiffersIn, is_given, is_read}
use Rattle.clean_reports.specs.Agreement.{AreBytes}
use Rattle.clean_reports.specs.Disturbed.{HasBytes}
use Rattle.clean_reports.proofs.Memory.{written-bytes}
use Rattle.clean_reports.proofs.Rows.{other, given-bytes}

-- two effects of which at most the bytes that are made differ, and these are what is given of the input
pub record GivenOnly (count : ℕ) (writes : Option Span) (given others : List ℕ) (e h : Effect) : Type 0 where
  pub core : e.core ≡ h.core
  pub raised : e.raised ≡ h.raised
  pub output : e.output ≡ h.output
  pub made : (e.made ≡ h.made)
      ⊎ ((start : ℕ) × ((writes ≡ Some (span_at start count)) × ((e.made ≡ slice_index given)
      × (h.made ≡ slice_index others))))

all-same : (count : ℕ) (writes : Option Span) (given others : List ℕ) (e : Effect)
    → GivenOnly count writes given others e e
all-same count writes given others e = record { core = refl; raised = refl; output = refl; made = inl refl }

module _ (c : Core) (next : ℕ) (terms : Terms) (given others : List ℕ) (taken : ℕ → ℕ) where
  abbrev n : ℕ
  n = terms.intake.count

  abbrev CallGiven : ℕ → Type 0
  CallGiven k =
      GivenOnly n (call_uses c (call_of k) terms).writes given others (call_effect c next (call_of k) terms given taken)
      (call_effect c next (call_of k) terms others taken)

  read-given : CallGiven 63
  unfolding call_effect call_uses read_call
  read-given = go (argument c 10 == 0)
    where
      yes : List ℕ → Effect
      yes xs = record {
        core = moved_to (answered (stored_core
            (call_tested c (call_of 63)) (argument c 11) n 0) n) next;
        raised = call_errors c (call_of 63)
            ++ buffer_errors (call_tested c (call_of 63)) ReadBuffer false
            (argument c 11) (moved_len c);
        made = slice_index xs;
        output = [];
      }

      no : Effect
      no = answers c next (call_of 63)
          (failure ebadf)

      go : (b : Bool) → GivenOnly n (cond b (Some (span_at (argument c 11) n)) None) given others
          (cond b (yes given) no) (cond b (yes others) no)
      go true = record {
        core = refl;
        raised = refl;
        output = refl;
        made = inr (argument c 11, (refl, (refl, refl)));
      }
      go false = all-same n None given others no

  calls-given : (k : ℕ) → CallGiven k
  unfolding call_effect
  calls-given k = elim (cases_eq k 63) [
    | inl e ↦ subst CallGiven (sym e) read-given
    | inr p ↦ elim (cases_eq k 64) [
      | inl e ↦ subst CallGiven (sym e) (all-same n _ given others _)
      | inr q ↦ elim (cases_eq k 93) [
        | inl e ↦ subst CallGiven (sym e) (all-same n _ given others _)
        | inr r ↦ elim (cases_eq k 94) [
          | inl e ↦ subst CallGiven (sym e) (all-same n _ given others _)
          | inr s ↦ elim (cases_eq k 2001) [
            | inl e ↦ subst CallGiven (sym e) (all-same n _ given others _)
            | inr t ↦ elim (cases_eq k 2002) [
              | inl e ↦ subst CallGiven (sym e) (all-same n _ given others _)
              | inr u ↦ elim (cases_eq k 2003) [
                | inl e ↦ subst CallGiven (sym e) (all-same n _ given others _)
                | inr v ↦ elim (cases_eq k 2004) [
                  | inl e ↦ subst CallGiven (sym e) (all-same n _ given others _)
                  | inr w ↦ like-none (other k p q r s t u v w)
                ]
              ]
            ]
          ]
        ]
      ]
    ]
  ]
    where
      none-given : CallGiven 0
      none-given = all-same n _ given others _

      like-none : call_of k ≡ call_of 0 → CallGiven k
      like-none e =
          subst (λ call. GivenOnly n (call_uses c call terms).writes given others
          (call_effect c next call terms given taken) (call_effect c next call terms others taken)) (sym e) none-given

  rows-given : (row : Option Instruction)
      → GivenOnly n (row_uses c row terms).writes given others (row_effect c next row terms given taken)
      (row_effect c next row terms others taken)
  unfolding row_effect row_uses call_at
  rows-given (Some CallRow) = calls-given (argument c 17)
  rows-given None = all-same n _ given others _
  rows-given (Some _) = all-same n _ given others _

actions-given : (c : Core) (terms : Terms) (action : Action) (given others : List ℕ) (taken : ℕ → ℕ)
    → GivenOnly terms.intake.count (plan c terms action).writes given others (outcome c terms action given taken)
    (outcome c terms action others taken)
actions-given c terms (Takes code) given others taken =
    let x = rows-given c (next_of c (len_of code)) terms given others taken (row_of_code code) in
    record {
      core = ap (stack_ruled (register c 2))
          x.core;
      raised = ap (λ es. fetch_errors c (len_of code) ++ es) x.raised;
      output = x.output;
      made = x.made;
    }
actions-given c terms Cut given others taken = all-same _ _ given others _
actions-given c terms (CallsByName function) given others taken = all-same _ _ given others _
actions-given c terms Halts given others taken = all-same _ _ given others _

-- states that differ only in bytes at addresses that pass a test
pub record DifferAt (test : ℕ → Bool) (u v : State) : Type 0 where
  pub core : u.core ≡ v.core
  pub position : u.position ≡ v.position
  pub end_seen : u.end_seen ≡ v.end_seen
  pub output : u.output ≡ v.output
  pub heap_calls : u.heap_calls ≡ v.heap_calls
  pub events : u.events ≡ v.events
  pub bytes : (a : ℕ) → test a ≡ false → u.bytes a ≡ v.bytes a

-- where the test of an address fails, the byte that is given there is the same
given-same : (any : ℕ → Bool) (position count : ℕ) (setup alike : Setup) → DiffersIn any setup alike → (start a : ℕ)
    → is_given any position count (Some (span_at start count)) a ≡ false → is_in start count a ≡ true
    → slice_index (given_at position count setup) (offset start a)
    ≡ slice_index (given_at position count alike) (offset start a)
unfolding is_given
given-same any position count setup alike d start a none within =
    let i = offset start a in
    let few : i < count = ltb-true i count (and_parts (nat_lt a (2 ^ 32)) (nat_lt i count) within).1 in
    let out : any (position + i) ≡ false = sym (λ j. within j && any (position + i)) ∙ none in
    get_or-take count (drop position setup.input) i 0 few ∙ get_or-drop position setup.input i 0
    ∙ d.outside (position + i) out
    ∙ sym (get_or-drop position alike.input i 0) ∙ sym (get_or-take count (drop position alike.input) i 0 few)

written-same : (f : ℕ → ℕ) (any : ℕ → Bool) (position count : ℕ) (setup alike : Setup) → DiffersIn any setup alike
    → (writes : Option Span) (e h : Effect)
    → GivenOnly count writes (given_at position count setup) (given_at position count alike) e h
    → (a : ℕ) → is_given any position count writes a ≡ false
    → written_to f writes e.made a ≡ written_to f writes h.made a
unfolding written changed_in
written-same f any position count setup alike d writes e h x a none = elim x.made [
  | inl same ↦ λ i. written_to f writes (same i) a
  | inr (start, (at, (one, two))) ↦
      let P : Option Span → Type 0 = λ w.
      is_given any position count w a ≡ false → written_to f w e.made a ≡ written_to f w h.made a in
      subst P (sym at) (λ clear.
      (λ i. written_to f (Some (span_at start count)) (one i) a)
      ∙ choose start clear (is_in start count a) refl
      ∙ (λ i. written_to f (Some (span_at start count)) (sym two i) a)) none
]
  where
    choose : (start : ℕ) → is_given any position count (Some (span_at start count)) a ≡ false → (b : Bool)
        → is_in start count a ≡ b
        → cond b (slice_index (given_at position count setup) (offset start a)) (f a)
        ≡ cond b (slice_index (given_at position count alike) (offset start a)) (f a)
    choose start clear true within = given-same any position count setup alike d start a clear within
    choose start clear false within = refl

-- a step with other bytes of the input
module _ (any : ℕ → Bool) (setup : Setup) (input : List ℕ) (count : length setup.input ≡ length input)
    (outside : (i : ℕ) → any i ≡ false → slice_index setup.input i ≡ slice_index input i) (t : State) where
  abbrev alike : Setup
  alike = record setup { input = input }

  differs : DiffersIn any setup alike
  differs = record { redzone = refl; volume = refl; hooks = refl; count = count; outside = outside }

  abbrev terms-by : ℕ → Action → Terms
  terms-by len action = record {
    intake = intake_of (action_asks t.core action) (len - t.position);
    written = length t.output;
    redzone = cond (is_heap_action t.core action) setup.redzone 0;
    volume = cond (is_heap_action t.core action) setup.volume 0;
  }

  abbrev after-by : Terms → Action → Setup → State
  after-by terms action by =
      let uses = plan t.core terms action in
      let effect = outcome t.core terms action (given_at t.position terms.intake.count by)
      (taken_from t.bytes uses.reads) in
      record {
        bytes = written_to t.bytes uses.writes effect.made;
        core = stepped t.core effect.core;
        position = t.position + terms.intake.count;
        end_seen = seen_also t.end_seen terms.intake.ends;
        output = t.output ++ effect.output;
        heap_calls = counted t.heap_calls (is_heap_action t.core action);
        events = t.events ++ effect.raised;
      }

  by-terms : (action : Action) → DifferAt (is_given any t.position (terms-by (length setup.input) action).intake.count
      (plan t.core (terms-by (length setup.input) action) action).writes)
      (after-by (terms-by (length setup.input) action) action setup)
      (after-by (terms-by (length setup.input) action) action alike)
  by-terms action =
      let terms = terms-by (length setup.input) action in
      let n = terms.intake.count in
      let taken = taken_from t.bytes (plan t.core terms action).reads in
      let x = actions-given t.core terms action (given_at t.position n setup) (given_at t.position n alike) taken in
      record {
        core = ap (λ (k : Core). stepped t.core k) x.core;
        position = refl;
        end_seen = refl;
        output = ap (λ o. t.output ++ o) x.output;
        heap_calls = refl;
        events = ap (λ es. t.events ++ es) x.raised;
        bytes = written-same t.bytes any t.position n setup alike differs (plan t.core terms action).writes _ _ x;
      }

  pub differ-after : DifferAt (is_read any t setup) (exec t setup) (exec t alike)
  unfolding exec intake_at uses_at effect_at outcome_at
  differ-after =
      let action = action_at t.core t.bytes setup.hooks in
      subst (λ (v : State). DifferAt (is_read any t setup) (exec t setup) v)
      (λ i. after-by (terms-by (count i) action) action alike) (by-terms action)

  pub touched-alike : touched_of t setup ≡ touched_of t alike
  unfolding touched_at uses_at
  touched-alike =
      let action = action_at t.core t.bytes setup.hooks in
      λ i. record {
        fetch = fetch_span t.core action;
        reads = (plan t.core (terms-by (count i) action) action).reads;
        writes = (plan t.core (terms-by (count i) action) action).writes;
      }

  -- the bytes after it are bytes
  small-by : (action : Action) → AreBytes t.bytes → HasBytes alike
      → AreBytes (after-by (terms-by (length setup.input) action) action setup).bytes
      → AreBytes (after-by (terms-by (length setup.input) action) action alike).bytes
  small-by action old bytes new =
      let terms = terms-by (length setup.input) action in
      let n = terms.intake.count in
      let writes = (plan t.core terms action).writes in
      let taken = taken_from t.bytes (plan t.core terms action).reads in
      let x = actions-given t.core terms action (given_at t.position n setup) (given_at t.position n alike) taken in
      elim x.made [
        | inl same ↦ subst (λ (made : ℕ → ℕ). AreBytes (written_to t.bytes writes made)) same new
        | inr (start, (at, (one, two))) ↦
            subst (λ (w : Option Span). AreBytes (written_to t.bytes w
            (outcome t.core terms action (given_at t.position n alike) taken).made)) (sym at)
            (subst (λ (made : ℕ → ℕ). AreBytes (written_to t.bytes (Some (span_at start n)) made)) (sym two)
            (written-bytes t.bytes start n (slice_index (given_at t.position n alike)) old
            (given-bytes t.position n alike bytes)))
      ]

  pub small-after : AreBytes t.bytes → HasBytes alike → AreBytes (exec t setup).bytes → AreBytes (exec t alike).bytes
  unfolding exec intake_at uses_at effect_at outcome_at
  small-after old bytes new =
      let action = action_at t.core t.bytes setup.hooks in
      subst (λ (v : State). AreBytes v.bytes) (λ i. after-by (terms-by (count i) action) action alike)
      (small-by action old bytes new)
