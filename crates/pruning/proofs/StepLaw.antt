-- A register that a step doesn't look at may hold anything: it doesn't matter, or only to the register itself.
use Rattle.std.proofs.Common.{◌≡◌, ℕ, ◌+◌, ◌≤◌, ◌==◌, ◌&&◌, ◌||◌, ◌++◌, Bool, true, false, cond, List, length, Option}
use Rattle.std.proofs.Common.{Some, None, refl, ap, ap₂, sym, subst, ◌∙◌, arith}
use Rattle.std.proofs.lemmas.Bool.Decides.{nat_tests}
use Rattle.definedness.specs.declared.Bits.{Bits}
use Rattle.error_events.specs.declared.event.Event.{Event}
use Rattle.instructions.specs.Codes.{len_of, row_of_code}
use Rattle.instructions.specs.declared.instruction.Instruction.{Instruction}
use Rattle.run_values.specs.declared.status.Stop.TheVariants.{Misaligned}
use Rattle.std.specs.Prelude.{is_none}
use Rattle.guest_elf.specs.declared.hook.Hook.{Hook}
use Rattle.guest_elf.specs.Hooks.{hook_at}
use Rattle.guest_machine.specs.Exec.{code_in, cut, action_by, fetch_by, half_at, word_at, word_fault}
use Rattle.guest_elf.specs.Profiles.{is_aligned, is_half}
use Rattle.guest_machine.specs.State.{Core, State}
use Rattle.guest_machine.specs.Registers.{register}
use Rattle.guest_machine.specs.Effects.{Effect, next_of, quiet, stops}
use Rattle.guest_machine.specs.Errors.{event_about, fetch_errors}
use Rattle.guest_machine.specs.StackPointer.{stack_ruled}
use Rattle.guest_machine.specs.Exec.{Action, Takes, Cut, CallsByName, Halts, Terms, Uses, called_here, calls_heap}
use Rattle.guest_machine.specs.Exec.{counted, outcome_at, stepped}
use Rattle.guest_machine.specs.Exec.{action_asks, action_at, action_terms, effect_at, exec, fetch_fault, fetched}
use Rattle.guest_machine.specs.Exec.{fetches}
use Rattle.guest_machine.specs.Exec.{given_at, intake_at, intake_of, is_heap_action, is_running, jump_fault}
use Rattle.guest_machine.specs.Exec.{left_at, outcome, plan, rounded, row_asks, row_effect, row_uses, seen_also}
use Rattle.guest_machine.specs.Exec.{taken_from, terms_of, unfetched, uses_at, written_to}
use Rattle.guest_machine.specs.declared.setup.Setup.{Setup}
use Rattle.pruning.specs.declared.passing.Passing.TheVariants.{Looks, Keeps, Overwrites}
use Rattle.pruning.specs.Passing.{completes, passing, passing_action, passing_row, reads, with_register}
use Rattle.pruning.specs.Passing.{writes}
use Rattle.pruning.specs.Laws.{KeepsRegisters, OverwritesRegisters}
use Rattle.guest_machine.proofs.Actions.{by, by-row}
use Rattle.pruning.proofs.Replaced.{put, set-is, register-other, ruled-other, ruled-stays, stack-stands}
use Rattle.pruning.proofs.RowSteps.{over, row-other, row-stays, row-again, uses-other, no-heap, asks-none}

-- ---- what a passing says

-- by the three tests of it: whether x2 is meant, whether it is written, and whether the instruction completes
pub record IsKept (core : Core) (row : Option Instruction) (r : ℕ) : Type 0 where
  pub unread : reads row r ≡ false
  pub unwritten : completes core row && writes row r ≡ false
  pub pointer : (r == 2) ≡ true → writes row r ≡ false

pub record IsReplaced (core : Core) (row : Option Instruction) (r : ℕ) : Type 0 where
  pub unread : reads row r ≡ false
  pub written : completes core row && writes row r ≡ true
  pub other : (r == 2) ≡ false

kept-by : (read two whole write : Bool)
    → cond (read || (write && two)) Looks (cond (whole && write) Overwrites Keeps) ≡ Keeps
    → (read ≡ false) × (whole && write ≡ false) × (two ≡ true → write ≡ false)
kept-by true two whole write h = cc
kept-by false two true false h = (refl, refl, λ e. refl)
kept-by false two false false h = (refl, refl, λ e. refl)
kept-by false true whole true h = cc
kept-by false false true true h = cc
kept-by false false false true h = (refl, refl, λ e. cc)

replaced-by : (read two whole write : Bool)
    → cond (read || (write && two)) Looks (cond (whole && write) Overwrites Keeps) ≡ Overwrites
    → (read ≡ false) × (whole && write ≡ true) × (two ≡ false)
replaced-by true two whole write h = cc
replaced-by false two true false h = cc
replaced-by false two false false h = cc
replaced-by false true whole true h = cc
replaced-by false false true true h = (refl, refl, refl)
replaced-by false false false true h = cc

kept : (core : Core) (row : Option Instruction) (r : ℕ) → passing_row core row r ≡ Keeps → IsKept core row r
unfolding passing_row
kept core row r h =
    let parts = kept-by (reads row r) (r == 2) (completes core row) (writes row r) h in
    record { unread = parts.0; unwritten = parts.1; pointer = parts.2 }

replaced : (core : Core) (row : Option Instruction) (r : ℕ) → passing_row core row r ≡ Overwrites
    → IsReplaced core row r
unfolding passing_row
replaced core row r h =
    let parts = replaced-by (reads row r) (r == 2) (completes core row) (writes row r) h in
    record { unread = parts.0; written = parts.1; other = parts.2 }

-- ---- an instruction with the stack pointer rule

none-of : (whole write : Bool) → write ≡ false → whole && write ≡ false
none-of true write h = h
none-of false write h = refl

module _ (core : Core) (len next : ℕ) (row : Option Instruction) (r : ℕ) (bits : Bits) (terms : Terms)
    (given : List ℕ) (taken : ℕ → ℕ) where
  abbrev before : Effect
  before = row_effect core next row terms given taken

  ruled-kept : IsKept core row r
      → stack_ruled (register (put core r bits) 2) (put before.core r bits)
      ≡ put (stack_ruled (register core 2) before.core) r bits
  ruled-kept k = go (r == 2) refl
    where
      e : row_effect (put core r bits) next row terms given taken ≡ over before r bits
      e = row-other core next row r bits terms given taken k.unread k.unwritten

      two : (r == 2) ≡ true → r ≡ 2
      two h = number r h
        where
          number : (m : ℕ) → (m == 2) ≡ true → m ≡ 2
          number m h = grind (arith, nat_tests)

      go : (t : Bool) → (r == 2) ≡ t
          → stack_ruled (register (put core r bits) 2) (put before.core r bits)
          ≡ put (stack_ruled (register core 2) before.core) r bits
      go true h =
          let quiet = k.pointer h in
          let here : register before.core 2 ≡ register core 2 =
          subst (λ q. register before.core q ≡ register core q) (two h)
          (row-stays core next row r terms given taken k.unread k.unwritten) in
          let there : register (put before.core r bits) 2 ≡ register (put core r bits) 2 =
          subst (λ q. register (put before.core r bits) q ≡ register (put core r bits) q) (two h)
          (ap (λ x. register x.core r) (sym e)
          ∙ row-stays (put core r bits) next row r terms given taken k.unread
          (none-of (completes (put core r bits) row) (writes row r) quiet)) in
          ap (λ x. stack_ruled x (put before.core r bits)) (sym there) ∙ stack-stands (put before.core r bits)
          ∙ ap (λ c. put c r bits) (sym (ap (λ x. stack_ruled x before.core) (sym here) ∙ stack-stands before.core))
      go false h =
          ap (λ x. stack_ruled x (put before.core r bits)) (register-other core r 2 bits h)
          ∙ ruled-other (register core 2) before.core r bits h

  rounded-kept : IsKept core row r
      → rounded (put core r bits) len (row_effect (put core r bits) next row terms given taken)
      ≡ over (rounded core len before) r bits
  rounded-kept k =
      ap (λ e. rounded (put core r bits) len e) (row-other core next row r bits terms given taken k.unread k.unwritten)
      ∙ ap (λ c. record {
        core = c;
        raised = (rounded core len before).raised;
        made = before.made;
        output = before.output;
      })
      (ruled-kept k)

  rounded-replaced : 1 ≤ r → IsReplaced core row r
      → rounded (put core r bits) len (row_effect (put core r bits) next row terms given taken)
      ≡ rounded core len before
  rounded-replaced one k =
      ap (λ e. rounded (put core r bits) len e)
      (row-again core next row r bits terms given taken one k.unread k.written)
      ∙ ap (λ x. record {
        core = stack_ruled x before.core;
        raised = (rounded core len before).raised;
        made = before.made;
        output = before.output;
      }) (register-other core r 2 bits k.other)

  rounded-stays : IsKept core row r → register (rounded core len before).core r ≡ register core r
  rounded-stays k =
      ruled-stays (register core 2) before.core r ∙ row-stays core next row r terms given taken k.unread k.unwritten

-- ---- the step

swapped : State → ℕ → Bits → State
swapped s r bits = record s { core = put s.core r bits }

module _ (s : State) (setup : Setup) (len : ℕ) (row : Option Instruction) (r : ℕ) (bits : Bits) (asks : Option ℕ)
    (heap : Bool) where
  abbrev terms : Terms
  terms = terms_of heap asks s.position (length s.output) setup

  abbrev given : List ℕ
  given = given_at s.position terms.intake.count setup

  abbrev uses : Uses
  uses = row_uses s.core row terms

  abbrev effect : Effect
  effect = rounded s.core len (row_effect s.core (next_of s.core len) row terms given (taken_from s.bytes uses.reads))

  abbrev other : Effect
  other =
      rounded (put s.core r bits) len (row_effect (put s.core r bits) (next_of s.core len) row terms given
      (taken_from s.bytes (row_uses (put s.core r bits) row terms).reads))

  -- with the other bits, as far as the ranges read
  under : reads row r ≡ false → other ≡ rounded (put s.core r bits) len
      (row_effect (put s.core r bits) (next_of s.core len) row terms given (taken_from s.bytes uses.reads))
  under h =
      let far = put s.core r bits in
      ap (λ u. rounded far len (row_effect far (next_of s.core len) row terms given (taken_from s.bytes u.reads)))
      (uses-other s.core row r bits terms h)

  row-kept : IsKept s.core row r
      → by-row (swapped s r bits) setup len row heap asks ≡ swapped (by-row s setup len row heap asks) r bits
  unfolding by-row swapped
  row-kept k =
      let u = uses-other s.core row r bits terms k.unread in
      let e = under k.unread
      ∙ rounded-kept s.core len (next_of s.core len) row r bits terms given (taken_from s.bytes uses.reads) k in
      let intake = intake_of asks (left_at s.position setup) in
      λ i. record {
        bytes = written_to s.bytes (u i).writes (e i).made;
        core = stepped s.core (e i).core;
        position = s.position + intake.count;
        end_seen = seen_also s.end_seen intake.ends;
        output = s.output ++ (e i).output;
        heap_calls = counted s.heap_calls heap;
        events = s.events ++ (e i).raised;
      }

  row-replaced : 1 ≤ r → IsReplaced s.core row r
      → by-row (swapped s r bits) setup len row heap asks ≡ by-row s setup len row heap asks
  unfolding by-row swapped
  row-replaced one k =
      let u = uses-other s.core row r bits terms k.unread in
      let e = under k.unread
      ∙ rounded-replaced s.core len (next_of s.core len) row r bits terms given (taken_from s.bytes uses.reads) one
      k in
      let intake = intake_of asks (left_at s.position setup) in
      λ i. record {
        bytes = written_to s.bytes (u i).writes (e i).made;
        core = stepped s.core (e i).core;
        position = s.position + intake.count;
        end_seen = seen_also s.end_seen intake.ends;
        output = s.output ++ (e i).output;
        heap_calls = counted s.heap_calls heap;
        events = s.events ++ (e i).raised;
      }

-- neither asks for input nor calls the heap
plain : (s : State) (setup : Setup) (len : ℕ) (row : Option Instruction) (r : ℕ) → reads row r ≡ false
    → by-row s setup len row (calls_heap s.core row) (row_asks s.core row) ≡ by-row s setup len row false None
plain s setup len row r h = ap₂ (by-row s setup len row) (no-heap s.core row r h) (asks-none s.core row r h)

-- ---- a step that takes no code

unfetched-other : (core : Core) (r : ℕ) (bits : Bits) → unfetched (put core r bits) ≡ over (unfetched core) r bits
unfolding unfetched event_about
unfetched-other core r bits = go (is_running core.status) (is_aligned core.isa core.pc) (fetch_fault core)
  where
    changed : Core
    changed = put core r bits

    go : (t u : Bool) (fault : Option ℕ)
        → cond t (cond u (jump_fault changed fault) (stops changed Misaligned)) (quiet changed)
        ≡ over (cond t (cond u (jump_fault core fault) (stops core Misaligned)) (quiet core)) r bits
    go true true None = refl
    go true true (Some a) = refl
    go true false fault = refl
    go false u fault = refl

unfetched-stays : (core : Core) (r : ℕ) → register (unfetched core).core r ≡ register core r
unfolding unfetched register
unfetched-stays core r = go (is_running core.status) (is_aligned core.isa core.pc) (fetch_fault core)
  where
    go : (t u : Bool) (fault : Option ℕ)
        → register (cond t (cond u (jump_fault core fault) (stops core Misaligned)) (quiet core)).core r
        ≡ register core r
    go true true None = refl
    go true true (Some a) = refl
    go true false fault = refl
    go false u fault = refl

halt-kept : (s : State) (setup : Setup) (r : ℕ) (bits : Bits)
    → by (swapped s r bits) setup Halts ≡ swapped (by s setup Halts) r bits
unfolding by swapped
halt-kept s setup r bits =
    ap (λ e. record {
      bytes = s.bytes;
      core = stepped s.core e.core;
      position = s.position + 0;
      end_seen = s.end_seen;
      output = s.output ++ e.output;
      heap_calls = s.heap_calls;
      events = s.events ++ e.raised;
    }) (unfetched-other s.core r bits)

-- one that fetches half a word

cut-other : (core : Core) (r : ℕ) (bits : Bits) → cut (put core r bits) ≡ over (cut core) r bits
unfolding event_about
cut-other core r bits = go (word_fault core)
  where
    changed : Core
    changed = put core r bits

    raised : List Event → List Event
    raised es = fetch_errors core 2 ++ es

    go : (fault : Option ℕ)
        → (let e = jump_fault changed fault in
        record { core = e.core; raised = raised e.raised; made = e.made; output = e.output })
        ≡ (let e = jump_fault core fault in
        over (record { core = e.core; raised = raised e.raised; made = e.made; output = e.output }) r bits)
    go None = refl
    go (Some a) = refl

fault-stays : (core : Core) (r : ℕ) (fault : Option ℕ) → register (jump_fault core fault).core r ≡ register core r
unfolding register
fault-stays core r None = refl
fault-stays core r (Some a) = refl

cut-kept : (s : State) (setup : Setup) (r : ℕ) (bits : Bits)
    → by (swapped s r bits) setup Cut ≡ swapped (by s setup Cut) r bits
unfolding by swapped
cut-kept s setup r bits =
    ap (λ e. record {
      bytes = s.bytes;
      core = stepped s.core e.core;
      position = s.position + 0;
      end_seen = s.end_seen;
      output = s.output ++ e.output;
      heap_calls = s.heap_calls;
      events = s.events ++ e.raised;
    }) (cut-other s.core r bits)

-- ---- each action

by-kept : (s : State) (setup : Setup) (r : ℕ) (bits : Bits) (action : Action) → passing_action s.core action r ≡ Keeps
    → by (swapped s r bits) setup action ≡ swapped (by s setup action) r bits
unfolding by by-row passing_action
by-kept s setup r bits (Takes code) h =
    let len = len_of code in
    let row = row_of_code code in
    let k = kept s.core row r h in
    plain (swapped s r bits) setup len row r k.unread ∙ row-kept s setup len row r bits None false k
    ∙ ap (λ t. swapped t r bits) (sym (plain s setup len row r k.unread))
by-kept s setup r bits Cut h = cut-kept s setup r bits
by-kept s setup r bits (CallsByName function) h = cc
by-kept s setup r bits Halts h = halt-kept s setup r bits

by-stays : (s : State) (setup : Setup) (r : ℕ) (action : Action) → passing_action s.core action r ≡ Keeps
    → register (by s setup action).core r ≡ register s.core r
unfolding by passing_action register
by-stays s setup r (Takes code) h =
    rounded-stays s.core (len_of code) (next_of s.core (len_of code)) (row_of_code code) r (register s.core r) _ _ _
    (kept s.core (row_of_code code) r h)
by-stays s setup r Cut h = fault-stays s.core r (word_fault s.core)
by-stays s setup r (CallsByName function) h = cc
by-stays s setup r Halts h = unfetched-stays s.core r

by-replaced : (s : State) (setup : Setup) (r : ℕ) (bits : Bits) (action : Action) → 1 ≤ r
    → passing_action s.core action r ≡ Overwrites → by (swapped s r bits) setup action ≡ by s setup action
unfolding by by-row passing_action
by-replaced s setup r bits (Takes code) one h =
    let len = len_of code in
    let row = row_of_code code in
    let k = replaced s.core row r h in
    plain (swapped s r bits) setup len row r k.unread ∙ row-replaced s setup len row r bits None false one k
    ∙ sym (plain s setup len row r k.unread)
by-replaced s setup r bits Cut one h = cc
by-replaced s setup r bits (CallsByName function) one h = cc
by-replaced s setup r bits Halts one h = cc

-- ---- a machine that runs after a step ran before it

action-halts : (core : Core) (bytes : ℕ → ℕ) (hooks : List (ℕ × Hook)) → is_running core.status ≡ false
    → action_at core bytes hooks ≡ Halts
unfolding called_here fetched fetches
action-halts core bytes hooks h =
    ap (λ b. action_by (cond (b && is_aligned core.isa core.pc) (hook_at hooks core.pc) None)
    (fetch_by (b && (is_aligned core.isa core.pc && is_none (fetch_fault core)))
    (is_half core.isa (half_at core bytes)) (is_none (word_fault core)) (half_at core bytes) (word_at core bytes))) h

halted-core : (core : Core) → is_running core.status ≡ false → (unfetched core).core ≡ core
unfolding unfetched
halted-core core h =
    ap (λ b. (cond b (cond (is_aligned core.isa core.pc) (jump_fault core (fetch_fault core)) (stops core Misaligned))
    (quiet core)).core) h

pub runs-before : (s : State) (setup : Setup) → is_running (exec s setup).core.status ≡ true
    → is_running s.core.status ≡ true
unfolding exec intake_at uses_at effect_at outcome_at by
runs-before s setup then = go (is_running s.core.status) refl
  where
    go : (b : Bool) → is_running s.core.status ≡ b → b ≡ true
    go true e = refl
    go false e =
        sym (ap (λ action. is_running (by s setup action).core.status) (action-halts s.core s.bytes setup.hooks e)
        ∙ ap (λ (core : Core). is_running core.status) (halted-core s.core e) ∙ e) ∙ then

-- ---- the step of a state

with-is : (s : State) (r : ℕ) (bits : Bits) → 1 ≤ r → with_register s r bits ≡ swapped s r bits
unfolding with_register swapped
with-is s r bits one = ap (λ core. record s { core = core }) (set-is s.core r bits one)

pub keeps-registers : KeepsRegisters
unfolding exec intake_at uses_at effect_at outcome_at called_here fetched fetches passing by swapped
keeps-registers s setup r bits one h =
    let action = action_at s.core s.bytes setup.hooks in (
      ap (λ t. exec t setup) (with-is s r bits one) ∙ by-kept s setup r bits action h
          ∙ sym (with-is (exec s setup) r bits one),
      by-stays s setup r action h,
    )

pub overwrites-registers : OverwritesRegisters
unfolding exec intake_at uses_at effect_at outcome_at called_here fetched fetches passing by swapped
overwrites-registers s setup r bits one h =
    ap (λ t. exec t setup) (with-is s r bits one)
    ∙ by-replaced s setup r bits (action_at s.core s.bytes setup.hooks) one h

-- ---- a step that fetches no code

-- keeps each register, unless it calls a function
pub no_code : (core : Core) (bytes : ℕ → ℕ) (r : ℕ) → code_in (fetched core bytes) ≡ None
    → passing_action core (fetched core bytes) r ≡ Keeps
unfolding fetched passing_action
no_code core bytes r h = go (fetches core) (is_half core.isa (half_at core bytes)) (is_none (word_fault core)) _ _ h
  where
    go : (may short whole : Bool) (half word : ℕ) → code_in (fetch_by may short whole half word) ≡ None
        → passing_action core (fetch_by may short whole half word) r ≡ Keeps
    go false short whole half word h = refl
    go true true whole half word h = cc
    go true false true half word h = cc
    go true false false half word h = refl
