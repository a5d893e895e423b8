-- A run that is looked at: its states whatever step is chosen, what rests, and what more input leaves as it is.
use Rattle.std.proofs.Common.{◌≡◌, ◌⊎◌, inl, inr, ℕ, zero, suc, ◌+◌, ◌-◌, ◌%◌, ◌<◌, ◌≤◌, Bool, true, false, List, []}
use Rattle.std.proofs.Common.{◌++◌, Option, Some, None, nat_eq, nat_lt, refl, ap, sym, subst, ◌∙◌, arith, add-zero}
use Rattle.std.proofs.lemmas.Bool.{true≢false}
use Rattle.std.proofs.lemmas.Bool.Decides.{nat_tests}
use Rattle.exit_status.specs.declared.ended.Ended.{Ended}
use Rattle.test_runs.proofs.RunParts.{joined, one-more}
use Rattle.test_runs.proofs.Steps.{front-then, wrote-none, wrote-then}
use Rattle.test_runs.specs.Executions.{state_at, step_of, Held, IsAt, LeavesEnd, StopsAt, Wrote, WroteFront}
use Rattle.test_runs.specs.declared.execution.Execution.{Execution}
use Rattle.guest_elf.specs.declared.image.Image.{Image}
use Rattle.guest_machine.specs.Laws.{EndStays}
use Rattle.guest_machine.specs.Registers.{register}
use Rattle.guest_machine.specs.State.{State}
use Rattle.guest_machine.specs.Streams.{HasMore, KeepsFront, Rests, StaysAtRest, rested}
use Rattle.scenario.specs.Edits.{with_input}
use Rattle.scenario.specs.Scenario.{Scenario, at_step, first_state}
use Rattle.test_runs.specs.Overflows.{Finds, IsKept, IsLeg, IsRun, IsWatched, KeepsStack, is_look, overflows}

-- ---- numbers

either : (b : Bool) → (b ≡ true) ⊎ (b ≡ false)
either true = inl refl
either false = inr refl

up-to : (k n : ℕ) → (k < suc n) ⊎ (n < k)
up-to k n = elim (either (nat_lt k (suc n))) [
  | inl before ↦ inl (grind (arith, nat_tests))
  | inr after ↦ inr (grind (arith, nat_tests))
]

-- ---- another step is chosen

pub same-state : (sc : Scenario) (n k : ℕ) → state_at (at_step sc n) k ≡ state_at sc k
unfolding first_state
same-state sc n k = refl

pub at-chosen : (sc : Scenario) (n : ℕ) (e : Execution) → IsAt e sc → IsAt e (at_step sc n)
unfolding first_state
at-chosen sc n e at = record {
  shows = at.shows;
  refused = at.refused;
  line = at.line;
  unknown = at.unknown;
  limits = at.limits;
}

at-before : (sc : Scenario) (n : ℕ) (e : Execution) → IsAt e (at_step sc n) → IsAt e sc
unfolding first_state
at-before sc n e at = record {
  shows = at.shows;
  refused = at.refused;
  line = at.line;
  unknown = at.unknown;
  limits = at.limits;
}

wrote-before : (sc : Scenario) (n from to : ℕ) (old new : Held) → Wrote (at_step sc n) from to old new
    → Wrote sc from to old new
unfolding first_state
wrote-before sc n from to old new wrote = (wrote.0, wrote.1, wrote.2, wrote.3, wrote.4)

unseen-before : (sc : Scenario) (n : ℕ) (waits : Bool) (from to : ℕ) → LeavesEnd (at_step sc n) waits from to
    → LeavesEnd sc waits from to
unfolding first_state
unseen-before sc n waits from to unseen = unseen

pub front-before : (sc : Scenario) (n from : ℕ) (old new : Held) → n ≤ sc.step
    → WroteFront (at_step sc n) from old new → WroteFront sc from old new
unfolding first_state
front-before sc n from old new less (to, out, err, sent, before, says, also, gives) =
    (to, out, err, sent, omega (arith, before, less), says, also, gives)

-- ---- a leg

-- a look before a step is one before the next
pub kept-up : (sc : Scenario) (n : ℕ) → KeepsStack sc n → IsKept sc n → KeepsStack sc (suc n)
kept-up sc n before here k less = elim (either (nat_lt k n)) [
  | inl earlier ↦ before k (grind (arith, nat_tests))
  | inr late ↦
      let is : n ≡ k = grind (arith, nat_tests) in subst (IsKept sc) is here
]

-- it comes to the next look, or waits before it
pub leg-ends : (sc : Scenario) (next : ℕ) (waits : Bool) (from : ℕ) (old new : Held) (e : Execution)
    (goes_on : Bool) → from < next → next ≤ sc.step → KeepsStack sc next → IsAt e (at_step sc next)
    → StopsAt (at_step sc next) waits (step_of e) → LeavesEnd (at_step sc next) waits from (step_of e)
    → Wrote (at_step sc next) from (step_of e) old new → (goes_on ≡ true → step_of e ≡ next)
    → (goes_on ≡ false → step_of e ≡ next → ⊥) → IsLeg sc waits from old new e goes_on
unfolding first_state
leg-ends sc next waits from old new e true after within kept at stops unseen wrote is apart =
    let last = is refl in (
      record {
        at = at-before sc next e at;
        unseen = unseen-before sc next waits from (step_of e) unseen;
        wrote = wrote-before sc next from (step_of e) old new wrote;
      },
      omega (arith, after, last),
      omega (arith, within, last),
      subst (KeepsStack sc) (sym last) kept,
    )
leg-ends sc next waits from old new e false after within kept at (inl last) unseen wrote is apart =
    absurd (apart refl last)
leg-ends sc next waits from old new e false after within kept at (inr (may, before, sees)) unseen wrote is apart = (
  record {
    at = at-before sc next e at;
    unseen = unseen-before sc next waits from (step_of e) unseen;
    wrote = wrote-before sc next from (step_of e) old new wrote;
  },
  may,
  (omega (arith, before, within), sees, λ k less. kept k (omega (arith, less, before))),
)

-- ---- the next look

look-is : (k : ℕ) → is_look k ≡ true → k % 65536 ≡ 0
look-is k look = grind (arith, nat_tests)

no-look : (at k next : ℕ) → at < k → k < next → next ≤ at + (65536 - at % 65536) → k % 65536 ≡ 0 → ⊥
no-look at k next after before within look = omega (arith, after, before, within, look)

pub kept-to-look : (sc : Scenario) (at next : ℕ) → KeepsStack sc (suc at) → next ≤ at + (65536 - at % 65536)
    → KeepsStack sc next
kept-to-look sc at next kept within k less = elim (up-to k at) [
  | inl before ↦ kept k before
  | inr after ↦ λ look. absurd (no-look at k next after less within (look-is k look))
]

-- ---- at rest

same-rested : (image : Image) (s : State) (n : ℕ) → overflows image (rested s n) ≡ overflows image s
unfolding overflows rested register
same-rested image s n = refl

-- nothing new is found
pub kept-at-rest : StaysAtRest → (sc : Scenario) (at next : ℕ) → KeepsStack sc (suc at) → is_look at ≡ true
    → Rests (state_at sc at) sc.setup → KeepsStack sc next
kept-at-rest rest sc at next kept look h k less = elim (up-to k at) [
  | inl before ↦ kept k before
  | inr after ↦ λ looked.
      let d = k - at in
      let far : k ≡ at + d = omega (arith, after) in
      let there : state_at sc k ≡ rested (state_at sc at) d =
      ap (state_at sc) far ∙ sym (joined (first_state sc) sc.setup at d) ∙ (rest sc.setup (state_at sc at) h d).0 in
      ap (overflows sc.image) there ∙ same-rested sc.image (state_at sc at) d ∙ kept at (omega arith) look
]

-- ---- more input

unseen-back : EndStays → (sc : Scenario) (n : ℕ) → (state_at sc (suc n)).end_seen ≡ false
    → (state_at sc n).end_seen ≡ false
unseen-back stays sc n unseen = elim (either (state_at sc n).end_seen) [
  | inl seen ↦ absurd (true≢false (sym (stays sc.setup (state_at sc n) seen)
      ∙ sym (ap (λ s. s.end_seen) (one-more (first_state sc) sc.setup n)) ∙ unseen))
  | inr before ↦ before
]

unseen-all : EndStays → (sc : Scenario) (k d : ℕ) → (state_at sc (k + d)).end_seen ≡ false
    → (state_at sc k).end_seen ≡ false
unseen-all stays sc k zero unseen = ap (λ n. (state_at sc n).end_seen) (sym (add-zero k)) ∙ unseen
unseen-all stays sc k (suc d) unseen =
    let next : suc (k + d) ≡ k + suc d = omega arith in
    unseen-all stays sc k d (unseen-back stays sc (k + d) (ap (λ n. (state_at sc n).end_seen) next ∙ unseen))

same-with : KeepsFront → (sc : Scenario) (input : List ℕ) (k : ℕ) → sc.setup.input ≡ []
    → (state_at sc k).end_seen ≡ false → state_at sc k ≡ state_at (with_input sc input) k
unfolding first_state
same-with front sc input k empty unseen =
    let one = sc.setup in
    let more : HasMore one (record one { input = input }) input = record {
      redzone = refl;
      volume = refl;
      hooks = refl;
      input = sym (ap (λ xs. xs ++ input) empty);
    } in
    front one (record one { input = input }) input (first_state sc) k more unseen

-- what was found before a step that hasn't seen the end of an empty input is found with any input
pub kept-with : KeepsFront → EndStays → (sc : Scenario) (input : List ℕ) (n : ℕ) → sc.setup.input ≡ []
    → (state_at sc n).end_seen ≡ false → KeepsStack sc (suc n) → KeepsStack (with_input sc input) n
kept-with front stays sc input n empty unseen kept k less look =
    let far : k + (n - k) ≡ n = omega (arith, less) in
    let before = unseen-all stays sc k (n - k) (ap (λ m. (state_at sc m).end_seen) far ∙ unseen) in
    ap (overflows sc.image) (sym (same-with front sc input k empty before)) ∙ kept k (omega (arith, less)) look

-- ---- legs, one after another

pub same-if : (a b n : ℕ) → a ≡ n → nat_eq a b ≡ true → n ≡ b
same-if a b n is same = grind (arith, nat_tests)

pub apart-if : (a b n : ℕ) → a ≡ n → nat_eq a b ≡ false → n ≡ b → ⊥
apart-if a b n is apart same = grind (arith, nat_tests)

-- a run has come to a step, before which no look finds that the stack overflows
pub record Comes (sc : Scenario) (waits : Bool) (from : ℕ) (old new : Held) (e : Execution) : Type 0 where
  pub run : IsRun sc waits from old new e
  pub within : step_of e ≤ sc.step
  pub kept : KeepsStack sc (step_of e)

pub comes-first : (sc : Scenario) (waits : Bool) (e : Execution) (held : Held) → IsAt e sc
    → step_of e ≤ sc.step → KeepsStack sc (step_of e) → Comes sc waits (step_of e) held held e
comes-first sc waits e held at within kept = record {
  run =
      record {
        at = at;
        unseen = λ may unseen. unseen;
        wrote = wrote-none sc (step_of e) (step_of e) held (λ d. refl);
      };
  within = within;
  kept = kept;
}

run-then : (sc : Scenario) (waits : Bool) (from : ℕ) (a b c : Held) (mid e : Execution)
    → IsRun sc waits from a b mid → IsRun sc waits (step_of mid) b c e → IsRun sc waits from a c e
run-then sc waits from a b c mid e one two = record {
  at = two.at;
  unseen = λ may unseen. two.unseen may (one.unseen may unseen);
  wrote = wrote-then sc from (step_of mid) (step_of e) a b c one.wrote two.wrote;
}

leg-on : (sc : Scenario) (waits : Bool) (from : ℕ) (a b c : Held) (mid e : Execution)
    → Comes sc waits from a b mid → IsLeg sc waits (step_of mid) b c e true → Comes sc waits from a c e
leg-on sc waits from a b c mid e come (run, after, within, kept) = record {
  run = run-then sc waits from a b c mid e come.run run;
  within = within;
  kept = kept;
}

pub leg-then : (sc : Scenario) (waits : Bool) (from : ℕ) (a b c : Held) (mid e : Execution) (goes_on : Bool)
    → Comes sc waits from a b mid → IsLeg sc waits (step_of mid) b c e goes_on → goes_on ≡ true
    → Comes sc waits from a c e
leg-then sc waits from a b c mid e goes_on come leg on =
    leg-on sc waits from a b c mid e come (subst (IsLeg sc waits (step_of mid) b c e) on leg)

-- what is left to the last step is less
pub leg-less : (sc : Scenario) (waits : Bool) (from : ℕ) (b c : Held) (e : Execution) (goes_on : Bool)
    → IsLeg sc waits from b c e goes_on → goes_on ≡ true → sc.step - step_of e < sc.step - from
leg-less sc waits from b c e goes_on leg on =
    let it = subst (IsLeg sc waits from b c e) on leg in
    let after = it.1 in
    let within = it.2 in
    omega (arith, after, within)

waits-for : (sc : Scenario) (waits : Bool) (limit from : ℕ) (a b c : Held) (mid e : Execution)
    → Comes sc waits from a b mid → IsLeg sc waits (step_of mid) b c e false
    → IsWatched sc waits limit from a c e None
waits-for sc waits limit from a b c mid e come (run, may, asks) =
    (run-then sc waits from a b c mid e come.run run, (may, asks))

pub waits-then : (sc : Scenario) (waits : Bool) (limit from : ℕ) (a b c : Held) (mid e : Execution)
    (goes_on : Bool) → Comes sc waits from a b mid → IsLeg sc waits (step_of mid) b c e goes_on → goes_on ≡ false
    → IsWatched sc waits limit from a c e None
waits-then sc waits limit from a b c mid e goes_on come leg stays =
    waits-for sc waits limit from a b c mid e come (subst (IsLeg sc waits (step_of mid) b c e) stays leg)

pub ended-then : (sc : Scenario) (waits : Bool) (limit from : ℕ) (a b : Held) (e : Execution) (ended : Ended)
    → Comes sc waits from a b e → Finds sc limit (step_of e) ended → IsWatched sc waits limit from a b e (Some ended)
ended-then sc waits limit from a b e ended come finds = (come.run, (come.within, come.kept, finds))

pub front-leg : (sc : Scenario) (waits : Bool) (from : ℕ) (a b c : Held) (mid : Execution)
    → Comes sc waits from a b mid → WroteFront sc (step_of mid) b c → WroteFront sc from a c
front-leg sc waits from a b c mid come wrote = front-then sc from (step_of mid) a b c come.run.wrote wrote
