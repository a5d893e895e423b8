-- A step does the same under setups that differ where it doesn't look.
use Rattle.std.proofs.Common.{◌≡◌, ℕ, zero, suc, ◌+◌, ◌-◌, ◌<◌, ◌≤◌, nat_lt, min, Bool, true, false, List, [], ◌∷◌}
use Rattle.std.proofs.Common.{◌++◌, cond, refl, ap, ap₂, sym, ◌∙◌, take, drop}
use Rattle.std.proofs.Common.{length, length-append, length-drop, Option, Some, None, arith}
use Rattle.std.proofs.lemmas.Bool.Decides.{nat_tests}
use Rattle.std.specs.Prelude.{slice_get}
use Rattle.guest_machine.specs.State.{State}
use Rattle.guest_machine.specs.Exec.{Action, Terms, Intake, exec, plan, outcome, intake_of, intake_at, left_at}
use Rattle.guest_machine.specs.Exec.{seen_also}
use Rattle.guest_machine.specs.Exec.{uses_at, effect_at, outcome_at, stepped, touches, touched_at}
use Rattle.guest_machine.specs.Exec.{has_touched, action_at, action_asks, action_terms, is_heap_action, given_at}
use Rattle.guest_machine.specs.Exec.{taken_from}
use Rattle.guest_machine.specs.Exec.{written_to, counted, fetch_span}
use Rattle.guest_machine.specs.Laws.{SharesRest, KeepsInput, KeepsHeap, KeepsEnd, EndStays, is_heap_step}
use Rattle.guest_machine.specs.Run.{pre}
use Rattle.guest_machine.specs.Streams.{HasMore, KeepsFront}
use Rattle.guest_machine.specs.declared.setup.Setup.{Setup}
use Rattle.guest_machine.proofs.Running.{none-yet, one-more}

-- what a step sees of a setup
seen : State → Setup → Terms
seen s setup = action_terms s.core (action_at s.core s.bytes setup.hooks) s.position (length s.output) setup

-- what it is given of the input
taken-under : State → Setup → Intake
taken-under s setup = intake_at s.core s.bytes s.position setup

-- the law for what is seen, and for the input that is read
same-step : (one other : Setup) (s : State) → one.hooks ≡ other.hooks → seen s one ≡ seen s other
    → given_at s.position (taken-under s one).count one ≡ given_at s.position (taken-under s one).count other
    → (touches s one ≡ touches s other) × (exec s one ≡ exec s other)
unfolding seen taken-under exec intake_at touches touched_at uses_at effect_at outcome_at
same-step one other s k t g =
    let d : Action = action_at s.core s.bytes one.hooks in
    let same : d ≡ action_at s.core s.bytes other.hooks = ap (λ hooks. action_at s.core s.bytes hooks) k in (
      (λ i. has_touched (record {
        fetch = fetch_span s.core (same i);
        reads = (plan s.core (t i) (same i)).reads;
        writes = (plan s.core (t i) (same i)).writes;
      })),
      (ap (λ xs. step-of d (seen s one) xs) g
          ∙ (λ i. step-of (same i) (t i) (given_at s.position (t i).intake.count other))),
    )
  where
    -- the step for what is done, what is seen and what is read
    step-of : Action → Terms → List ℕ → State
    step-of d x given =
        let uses = plan s.core x d in
        let effect = outcome s.core x d given (taken_from s.bytes uses.reads) in
        record {
          bytes = written_to s.bytes uses.writes effect.made;
          core = stepped s.core effect.core;
          position = s.position + x.intake.count;
          end_seen = seen_also s.end_seen x.intake.ends;
          output = s.output ++ effect.output;
          heap_calls = counted s.heap_calls (is_heap_action s.core d);
          events = s.events ++ effect.raised;
        }

-- nothing is no value
none-some : (x : ℕ) → ◌≡◌ {A = Option ℕ} None (Some x) → ⊥
none-some x e = cc

-- lists that are equal below a place have equal parts there
same-part : (xs ys : List ℕ) (p n : ℕ) → ((i : ℕ) → i < p + n → slice_get xs i ≡ slice_get ys i)
    → take n (drop p xs) ≡ take n (drop p ys)
same-part [] [] p n h = refl
same-part [] (y ∷ ys) zero zero h = refl
same-part [] (y ∷ ys) zero (suc n) h = absurd (none-some y (h zero (omega arith)))
same-part [] (y ∷ ys) (suc p) n h = absurd (none-some y (h zero (omega arith)))
same-part (x ∷ xs) [] zero zero h = refl
same-part (x ∷ xs) [] zero (suc n) h = absurd (none-some x (sym (h zero (omega arith))))
same-part (x ∷ xs) [] (suc p) n h = absurd (none-some x (sym (h zero (omega arith))))
same-part (x ∷ xs) (y ∷ ys) zero zero h = refl
same-part (x ∷ xs) (y ∷ ys) zero (suc n) h =
    let first : Some x ≡ Some y = h zero (omega arith) in
    let head : x ≡ y = cc in
    ap₂ (λ a rest. a ∷ rest) head (same-part xs ys zero n (λ i k. h (suc i) (omega arith)))
same-part (x ∷ xs) (y ∷ ys) (suc p) n h = same-part xs ys p n (λ i k. h (suc i) (omega arith))

-- what is given is the same where it doesn't reach the end of what is left
front-intake : (asks : Option ℕ) (rest less more : ℕ) → rest < less → rest ≤ more → (intake_of asks less).count ≤ rest
    → intake_of asks less ≡ intake_of asks more
front-intake None rest less more l m h = refl
front-intake (Some n) rest less more l m h =
    let same : min n less ≡ min n more = omega arith in
    λ i. record { count = same i; ends = nat_lt (same i) n }

pub keeps-input : KeepsInput
unfolding exec seen taken-under intake_at
keeps-input one other offset s d h =
    let within : s.position + (taken-under s one).count ≤ offset = h in
    let far = d.more in
    let enough = d.enough in
    let asks = action_asks s.core (action_at s.core s.bytes one.hooks) in
    let same : intake_of asks (length one.input - s.position) ≡ intake_of asks (length other.input - s.position) =
    front-intake asks (offset - s.position) (length one.input - s.position) (length other.input - s.position)
    (omega arith) (omega arith) (omega arith) in
    let given : intake_of asks (length one.input - s.position)
    ≡ intake_of (action_asks s.core (action_at s.core s.bytes other.hooks)) (length other.input - s.position) =
    same ∙ ap (λ hooks. intake_of (action_asks s.core (action_at s.core s.bytes hooks))
    (length other.input - s.position))
    d.hooks in
    let t : seen s one ≡ seen s other = λ i.
    let heap = is_heap_step s (d.hooks i) in
    record {
      intake = given i;
      written = length s.output;
      redzone = cond heap (d.redzone i) 0;
      volume = cond heap (d.volume i) 0;
    } in
    same-step one other s d.hooks t (same-part one.input other.input s.position (taken-under s one).count
    (λ i k. d.bytes i (omega arith)))

heap-same : (one other : Setup) (s : State) → one.input ≡ other.input → one.hooks ≡ other.hooks
    → is_heap_step s one.hooks ≡ false → (touches s one ≡ touches s other) × (exec s one ≡ exec s other)
unfolding seen taken-under intake_at
heap-same one other s e k f =
    let closed : (setup : Setup) → is_heap_step s setup.hooks ≡ false
    → seen s setup ≡ record { intake = taken-under s setup; written = length s.output; redzone = 0; volume = 0 } =
    λ setup none. ap (λ b. record {
      intake = taken-under s setup;
      written = length s.output;
      redzone = cond b setup.redzone 0;
      volume = cond b setup.volume 0;
    }) none in
    let between : taken-under s one ≡ taken-under s other = λ i. intake_of
    (action_asks s.core (action_at s.core s.bytes (k i))) (length (e i) - s.position) in
    let t : seen s one ≡ seen s other =
    closed one f ∙ ap (λ intake. record { intake = intake; written = length s.output; redzone = 0; volume = 0 }) between
    ∙ sym (closed other (ap (λ hooks. is_heap_step s hooks) (sym k) ∙ f)) in
    same-step one other s k t (ap (λ xs. take (taken-under s one).count (drop s.position xs)) e)

pub keeps-heap : KeepsHeap
unfolding exec
keeps-heap = record { same = heap-same; counts = λ setup s. refl }

-- ---- input that was read

-- as much is left of the input
same-left : (one other : Setup) (position : ℕ) → SharesRest position one other
    → length one.input - position ≡ length other.input - position
same-left one other position d =
    sym (length-drop position one.input) ∙ ap length d.rest ∙ length-drop position other.input

pub rest-same : (one other : Setup) (s : State) → SharesRest s.position one other
    → (touches s one ≡ touches s other) × (exec s one ≡ exec s other)
unfolding seen taken-under intake_at
rest-same one other s d =
    let intake : taken-under s one ≡ taken-under s other =
    (λ i. intake_of (action_asks s.core (action_at s.core s.bytes (d.hooks i))) (same-left one other s.position d i)) in
    let t : seen s one ≡ seen s other = λ i.
    let heap = is_heap_step s (d.hooks i) in
    record {
      intake = intake i;
      written = length s.output;
      redzone = cond heap (d.redzone i) 0;
      volume = cond heap (d.volume i) 0;
    } in
    same-step one other s d.hooks t (ap (λ xs. take (taken-under s one).count xs) d.rest)

-- ---- the end of the input

-- a part of a list that a longer one has too
front-part : (xs more : List ℕ) (p n : ℕ) → n ≤ length xs - p → take n (drop p xs) ≡ take n (drop p (xs ++ more))
front-part xs more p zero h = refl
front-part [] more p (suc n) h = absurd (omega arith)
front-part (x ∷ xs) more zero (suc n) h = ap (λ rest. x ∷ rest) (front-part xs more zero n (omega arith))
front-part (x ∷ xs) more (suc p) (suc n) h = front-part xs more p (suc n) (omega arith)

-- what is given where no more is asked for than is left, and where one byte more is left
pub record Alike (asks : Option ℕ) (less more : ℕ) : Type 0 where
  pub same : intake_of asks less ≡ intake_of asks more
  pub within : (intake_of asks less).count ≤ less

alike-some : (n less more : ℕ) → less ≤ more → n ≤ less → (min n less ≡ min n more) × (min n less ≤ less)
alike-some n less more l e = (omega arith, omega arith)

few-asked : (n less : ℕ) → nat_lt (min n less) n ≡ false → n ≤ less
few-asked n less e = let given : n ≤ min n less = grind (arith, nat_tests) in omega arith

unended : (asks : Option ℕ) (less more : ℕ) → less ≤ more → (intake_of asks less).ends ≡ false → Alike asks less more
unended None less more l e = record { same = refl; within = omega arith }
unended (Some n) less more l e =
    let a = alike-some n less more l (few-asked n less e) in
    record { same = λ i. record { count = a.0 i; ends = nat_lt (a.0 i) n }; within = a.1 }

seen-false : (seen ends : Bool) → seen_also seen ends ≡ false → ends ≡ false
seen-false seen true h = h
seen-false seen false h = refl

seen-true : (seen ends : Bool) → seen ≡ true → seen_also seen ends ≡ true
seen-true seen true h = refl
seen-true seen false h = h

module _ (one other : Setup) (more : List ℕ) (s : State) (x : HasMore one other more) where
  longer : length other.input ≡ length one.input + length more
  longer = ap length x.input ∙ length-append one.input more

  -- the step does the same where it doesn't see the end of the shorter input
  end-same : (taken-under s one).ends ≡ false → (touches s one ≡ touches s other) × (exec s one ≡ exec s other)
  unfolding seen taken-under intake_at longer
  end-same e =
      let asks : action_asks s.core (action_at s.core s.bytes one.hooks)
      ≡ action_asks s.core (action_at s.core s.bytes other.hooks) = ap
      (λ hooks. action_asks s.core (action_at s.core s.bytes hooks)) x.hooks in
      let l = longer in
      let more-left : left_at s.position one ≤ left_at s.position other = omega arith in
      let a = unended (action_asks s.core (action_at s.core s.bytes one.hooks)) (left_at s.position one)
      (left_at s.position other) more-left e in
      let same : taken-under s one ≡ taken-under s other = a.same
      ∙ ap (λ o. intake_of o (left_at s.position other)) asks in
      let t : seen s one ≡ seen s other =
      λ i. let heap = is_heap_step s (x.hooks i) in
      record {
        intake = same i;
        written = length s.output;
        redzone = cond heap (x.redzone i) 0;
        volume = cond heap (x.volume i) 0;
      } in
      let n = (taken-under s one).count in
      same-step one other s x.hooks t (front-part one.input more s.position n a.within
      ∙ ap (λ xs. take n (drop s.position xs)) (sym x.input))

-- a step that leaves the end unseen
unseen-step : (one other : Setup) (more : List ℕ) (s : State) → HasMore one other more
    → (exec s one).end_seen ≡ false → (touches s one ≡ touches s other) × (exec s one ≡ exec s other)
unfolding exec taken-under
unseen-step one other more s x h =
    end-same one other more s x (seen-false s.end_seen (taken-under s one).ends h)

pub keeps-end : KeepsEnd
keeps-end one other s x h =
    unseen-step one other x.input.0 s (record {
      redzone = x.redzone;
      volume = x.volume;
      hooks = x.hooks;
      input = x.input.1;
    }) h

pub end-stays : EndStays
unfolding exec
end-stays setup s h = seen-true s.end_seen (intake_at s.core s.bytes s.position setup).ends h

-- it was unseen before the step
unseen-before : (s : State) (setup : Setup) → (exec s setup).end_seen ≡ false → s.end_seen ≡ false
unfolding exec
unseen-before s setup h = was-false s.end_seen (intake_at s.core s.bytes s.position setup).ends h
  where
    was-false : (seen ends : Bool) → seen_also seen ends ≡ false → seen ≡ false
    was-false seen true h = cc
    was-false seen false h = h

pub keeps-front : KeepsFront
keeps-front one other more start zero x h = none-yet start one ∙ sym (none-yet start other)
keeps-front one other more start (suc n) x h =
    let last = one-more start one n in
    let unseen : (exec (pre start one [] n) one).end_seen ≡ false = sym (ap (λ t. t.end_seen) last) ∙ h in
    let before = keeps-front one other more start n x (unseen-before (pre start one [] n) one unseen) in
    last ∙ (unseen-step one other more (pre start one [] n) x unseen).1 ∙ ap (λ t. exec t other) before
    ∙ sym (one-more start other n)
