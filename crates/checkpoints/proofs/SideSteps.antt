-- The sides of a run, one step after another.
use Rattle.std.proofs.Common.{◌≡◌, ◌⊎◌, ℕ, ◌+◌, ◌≤◌, ◌<◌, ◌==◌, ◌&&◌, ◌||◌, Bool, true, false, List, Option, Some, None}
use Rattle.std.proofs.Common.{refl, ap, ap₂, sym, ◌∙◌, subst, arith, inl, inr, if◌then◌else◌}
use Rattle.std.specs.Prelude.{Decides}
use Rattle.std.proofs.lemmas.Bool.{cases_lt, true≢false}
use Rattle.std.proofs.lemmas.Bool.Decides.{Decides-and, Decides-eqb, Decides-or}
use Rattle.std.proofs.lemmas.Option.{none-some}
use Rattle.guest_elf.specs.Profiles.{unit}
use Rattle.guest_elf.specs.declared.profile.Isa.{Isa}
use Rattle.guest_machine.specs.State.{State}
use Rattle.guest_machine.specs.Exec.{action_at, exec, is_running, fetch_span, touched_at}
use Rattle.guest_machine.specs.Laws.{StaysHalted}
use Rattle.guest_machine.specs.Run.{after_marks, pre, post}
use Rattle.guest_machine.specs.declared.setup.Setup.{Setup}
use Rattle.guest_machine.proofs.Halted.{halts}
use Rattle.run_values.specs.declared.alteration.Alteration.{Alteration}
use Rattle.checkpoints.specs.Entering.{IsApart, is_side, same_way}
use Rattle.checkpoints.specs.Effects.{DifferBy, EffectShows, IsOfSetup, LeadsTo, Run, written_by}
use Rattle.checkpoints.specs.FirstEffects.{IsBelowFirst}
use Rattle.checkpoints.specs.Sides.{Side, Covers, CoversTwice, RowTells, has_again, has_side, side_by, side_of}
use Rattle.checkpoints.specs.Sides.{sided}
use Rattle.checkpoints.specs.declared.effect.Effect.{Effect}
use Rattle.checkpoints.specs.declared.effect.Effect.TheVariants.{Nowhere, After, Input, End, Heap, Patch, Anew}
use Rattle.checkpoints.specs.declared.sides.Sides.{Sides}
use Rattle.checkpoints.proofs.EffectSteps.{Laws, goes-alike}
use Rattle.checkpoints.proofs.Halted.{halted-after}
use Rattle.checkpoints.proofs.RunSteps.{SameStep, same-pre}

-- ---- whether a side is the one that is asked for

both : (a b : Bool) → (a && b) ≡ true → (a ≡ true) × (b ≡ true)
both true true h = (refl, refl)
both true false h = absurd (true≢false (sym h))
both false b h = absurd (true≢false (sym h))

one-way : (side on : Bool) → same_way side on ≡ true → side ≡ on
one-way true true h = refl
one-way true false h = absurd (true≢false (sym h))
one-way false true h = absurd (true≢false (sym h))
one-way false false h = refl

that-way : (on : Bool) → same_way on on ≡ true
that-way true = refl
that-way false = refl

is-so : (step : Option Side) (addr : ℕ) (on : Bool) → is_side step addr on ≡ true → step ≡ Some (sided addr on)
is-so None addr on h = absurd (true≢false (sym h))
is-so (Some side) addr on h =
    let parts = both (side.addr == addr) (same_way side.on on) h in
    ap₂ (λ a b. Some (sided a b)) ((Decides-eqb side.addr addr).0 parts.0) (one-way side.on on parts.1)

told-so : (addr : ℕ) (on : Bool) → is_side (Some (sided addr on)) addr on ≡ true
told-so addr on = ap₂ (λ a b. a && b) ((Decides-eqb addr addr).1 refl) (that-way on)

is-side : (step : Option Side) (addr : ℕ) (on : Bool) → Decides (is_side step addr on) (step ≡ Some (sided addr on))
is-side step addr on =
    (is-so step addr on, λ is. ap (λ it. is_side it addr on) is ∙ told-so addr on)

-- ---- another step

module _ (start : State) (setup : Setup) (marks : List Alteration) where
  pub covers-less : (k n : ℕ) (side : Side) → k ≤ n → Covers start setup marks k side → Covers start setup marks n side
  covers-less k n side l covers = let less = covers.1 in (covers.0, omega arith, covers.2)

  last-step : (k : ℕ) (side : Side) → Covers start setup marks (k + 1) side
      → Covers start setup marks k side ⊎ (side_of (post start setup marks k) setup ≡ Some side)
  last-step k side covers = let less = covers.1 in elim (cases_lt covers.0 k) [
    | inl before ↦ inl (covers.0, before, covers.2)
    | inr after ↦ (
        let here : covers.0 ≡ k = omega arith in
        inr (subst (λ j. side_of (post start setup marks j) setup ≡ Some side) here covers.2)
        )
  ]

  first-steps : (k : ℕ) (side : Side)
      → Covers start setup marks k side ⊎ (side_of (post start setup marks k) setup ≡ Some side)
      → Covers start setup marks (k + 1) side
  first-steps k side (inl covers) = covers-less k (k + 1) side (omega arith) covers
  first-steps k side (inr here) = (k, omega arith, here)

  -- a row that says what it said, and whether the step has the side
  pub covers-more : (k addr : ℕ) (on old new : Bool) → Decides old (Covers start setup marks k (sided addr on))
      → new ≡ (old || is_side (side_of (post start setup marks k) setup) addr on)
      → Decides new (Covers start setup marks (k + 1) (sided addr on))
  covers-more k addr on old new told is =
      let step = side_of (post start setup marks k) setup in
      let either = Decides-or old (is_side step addr on) told (is-side step addr on) in (
        λ yes. first-steps k (sided addr on) (either.0 (sym is ∙ yes)),
        λ covers. is ∙ either.1 (last-step k (sided addr on) covers),
      )
      -- a step after another one with the same side

  last-again : (k : ℕ) (side : Side) → CoversTwice start setup marks (k + 1) side
      → CoversTwice start setup marks k side
      ⊎ (Covers start setup marks k side × (side_of (post start setup marks k) setup ≡ Some side))
  last-again k side twice = let less = twice.1 in elim (cases_lt twice.0 k) [
    | inl before ↦ inl (twice.0, before, twice.2, twice.3)
    | inr after ↦ (
        let here : twice.0 ≡ k = omega arith in
        inr (
          subst (λ j. Covers start setup marks j side) here twice.2,
          subst (λ j. side_of (post start setup marks j) setup ≡ Some side) here twice.3,
        )
        )
  ]

  first-again : (k : ℕ) (side : Side)
      → CoversTwice start setup marks k side
      ⊎ (Covers start setup marks k side × (side_of (post start setup marks k) setup ≡ Some side))
      → CoversTwice start setup marks (k + 1) side
  first-again k side (inl twice) = let less = twice.1 in (twice.0, omega arith, twice.2, twice.3)
  first-again k side (inr here) = (k, omega arith, here.0, here.1)

  -- whether two have it, by whether one had it before
  pub again-more : (k addr : ℕ) (on once old new : Bool) → Decides once (Covers start setup marks k (sided addr on))
      → Decides old (CoversTwice start setup marks k (sided addr on))
      → new ≡ (old || (once && is_side (side_of (post start setup marks k) setup) addr on))
      → Decides new (CoversTwice start setup marks (k + 1) (sided addr on))
  again-more k addr on once old new told again is =
      let step = side_of (post start setup marks k) setup in
      let both = Decides-and once (is_side step addr on) told (is-side step addr on) in
      let either = Decides-or old (once && is_side step addr on) again both in (
        λ yes. first-again k (sided addr on) (either.0 (sym is ∙ yes)),
        λ twice. is ∙ either.1 (last-again k (sided addr on) twice),
      )

  -- no step is before the first
  pub none-covered : (side : Side) → Decides false (Covers start setup marks 0 side)
  none-covered side = (λ yes. absurd (true≢false (sym yes)), λ covers. let less = covers.1 in absurd (omega arith))

  pub none-again : (side : Side) → Decides false (CoversTwice start setup marks 0 side)
  none-again side = (λ yes. absurd (true≢false (sym yes)), λ twice. let less = twice.1 in absurd (omega arith))

  -- a row after another step
  pub tells-more : (k addr : ℕ) (on : Bool) (old new : Sides) → RowTells start setup marks k (sided addr on) old
      → has_side new on ≡ (has_side old on || is_side (side_of (post start setup marks k) setup) addr on)
      → has_again new on
      ≡ (has_again old on || (has_side old on && is_side (side_of (post start setup marks k) setup) addr on))
      → RowTells start setup marks (k + 1) (sided addr on) new
  tells-more k addr on old new told once again = record {
    once = covers-more k addr on (has_side old on) (has_side new on) told.once once;
    again = again-more k addr on (has_side old on) (has_again old on) (has_again new on) told.once told.again again;
  }

  -- a row of which no step is told
  pub tells-none : (addr : ℕ) (on : Bool) (row : Sides) → has_side row on ≡ false → has_again row on ≡ false
      → RowTells start setup marks 0 (sided addr on) row
  tells-none addr on row once again = record {
    once = subst (λ (b : Bool). Decides b (Covers start setup marks 0 (sided addr on))) (sym once)
        (none-covered (sided addr on));
    again = subst (λ (b : Bool). Decides b (CoversTwice start setup marks 0 (sided addr on))) (sym again)
        (none-again (sided addr on));
  }

  -- ---- steps of a machine that is halted

  no-side : (s : State) → is_running s.core.status ≡ false → side_of s setup ≡ None
  unfolding touched_at
  no-side s h =
      ap (λ action. side_by (fetch_span s.core action) (exec s setup).core.pc) (halts s.core s.bytes setup.hooks h)

  pub covers-halted : StaysHalted → (k n : ℕ) (addr : ℕ) (on told : Bool) → k ≤ n
      → is_running (pre start setup marks k).core.status ≡ false
      → Decides told (Covers start setup marks k (sided addr on))
      → Decides told (Covers start setup marks n (sided addr on))
  covers-halted law k n addr on told l halted d =
      let side = sided addr on in (
        λ yes. covers-less k n side l (d.0 yes),
        λ covers. elim (cases_lt covers.0 k) [
          | inl before ↦ d.1 (covers.0, before, covers.2)
          | inr after ↦ absurd (none-some side (sym (no-side (post start setup marks covers.0)
              (halted-after law start setup marks k halted covers.0 after)) ∙ covers.2))
        ],
      )

  halted-none : StaysHalted → (k j : ℕ) (side : Side) → k ≤ j
      → is_running (pre start setup marks k).core.status ≡ false
      → side_of (post start setup marks j) setup ≡ Some side → ⊥
  halted-none law k j side l halted has =
      none-some side (sym (no-side (post start setup marks j) (halted-after law start setup marks k halted j l)) ∙ has)

  pub tells-halted : StaysHalted → (k n addr : ℕ) (on : Bool) (row : Sides) → k ≤ n
      → is_running (pre start setup marks k).core.status ≡ false
      → RowTells start setup marks k (sided addr on) row
      → RowTells start setup marks n (sided addr on) row
  tells-halted law k n addr on row l halted told = record {
    once = covers-halted law k n addr on (has_side row on) l halted told.once;
    again = (
      λ yes. let twice = told.again.0 yes in let less = twice.1 in (twice.0, omega arith, twice.2, twice.3),
      λ twice. elim (cases_lt twice.0 k) [
        | inl before ↦ told.again.1 (twice.0, before, twice.2, twice.3)
        | inr after ↦ absurd (halted-none law k twice.0 (sided addr on) after halted twice.3)
      ],
    );
  }

-- ---- runs that do the same

-- a step from one state under setups with the same functions of the heap
same-side : (s t : State) (one other : Setup) → s ≡ t → one.hooks ≡ other.hooks → exec s one ≡ exec t other
    → side_of s one ≡ side_of t other
unfolding touched_at
same-side s t one other states hooks after =
    ap₂ side_by (ap₂ (λ (u : State) h. fetch_span u.core (action_at u.core u.bytes h)) states hooks)
    (ap (λ (u : State). u.core.pc) after)

-- an edit of the setup leaves the marks and the functions of the heap
same-rest : (effect : Effect) (isa : Isa) (setup other : Setup) (marks edited : List Alteration) → IsOfSetup effect
    → DifferBy isa effect setup marks other edited
    → (marks ≡ edited) × (setup.hooks ≡ other.hooks)
same-rest Nowhere isa setup other marks edited of d = (d.1, ap (λ (s : Setup). s.hooks) d.0)
same-rest (Input offset) isa setup other marks edited of d = (d.1, d.0.hooks)
same-rest End isa setup other marks edited of d = (d.1, d.0.hooks)
same-rest Heap isa setup other marks edited of d = (d.1, d.0.hooks)
same-rest (After s) isa setup other marks edited of d = absurd of
same-rest (Patch addr code) isa setup other marks edited of d = absurd of
same-rest (Anew addr code) isa setup other marks edited of d = absurd of

pub same-start : (effect : Effect) (s : State) → IsOfSetup effect → written_by effect s ≡ s
same-start Nowhere s of = refl
same-start (Input offset) s of = refl
same-start End s of = refl
same-start Heap s of = refl
same-start (After step) s of = absurd of
same-start (Patch addr code) s of = absurd of
same-start (Anew addr code) s of = absurd of

module _ (laws : Laws) (effect : Effect) (of : IsOfSetup effect) (one other : Run) (n : ℕ)
    (led : LeadsTo effect one other)
    (hidden : IsBelowFirst (EffectShows effect one.start one.setup one.marks) n) where
  each-same : (k : ℕ) → k < n → SameStep one.start one.setup one.marks other.setup other.marks k
  each-same = goes-alike laws effect one.start one.setup other.setup one.marks other.marks n led.differ hidden

  sides-at-start : (k : ℕ) → k < n
      → side_of (post one.start one.setup one.marks k) one.setup
      ≡ side_of (post one.start other.setup other.marks k) other.setup
  unfolding post
  sides-at-start k l =
      let rest = same-rest effect one.start.core.isa one.setup other.setup one.marks other.marks of led.differ in
      let states = same-pre one.start one.setup one.marks other.setup other.marks n each-same k (omega arith) in
      let step = each-same k l in
      same-side (after_marks k one.marks (pre one.start one.setup one.marks k))
      (after_marks k other.marks (pre one.start other.setup other.marks k)) one.setup other.setup
      (ap₂ (λ ms s. after_marks k ms s) rest.0 states) rest.1
      (step.exec ∙ ap (λ s. exec (after_marks k other.marks s) other.setup) states)

  same-sides : (k : ℕ) → k < n
      → side_of (post one.start one.setup one.marks k) one.setup
      ≡ side_of (post other.start other.setup other.marks k) other.setup
  same-sides k l =
      subst (λ (s : State). side_of (post one.start one.setup one.marks k) one.setup
      ≡ side_of (post s other.setup other.marks k) other.setup)
      (sym (led.start ∙ same-start effect one.start of)) (sides-at-start k l)

  pub covers-there : (k : ℕ) (side : Side) → k ≤ n → Covers one.start one.setup one.marks k side
      → Covers other.start other.setup other.marks k side
  covers-there k side l covers =
      let less = covers.1 in (covers.0, less, sym (same-sides covers.0 (omega arith)) ∙ covers.2)

  pub covers-here : (k : ℕ) (side : Side) → k ≤ n → Covers other.start other.setup other.marks k side
      → Covers one.start one.setup one.marks k side
  covers-here k side l covers =
      let less = covers.1 in (covers.0, less, same-sides covers.0 (omega arith) ∙ covers.2)

  -- a row says the same of the edited run's steps before the edit shows
  pub tells-there : (side : Side) (row : Sides) → RowTells one.start one.setup one.marks n side row
      → RowTells other.start other.setup other.marks n side row
  tells-there side row told = record {
    once = (
      λ yes. covers-there n side (omega arith) (told.once.0 yes),
      λ covers. told.once.1 (covers-here n side (omega arith) covers),
    );
    again = (
      λ yes. let twice = told.again.0 yes in let less = twice.1 in (
        twice.0,
        less,
        covers-there twice.0 side (omega arith) twice.2,
        sym (same-sides twice.0 less) ∙ twice.3,
      ),
      λ twice. let less = twice.1 in told.again.1 (
        twice.0,
        less,
        covers-here twice.0 side (omega arith) twice.2,
        same-sides twice.0 less ∙ twice.3,
      ),
    );
  }

-- ---- how far places are apart

pub apart : (isa : Isa) → IsApart (unit isa)
unfolding unit
apart isa = go isa.compressed
  where
    go : (compressed : Bool) → IsApart (if compressed then 2 else 4)
    go true = inl refl
    go false = inr refl
