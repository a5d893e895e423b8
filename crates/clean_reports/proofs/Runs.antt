-- Runs agree, by induction over their steps.
use Rattle.std.proofs.Common.{◌≡◌, ℕ, zero, suc, ◌<◌, Bool, true, false, cond, refl, sym, ap, ◌∙◌, subst}
use Rattle.std.proofs.Common.{arith, List, [], ◌∷◌, filter, fold, ◌==◌, ◌+◌, ◌%◌, ◌^◌}
use Rattle.std.proofs.lemmas.Bool.{false≢true}
use Rattle.std.specs.Int.{bit_at}
use Rattle.definedness.specs.Operations.{xor_of}
use Rattle.definedness.specs.declared.Bits.{Bits}
use Rattle.shadow_memory.specs.Shadows.{Shadow, made_so}
use Rattle.shadow_memory.specs.declared.cells.RangeKind.{RangeKind}
use Rattle.shadow_memory.specs.declared.cells.RangeKind.TheVariants.{Defined}
use Rattle.run_values.specs.declared.alteration.Act.{Act}
use Rattle.run_values.specs.declared.alteration.Act.TheVariants.{Make, Set, Flip, Jump, FlipPc, Write, Turn, Skip}
use Rattle.run_values.specs.declared.alteration.Alteration.{Alteration}
use Rattle.guest_elf.specs.Profiles.{has_controls, has_halves}
use Rattle.guest_machine.specs.State.{State}
use Rattle.guest_machine.specs.Effects.{next_of}
use Rattle.guest_machine.specs.Exec.{exec, half_at, steps_on}
use Rattle.guest_machine.specs.Alterations.{altered, altered_bytes, altered_core, len_here}
use Rattle.guest_machine.specs.Run.{marks_at, after_marks, pre, post}
use Rattle.guest_machine.specs.declared.setup.Setup.{Setup}
use Rattle.guest_machine.proofs.AlterSteps.{altered-isa, never-half}
use Rattle.guest_machine.proofs.IsaLaw.{keeps-isa}
use Rattle.checkpoints.proofs.RunSteps.{pre-isa}
use Rattle.clean_reports.specs.Agreement.{ValuesAgree, MemoriesAgree, StatesAgree}
use Rattle.clean_reports.specs.Uses.{NoUse}
use Rattle.clean_reports.specs.Heap.{BlocksAreOpen}
use Rattle.clean_reports.specs.Disturbed.{IsDisturbed}
use Rattle.clean_reports.specs.Marks.{DefineNothing, DefinesNothing, defines}
use Rattle.clean_reports.proofs.Altering.{flip-both, if-running, moved-both, passed-both, same-agrees, set-both}
use Rattle.clean_reports.proofs.Altering.{turn-both}
use Rattle.clean_reports.proofs.Memory.{made-agrees}
use Rattle.clean_reports.proofs.Registers.{left-none}
use Rattle.clean_reports.proofs.Steps.{StepAgrees}

-- agreement is transitive and symmetric --

values-trans : (x y z : Bits) → ValuesAgree x y → ValuesAgree y z → ValuesAgree x z
values-trans x y z p q = record {
  undef = p.undef ∙ q.undef;
  value = λ i h clear. p.value i h clear ∙ q.value i h (ap (λ n. bit_at n i) (sym p.undef) ∙ clear);
  one = p.one;
  other = q.other;
}

memories-trans : (shadows : ℕ → Shadow) (f g h : ℕ → ℕ) → MemoriesAgree shadows f g → MemoriesAgree shadows g h
    → MemoriesAgree shadows f h
memories-trans shadows f g h p q = record {
  each = λ a opened i l clear. p.each a opened i l clear ∙ q.each a opened i l clear;
  bits = p.bits;
  one = p.one;
  other = q.other;
}

pub states-trans : (s t u : State) → StatesAgree s t → StatesAgree t u → StatesAgree s u
states-trans s t u p q = record {
  memory = memories-trans s.core.shadow s.bytes t.bytes u.bytes p.memory
      (subst (λ x. MemoriesAgree x t.bytes u.bytes) (sym p.shadow) q.memory);
  registers = record {
    count = p.registers.count ∙ q.registers.count;
    each = λ r. values-trans _ _ _ (p.registers.each r) (q.registers.each r);
  };
  shadow = p.shadow ∙ q.shadow;
  pc = p.pc ∙ q.pc;
  status = p.status ∙ q.status;
  frames = p.frames ∙ q.frames;
  blocks = p.blocks ∙ q.blocks;
  isa = p.isa ∙ q.isa;
  stack = p.stack ∙ q.stack;
  limits = p.limits ∙ q.limits;
  reserved = p.reserved ∙ q.reserved;
  controls = λ number. values-trans _ _ _ (p.controls number) (q.controls number);
  steps = p.steps ∙ q.steps;
  position = p.position ∙ q.position;
  end_seen = p.end_seen ∙ q.end_seen;
  output = p.output ∙ q.output;
  heap_calls = p.heap_calls ∙ q.heap_calls;
  events = p.events ∙ q.events;
}

-- symmetric
values-sym : (x y : Bits) → ValuesAgree x y → ValuesAgree y x
values-sym x y v = record {
  undef = sym v.undef;
  value = λ i h clear. sym (v.value i h (ap (λ n. bit_at n i) v.undef ∙ clear));
  one = v.other;
  other = v.one;
}

pub states-sym : (s t : State) → StatesAgree s t → StatesAgree t s
states-sym s t d = record {
  memory = subst (λ x. MemoriesAgree x t.bytes s.bytes) d.shadow (record {
    each = λ a can i h clear. sym (d.memory.each a can i h clear);
    bits = d.memory.bits;
    one = d.memory.other;
    other = d.memory.one;
  });
  registers = record { count = sym d.registers.count; each = λ r. values-sym _ _ (d.registers.each r) };
  shadow = sym d.shadow;
  pc = sym d.pc;
  status = sym d.status;
  frames = sym d.frames;
  blocks = sym d.blocks;
  isa = sym d.isa;
  stack = sym d.stack;
  limits = sym d.limits;
  reserved = sym d.reserved;
  controls = λ number. values-sym _ _ (d.controls number);
  steps = sym d.steps;
  position = sym d.position;
  end_seen = sym d.end_seen;
  output = sym d.output;
  heap_calls = sym d.heap_calls;
  events = sym d.events;
}

-- marks that define nothing keep agreement --

loose-kind : (kind : RangeKind) → defines kind ≡ false → kind ≡ Defined → ⊥
loose-kind kind e is = false≢true (sym e ∙ ap defines is)

-- a skip goes as far in both, if it goes by no bytes
skipped-both : (s t : State) → has_halves s.core.isa ≡ false → StatesAgree s t
    → next_of s.core (len_here s.core s.bytes) ≡ next_of t.core (len_here t.core t.bytes)
skipped-both s t none d =
    let other = sym (ap has_halves d.isa) ∙ none in
    let halves = never-half s.core.isa (half_at s.core s.bytes) none
    ∙ sym (never-half t.core.isa (half_at t.core t.bytes) other) in
    λ i. (d.pc i + cond (halves i) 2 4) % 2 ^ 32

-- and counts in both, or in neither
counted-both : (s t : State) → StatesAgree s t → steps_on s.core ≡ steps_on t.core
counted-both s t d = λ i. cond (has_controls (d.isa i)) ((d.steps i + 1) % 2 ^ 64) (d.steps i)

act-agrees : (s t : State) (step : ℕ) (act : Act) → DefinesNothing s.core.isa act → StatesAgree s t
    → StatesAgree (altered s (record { step = step; act = act })) (altered t (record { step = step; act = act }))
unfolding altered altered_core altered_bytes
act-agrees s t step (Make addr len kind) loose d = record {
  memory = made-agrees s.core.shadow s.bytes t.bytes d.memory addr len kind (loose-kind kind loose);
  registers = d.registers;
  shadow = ap (λ x. made_so x addr len kind) d.shadow;
  pc = d.pc;
  status = d.status;
  frames = d.frames;
  blocks = d.blocks;
  isa = d.isa;
  stack = d.stack;
  limits = d.limits;
  reserved = d.reserved;
  controls = d.controls;
  steps = d.steps;
  position = d.position;
  end_seen = d.end_seen;
  output = d.output;
  heap_calls = d.heap_calls;
  events = d.events;
}
act-agrees s t step (Set r value undef) loose d =
    if-running s t _ _ _ _ d (set-both s t r _ _ (same-agrees value undef loose.0) d)
act-agrees s t step (Flip r mask) small d = if-running s t _ _ _ _ d (flip-both s t r mask small d)
act-agrees s t step (Jump target) loose d = if-running s t _ _ _ _ d (moved-both s t target target refl d)
act-agrees s t step (FlipPc mask) loose d =
    if-running s t _ _ _ _ d (moved-both s t _ _ (ap (λ pc. xor_of pc mask) d.pc) d)
act-agrees s t step (Write addr width value) loose d = absurd loose
act-agrees s t step (Turn addr mask) small d = if-running s t _ _ _ _ d (turn-both s t addr mask small d)
act-agrees s t step Skip none d =
    if-running s t _ _ _ _ d
    (passed-both s t _ _ (steps_on s.core) (steps_on t.core) (skipped-both s t none d) (counted-both s t d) d)

-- the marks of step k, in order
marks-agree : (k : ℕ) (marks : List Alteration) (s t : State) → DefineNothing s.core.isa marks → StatesAgree s t
    → StatesAgree (fold altered s (filter (λ m. m.step == k) marks)) (fold altered t (filter (λ m. m.step == k) marks))
marks-agree k [] s t loose d = d
marks-agree k (m ∷ ms) s t loose d =
    go (m.step == k)
    (λ u v same d. marks-agree k ms u v (subst (λ isa. DefineNothing isa ms) (sym same) loose.1) d)
  where
    go : (b : Bool)
        → ((u v : State) → u.core.isa ≡ s.core.isa → StatesAgree u v
        → StatesAgree (fold altered u (filter (λ m. m.step == k) ms)) (fold altered v (filter (λ m. m.step == k) ms)))
        → StatesAgree (fold altered s (cond b (m ∷ filter (λ m. m.step == k) ms) (filter (λ m. m.step == k) ms)))
        (fold altered t (cond b (m ∷ filter (λ m. m.step == k) ms) (filter (λ m. m.step == k) ms)))
    go true rest = rest (altered s m) (altered t m) (altered-isa s m) (act-agrees s t m.step m.act loose.0 d)
    go false rest = rest s t refl d

pub after-agree : (k : ℕ) (marks : List Alteration) (s t : State) → DefineNothing s.core.isa marks → StatesAgree s t
    → StatesAgree (after_marks k marks s) (after_marks k marks t)
unfolding after_marks
after-agree k marks s t loose d = marks-agree k marks s t loose d

-- no step changes which marks define nothing
pub loose-along : (start : State) (setup : Setup) (marks : List Alteration) (k : ℕ)
    → DefineNothing start.core.isa marks → DefineNothing (pre start setup marks k).core.isa marks
loose-along start setup marks k loose =
    subst (λ isa. DefineNothing isa marks) (sym (pre-isa keeps-isa start setup marks k)) loose

-- marks raise no errors
fold-events : (marks : List Alteration) (s : State) → (fold altered s marks).events ≡ s.events
unfolding altered
fold-events [] s = refl
fold-events (m ∷ ms) s = fold-events ms (altered s m)

pub marks-events : (k : ℕ) (marks : List Alteration) (s : State) → (after_marks k marks s).events ≡ s.events
unfolding after_marks
marks-events k marks s = fold-events (marks_at k marks) s

-- a use before a step is one after it
pub fewer : (s : State) (setup : Setup) → NoUse (exec s setup).events → NoUse s.events
unfolding exec
fewer s setup none = left-none s.events _ none

module _ (start : State) (setup : Setup) (law : StepAgrees setup) (marks : List Alteration) (states : ℕ → State)
    (loose : DefineNothing start.core.isa marks) where
  -- a disturbed run agrees at each step up to its last
  pub runs-agree : (n : ℕ) → IsDisturbed start setup marks n states
      → ((k : ℕ) → k < n → BlocksAreOpen (post start setup marks k).core)
      → NoUse (pre start setup marks n).events → StatesAgree (pre start setup marks n) (states n)
  unfolding pre post
  runs-agree zero run opened none = run.first
  runs-agree (suc k) run opened none =
      let before = fewer (after_marks k marks (pre start setup marks k)) setup none in
      let earlier = subst NoUse (marks-events k marks (pre start setup marks k)) before in
      let shorter : IsDisturbed start setup marks k states =
      record { first = run.first; next = λ j h. run.next j (omega arith) } in
      let here = runs-agree k shorter (λ j h. opened j (omega arith)) earlier in
      let stepped = law (after_marks k marks (pre start setup marks k)) (after_marks k marks (states k))
      (opened k (omega arith)) (after-agree k marks (pre start setup marks k) (states k)
      (loose-along start setup marks k loose) here) none in
      states-trans _ _ _ stepped (run.next k (omega arith))

-- a run from another start, with nothing disturbed between steps
module _ (start other : State) (setup : Setup) (law : StepAgrees setup) (marks : List Alteration)
    (loose : DefineNothing start.core.isa marks) (first : StatesAgree start other) where
  pub begun : (n : ℕ) → ((k : ℕ) → k < n → BlocksAreOpen (post start setup marks k).core)
      → NoUse (pre start setup marks n).events → StatesAgree (pre start setup marks n) (pre other setup marks n)
  unfolding pre post
  begun zero opened none = first
  begun (suc k) opened none =
      let before = fewer (after_marks k marks (pre start setup marks k)) setup none in
      let earlier = subst NoUse (marks-events k marks (pre start setup marks k)) before in
      let here = begun k (λ j h. opened j (omega arith)) earlier in
      law (after_marks k marks (pre start setup marks k)) (after_marks k marks (pre other setup marks k))
      (opened k (omega arith)) (after-agree k marks (pre start setup marks k) (pre other setup marks k)
      (loose-along start setup marks k loose) here) none
