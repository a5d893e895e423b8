-- One state stands for another: by a third one, with the other's values and the first one's undefined bits.
use Rattle.std.proofs.Common.{◌≡◌, ℕ, zero, suc, ◌^◌, ◌<◌, refl, sym, ap, ◌∙◌, subst, List, [], ◌∷◌, length}
use Rattle.std.proofs.Common.{slice_index_or, arith}
use Rattle.definedness.specs.declared.Bits.{Bits}
use Rattle.definedness.specs.Law.{AgreeWhereDefined}
use Rattle.shadow_memory.specs.Shadows.{Shadow}
use Rattle.guest_machine.specs.State.{State}
use Rattle.guest_machine.specs.Registers.{known, register}
use Rattle.guest_machine.specs.Exec.{exec}
use Rattle.guest_machine.specs.declared.setup.Setup.{Setup}
use Rattle.clean_reports.specs.Uses.{NoUse}
use Rattle.any_runs.specs.Sharper.{Within, Sharper, SharperShadow, StatesSharper, HasStackPointer}
use Rattle.any_runs.specs.Stands.{BitsStand, Stands}
use Rattle.clean_reports.specs.Agreement.{AreBytes, BytesAgree, StatesAgree, ValuesAgree}
use Rattle.clean_reports.specs.Heap.{BlocksAreOpen}
use Rattle.clean_reports.specs.Disturbed.{HasBytes}
use Rattle.clean_reports.proofs.Steps.{step-agrees}
use Rattle.any_runs.proofs.Steps.{steps-sharper}

-- values of the second with undefined bits of the first
abbrev pub joined : Bits → Bits → Bits
joined x y = record { value = y.value; undef = x.undef }

pub relabel : List Bits → List Bits → List Bits
relabel [] ys = []
relabel (x ∷ xs) [] = []
relabel (x ∷ xs) (y ∷ ys) = joined x y ∷ relabel xs ys

relabel-length : (xs ys : List Bits) → length xs ≡ length ys → length (relabel xs ys) ≡ length xs
unfolding relabel
relabel-length [] ys e = refl
relabel-length (x ∷ xs) [] e = cc
relabel-length (x ∷ xs) (y ∷ ys) e = ap suc (relabel-length xs ys (suc-same (length xs) (length ys) e))
  where
    suc-same : (m n : ℕ) → suc m ≡ suc n → m ≡ n
    suc-same m n e = omega (arith, e)

relabel-at : (xs ys : List Bits) → length xs ≡ length ys → (r : ℕ)
    → slice_index_or (relabel xs ys) r (known 0)
    ≡ joined (slice_index_or xs r (known 0)) (slice_index_or ys r (known 0))
unfolding relabel
relabel-at [] [] e r = refl
relabel-at [] (y ∷ ys) e r = cc
relabel-at (x ∷ xs) [] e r = cc
relabel-at (x ∷ xs) (y ∷ ys) e zero = refl
relabel-at (x ∷ xs) (y ∷ ys) e (suc r) = relabel-at xs ys (suc-same (length xs) (length ys) e) r
  where
    suc-same : (m n : ℕ) → suc m ≡ suc n → m ≡ n
    suc-same m n e = omega (arith, e)

-- the third state
abbrev pub between : State → State → State
between s t = record t {
  core = record t.core {
    shadow = s.core.shadow;
    registers = relabel s.core.registers t.core.registers;
    controls = λ n. joined (s.core.controls n) (t.core.controls n);
  };
}

bits-agree : (x y : Bits) → BitsStand x y → ValuesAgree x (joined x y)
bits-agree x y b = record { undef = refl; value = b.value; one = b.one; other = b.other }

bits-sharper : (x y : Bits) → BitsStand x y → Sharper (joined x y) y
bits-sharper x y b = record { value = refl; undef = b.undef; small = b.small }

pub agrees : (s t : State) → Stands s t → StatesAgree s (between s t)
agrees s t d = record {
  memory = record {
    each = d.memory.each;
    bits = λ a. (d.memory.shadow a).one;
    one = d.memory.one;
    other = d.memory.other;
  };
  registers = record {
    count = sym (relabel-length s.core.registers t.core.registers d.registers.count);
    each = λ r. subst (λ b. ValuesAgree (slice_index_or s.core.registers r (known 0)) b)
        (sym (relabel-at s.core.registers t.core.registers d.registers.count r))
        (bits-agree _ _ (d.registers.each r));
  };
  shadow = refl;
  pc = d.pc;
  status = d.status;
  frames = d.frames;
  blocks = d.blocks;
  isa = d.isa;
  stack = d.stack;
  limits = d.limits;
  reserved = d.reserved;
  controls = λ n. bits-agree _ _ (d.controls n);
  steps = d.steps;
  position = d.position;
  end_seen = d.end_seen;
  output = d.output;
  heap_calls = d.heap_calls;
  events = d.events;
}

pub sharpens : (s t : State) → Stands s t → StatesSharper (between s t) t
sharpens s t d = record {
  bytes = refl;
  shadow = d.memory.shadow;
  registers = record {
    count = relabel-length s.core.registers t.core.registers d.registers.count ∙ d.registers.count;
    each = λ r. subst (λ b. Sharper b (slice_index_or t.core.registers r (known 0)))
        (sym (relabel-at s.core.registers t.core.registers d.registers.count r))
        (bits-sharper _ _ (d.registers.each r));
  };
  controls = λ n. bits-sharper _ _ (d.controls n);
  pc = refl;
  status = refl;
  frames = refl;
  blocks = refl;
  isa = refl;
  stack = refl;
  limits = refl;
  reserved = refl;
  steps = refl;
  position = refl;
  end_seen = refl;
  output = refl;
  heap_calls = refl;
  events = refl;
}

-- and back

pub both-bits : (x y z : Bits) → ValuesAgree x y → Sharper y z → BitsStand x z
both-bits x y z a b = record {
  value = subst (λ v. AgreeWhereDefined x.undef x.value v) b.value a.value;
  undef = subst (λ u. Within 32 u z.undef) (sym a.undef) b.undef;
  one = a.one;
  other = subst (λ v. v < 2 ^ 32) b.value a.other;
  small = b.small;
}

pub stands-by : (s u t : State) → StatesAgree s u → StatesSharper u t → Stands s t
stands-by s u t a b = record {
  memory = record {
    shadow = subst (λ (f : ℕ → Shadow). (k : ℕ) → SharperShadow (f k) (t.core.shadow k)) (sym a.shadow) b.shadow;
    each = subst (λ (f : ℕ → ℕ). (k : ℕ) → BytesAgree (s.core.shadow k) (s.bytes k) (f k)) b.bytes a.memory.each;
    one = a.memory.one;
    other = subst AreBytes b.bytes a.memory.other;
  };
  registers = record {
    count = a.registers.count ∙ b.registers.count;
    each = λ r. both-bits _ _ _ (a.registers.each r) (b.registers.each r);
  };
  controls = λ n. both-bits _ _ _ (a.controls n) (b.controls n);
  pc = a.pc ∙ b.pc;
  status = a.status ∙ b.status;
  frames = a.frames ∙ b.frames;
  blocks = a.blocks ∙ b.blocks;
  isa = a.isa ∙ b.isa;
  stack = a.stack ∙ b.stack;
  limits = a.limits ∙ b.limits;
  reserved = a.reserved ∙ b.reserved;
  steps = a.steps ∙ b.steps;
  position = a.position ∙ b.position;
  end_seen = a.end_seen ∙ b.end_seen;
  output = a.output ∙ b.output;
  heap_calls = a.heap_calls ∙ b.heap_calls;
  events = a.events ∙ b.events;
}

pointer-too : (s u : State) → StatesAgree s u → HasStackPointer s → HasStackPointer u
unfolding register
pointer-too s u a known = sym (a.registers.each 2).undef ∙ known

-- the law of a step, but for the addresses
pub step-stands : (setup : Setup) → HasBytes setup → (s t : State) → Stands s t → BlocksAreOpen s.core
    → HasStackPointer s → HasStackPointer (exec s setup) → NoUse (exec s setup).events
    → Stands (exec s setup) (exec t setup)
step-stands setup bytes s t d opened before after none =
    let u = between s t in
    let a = agrees s t d in
    let first = step-agrees setup bytes s u opened a none in
    let second = steps-sharper setup u t (sharpens s t d) (pointer-too s u a before)
    (pointer-too (exec s setup) (exec u setup) first after) (subst NoUse first.events none) in
    stands-by (exec s setup) (exec u setup) (exec t setup) first second
