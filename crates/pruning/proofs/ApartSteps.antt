-- Two runs that differ in some words, as long as neither touches one of them.
use Rattle.std.proofs.Common.{◌≡◌, ◌⊎◌, inl, inr, ℕ, zero, suc, ◌+◌, ◌-◌, ◌*◌, ◌/◌, ◌%◌, ◌<◌, ◌≤◌, ◌||◌, ◌==◌, Bool}
use Rattle.std.proofs.Common.{true, false}
use Rattle.std.proofs.Common.{List, [], ◌∷◌, Some, get_or, length, drop, ap, refl, sym, ◌∙◌}
use Rattle.std.proofs.Common.{subst, arith}
use Rattle.std.proofs.lemmas.Bool.{true≢false}
use Rattle.std.proofs.lemmas.Bool.Decides.{nat_tests}
use Rattle.std.proofs.lemmas.List.{drop-drop}
use Rattle.std.proofs.lemmas.Option.{same_Some}
use Rattle.std.proofs.lemmas.List.Elements.{All-cons, All-head, All-tail}
use Rattle.std.specs.List.{All, list_any, slice_get}
use Rattle.shadow_memory.specs.Differences.{in_words, IsWordApart, DifferInWords}
use Rattle.shadow_memory.specs.declared.differences.WordApart.{WordApart}
use Rattle.guest_machine.specs.State.{State}
use Rattle.guest_machine.specs.Exec.{exec, touches}
use Rattle.guest_machine.specs.Laws.{DifferWithin, KeepsApart, ReadsOn, SharesRest, Within}
use Rattle.guest_machine.specs.Run.{pre}
use Rattle.guest_machine.specs.Shows.{Shows}
use Rattle.guest_machine.specs.declared.machine.Machine.{Machine}
use Rattle.guest_machine.specs.declared.setup.Setup.{Setup}
use Rattle.pruning.specs.Courses.{IsCourse, LeadsOn}
use Rattle.pruning.specs.Touches.{is_told, TellsStep}
use Rattle.pruning.proofs.CourseSteps.{get-within, leads-nowhere, none-yet, one-more}

-- ---- from one machine of a course to a later one

get-there : (xs : List Machine) (i : ℕ) → i < length xs → (z : Machine) × (slice_get xs i ≡ Some z)
get-there [] i h = absurd (omega (arith, h))
get-there (x ∷ xs) zero h = (x, refl)
get-there (x ∷ xs) (suc i) h = get-there xs i (omega (arith, h))

-- some more steps
pub steps-on : (s : State) (setup : Setup) (k n m : ℕ) → m ≡ k + n
    → pre (pre s setup [] k) setup [] n ≡ pre s setup [] m
steps-on s setup k zero m e =
    let same : k ≡ m = omega (arith, e) in none-yet (pre s setup [] k) setup ∙ ap (pre s setup []) same
steps-on s setup k (suc n) m e =
    let more : m ≡ suc (k + n) = omega (arith, e) in
    one-more (pre s setup [] k) setup n ∙ ap (λ t. exec t setup) (steps-on s setup k n (k + n) refl)
    ∙ sym (ap (pre s setup []) more ∙ one-more s setup (k + n))

before-or-after : (j k : ℕ) → (j < k) ⊎ (k ≤ j)
before-or-after j k = grind arith

-- a machine leads on to another, and that to a third
leads-join : (keys : List ℕ) (setup : Setup) (from k n far total : ℕ) (one mid next : Machine) → far ≡ from + k
    → total ≡ k + n → LeadsOn keys setup from k one mid → LeadsOn keys setup far n mid next
    → LeadsOn keys setup from total one next
leads-join keys setup from k n far total one mid next is-far is-total first second s h =
    let a = first s h in
    let b = second (pre s setup [] k) a.0 in (
      subst (Shows next) (steps-on s setup k n total is-total) b.0,
      λ j less. go a.1 b.1 j less (before-or-after j k),
    )
  where
    go : ((j : ℕ) → j < k → TellsStep keys setup (pre s setup [] j) (from + j))
        → ((j : ℕ) → j < n → TellsStep keys setup (pre (pre s setup [] k) setup [] j) (far + j))
        → (j : ℕ) → j < total → (j < k) ⊎ (k ≤ j) → TellsStep keys setup (pre s setup [] j) (from + j)
    go a b j less (inl early) = a j early
    go a b j less (inr late) =
        let rest : j ≡ k + (j - k) = omega (arith, late) in
        let few : j - k < n = omega (arith, less, late, is-total) in
        let number : far + (j - k) ≡ from + j = omega (arith, is-far, late) in
        subst (λ t. TellsStep keys setup t (from + j)) (steps-on s setup k (j - k) j rest)
        (subst (TellsStep keys setup (pre (pre s setup [] k) setup [] (j - k))) number (b (j - k) few))

further : (apart i d : ℕ) → apart * (i + d) ≡ apart * i + apart * d
further apart i d = grind arith

one-further : (apart d : ℕ) → apart * suc d ≡ apart * d + apart
one-further apart d = grind arith

pub leads-far : (keys : List ℕ) (setup : Setup) (apart : ℕ) (machines : List Machine)
    → IsCourse keys setup apart machines → (i d j : ℕ) (one next : Machine) → j ≡ i + d
    → slice_get machines i ≡ Some one → slice_get machines j ≡ Some next
    → LeadsOn keys setup (apart * i) (apart * d) one next
leads-far keys setup apart machines course i zero j one next e here there =
    let same : j ≡ i = omega (arith, e) in
    let none : 0 ≡ apart * 0 = grind arith in
    let last = same_Some one next (sym here ∙ ap (slice_get machines) (sym same) ∙ there) in
    subst (λ n. LeadsOn keys setup (apart * i) n one next) none
    (subst (LeadsOn keys setup (apart * i) 0 one) last (leads-nowhere keys setup (apart * i) one))
leads-far keys setup apart machines course i (suc d) j one next e here there =
    let after : j ≡ suc (i + d) = omega (arith, e) in
    let more = get-within machines j next there in
    let mid = get-there machines (i + d) (omega (arith, after, more)) in
    let next-there : slice_get machines (suc (i + d)) ≡ Some next = ap (slice_get machines) (sym after) ∙ there in
    leads-join keys setup (apart * i) (apart * d) apart (apart * (i + d)) (apart * suc d) one mid.0 next
    (further apart i d) (one-further apart d)
    (leads-far keys setup apart machines course i d (i + d) one mid.0 refl here mid.1)
    (course (i + d) mid.0 next mid.1 next-there)

-- ---- two runs

-- no step from one on and below another touches a byte of a word
abbrev pub IsFree : List ℕ → ℕ → ℕ → WordApart → Type 0
IsFree keys from until w = (step : ℕ) → from ≤ step → step < until → is_told keys (w.addr / 4) step ≡ false

abbrev pub AreFree : List ℕ → List WordApart → ℕ → ℕ → Type 0
AreFree keys words from until = All (IsFree keys from until) words

is-or : (a b : Bool) → (a || b) ≡ true → (a ≡ true) ⊎ (b ≡ true)
is-or true b h = inl refl
is-or false b h = inr h

same-word : (m n : ℕ) → (m == n) ≡ true → m ≡ n
same-word m n h = grind (arith, nat_tests)

free-there : (keys : List ℕ) (words : List WordApart) (from until : ℕ) → AreFree keys words from until → (a step : ℕ)
    → in_words words a ≡ true → from ≤ step → step < until → is_told keys (a / 4) step ≡ false
free-there keys [] from until free a step h later less = cc
free-there keys (w ∷ ws) from until free a step h later less =
    go (λ e. free-there keys ws from until (All-tail (IsFree keys from until) w ws free) a step e later less)
    (is-or (w.addr / 4 == a / 4) (list_any (λ (v : WordApart). v.addr / 4 == a / 4) ws) h)
  where
    go : (list_any (λ (v : WordApart). v.addr / 4 == a / 4) ws ≡ true → is_told keys (a / 4) step ≡ false)
        → ((w.addr / 4 == a / 4) ≡ true) ⊎ (list_any (λ (v : WordApart). v.addr / 4 == a / 4) ws ≡ true)
        → is_told keys (a / 4) step ≡ false
    go rest (inl e) =
        subst (λ n. is_told keys n step ≡ false) (same-word _ _ e)
        (All-head (IsFree keys from until) w ws free step later less)
    go rest (inr e) = rest e

not-true : (b c : Bool) → (b ≡ true → c ≡ true) → c ≡ false → b ≡ false
not-true false c h e = refl
not-true true c h e = absurd (true≢false (sym (h refl) ∙ e))

rest-on : (p q : ℕ) (one other : Setup) → p ≤ q → SharesRest p one other → SharesRest q one other
rest-on p q one other more d =
    let all : q ≡ p + (q - p) = omega (arith, more) in
    record {
      redzone = d.redzone;
      volume = d.volume;
      hooks = d.hooks;
      rest = ap (λ n. drop n one.input) all ∙ sym (drop-drop (q - p) p one.input) ∙ ap (drop (q - p)) d.rest
          ∙ drop-drop (q - p) p other.input ∙ ap (λ n. drop n other.input) (sym all);
    }

pub flipped : (W : ℕ → Type 0) (s t : State) → DifferWithin W s t → DifferWithin W t s
flipped W s t d = record {
  bytes = λ a n. sym (d.bytes a n);
  core = sym d.core;
  position = sym d.position;
  end_seen = sym d.end_seen;
  output = sym d.output;
  heap_calls = sym d.heap_calls;
  events = sym d.events;
}

module _ (alike : KeepsApart) (on : ReadsOn) (keys : List ℕ) (words : List WordApart) (one other : Setup) (u s : State)
    (differ : DifferWithin (Within (in_words words)) u s) (rest : SharesRest u.position one other) (from : ℕ) where
  -- the input is read on
  read-on : (n : ℕ) → u.position ≤ (pre u one [] n).position
  read-on zero = let same = ap (λ (t : State). t.position) (none-yet u one) in omega (arith, same)
  read-on (suc n) =
      let before = read-on n in
      let more = on one (pre u one [] n) in
      let same = ap (λ (t : State). t.position) (one-more u one n) in
      omega (arith, before, more, same)

  abbrev pub StayApart : ℕ → Type 0
  StayApart n =
      DifferWithin (Within (in_words words)) (pre u one [] n) (pre s other [] n)
      × ((a : ℕ) → Within (in_words words) a → (pre s other [] n).bytes a ≡ s.bytes a)

  pub stay-apart : (until : ℕ) → AreFree keys words from until → (n : ℕ) → from + n ≤ until
      → ((j : ℕ) → j < n → TellsStep keys one (pre u one [] j) (from + j)) → StayApart n
  stay-apart until free zero within told =
      let a = sym (none-yet u one) in
      let b = sym (none-yet s other) in (
        subst (λ x. DifferWithin (Within (in_words words)) x (pre s other [] 0)) a
            (subst (DifferWithin (Within (in_words words)) u) b differ),
        λ a w. ap (λ (t : State). t.bytes a) (none-yet s other),
      )
  stay-apart until free (suc n) within told =
      let before = stay-apart until free n (omega arith) (λ j less. told j (omega (arith, less))) in
      let step = alike (in_words words) one other (pre u one [] n) (pre s other [] n)
      (rest-on u.position (pre u one [] n).position one other (read-on n) rest) before.0
      (λ a w. not-true (touches (pre u one [] n) one a) (is_told keys (a / 4) (from + n))
      (told n (omega arith) a) (free-there keys words from until free a (from + n) w (omega arith) (omega arith))) in (
        subst (λ x. DifferWithin (Within (in_words words)) x (pre s other [] (suc n))) (sym (one-more u one n))
            (subst (DifferWithin (Within (in_words words)) (exec (pre u one [] n) one)) (sym (one-more s other n))
            step.differ),
        λ a w. ap (λ (t : State). t.bytes a) (one-more s other n) ∙ step.left a w ∙ before.1 a w,
      )

-- ---- where the words are right

or-first : (a b : Bool) → a ≡ true → (a || b) ≡ true
or-first true b h = refl
or-first false b h = cc

or-second : (a b : Bool) → b ≡ true → (a || b) ≡ true
or-second true b h = refl
or-second false b h = h

in-same : (addr i : ℕ) → addr % 4 ≡ 0 → i < 4 → (addr / 4 == (addr + i) / 4) ≡ true
in-same addr i even less = grind (arith, nat_tests)

words-kept : (words : List WordApart) (old new other : ℕ → ℕ) → ((a : ℕ) → in_words words a ≡ true → new a ≡ old a)
    → All (IsWordApart old other) words → All (IsWordApart new other) words
words-kept [] old new other same all = λ k d less. absurd (omega (arith, less))
words-kept (w ∷ ws) old new other same all =
    let first = All-head (IsWordApart old other) w ws all in
    All-cons (IsWordApart new other) w ws (record {
      aligned = first.aligned;
      here = λ i less. same (w.addr + i) (or-first _ (in_words ws (w.addr + i)) (in-same w.addr i first.aligned less))
          ∙ first.here i less;
      there = first.there;
    }) (words-kept ws old new other (λ a h. same a (or-second (w.addr / 4 == a / 4) _ h))
    (All-tail (IsWordApart old other) w ws all))

pub get-is : (xs : List Machine) (i : ℕ) (x : Machine) → i < length xs → x ≡ get_or xs i x → slice_get xs i ≡ Some x
get-is [] i x less e = absurd (omega (arith, less))
get-is (y ∷ ys) zero x less e = ap Some (sym e)
get-is (y ∷ ys) (suc i) x less e = get-is ys i x (omega (arith, less)) e

-- ---- a jump

-- a machine stays where it is
pub shows-nowhere : (machine : Machine) (setup : Setup) (step : ℕ) (s : State) → Shows machine s
    → Shows machine (pre s setup [] (step - step))
shows-nowhere machine setup step s h =
    let none : 0 ≡ step - step = omega arith in
    subst (λ n. Shows machine (pre s setup [] n)) none (subst (Shows machine) (sym (none-yet s setup)) h)

pub jumps-nowhere : (machine : Machine) (setup : Setup) (apart place : ℕ) (s : State) → Shows machine s
    → Shows machine (pre s setup [] (apart * (place - place)))
jumps-nowhere machine setup apart place s h =
    let none : 0 ≡ place - place = omega arith in
    let zeros : 0 ≡ apart * 0 = grind arith in
    subst (λ n. Shows machine (pre s setup [] n)) (zeros ∙ ap (λ n. apart * n) none)
    (subst (Shows machine) (sym (none-yet s setup)) h)

-- a state of the course, and that of the other run, which differs from it in these words alone
pub record AreThere (words : List WordApart) (last : Machine) (t : State) : Type 0 where
  pub state : State
  pub bytes : ℕ → ℕ
  pub shows : Shows last state
  pub differ : DifferWithin (Within (in_words words)) state t
  pub inside : All (IsWordApart t.bytes bytes) words

pub jumped : (alike : KeepsApart) (on : ReadsOn) (keys : List ℕ) (words : List WordApart) (one other : Setup)
    (apart place there : ℕ) (machines : List Machine) (held last : Machine) (s : State)
    → IsCourse keys one apart machines → place ≤ there → slice_get machines place ≡ Some held
    → slice_get machines there ≡ Some last
    → (u : State) → Shows held u → DifferWithin (Within (in_words words)) s u → DifferInWords words s.bytes u.bytes
    → SharesRest s.position one other → AreFree keys words (apart * place) (apart * there)
    → AreThere words last (pre s other [] (apart * (there - place)))
jumped alike on keys words one other apart place there machines held last s course order here end u shows differ inside
    rest free =
    let d = there - place in
    let sum : there ≡ place + d = omega arith in
    let leads = leads-far keys one apart machines course place d there held last sum here end u shows in
    let reach : apart * place + apart * d ≡ apart * there =
    sym (further apart place d) ∙ ap (λ n. apart * n) (sym sum) in
    let stays = stay-apart alike on keys words one other u s (flipped _ s u differ)
    (subst (λ p. SharesRest p one other) differ.position rest) (apart * place) (apart * there) free (apart * d)
    (omega (arith, reach)) leads.1 in
    record {
      state = pre u one [] (apart * d);
      bytes = u.bytes;
      shows = leads.0;
      differ = stays.0;
      inside = words-kept words s.bytes (pre s other [] (apart * d)).bytes u.bytes stays.1 inside.inside;
    }

-- ---- a run that jumps

-- steps of a machine, and then those of another
pub shows-on : (setup : Setup) (one mid next : Machine) (k n m : ℕ) → m ≡ k + n
    → ((s : State) → Shows one s → Shows mid (pre s setup [] k))
    → ((t : State) → Shows mid t → Shows next (pre t setup [] n))
    → (s : State) → Shows one s → Shows next (pre s setup [] m)
shows-on setup one mid next k n m sum first second s h =
    subst (Shows next) (steps-on s setup k n m sum) (second (pre s setup [] k) (first s h))

-- the step of a later place
pub place-on : (first apart p q : ℕ) → p ≤ q → first + apart * q ≡ first + apart * p + apart * (q - p)
place-on first apart p q more =
    let sum : q ≡ p + (q - p) = omega arith in
    let parts = ap (λ n. apart * n) sum ∙ further apart p (q - p) in omega (arith, parts)
