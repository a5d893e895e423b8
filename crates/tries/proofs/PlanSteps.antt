-- Plans of tries: one more edit, and where memory ran out.
use Rattle.std.proofs.Common.{◌≡◌, ◌∙◌, ◌+◌, ◌-◌, ◌<◌, ◌++◌, ◌∷◌, [], ℕ, zero, suc, List, Result, Ok, Err, Bool, true}
use Rattle.std.proofs.Common.{ap, append-nil, append_assoc, arith, cond, false, if◌then◌else◌, length, map, not, refl}
use Rattle.std.proofs.Common.{subst, sym, ◌==◌, ◌&&◌}
use Rattle.std.specs.Prelude.{IsErrAnd, OnErr, OnOk, is_ok}
use Rattle.std.specs.List.{flat_map}
use Rattle.std.proofs.lemmas.Bool.Decides.{nat_tests}
use Rattle.std.proofs.lemmas.List.Concat.{flat_map-append}
use Rattle.checkpoints.specs.declared.sides.Sides.{Sides}
use Rattle.commands.specs.declared.edit.Edit.{Edit}
use Rattle.replay_session.specs.Session.{IsSidesOf}
use Rattle.replay_session.specs.Turns.{Turn}
use Rattle.run_values.specs.declared.span.Span.{Span}
use Rattle.scenario.specs.Edits.{IsTaken, row}
use Rattle.scenario.specs.Scenario.{IsOutlineOf, Scenario}
use Rattle.sweep_plans.proofs.ListSteps.{byte-more, map-more, plus-one}
use Rattle.sweep_plans.specs.Laws.{numbers_from}
use Rattle.sweep_plans.specs.Plans.{byte_values, is_wanted}
use Rattle.sweep_plans.specs.declared.plan.ByteValues.{ByteValues}
use Rattle.texts.specs.Tallied.{is_met, number_of, with_text}
use Rattle.tries.specs.Merging.{IsMerged, agains_of, news_of}
use Rattle.tries.specs.Plans.{attempt_at, attempts_at, attempts_below, edit_of}
use Rattle.tries.specs.Tries.{AreFirstOf, Gathered, Keeps, LeavesBase, TriedAll, TriedAs, TriedUpTo, TriesStage}
use Rattle.tries.specs.Tries.{gathered, planned_text}
use Rattle.tries.specs.declared.plans.Attempt.{Attempt}

-- the edit of a byte within the input isn't rejected
pub is-taken : (sc : Scenario) (attempt : Attempt) → attempt.offset < length sc.setup.input
    → IsTaken sc (edit_of attempt)
is-taken sc attempt within = grind (arith, nat_tests)

-- ---- the first of some edits

first-behind : (begun done attempts : List Attempt) → AreFirstOf done attempts
    → AreFirstOf (begun ++ done) (begun ++ attempts)
first-behind begun done attempts first =
    (first.0, ap (λ xs. begun ++ xs) first.1 ∙ sym (append_assoc begun done first.0))

first-on : (a b c : List Attempt) → AreFirstOf a b → AreFirstOf b c → AreFirstOf a c
first-on a b c one two = (
  one.0 ++ two.0,
  two.1 ∙ ap (λ xs. xs ++ two.0) one.1 ∙ append_assoc a one.0 two.0,
)

-- lists that grow
module _ (f g : ℕ → List Attempt) (more : (n : ℕ) → f (n + 1) ≡ f n ++ g n) where
  grown : (n k : ℕ) → AreFirstOf (f n) (f (n + k))
  grown n zero = ([], (let none : n + 0 ≡ n = omega arith in ap f none) ∙ sym (append-nil (f n)))
  grown n (suc k) =
      let next : n + suc k ≡ n + k + 1 = omega arith in
      first-on (f n) (f (n + k)) (f (n + suc k)) (grown n k) (g (n + k), ap f next ∙ more (n + k))

  -- where memory ran out among those that come next
  stopped : (n m : ℕ) (done : List Attempt) → n < m → AreFirstOf done (g n) → AreFirstOf (f n ++ done) (f m)
  stopped n m done l first =
      first-on (f n ++ done) (f (n + 1)) (f m)
      (subst (λ xs. AreFirstOf (f n ++ done) xs) (sym (more n)) (first-behind (f n) done (g n) first))
      (rest (m - (n + 1)) (omega arith))
    where
      rest : (k : ℕ) → n + 1 + k ≡ m → AreFirstOf (f (n + 1)) (f m)
      rest k same = subst (λ j. AreFirstOf (f (n + 1)) (f j)) same (grown (n + 1) k)

-- ---- tries, one after another

module _ (sc : Scenario) (range : Span) where
  all-on : (xs ys : List Attempt) (old mid new : Gathered) → TriedAll sc range xs old mid
      → TriedAll sc range ys mid new
      → TriedAll sc range (xs ++ ys) old new
  all-on [] ys old mid new one two = subst (λ g. TriedAll sc range ys g new) one two
  all-on (x ∷ xs) ys old mid new one two = (one.0, one.1, all-on xs ys one.0 mid new one.2 two)

  pub none-tried : (old : Gathered) → TriedUpTo true sc range [] old old
  none-tried old = record { done = []; covers = refl; tried = refl }

  pub one-tried : {X E : Type 0} (result : Result X E) (attempt : Attempt) (old new : Gathered)
      → OnOk result (TriedAs sc range (planned_text attempt) (edit_of attempt) old new)
      → OnErr result (new ≡ old)
      → TriedUpTo (is_ok result) sc range (attempt ∷ []) old new
  one-tried (Ok x) attempt old new tried kept =
      record { done = attempt ∷ []; covers = refl; tried = (new, tried, refl) }
  one-tried (Err e) attempt old new tried kept = record { done = []; covers = (attempt ∷ [], refl); tried = kept }

  -- a turn of a loop, its end, and its exit where memory ran out
  module _ (f g : ℕ → List Attempt) (more : (n : ℕ) → f (n + 1) ≡ f n ++ g n) where
    pub goes-on : (n : ℕ) (old mid new : Gathered) → TriedAll sc range (f n) old mid
        → TriedUpTo true sc range (g n) mid new
        → TriedAll sc range (f (n + 1)) old new
    goes-on n old mid new before now =
        subst (λ xs. TriedAll sc range xs old new) (sym (more n))
        (all-on (f n) (g n) old mid new before
        (subst (λ xs. TriedAll sc range xs mid new) now.covers now.tried))

    pub stops : (n m : ℕ) (old mid new : Gathered) → n < m → TriedAll sc range (f n) old mid
        → TriedUpTo false sc range (g n) mid new
        → TriedUpTo false sc range (f m) old new
    stops n m old mid new l before now = record {
      done = f n ++ now.done;
      covers = stopped f g more n m now.done l now.covers;
      tried = all-on (f n) now.done old mid new before now.tried;
    }

    pub ends : (n m : ℕ) (old new : Gathered) → n ≡ m → TriedAll sc range (f n) old new
        → TriedUpTo true sc range (f m) old new
    ends n m old new same tried =
        record { done = f n; covers = ap f same; tried = tried }

-- what a try has told, from a session whose run was tried
pub told-so-far : {X E : Type 0} (result : Result X E) (sc : Scenario) (range : Span) (attempt : Attempt) (edit : Edit)
    (old mid new : Gathered) (outcome : List ℕ) (run : List Sides)
    → edit ≡ edit_of attempt → mid ≡ old
    → IsOutlineOf false (row sc edit).after outcome → IsSidesOf (row sc edit).after range run
    → OnOk result (new.text ≡ mid.text ++ planned_text attempt (is_met mid.told outcome) (number_of mid.told outcome)
    outcome (news_of mid.seen run) (agains_of mid.seen run))
    → OnOk result (new.told ≡ with_text mid.told outcome)
    → OnOk result (IsMerged mid.seen run new.seen)
    → OnOk result (TriedAs sc range (planned_text attempt) (edit_of attempt) old new)
told-so-far (Ok x) sc range attempt edit old mid new outcome run is same is_outcome is_run tells told seen =
    subst (λ e. TriedAs sc range (planned_text attempt) e old new) is
    (subst (λ g. TriedAs sc range (planned_text attempt) edit g new) same (record {
      outcome = outcome;
      run = run;
      is_outcome = is_outcome;
      is_run = is_run;
      tells = tells;
      told = told;
      seen = seen;
    }))
told-so-far (Err e) sc range attempt edit old mid new outcome run is same is_outcome is_run tells told seen = tt

pub kept-so-far : {X E : Type 0} (result : Result X E) (old mid new : Gathered) → mid ≡ old
    → OnErr result ((new.told ≡ mid.told) × (new.seen ≡ mid.seen) × (new.text ≡ mid.text))
    → OnErr result (new ≡ old)
kept-so-far (Ok x) old mid new same kept = tt
kept-so-far (Err e) old mid new same kept =
    (λ i. record { seen = kept.1 i; told = kept.0 i; text = kept.2 i }) ∙ same

pub kept-gathered : (old new : TriesStage) (text : List ℕ) → Keeps old new → gathered new text ≡ gathered old text
kept-gathered old new text keeps = λ i. record { seen = keeps.seen i; told = keeps.told i; text = text }

-- an error was passed on
pub at-failure : {X E : Type 0} (result : Result X E) (error : E) (P : Bool → Type 0)
    → IsErrAnd result (λ e. e ≡ error) → P false → P (is_ok result)
at-failure (Ok x) error P is holds = absurd is
at-failure (Err e) error P is holds = holds

-- what holds of a result that is no error
pub if-ok : {X E : Type 0} (result : Result X E) (P : Type 0) → OnOk result P → is_ok result ≡ true → P
if-ok (Ok x) P holds is = holds
if-ok (Err e) P holds is = cc

pub kept-at-failure : {X E : Type 0} (result : Result X E) (P : Type 0) → P → OnErr result P
kept-at-failure (Ok x) P holds = tt
kept-at-failure (Err e) P holds = holds

-- ---- of a session that a loop leaves as it is

pub same-scenario : (old new : TriesStage) → LeavesBase old new
    → new.session.turn.scenario ≡ old.session.turn.scenario
same-scenario old new base = ap (λ (turn : Turn). turn.scenario) base.session.turn

pub of-base : (all : Bool) (F : Scenario → List Attempt) (start mid : TriesStage) (old new : Gathered)
    → LeavesBase start mid
    → TriedUpTo all mid.session.turn.scenario mid.range (F mid.session.turn.scenario) old new
    → TriedUpTo all start.session.turn.scenario start.range (F start.session.turn.scenario) old new
of-base all F start mid old new base tried =
    subst (λ s. TriedUpTo all s start.range (F s) old new) (same-scenario start mid base)
    (subst (λ r. TriedUpTo all mid.session.turn.scenario r (F mid.session.turn.scenario) old new) base.range tried)

-- ---- what a plan tries

-- one more value
abbrev pub value_at : ByteValues → ℕ → ℕ → ℕ → List Attempt
value_at values offset own n =
    if not (n == own) && is_wanted values own n then attempt_at offset n ∷ [] else []

pub more-values : (values : ByteValues) (offset own n : ℕ)
    → attempts_below values offset own (n + 1) ≡ attempts_below values offset own n ++ value_at values offset own n
unfolding attempts_below
more-values values offset own n =
    ap (map (attempt_at offset)) (byte-more values own n) ∙ go (not (n == own) && is_wanted values own n)
  where
    go : (b : Bool) → map (attempt_at offset) (byte_values values own n ++ cond b (n ∷ []) [])
        ≡ map (attempt_at offset) (byte_values values own n) ++ cond b (attempt_at offset n ∷ []) []
    go true = map-more (attempt_at offset) (byte_values values own n) n
    go false =
        ap (map (attempt_at offset)) (append-nil (byte_values values own n))
        ∙ sym (append-nil (map (attempt_at offset) (byte_values values own n)))

-- those of some places
abbrev pub attempts_to : ByteValues → List ℕ → ℕ → ℕ → List Attempt
attempts_to values input first n = flat_map (attempts_at values input) (numbers_from first n)

pub more-places : (values : ByteValues) (input : List ℕ) (first n : ℕ)
    → attempts_to values input first (n + 1)
    ≡ attempts_to values input first n ++ attempts_at values input (first + n)
unfolding numbers_from
more-places values input first n =
    ap (attempts_to values input first) (plus-one n)
    ∙ flat_map-append (attempts_at values input) (numbers_from first n) ((first + n) ∷ [])
    ∙ ap (λ xs. attempts_to values input first n ++ xs) (append-nil (attempts_at values input (first + n)))
