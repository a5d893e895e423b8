-- A run from its start, and what is written of it.
use Rattle.std.proofs.Common.{◌≡◌, ◌⊎◌, inl, inr, ℕ, ◌+◌, ◌-◌, ◌<◌, ◌≤◌, Bool, true, false, List, [], ◌∷◌, ◌++◌}
use Rattle.std.proofs.Common.{append-nil}
use Rattle.std.proofs.Common.{length, take, fold, Option, Some, None, refl, ap, sym, subst, ◌∙◌, arith, length-append}
use Rattle.std.proofs.KnownBytes.{Appends-nil, Appends-trans, Consumes-nil}
use Rattle.std.proofs.lemmas.Bool.{true≢false}
use Rattle.std.proofs.lemmas.List.{take-append-le, take_all}
use Rattle.std.specs.Io.KnownBytes.{Appends, Consumes}
use Rattle.exit_status.specs.declared.ended.Ended.{Ended}
use Rattle.exit_status.specs.declared.exec_ends.ExecEnd.{ExecEnd}
use Rattle.exit_status.specs.declared.exec_ends.ExecEnd.TheVariants.{Early}
use Rattle.test_runs.specs.Executions.{calls_at, state_at, step_of, written_at, Gives, Held, IsAt, MovesOn}
use Rattle.test_runs.specs.Executions.{Wrote, WroteFront}
use Rattle.test_runs.specs.declared.execution.Execution.{Execution}
use Rattle.test_runs.specs.declared.fault.ExecutionFault.{ExecutionFault}
use Rattle.test_runs.specs.declared.fault.ExecutionFault.TheVariants as Fault
use Rattle.test_runs.proofs.RunParts.{none-written}
use Rattle.test_runs.proofs.Steps.{front-then, gives-both, gives-none, wrote-then}
use Rattle.guest_machine.specs.State.{State}
use Rattle.guest_machine.specs.Laws.{EndStays}
use Rattle.guest_machine.specs.Run.{pre, poked, post, start_state, after_marks}
use Rattle.guest_machine.specs.Streams.{KeepsFront}
use Rattle.run_values.specs.declared.alteration.Alteration.{Alteration}
use Rattle.scenario.specs.Edits.{with_input}
use Rattle.scenario.specs.Scenario.{Scenario, at_step, chosen_state, first_state, with_words}
use Rattle.scenario.specs.declared.written.Written.{Written}
use Rattle.exit_status.specs.declared.ends.End.TheVariants.{NoMemory}
use Rattle.test_runs.specs.declared.executing.Plan.{Plan}
use Rattle.test_runs.specs.Executed.{Finishes}
use Rattle.test_runs.specs.Executed.{AsksForMore, Cuts, CutsOutput, HasInputOf, HasRest, HasRun, HasRunAll, IsFault}
use Rattle.test_runs.specs.Executed.{end_of_fault}
use Rattle.test_runs.specs.Overflows.{AsksAt, ComesTo, IsWatched, KeepsStack}
use Rattle.test_runs.proofs.Looks.{at-chosen, kept-with}
use Rattle.program_files.specs.Files.{HasStream}

-- ---- the start

words-unseen : (s : State) (words : List Written) → (with_words s words).end_seen ≡ s.end_seen
unfolding poked
words-unseen s [] = refl
words-unseen s (w ∷ words) = words-unseen (poked s w.addr w.code) words

pub first-unseen : (sc : Scenario) → (state_at sc 0).end_seen ≡ false
unfolding pre first_state start_state
first-unseen sc = words-unseen (start_state sc.image) sc.words

-- ---- the last step

without-marks : (s : State) (k : ℕ) (marks : List Alteration) → marks ≡ [] → after_marks k marks s ≡ s
unfolding after_marks
without-marks s k marks none = ap (λ marks. after_marks k marks s) none

pub chosen-is : (sc : Scenario) → sc.marks ≡ [] → chosen_state sc ≡ state_at sc sc.step
unfolding chosen_state post
chosen-is sc none =
    ap (λ marks. post (first_state sc) sc.setup marks sc.step) none
    ∙ without-marks (pre (first_state sc) sc.setup [] sc.step) sc.step [] refl

-- ---- what was written

all-said : (sc : Scenario) (d n : ℕ) (said : List ℕ) → written_at sc d n ≡ written_at sc d 0 ++ said
    → said ≡ written_at sc d n
all-said sc d n said is = sym (is ∙ ap (λ xs. xs ++ said) (none-written (first_state sc) sc.setup d))

said-all : (sc : Scenario) (d n : ℕ) → written_at sc d n ≡ written_at sc d 0 ++ written_at sc d n
said-all sc d n = ap (λ xs. xs ++ written_at sc d n) (sym (none-written (first_state sc) sc.setup d))

pub wrote-all : (sc : Scenario) (n : ℕ) (old new : Held) → Wrote sc 0 n old new
    → Gives old new (written_at sc 1 n) (written_at sc 2 n)
wrote-all sc n old new wrote =
    gives-both old new _ _ _ _ (all-said sc 1 n wrote.0 wrote.2) (all-said sc 2 n wrote.1 wrote.3) wrote.4

pub wrote-of : (sc : Scenario) (n : ℕ) (old new : Held) → Gives old new (written_at sc 1 n) (written_at sc 2 n)
    → Wrote sc 0 n old new
wrote-of sc n old new wrote = (written_at sc 1 n, written_at sc 2 n, said-all sc 1 n, said-all sc 2 n, wrote)

pub cut-none : (sc : Scenario) (held : Held) → CutsOutput sc held held
cut-none sc held = inl (gives-none held)

-- ---- how it ends

pub fault-is : (fault : ExecutionFault) → IsFault (Early (end_of_fault fault))
fault-is Fault.NoMemory = inr refl
fault-is Fault.WriteFailed = inl refl

-- ---- the input

-- the input as it was, up to a step
pub input-kept : (waits : Bool) (sc : Scenario) (n : ℕ) (left : Option (List ℕ))
    → (waits ≡ true → (state_at sc n).end_seen ≡ false) → Consumes left left [] → HasInputOf waits left left sc n sc
input-kept waits sc n left unseen kept = inl (refl, kept, unseen)

-- with another step chosen the calls that aren't known are the same
pub same-calls : (sc : Scenario) (n k : ℕ) → calls_at (at_step sc n) k ≡ calls_at sc k
unfolding first_state
same-calls sc n k = refl

-- what was written before a step
pub cut-at : (sc : Scenario) (n : ℕ) → n < sc.step → (old new : Held)
    → Gives old new (written_at sc 1 n) (written_at sc 2 n) → CutsOutput sc old new
cut-at sc n before old new wrote = inr (
  n,
  written_at sc 1 n,
  written_at sc 2 n,
  0,
  before,
  said-all sc 1 n,
  said-all sc 2 n,
  gives-both old new _ _ _ _ (sym (append-nil (written_at sc 1 n))) (sym (append-nil (written_at sc 2 n))) wrote,
)

-- ---- a run that is looked at

-- from its start
pub run-of : (sc : Scenario) (waits : Bool) (limit : ℕ) (old new : Held) (first e : Execution)
    (ended : Option Ended) → step_of first ≡ 0 → IsWatched sc waits limit (step_of first) old new e ended
    → HasRun waits limit sc old new e ended
run-of sc waits limit old new first e ended none (run, comes) = record {
  at = run.at;
  comes = comes;
  unseen = λ may. run.unseen may (ap (λ n. (state_at sc n).end_seen) none ∙ first-unseen sc);
  output =
      wrote-all sc (step_of e) old new (subst (λ (n : ℕ). Wrote sc n (step_of e) old new) none run.wrote);
}

-- one that doesn't wait comes to its end
pub rest-of : (sc : Scenario) (limit from : ℕ) (old new : Held) (e : Execution) (found : Option Ended)
    (ended : Ended) → IsWatched sc false limit from old new e found → found ≡ Some ended
    → HasRest limit sc from old new e ended
rest-of sc limit from old new e found ended (run, comes) is =
    (run.at, subst (ComesTo sc false limit (step_of e)) is comes, run.wrote)

pub never-waits : (sc : Scenario) (limit from : ℕ) (old new : Held) (e : Execution) (found : Option Ended)
    → IsWatched sc false limit from old new e found → found ≡ None → ⊥
never-waits sc limit from old new e found (run, comes) is =
    true≢false (sym (subst (ComesTo sc false limit (step_of e)) is comes).0)

-- ---- a run that comes to its end at once

pub ended-first : (waits : Bool) (limit : ℕ) (sc last : Scenario) (left : Option (List ℕ)) (old new : Held)
    (e : Execution)
    (found : Option Ended) (ended : Ended) → sc.marks ≡ [] → HasRun waits limit sc old new e found → found ≡ Some ended
    → last ≡ at_step sc (step_of e) → HasRunAll waits limit sc last left left old new e ended
ended-first waits limit sc last left old new e found ended none run is chosen =
    let n = step_of e in
    record {
      done = sc;
      chosen = chosen;
      input = input-kept waits sc n left run.unseen (Consumes-nil left);
      at = subst (IsAt e) (sym chosen) (at-chosen sc n e run.at);
      ends = subst (ComesTo sc waits limit n) is run.comes;
      output = run.output;
      marks = ap (λ (s : Scenario). s.marks) chosen ∙ none;
    }

-- ---- a run that stops for its input

-- up to there it is one with an input, whose output so far was written
pub record Resumes (waits : Bool) (sc done : Scenario) (n : ℕ) (old mid : Held) : Type 0 where
  pub may : waits ≡ true
  pub asks : AsksForMore sc
  pub marks : done.marks ≡ []
  pub front : Wrote done 0 n old mid

-- it may wait, and asks for more there
pub it-waits : (waits : Bool) (limit : ℕ) (sc : Scenario) (old new : Held) (e : Execution)
    (found : Option Ended) → HasRun waits limit sc old new e found → found ≡ None
    → (waits ≡ true) × AsksAt sc (step_of e)
it-waits waits limit sc old new e found run is = subst (ComesTo sc waits limit (step_of e)) is run.comes

pub resumes : MovesOn → (waits : Bool) (limit : ℕ) (sc done : Scenario) (e : Execution) (found : Option Ended)
    (input : List ℕ) (old mid : Held) → sc.marks ≡ [] → (waits ≡ true → sc.setup.input ≡ [])
    → HasRun waits limit sc old mid e found → found ≡ None → done ≡ with_input sc input
    → Resumes waits sc done (step_of e) old mid
resumes moves waits limit sc done e found input old mid none empty run waiting is =
    let n = step_of e in
    let stops = it-waits waits limit sc old mid e found run waiting in
    let may = stops.0 in
    let moved = moves e sc input run.at (empty may) (run.unseen may) in
    record {
      may = may;
      asks = (n, stops.1);
      marks = ap (λ (s : Scenario). s.marks) is ∙ none;
      front =
          wrote-of done n old mid
          (gives-both old mid _ _ _ _ (moved.1 1 ∙ ap (λ (s : Scenario). written_at s 1 n) (sym is))
          (moved.1 2 ∙ ap (λ (s : Scenario). written_at s 2 n) (sym is)) run.output);
    }

-- an execution of it goes on there
pub record GoesOnThere (done : Scenario) (e : Execution) : Type 0 where
  pub at : IsAt e done
  pub within : step_of e ≤ done.step
  pub kept : KeepsStack done (step_of e)

pub goes-on-there : MovesOn → KeepsFront → EndStays → (waits : Bool) (limit : ℕ) (sc done : Scenario) (e : Execution)
    (found : Option Ended) (input : List ℕ) (old mid : Held) → (waits ≡ true → sc.setup.input ≡ [])
    → HasRun waits limit sc old mid e found → found ≡ None → done ≡ with_input sc input → GoesOnThere done e
goes-on-there moves front stays waits limit sc done e found input old mid empty run waiting is =
    let n = step_of e in
    let stops = it-waits waits limit sc old mid e found run waiting in
    let may = stops.0 in
    let moved = moves e sc input run.at (empty may) (run.unseen may) in
    let before = stops.1.0 in
    subst (λ (s : Scenario). GoesOnThere s e) (sym is) (record {
      at = moved.0;
      within = omega (arith, before);
      kept = kept-with front stays sc input n (empty may) (run.unseen may) stops.1.2;
    })

-- it comes to its end
pub resumed : (waits : Bool) (limit : ℕ) (sc done last : Scenario) (n : ℕ) (e : Execution) (ended : Ended)
    (input : List ℕ) (left rest : Option (List ℕ)) (old mid new : Held) → Resumes waits sc done n old mid → HasStream
    left input
    → done ≡ with_input sc input → HasRest limit done n mid new e ended → last ≡ at_step done (step_of e)
    → HasRunAll waits limit sc last left rest old new e ended
resumed waits limit sc done last n e ended input left rest old mid new it whole is (at, ends, wrote) chosen = record {
  done = done;
  chosen = chosen;
  input = inr (it.may, it.asks, input, whole, is);
  at = subst (IsAt e) (sym chosen) (at-chosen done (step_of e) e at);
  ends = ends;
  output = wrote-all done (step_of e) old new (wrote-then done 0 n (step_of e) old mid new it.front wrote);
  marks = ap (λ (s : Scenario). s.marks) chosen ∙ it.marks;
}

-- or it ends early
pub cut-short : (waits : Bool) (sc done : Scenario) (n : ℕ) (input : List ℕ)
    (left : Option (List ℕ)) (old mid new : Held) (end : ExecEnd) → Resumes waits sc done n old mid → HasStream left
    input
    → done ≡ with_input sc input → IsFault end → WroteFront done n mid new → Cuts waits sc left old new end
cut-short waits sc done n input left old mid new end it whole is fault wrote =
    inr (inl (
      it.may,
      it.asks,
      input,
      whole,
      fault,
      subst (λ (s : Scenario). CutsOutput s old new) is
          (inr (front-then done 0 n old mid new it.front wrote)),
    ))

-- ---- the report

pub no-memory : (plan : Plan) (sc : Scenario) (ended : Ended) (err log : Option (List ℕ))
    → (line : List ℕ) × Appends err err line × Finishes plan sc ended line log log (Early NoMemory)
no-memory plan sc ended err log = ([], Appends-nil err, (refl, Appends-nil log))
