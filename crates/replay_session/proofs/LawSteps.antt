-- The laws of the steps that lines cost.
use Rattle.std.proofs.Common.{◌≡◌, ℕ, zero, suc, ◌+◌, ◌*◌, ◌/◌, ◌%◌, ◌<◌, ◌≤◌, ◌==◌, nat_lt, Bool, true, false, List}
use Rattle.std.proofs.Common.{[], ◌∷◌, ◌++◌}
use Rattle.std.proofs.Common.{Some, Result, Ok, Err}
use Rattle.std.proofs.Common.{refl, ap, sym, ◌∙◌, subst, arith, min, max, inl, inr, append_assoc, append-nil}
use Rattle.std.specs.Prelude.{◌⊎◌, ◌↔◌}
use Rattle.std.proofs.Math.Nat.{mul-zero}
use Rattle.std.proofs.lemmas.Bool.{cases_lt, false≢true}
use Rattle.std.proofs.lemmas.Bool.Decides.{Decides-ltb, Decides-eqb}
use Rattle.std.proofs.lemmas.List.Elements.{All-nil, All-push, All-pop}
use Rattle.guest_machine.specs.Run.{pre}
use Rattle.instructions.specs.Codes.{len_of}
use Rattle.checkpoints.specs.Effects.{EffectShows, Run}
use Rattle.checkpoints.specs.FirstEffects.{IsBelowFirst}
use Rattle.checkpoints.specs.FirstUses.{uses_code}
use Rattle.checkpoints.specs.Work.{EditMoves, ReportMoves, Work, floor, reached, steps_made}
use Rattle.checkpoints.proofs.SpacingSteps.{at-place, is-multiple}
use Rattle.checkpoints.specs.declared.effect.Effect.{Effect}
use Rattle.checkpoints.specs.declared.effect.Effect.TheVariants.{Nowhere, After, Input, End, Heap, Patch, Anew}
use Rattle.scenario.specs.Edits.{row}
use Rattle.scenario.specs.Scenario.{Scenario, run_of}
use Rattle.scenario.proofs.FrontSteps.{nothing_read, nothing_ended, nothing_called}
use Rattle.replay_session.specs.Turns.{Turn, accepted, applied}
use Rattle.replay_session.specs.Work.{ShowsAt, MovesWork, LineMoves, no_work}
use Rattle.replay_session.specs.LinesWork.{Given, outcome_of, given_from, Reaches, Spares, IsKept, IsHeldAfter}
use Rattle.replay_session.specs.LinesWork.{IsLastHeld, Adds, AddUp, LinesMove, HeldByLines, MadeByLines, WorkIsOne}
use Rattle.commands.specs.declared.fault.Fault.{Fault}
use Rattle.commands.specs.declared.command.Command.{Command}
use Rattle.commands.specs.declared.command.Command.TheVariants.{Report, Edit}
use Rattle.replay_session.proofs.LeastSteps.{DecidesEach, greater, kept-by, lesser, lift}

nowhere : DecidesEach (λ k. false) (λ k. ⊥)
nowhere k = (λ e. absurd (false≢true e), λ x. absurd x)

-- where a patch may show
patch_test : (ℕ → Bool) → ℕ → Bool
patch_test uses zero = false
patch_test uses (suc j) = uses j

patch-decided : (uses : ℕ → Bool) → DecidesEach (patch_test uses) (λ k. (j : ℕ) × (k ≡ j + 1) × (uses j ≡ true))
unfolding patch_test
patch-decided uses zero = (λ e. absurd (false≢true e), λ x. absurd (let e = x.1 in omega arith))
patch-decided uses (suc j) =
    (λ e. (j, omega arith, e), λ x. let e = x.1 in let same : j ≡ x.0 = omega arith in ap uses same ∙ x.2)

-- where something shows is decided step by step, and it never shows at step 0
record Tested (P : ℕ → Type 0) : Type 0 where
  test : ℕ → Bool
  decides : DecidesEach test P
  later : P 0 → ⊥

tested-by : (effect : Effect) (run : Run) → (run.start.position ≡ 0) × (run.start.end_seen ≡ false)
    × (run.start.heap_calls ≡ 0)
    → Tested (EffectShows effect run.start run.setup run.marks)
unfolding pre
tested-by Nowhere run fresh = record { test = λ k. false; decides = nowhere; later = λ x. absurd x }
tested-by (After step) run fresh = record {
  test = λ k. k == step + 1;
  decides = λ k. Decides-eqb k (step + 1);
  later = λ x. absurd (omega arith);
}
tested-by (Input offset) run fresh = record {
  test = λ k. nat_lt offset (pre run.start run.setup run.marks k).position;
  decides = λ k. Decides-ltb offset _;
  later = λ x. absurd (let none = fresh.0 in omega arith);
}
tested-by End run fresh = record {
  test = λ k. (pre run.start run.setup run.marks k).end_seen;
  decides = λ k. ((λ e. e), λ e. e);
  later = λ x. absurd (false≢true (sym fresh.1 ∙ x));
}
tested-by Heap run fresh = record {
  test = λ k. nat_lt 0 (pre run.start run.setup run.marks k).heap_calls;
  decides = λ k. Decides-ltb 0 _;
  later = λ x. absurd (let none = fresh.2 in omega arith);
}
tested-by (Patch addr code) run fresh = record {
  test = patch_test (uses_code run.start run.setup run.marks addr (len_of code));
  decides = patch-decided _;
  later = λ x. absurd (let e = x.1 in omega arith);
}
tested-by (Anew addr code) run fresh = record {
  test = λ k. nat_lt 0 k;
  decides = λ k. Decides-ltb 0 k;
  later = λ x. absurd (omega arith);
}

tested : (sc : Scenario) (command : Command) → Tested (ShowsAt sc command)
tested sc (Edit edit) =
    tested-by (row sc edit).effect (run_of sc) (nothing_read sc, nothing_ended sc, nothing_called sc)
tested sc _ = record { test = λ k. false; decides = nowhere; later = λ x. absurd x }

-- a report moves the work as a report does, all else by where it shows
by-kind : (sc : Scenario) (command : Command) (old new : Work) → MovesWork sc command old new
    → ((command ≡ Report) × ReportMoves sc.step old new)
    ⊎ ((command ≡ Report → ⊥) × EditMoves (ShowsAt sc command) old new)
by-kind sc Report old new h = inl (refl, h)
by-kind sc _ old new h = inr (λ e. absurd cc, h)

adds-none : (s : ℕ) (past : List Given) (turn : Turn) (outcome : Result Command Fault) → (outcome ≡ Ok Report → ⊥)
    → Adds s past turn outcome 0
adds-none s past turn (Ok Report) other = absurd (other refl)
adds-none s past turn (Ok _) other = refl
adds-none s past turn (Err fault) other = refl

-- what another line keeps
kept-from : (lines : List Given) (g : Given) (h : ℕ) → IsKept (lines ++ g ∷ []) h
    → Reaches h g ⊎ (IsKept lines h × Spares h g)
kept-from [] g h (inl r) = inl r.0
kept-from [] g h (inr none) = absurd none
kept-from (x ∷ xs) g h (inl r) =
    let all = All-pop (Spares h) (xs ++ g ∷ []) xs (Some g) refl r.1 in inr (inl (r.0, all.0), all.1)
kept-from (x ∷ xs) g h (inr k) = (elim (kept-from xs g h k) [
  | inl r ↦ inl r
  | inr both ↦ inr (inr both.0, both.1)
])

kept-to : (lines : List Given) (g : Given) (h : ℕ) → Reaches h g ⊎ (IsKept lines h × Spares h g)
    → IsKept (lines ++ g ∷ []) h
kept-to [] g h (inl r) = inl (r, All-nil (Spares h))
kept-to [] g h (inr both) = absurd both.0
kept-to (x ∷ xs) g h (inl r) = inr (kept-to xs g h (inl r))
kept-to (x ∷ xs) g h (inr both) = (elim both.0 [
  | inl r ↦ inl (r.0, All-push (Spares h) xs g r.1 both.1)
  | inr k ↦ inr (kept-to xs g h (inr (k, both.1)))
])

-- machines are held after lines at the multiples of a number up to a step
abbrev UpTo : ℕ → List Given → ℕ → Type 0
UpTo s lines last = (last % s ≡ 0) × ((h : ℕ) → h % s ≡ 0 → (h ≤ last) ↔ IsHeldAfter s lines h)

up-to-none : (s : ℕ) → UpTo s [] 0
up-to-none s = (
  ap (λ k. k % s) (sym (mul-zero s))
      ∙ is-multiple s 0,
  λ h at. ((λ l. (at, inl (omega arith))), λ held. none h held.1),
)
  where
    none : (h : ℕ) → (h ≡ 0) ⊎ ⊥ → h ≤ 0
    none h (inl e) = omega arith
    none h (inr k) = absurd k

-- and another line
more : (s : ℕ) (lines : List Given) (g : Given) (last after : ℕ) → UpTo s lines last → after % s ≡ 0
    → ((h : ℕ) → h % s ≡ 0 → (h ≤ after) ↔ (Reaches h g ⊎ ((h ≤ last) × Spares h g))) → UpTo s (lines ++ g ∷ []) after
more s lines g last after up round kept = (round, λ h at. (λ l. to h at ((kept h at).0 l), λ held. from h at held.1))
  where
    still : (h : ℕ) → (h ≡ 0) ⊎ IsKept lines h → Spares h g → (h ≡ 0) ⊎ IsKept (lines ++ g ∷ []) h
    still h (inl e) spared = inl e
    still h (inr k) spared = inr (kept-to lines g h (inr (k, spared)))

    to : (h : ℕ) → h % s ≡ 0 → Reaches h g ⊎ ((h ≤ last) × Spares h g) → IsHeldAfter s (lines ++ g ∷ []) h
    to h at (inl r) = (at, inr (kept-to lines g h (inl r)))
    to h at (inr both) = (at, still h ((up.1 h at).0 both.0).1 both.1)

    from : (h : ℕ) → h % s ≡ 0 → (h ≡ 0) ⊎ IsKept (lines ++ g ∷ []) h → h ≤ after
    from h at (inl e) = omega arith
    from h at (inr k) = (elim (kept-from lines g h k) [
      | inl r ↦ (kept h at).1 (inl r)
      | inr both ↦ (kept h at).1 (inr ((up.1 h at).1 (at, inr both.0), both.1))
    ])

-- a line that isn't an accepted edit spares each step
spares-refused : (g : Given) (fault : Fault) (h : ℕ) → outcome_of g ≡ Err fault → Spares h g
spares-refused g fault h e command told =
    absurd (let x : ◌≡◌ {A = Result Command Fault} (Err fault) (Ok command) = sym e ∙ told in cc)

same-command : (a b : Command) (r : Result Command Fault) → r ≡ Ok a → r ≡ Ok b → b ≡ a
same-command a b r p q = let x : ◌≡◌ {A = Result Command Fault} (Ok a) (Ok b) = sym p ∙ q in cc

spares-where : (g : Given) (command : Command) (h : ℕ) → outcome_of g ≡ Ok command
    → IsBelowFirst (ShowsAt g.turn.scenario command) h → Spares h g
spares-where g command h e below other told =
    let P : Command → Type 0 = λ c. IsBelowFirst (ShowsAt g.turn.scenario c) h in
    subst P (sym (same-command command other (outcome_of g) e told)) below

-- what one line does to where machines are held
line-holds : (lines : List Given) (g : Given) (old new : Work) → 0 < old.apart → UpTo old.apart lines old.last
    → LineMoves g.turn.scenario (outcome_of g) old new → UpTo old.apart (lines ++ g ∷ []) new.last
line-holds lines g old new pos up moves = go (outcome_of g) refl moves
  where
    stays : (fault : Fault) → outcome_of g ≡ Err fault → new.last ≡ old.last → UpTo old.apart (lines ++ g ∷ []) new.last
    stays fault e same = more old.apart lines g old.last new.last up (ap (λ k. k % old.apart) same ∙ up.0) (λ h at. (
      (λ l. inr (omega arith, spares-refused g fault h e)),
      λ k. (elim k [
        | inl r ↦ absurd (let x : ◌≡◌ {A = Result Command Fault} (Err fault) (Ok Report) = sym e ∙ r.0 in cc)
        | inr both ↦ (let l = both.0 in omega arith)
      ]),
    ))

    reports : outcome_of g ≡ Ok Report → new.last ≡ reached old.apart old.last g.turn.scenario.step
        → UpTo old.apart (lines ++ g ∷ []) new.last
    reports e is = more old.apart lines g old.last new.last up
        (ap (λ k. k % old.apart) is ∙ greater old.apart old.last (floor old.apart g.turn.scenario.step) up.0
        (is-multiple old.apart (g.turn.scenario.step / old.apart))) (λ h at. (
          (λ l. (elim (cases_lt old.last h) [
            | inl above ↦ inl (e, omega (arith, is, l, at-place old.apart g.turn.scenario.step))
            | inr under ↦ inr (under, spares-where g Report h e (λ j k x. absurd x))
          ])),
          λ k. (elim k [
            | inl r ↦ (let l = r.1 in omega (arith, is, lift old.apart h g.turn.scenario.step pos at l))
            | inr both ↦ (let l = both.0 in omega arith)
          ]),
        ))

    edits : (command : Command) → outcome_of g ≡ Ok command → (command ≡ Report → ⊥)
        → EditMoves (ShowsAt g.turn.scenario command) old new → UpTo old.apart (lines ++ g ∷ []) new.last
    edits command e other m =
        let t = tested g.turn.scenario command in
        let kept = kept-by old.apart
        (ShowsAt g.turn.scenario command) t.test old.last new.last pos t.decides t.later up.0 m.0.0 in
        more old.apart lines g old.last new.last up kept.0 (λ h at. (
          (λ l. let both = (kept.1 h at).0 l in inr (both.0, spares-where g command h e both.1)),
          λ k. (elim k [
            | inl r ↦ absurd (other (same-command Report command (outcome_of g) r.0 e))
            | inr both ↦ (kept.1 h at).1 (both.0, both.1 command e)
          ]),
        ))

    go : (outcome : Result Command Fault) → outcome_of g ≡ outcome → LineMoves g.turn.scenario outcome old new
        → UpTo old.apart (lines ++ g ∷ []) new.last
    go (Err fault) e m = stays fault e m.0.0
    go (Ok command) e m = (elim (by-kind g.turn.scenario command old new m) [
      | inl report ↦ reports (e ∙ ap Ok report.0) report.1.0.0
      | inr edit ↦ edits command e edit.0 edit.1
    ])

-- and the number of steps it adds
line-adds : (lines : List Given) (turn : Turn) (outcome : Result Command Fault) (old new : Work) → 0 < old.apart
    → UpTo old.apart lines old.last
    → LineMoves turn.scenario outcome old new → old.made ≤ 18446744073709551615
    → (steps : ℕ) × Adds old.apart lines turn outcome steps × (new.made ≡ min (old.made + steps) 18446744073709551615)
line-adds lines turn (Err fault) old new pos up moves low = (0, refl, (let e = moves.0.1 in omega arith))
line-adds lines turn (Ok command) old new pos up moves low = (elim (by-kind turn.scenario command old new moves) [
  | inl report ↦ reports report.0 report.1.0.1
  | inr edit ↦ (0, adds-none old.apart lines turn (Ok command) (λ e. edit.0 cc), (let e = edit.1.0.1 in omega arith))
])
  where
    last-held : (n : ℕ) → IsLastHeld old.apart lines n (min old.last (floor old.apart n))
    last-held n =
        let under = at-place old.apart n in
        let at : min old.last (floor old.apart n) % old.apart ≡ 0 = lesser old.apart old.last (floor old.apart n) up.0
        (is-multiple old.apart (n / old.apart)) in (
          (up.1 _ at).0 (omega arith),
          omega (arith, under),
          λ k held l. let low = (up.1 k held.0).1 held in
              omega (arith, low, lift old.apart k n pos held.0 l),
        )

    reports : command ≡ Report
        → new.made ≡ min (old.made + steps_made old.apart old.last turn.scenario.step) 18446744073709551615
        → (steps : ℕ) × Adds old.apart lines turn (Ok command) steps ×
        (new.made ≡ min (old.made + steps) 18446744073709551615)
    reports e is =
        let P : Command → Type 0 =
        λ c. Adds old.apart lines turn (Ok c) (steps_made old.apart old.last turn.scenario.step) in (
          steps_made old.apart old.last turn.scenario.step,
          subst P (sym e)
              (min old.last (floor old.apart turn.scenario.step), last-held turn.scenario.step, refl),
          is,
        )

-- what lines do to both, one after another
abbrev Comes : ℕ → List Given → List Given → Work → Work → Type 0
Comes s past lines old new =
    UpTo s (past ++ lines) new.last × ((steps : ℕ) × AddUp s past lines steps
    × (new.made ≡ min (old.made + steps) 18446744073709551615))

comes-none : (s : ℕ) (past : List Given) (old new : Work) → UpTo s past old.last → old.made ≤ 18446744073709551615
    → new ≡ old → Comes s past [] old new
comes-none s past old new up low e =
    let made : new.made ≡ old.made = ap (λ (w : Work). w.made) e in
    let P : List Given → Type 0 = λ gs. UpTo s gs new.last in (
      subst P (sym (append-nil past)) (let Q : ℕ → Type 0 = λ l. UpTo s past l in
          subst Q (sym (ap (λ (w : Work). w.last) e)) up),
      (0, refl, omega arith),
    )

-- a line leaves how far apart machines are held
stays-apart : (sc : Scenario) (outcome : Result Command Fault) (old new : Work) → LineMoves sc outcome old new
    → new.apart ≡ old.apart
stays-apart sc (Err fault) old new moves = moves.1
stays-apart sc (Ok command) old new moves = (elim (by-kind sc command old new moves) [
  | inl report ↦ report.1.1
  | inr edit ↦ edit.1.1
])

comes : (s : ℕ) (turn : Turn) (lines : List (List ℕ)) (past : List Given) (old new : Work) → 0 < s → old.apart ≡ s
    → UpTo s past old.last → old.made ≤ 18446744073709551615 → LinesMove turn lines old new
    → Comes s past (given_from turn lines) old new
comes s turn [] past old new pos is up low e = comes-none s past old new up low e
comes s turn (line ∷ lines) past old new pos is up low h =
    let g : Given = record { turn = turn; line = line } in
    let next = h.0 in
    let begun = subst (λ k. UpTo k past old.last) (sym is) up in
    let far = subst (λ k. 0 < k) (sym is) pos in
    let first = line-adds past turn (accepted turn line) old next far begun h.1 low in
    let made = first.2 in
    let under : next.made ≤ 18446744073709551615 = omega arith in
    let held = subst (λ k. UpTo k (past ++ g ∷ []) next.last) is (line-holds past g old next far begun h.1) in
    let rest = comes s (applied turn line) lines (past ++ g ∷ []) next new pos
    (stays-apart turn.scenario (accepted turn line) old next h.1 ∙ is) held under h.2 in
    let P : List Given → Type 0 = λ gs. UpTo s gs new.last in
    let last = rest.1.2 in (
      subst P (append_assoc past (g ∷ []) (given_from (applied turn line) lines)) rest.0,
      (
        first.0 + rest.1.0,
        (
          first.0,
          rest.1.0,
          subst (λ k. Adds k past turn (accepted turn line) first.0) is first.1,
          rest.1.1,
          refl,
        ),
        omega arith,
      ),
    )

from-none : (s : ℕ) (turn : Turn) (lines : List (List ℕ)) (work : Work) → 0 < s
    → LinesMove turn lines (no_work s) work → Comes s [] (given_from turn lines) (no_work s) work
from-none s turn lines work pos h = comes s turn lines [] (no_work s) work pos refl (up-to-none s) (omega arith) h

pub held_by_lines : HeldByLines
held_by_lines s turn lines work pos h = (from-none s turn lines work pos h).0.1

pub made_by_lines : MadeByLines
made_by_lines s turn lines work pos h =
    let made = (from-none s turn lines work pos h).1 in
    let same = made.2 in
    (made.0, made.1, omega arith)

-- a line adds one number of steps
adds-one : (s : ℕ) (past : List Given) (turn : Turn) (outcome : Result Command Fault) (m n : ℕ)
    → Adds s past turn outcome m
    → Adds s past turn outcome n → m ≡ n
adds-one s past turn (Ok Report) m n g h =
    let up = h.1.2 g.0 g.1.0 g.1.1 in
    let down = g.1.2 h.0 h.1.0 h.1.1 in
    let a = g.2 in
    let b = h.2 in
    omega arith
adds-one s past turn (Ok _) m n g h = g ∙ sym h
adds-one s past turn (Err fault) m n g h = g ∙ sym h

pub work_is_one : WorkIsOne
work_is_one s past [] m n g h = g ∙ sym h
work_is_one s past (line ∷ lines) m n g h =
    let first = adds-one s past line.turn (outcome_of line) g.0 h.0 g.2 h.2 in
    let rest = work_is_one s (past ++ line ∷ []) lines g.1 h.1 g.3 h.3 in
    let a = g.4 in
    let b = h.4 in
    omega arith
