-- Another change that was met, and the rows of some changes after those of others.
use Rattle.std.proofs.Common.{◌≡◌, ℕ, ◌+◌, Bool, List, [], ◌∷◌, ◌++◌, length, fold, map, refl, ap, ap₂, sym, ◌∙◌}
use Rattle.std.proofs.Common.{append_assoc, append-nil, arith, rules, subst}
use Rattle.std.proofs.lemmas.List.{length-append, map-append}
use Rattle.std.proofs.lemmas.List.Sums.{fold-append, sum_by_push}
use Rattle.scenario.specs.Scenario.{Scenario}
use Rattle.texts.specs.Tallied.{entries_of, with_text}
use Rattle.sweeps.specs.Outcomes.{Met, AreMet, IsOutcome, TakesSteps, standing, steps_of, tallied}
use Rattle.sweep_plans.specs.declared.change.Change.{Change}
use Rattle.sweeps.specs.Sweeps.{Counted, CountsMore, IsSameBut}
use Rattle.sweeps.specs.Tables.{first_lines, met_text, rows_after, rows_text, tally_line, tally_lines}
use Rattle.sweeps.specs.Recall.{Recalls}
use Rattle.sweeps.specs.declared.counting.Counts.{Counts}
use Rattle.sweeps.specs.declared.recall.Recall.{Recall}

-- the texts with those of some changes counted
abbrev counted : List (List ℕ × ℕ) → List Met → List (List ℕ × ℕ)
counted entries met = fold (λ es (m : Met). with_text es m.outcome) entries met

tallied-more : (first : List ℕ) (met more : List Met) → tallied first (met ++ more) ≡ counted (tallied first met) more
unfolding tallied
tallied-more first met more = fold-append (λ es (n : Met). with_text es n.outcome) ((first, 0) ∷ []) met more

met-more : (with_output : Bool) (sc : Scenario) (met : List Met) (m : Met) → AreMet with_output sc met
    → IsOutcome with_output sc m.change m.outcome → TakesSteps sc m.change m.steps
    → AreMet with_output sc (met ++ m ∷ [])
met-more with_output sc [] m h outcome steps = ((outcome, steps), tt)
met-more with_output sc (n ∷ ns) m h outcome steps = (h.0, met-more with_output sc ns m h.1 outcome steps)

rows-on : (entries : List (List ℕ × ℕ)) (met more : List Met)
    → rows_after entries (met ++ more) ≡ rows_after entries met ++ rows_after (counted entries met) more
unfolding rows_after
rows-on entries [] more = refl
rows-on entries (m ∷ ms) more =
    ap (λ rest. met_text entries m.change m.outcome ++ rest) (rows-on (with_text entries m.outcome) ms more)
    ∙ sym (append_assoc (met_text entries m.change m.outcome) (rows_after (with_text entries m.outcome) ms) _)

pub rows-more : (first : List ℕ) (met more : List Met)
    → rows_text first (met ++ more) ≡ rows_text first met ++ rows_after (tallied first met) more
unfolding rows_text tallied
rows-more first met more =
    ap (λ rest. first_lines first ++ rest) (rows-on ((first, 0) ∷ []) met more)
    ∙ sym (append_assoc (first_lines first) (rows_after ((first, 0) ∷ []) met) _)

-- the rows of some after those of others
rows-chain : (first : List ℕ) (met more rest : List Met) → rows_after (tallied first met) (more ++ rest)
    ≡ rows_after (tallied first met) more ++ rows_after (tallied first (met ++ more)) rest
rows-chain first met more rest =
    rows-on (tallied first met) more rest
    ∙ ap (λ es. rows_after (tallied first met) more ++ rows_after es rest) (sym (tallied-more first met more))

stands-on : (n k a : ℕ) → a ≡ standing n → standing (a + k) ≡ standing (n + k)
stands-on n k a e = omega arith

-- another one is counted
pub counted-more : (with_output : Bool) (sc : Scenario) (first : List ℕ) (met : List Met) (m : Met) (old new : Counts)
    → Counted old with_output sc first met
    → IsOutcome with_output sc m.change m.outcome → TakesSteps sc m.change m.steps
    → entries_of new.tallies ≡ with_text (entries_of old.tallies) m.outcome
    → new.edits ≡ standing (old.edits + 1) → new.steps ≡ standing (old.steps + m.steps) → new.recall ≡ old.recall
    → Counted new with_output sc first (met ++ m ∷ [])
counted-more with_output sc first met m old new h outcome takes entries edits steps recall = record {
  unedited = h.unedited;
  right = met-more with_output sc met m h.right outcome takes;
  tallies = entries ∙ ap (λ es. with_text es m.outcome) h.tallies ∙ sym (tallied-more first met (m ∷ []));
  edits = edits ∙ stands-on (length met) 1 old.edits h.edits ∙ ap standing (sym (length-append met (m ∷ [])));
  steps = steps ∙ stands-on (steps_of met) m.steps old.steps h.steps
      ∙ ap standing (sym (sum_by_push (λ (n : Met). n.steps) met m));
  recalled = subst (Recalls with_output sc) (sym recall) h.recalled;
}

-- what is counted doesn't hang on the course of the unedited run
pub counts-same : (with_output : Bool) (sc : Scenario) (old now new : Counts) (changes : List Change)
    (before after : List ℕ) → IsSameBut old now → CountsMore now new with_output sc changes before after
    → CountsMore old new with_output sc changes before after
counts-same with_output sc old now new changes before after same more first met h =
    more first met (record {
      unedited = h.unedited;
      right = h.right;
      tallies = ap entries_of same.tallies ∙ h.tallies;
      edits = same.edits ∙ h.edits;
      steps = same.steps ∙ h.steps;
      recalled = subst (Recalls with_output sc) (sym same.recall) h.recalled;
    })

-- none are counted, but something else is recalled
pub counts-recalled : (with_output : Bool) (sc : Scenario) (old : Counts) (recall : Recall) (out : List ℕ)
    → (Recalls with_output sc old.recall → Recalls with_output sc recall)
    → CountsMore old (record old { recall = recall }) with_output sc [] out out
unfolding rows_after
counts-recalled with_output sc old recall out so first met h =
    let now : Counted (record old { recall = recall }) with_output sc first met = record {
      unedited = h.unedited;
      right = h.right;
      tallies = h.tallies;
      edits = h.edits;
      steps = h.steps;
      recalled = so h.recalled;
    } in (
      [],
      refl,
      subst (Counted (record old { recall = recall }) with_output sc first) (sym (append-nil met)) now,
      sym (append-nil out),
    )

-- none are counted
pub counts-none : (counts : Counts) (with_output : Bool) (sc : Scenario) (out : List ℕ)
    → CountsMore counts counts with_output sc [] out out
unfolding rows_after
counts-none counts with_output sc out first met h =
    ([], refl, subst (Counted counts with_output sc first) (sym (append-nil met)) h, sym (append-nil out))

-- one is counted, and its row is written
pub counts-one : (with_output : Bool) (sc : Scenario) (old new : Counts) (m : Met) (out after : List ℕ)
    → ((first : List ℕ) (met : List Met) → Counted old with_output sc first met
    → Counted new with_output sc first (met ++ m ∷ []))
    → ((first : List ℕ) (met : List Met) → Counted old with_output sc first met
    → after ≡ out ++ met_text (tallied first met) m.change m.outcome)
    → CountsMore old new with_output sc (m.change ∷ []) out after
unfolding rows_after
counts-one with_output sc old new m out after counted text first met h = (
  m ∷ [],
  refl,
  counted first met h,
  text first met h
      ∙ ap (λ row. out ++ row) (sym (append-nil (met_text (tallied first met) m.change m.outcome))),
)

-- some are counted, and then others
pub counts-join : (with_output : Bool) (sc : Scenario) (old now new : Counts) (xs ys : List Change)
    (out middle after : List ℕ) → CountsMore old now with_output sc xs out middle
    → CountsMore now new with_output sc ys middle after → CountsMore old new with_output sc (xs ++ ys) out after
counts-join with_output sc old now new xs ys out middle after some others first met h =
    let one = some first met h in
    let two = others first (met ++ one.0) one.2 in (
      one.0 ++ two.0,
      map-append (λ (m : Met). m.change) one.0 two.0 ∙ ap₂ (λ front back. front ++ back) one.1 two.1,
      subst (Counted new with_output sc first) (append_assoc met one.0 two.0) two.2,
      two.3
          ∙ ap (λ text. text ++ rows_after (tallied first (met ++ one.0)) two.0) one.3
          ∙ append_assoc out (rows_after (tallied first met) one.0) _
          ∙ ap (λ text. out ++ text) (sym (rows-chain first met one.0 two.0)),
    )

-- another tally
pub tally-more : (from : ℕ) (counts : List ℕ) (count : ℕ)
    → tally_lines from (counts ++ count ∷ []) ≡ tally_lines from counts ++ tally_line (from + length counts) count
unfolding tally_lines
tally-more from [] count = search rules
tally-more from (c ∷ cs) count =
    ap (λ rest. tally_line from c ++ rest) (tally-more (from + 1) cs count)
    ∙ sym (append_assoc (tally_line from c) (tally_lines (from + 1) cs) _)
    ∙ ap (λ n. (tally_line from c ++ tally_lines (from + 1) cs) ++ tally_line n count) (omega arith)

-- what a sweep has met, from what is counted
pub meets-from : (with_output : Bool) (sc now : Scenario) (old new : Counts) (changes : List Change)
    (out after : List ℕ) → now ≡ sc → CountsMore old new with_output sc changes out after
    → (first : List ℕ) (met : List Met) → Counted old with_output sc first met
    → (more : List Met) × (map (λ (m : Met). m.change) more ≡ changes)
    × Counted new with_output now first (met ++ more)
    × ((text : List ℕ) × (after ≡ out ++ text) × (rows_text first (met ++ more) ≡ rows_text first met ++ text))
meets-from with_output sc now old new changes out after same counts first met h =
    let told = counts first met h in (
      told.0,
      told.1,
      subst (λ (s : Scenario). Counted new with_output s first (met ++ told.0)) (sym same) told.2,
      (rows_after (tallied first met) told.0, told.3, rows-more first met told.0),
    )
