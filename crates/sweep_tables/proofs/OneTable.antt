-- A sweep has one table, since its edits have one list of outcomes and steps, and its lines one digit for each place.
use Rattle.std.proofs.Common.{◌≡◌, ℕ, suc, ◌+◌, ◌<◌, ◌++◌, Bool, true, false, List, [], ◌∷◌, ap, ap₂, arith, get_or}
use Rattle.std.proofs.Common.{length}
use Rattle.std.proofs.Common.{cond, refl, subst, sym, ◌∙◌}
use Rattle.std.specs.Fmt.{decimal}
use Rattle.std.specs.List.{flat_map}
use Rattle.checkpoints.specs.Sides.{has_side}
use Rattle.checkpoints.specs.declared.sides.Sides.{Sides}
use Rattle.look_lines.specs.Texts.{digit_text}
use Rattle.run_values.specs.declared.span.Span.{Span}
use Rattle.scenario.specs.Scenario.{Scenario}
use Rattle.sweep_plans.specs.declared.change.Change.{Change}
use Rattle.sweeps.specs.Covered.{apart_in}
use Rattle.sweeps.specs.Laws.{MetAreOne, OutlineIsOne}
use Rattle.sweeps.specs.Standing.{changes_from}
use Rattle.sweeps.specs.Tables.{table_text}
use Rattle.sweep_tables.specs.Laws.{TableIsOne}
use Rattle.sweep_tables.specs.SidesLines.{TellsSides, sides_lines}

-- rows that say the same of both sides
same-digit : (x y : Sides) → ((on : Bool) → has_side x on ≡ has_side y on) → digit_text x ≡ digit_text y
same-digit x y same = ap₂ (λ on away. decimal (cond on 1 0 + cond away 2 0)) (same true) (same false)

same-digits : (xs ys : List Sides) → length xs ≡ length ys
    → ((i : ℕ) (on : Bool) (d : Sides) → i < length xs → has_side (get_or xs i d) on ≡ has_side (get_or ys i d) on)
    → flat_map digit_text xs ≡ flat_map digit_text ys
same-digits [] [] rows says = refl
same-digits [] (y ∷ ys) rows says = absurd (omega arith)
same-digits (x ∷ xs) [] rows says = absurd (omega arith)
same-digits (x ∷ xs) (y ∷ ys) rows says =
    ap₂ (λ text rest. text ++ rest) (same-digit x y (λ on. says 0 on x (omega arith)))
    (same-digits xs ys (omega arith) (λ i on d less. says (suc i) on d (omega arith)))

lines-are-one : (sc : Scenario) (changes : List Change) (range : Span) (xs ys : List ℕ)
    → TellsSides sc changes range xs → TellsSides sc changes range ys → xs ≡ ys
lines-are-one sc changes range xs ys (table, are, is) (other, are-too, is-too) =
    let rows = are.rows ∙ sym are-too.rows in
    is ∙ ap (sides_lines range.start (apart_in sc)) (same-digits table other rows
    (λ i on d less. are.says i on d less ∙ sym (are-too.says i on d (subst (λ n. i < n) rows less))))
    ∙ sym is-too

pub one-table : OutlineIsOne → MetAreOne → TableIsOne
one-table outline-law met-law case n xs ys (first, met, are, lines, told, is)
    (other, others, are-too, more, told-too, is-too) =
    let unedited = outline-law case.with_output case.sc first other are.unedited are-too.unedited in
    let changes = are.changes ∙ sym are-too.changes in
    let same = met-law case.with_output case.sc met others changes are.right are-too.right in
    let sides = lines-are-one case.sc (changes_from case.sc case.plan case.from n) case.range lines more told told-too
    in
    is ∙ (λ i. case.head ++ table_text (unedited i) (same i) (sides i)) ∙ sym is-too
