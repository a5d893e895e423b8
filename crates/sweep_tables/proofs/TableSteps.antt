-- How much of a table is written: another place, and where it stops.
use Rattle.std.proofs.Common.{◌≡◌, ℕ, suc, ◌+◌, ◌<◌, ◌≤◌, Bool, List, [], ◌++◌, map, Option, Result, Ok, Err, OnOk}
use Rattle.std.proofs.Common.{IfErr, inl, inr, refl, ap, ap₂, sym, ◌∙◌, subst, append_assoc, arith}
use Rattle.std.proofs.Math.Path.{transport}
use Rattle.std.proofs.KnownBytes.{Appends-trans}
use Rattle.std.proofs.lemmas.List.{map-append}
use Rattle.std.specs.Io.KnownBytes.{Appends}
use Rattle.scenario.specs.Scenario.{Scenario, IsOutlineOf}
use Rattle.sweeps.specs.Covered.{FitsPlan, HasCovered, table_of}
use Rattle.sweeps.specs.Covered.{range_of as table_range}
use Rattle.sweeps.specs.Outcomes.{Met, AreMet}
use Rattle.sweeps.specs.Standing.{changes_at, changes_from}
use Rattle.sweeps.specs.Sweeps.{HasMet, scenario_of, tells_output}
use Rattle.sweeps.specs.Tables.{rows_text, table_text}
use Rattle.sweep_plans.specs.declared.change.Change.{Change}
use Rattle.sweep_plans.specs.declared.plan.Plan.{Plan}
use Rattle.sweeps.specs.declared.sweep.Sweep.{Sweep}
use Rattle.exit_status.specs.Ends.{AppendsFront, end_of}
use Rattle.sweep_tables.specs.SidesLines.{TellsSides}
use Rattle.sweep_tables.specs.Swept.{AreOf, Case, HasTable, Reached, TellsSidesOf, Writes, WritesTable, sides_told}
use Rattle.exit_status.specs.declared.ends.End.{End}
use Rattle.exit_status.specs.declared.ends.End.TheVariants.{CannotWrite, Done, NoMemory}
use Rattle.exit_status.proofs.Pieces.{front-next}

-- the changes that were met
abbrev changes : List Met → List Change
changes met = map (λ (m : Met). m.change) met

are-of : (with_output : Bool) (sc : Scenario) (plan : Plan) (from n : ℕ) (sweep : Sweep) (first : List ℕ)
    (met : List Met) → scenario_of sweep ≡ sc → tells_output sweep ≡ with_output
    → HasMet sweep first met → changes met ≡ changes_from sc plan from n → AreOf with_output sc plan from n first met
unfolding HasMet
are-of with_output sc plan from n sweep first met same output has are = record {
  unedited = transport (λ i. IsOutlineOf (output i) (same i) first) has.unedited;
  changes = are;
  right = transport (λ i. AreMet (output i) (same i) met) has.right;
}

-- ---- one place more

-- what visiting a place adds to what a sweep has met
abbrev pub Visits : Plan → ℕ → Sweep → Sweep → List ℕ → Type 0
Visits plan place old new out =
    (first : List ℕ) (met : List Met) → HasMet old first met
    → (more : List Met) × (changes more ≡ changes_at (scenario_of old) plan place)
    × HasMet new first (met ++ more)
    × (rows_text first (met ++ more) ≡ rows_text first met ++ out)

changes-more : (case : Case) (n place : ℕ) (plan : Plan) (old : Sweep) (met more : List Met) → case.plan ≡ plan
    → place ≡ case.from + n → scenario_of old ≡ case.sc
    → changes met ≡ changes_from case.sc case.plan case.from n
    → changes more ≡ changes_at (scenario_of old) plan place
    → changes (met ++ more) ≡ changes_from case.sc case.plan case.from (n + 1)
unfolding changes_from
changes-more case n place plan old met more is at same before here =
    let one : n + 1 ≡ suc n = omega arith in
    map-append (λ (m : Met). m.change) met more
    ∙ ap₂ (λ xs ys. xs ++ ys) before (here ∙ (λ i. changes_at (same i) (sym is i) (at i)))
    ∙ ap (changes_from case.sc case.plan case.from) (sym one)

text-more : (head rows out all : List ℕ) → all ≡ rows ++ out → (head ++ rows) ++ out ≡ head ++ all
text-more head rows out all is = append_assoc head rows out ∙ ap (λ text. head ++ text) (sym is)

-- and to its table
abbrev pub Covers : Plan → ℕ → Sweep → Sweep → Type 0
Covers plan place old new =
    (done : List Change) → FitsPlan plan (table_range old) → HasCovered old done
    → HasCovered new (done ++ changes_at (scenario_of old) plan place)

table-more : (case : Case) (n place : ℕ) (plan : Plan) (old new : Sweep) → case.plan ≡ plan → place ≡ case.from + n
    → scenario_of old ≡ case.sc → table_range new ≡ table_range old → Covers plan place old new
    → HasTable case (changes_from case.sc case.plan case.from n) old
    → HasTable case (changes_from case.sc case.plan case.from (n + 1)) new
unfolding changes_from
table-more case n place plan old new is at sc range covers has =
    let one : n + 1 ≡ suc n = omega arith in
    let done = changes_from case.sc case.plan case.from n in
    record {
      range = range ∙ has.range;
      fits = has.fits;
      covered = subst (HasCovered new)
          ((λ i. done ++ changes_at (sc i) (sym is i) (at i)) ∙ ap (changes_from case.sc case.plan case.from) (sym one))
          (covers done (transport (λ i. FitsPlan (is i) (sym has.range i)) has.fits) has.covered);
    }

module _ (case : Case) (n place : ℕ) (plan : Plan) (old new : Sweep) (out : List ℕ) (base now later : Option (List ℕ))
    (is : case.plan ≡ plan) (at : place ≡ case.from + n)
    (same : scenario_of new ≡ scenario_of old) (output : tells_output new ≡ tells_output old)
    (range : table_range new ≡ table_range old) (covers : Covers plan place old new)
    (visits : Visits plan place old new out) where
  pub reached-more : Appends now later out → Reached case n base now old → Reached case (n + 1) base later new
  reached-more sent (sc, wo, table, first, met, has, are, appended) =
      let told = visits first met has in (
        same ∙ sc,
        output ∙ wo,
        table-more case n place plan old new is at sc range covers table,
        first,
        met ++ told.0,
        told.2,
        changes-more case n place plan old met told.0 is at sc are told.1,
        subst (Appends base later) (text-more case.head (rows_text first met) out _ told.3)
            (Appends-trans base now later (case.head ++ rows_text first met) out appended sent),
      )

  pub stops-writing : (all : ℕ) → n < all → AppendsFront now later out → Reached case n base now old
      → Writes case all base later CannotWrite
  stops-writing all l sent (sc, wo, table, first, met, has, are, appended) =
      let told = visits first met has in (
        n + 1,
        omega arith,
        (
          first,
          met ++ told.0,
          are-of case.with_output case.sc case.plan case.from (n + 1) new first (met ++ told.0) (same ∙ sc) (output
              ∙ wo) told.2 (changes-more case n place plan old met told.0 is at sc are told.1),
          inl (subst (AppendsFront base later) (text-more case.head (rows_text first met) out _ told.3)
              (front-next base now later (case.head ++ rows_text first met) out appended sent)),
        ),
      )

-- ---- where it stops

pub stops-short : (case : Case) (n all : ℕ) (base now : Option (List ℕ)) (sweep : Sweep) → n ≤ all
    → Reached case n base now sweep → Writes case all base now NoMemory
stops-short case n all base now sweep l (sc, wo, table, first, met, has, are, appended) =
    inr (
      n,
      l,
      (
        first,
        met,
        are-of case.with_output case.sc case.plan case.from n sweep first met sc wo has are,
        appended,
      ),
    )

-- what ends a table of what a sweep has met
abbrev pub EndsTable : Sweep → List ℕ → Type 0
EndsTable sweep out =
    (first : List ℕ) (met : List Met) → HasMet sweep first met
    → table_text first met (sides_told sweep) ≡ rows_text first met ++ out

told-by : (case : Case) (n : ℕ) (sweep : Sweep) → scenario_of sweep ≡ case.sc
    → HasTable case (changes_from case.sc case.plan case.from n) sweep → TellsSidesOf case n (sides_told sweep)
told-by case n sweep sc has =
    transport (λ i. TellsSides (sc i) (changes_from case.sc case.plan case.from n) (has.range i) (sides_told sweep))
    (table_of sweep, has.covered, refl)

pub writes-all : (case : Case) (n : ℕ) (base now later : Option (List ℕ)) (sweep : Sweep) (out : List ℕ)
    → EndsTable sweep out → Appends now later out
    → Reached case n base now sweep → WritesTable case n base later
writes-all case n base now later sweep out ends sent (sc, wo, table, first, met, has, are, appended) = (
  first,
  met,
  are-of case.with_output case.sc case.plan case.from n sweep first met sc wo has are,
  sides_told sweep,
  told-by case n sweep sc table,
  subst (Appends base later) (text-more case.head (rows_text first met) out _ (ends first met has))
      (Appends-trans base now later (case.head ++ rows_text first met) out appended sent),
)

pub stops-ending : (case : Case) (n : ℕ) (base now later : Option (List ℕ)) (sweep : Sweep) (out : List ℕ)
    → EndsTable sweep out → AppendsFront now later out
    → Reached case n base now sweep → Writes case n base later CannotWrite
stops-ending case n base now later sweep out ends sent (sc, wo, table, first, met, has, are, appended) = (
  n,
  omega arith,
  (
    first,
    met,
    are-of case.with_output case.sc case.plan case.from n sweep first met sc wo has are,
    inr (
      refl,
      sides_told sweep,
      told-by case n sweep sc table,
      subst (AppendsFront base later) (text-more case.head (rows_text first met) out _ (ends first met has))
          (front-next base now later (case.head ++ rows_text first met) out appended sent),
    ),
  ),
)

-- ---- where it begins

pub reached-first : (case : Case) (base now : Option (List ℕ)) (sweep : Sweep) (out : List ℕ)
    → scenario_of sweep ≡ case.sc → tells_output sweep ≡ case.with_output → HasTable case [] sweep
    → (first : List ℕ) × HasMet sweep first [] × (out ≡ case.head ++ rows_text first []) → Appends base now out
    → Reached case 0 base now sweep
unfolding changes_from
reached-first case base now sweep out sc wo table (first, has, is) sent =
    (sc, wo, table, first, [], has, refl, subst (Appends base now) is sent)

pub stops-beginning : (case : Case) (all : ℕ) (base now : Option (List ℕ)) (sweep : Sweep) (out : List ℕ)
    → scenario_of sweep ≡ case.sc → tells_output sweep ≡ case.with_output
    → (first : List ℕ) × HasMet sweep first [] × (out ≡ case.head ++ rows_text first []) → AppendsFront base now out
    → Writes case all base now CannotWrite
unfolding changes_from
stops-beginning case all base now sweep out sc wo (first, has, is) sent = (
  0,
  omega arith,
  (
    first,
    [],
    are-of case.with_output case.sc case.plan case.from 0 sweep first [] sc wo has refl,
    inl (subst (AppendsFront base now) is sent),
  ),
)

-- what holds of the end of a result
pub end-by : {T : Type 0} (r : Result T End) (P : End → Type 0) → OnOk r (P Done) → IfErr r P → P (end_of r)
end-by (Ok x) P ok err = ok
end-by (Err e) P ok err = err
