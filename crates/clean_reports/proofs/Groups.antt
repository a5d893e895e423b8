-- The groups of errors show whether one of the errors is a use, and which is the first.
use Rattle.std.proofs.Common.{◌≡◌, ℕ, ◌↔◌, Bool, true, false, cond, refl, sym, ap, ◌∙◌, inl, inr}
use Rattle.std.proofs.Common.{List, [], ◌∷◌, ◌++◌, map, Option, Some, None, slice_get, take, get_or, length, ◌+◌, ◌<◌}
use Rattle.std.proofs.Common.{zero, suc, arith}
use Rattle.std.specs.List.{find, list_any}
use Rattle.std.specs.Option.{option_map}
use Rattle.std.specs.Prelude.{IsTrue, is_none}
use Rattle.std.specs.Str.{bytes_eq}
use Rattle.std.proofs.lemmas.Bool.{or_cases, or_parts, or_from, and_parts, false≢true}
use Rattle.std.proofs.lemmas.Option.{slice_get_within, get_or_from_slice_get}
use Rattle.std.proofs.lemmas.List.Folds.{list_any_more}
use Rattle.error_events.specs.Parameters.{parameter_text}
use Rattle.error_events.specs.Groups.{same_kind, same_fault, same_key, same_trace, firsts_after, group_of, grouped}
use Rattle.error_events.specs.declared.event.Event.{Event}
use Rattle.error_events.specs.declared.event.Group.{Group}
use Rattle.error_events.specs.declared.kind.Kind.{Kind}
use Rattle.error_events.specs.declared.kind.Kind.TheVariants.{Read, Write, Value, Cond, Param, Free, Jump}
use Rattle.error_events.specs.declared.kind.ParameterFault.{ParameterFault}
use Rattle.error_events.specs.declared.kind.ParameterFault.TheVariants.{Contains, Uninit, Unaddressable}
use Rattle.error_events.specs.declared.parameter.Parameter.{Parameter}
use Rattle.error_events.specs.declared.parameter.Parameter.TheVariants.{ReadBuffer}
use Rattle.clean_reports.specs.Uses.{NoUse, is_use, fault_is_use, first_use}

-- parameters with one text are both filled or neither
fills : (p q : Parameter) → bytes_eq (parameter_text p) (parameter_text q) ≡ true
    → fault_is_use p Unaddressable ≡ fault_is_use q Unaddressable
fills ReadBuffer ReadBuffer e = refl
fills ReadBuffer _ e = cc
fills _ ReadBuffer e = cc
fills _ _ e = refl

faults : (p q : Parameter) (f g : ParameterFault) → bytes_eq (parameter_text p) (parameter_text q) ≡ true
    → same_fault f g ≡ true → fault_is_use p f ≡ fault_is_use q g
faults p q Contains Contains e s = refl
faults p q Uninit Uninit e s = refl
faults p q Unaddressable Unaddressable e s = fills p q e
faults p q _ _ e s = cc

-- errors with one key are both uses or neither
pub kinds : (k l : Kind) → same_kind k l ≡ true → is_use k ≡ is_use l
kinds (Read m) (Read n) e = refl
kinds (Write m) (Write n) e = refl
kinds Value Value e = refl
kinds Cond Cond e = refl
kinds (Param p f) (Param q g) e =
    let parts = and_parts (bytes_eq (parameter_text p) (parameter_text q)) (same_fault f g) e in
    faults p q f g parts.0 parts.1
kinds Free Free e = refl
kinds Jump Jump e = refl
kinds _ _ e = cc

-- what counts of errors, where errors with one key both count or neither does
module _ (counts : Kind → Bool) (alike : (k l : Kind) → same_kind k l ≡ true → counts k ≡ counts l) where
  abbrev NoneCounts : List Event → Type 0
  NoneCounts [] = Unit {0}
  NoneCounts (e ∷ es) = (counts e.kind ≡ false) × NoneCounts es

  abbrev first_of : List Event → Option Event
  first_of es = find (λ e. counts e.kind) es

  keys : (d e : Event) → same_key d e ≡ true → counts d.kind ≡ counts e.kind
  unfolding same_key
  keys d e same = alike d.kind e.kind (and_parts (same_kind d.kind e.kind) (same_trace d.trace e.trace) same).0

  -- an error doesn't count where an earlier one of its key doesn't
  seen : (ds : List Event) (e : Event) → NoneCounts ds → list_any (λ d. same_key d e) ds ≡ true
      → counts e.kind ≡ false
  seen [] e none any = cc
  seen (d ∷ ds) e none any =
      elim (or_cases (same_key d e) (list_any (λ d. same_key d e) ds) any) [
        | inl here ↦ sym (keys d e here) ∙ none.0
        | inr later ↦ seen ds e none.1 later
      ]

  joined : (xs ys : List Event) → NoneCounts xs → NoneCounts ys → NoneCounts (xs ++ ys)
  joined [] ys p q = q
  joined (x ∷ xs) ys p q = (p.0, joined xs ys p.1 q)

  -- the first that counts among all errors is the first one among the first of each key
  first-of-firsts : (ds es : List Event) → NoneCounts ds → first_of (firsts_after ds es) ≡ first_of es
  unfolding firsts_after
  first-of-firsts ds [] before = refl
  first-of-firsts ds (e ∷ es) before =
      go (counts e.kind) (list_any (λ d. same_key d e) ds) refl refl (first-of-firsts ds es before)
      (λ more. first-of-firsts (ds ++ e ∷ []) es (joined ds (e ∷ []) before more))
    where
      go : (u b : Bool) → counts e.kind ≡ u → list_any (λ d. same_key d e) ds ≡ b
          → first_of (firsts_after ds es) ≡ first_of es
          → (NoneCounts (e ∷ []) → first_of (firsts_after (ds ++ e ∷ []) es) ≡ first_of es)
          → first_of (cond b (firsts_after ds es) (e ∷ firsts_after (ds ++ e ∷ []) es)) ≡ cond u (Some e) (first_of es)
      go true true used any same more = absurd (false≢true (sym (seen ds e before any) ∙ used))
      go true false used any same more = ap (λ t. cond t (Some e) (first_of (firsts_after (ds ++ e ∷ []) es))) used
      go false true used any same more = same
      go false false used any same more =
          ap (λ t. cond t (Some e) (first_of (firsts_after (ds ++ e ∷ []) es))) used ∙ more (used, tt)

  -- and so it is of their groups
  first-of-groups : (all es : List Event)
      → find (λ g. counts g.kind) (map (group_of all) es) ≡ option_map (group_of all) (first_of es)
  unfolding group_of
  first-of-groups all [] = refl
  first-of-groups all (e ∷ es) = go (counts e.kind) (first-of-groups all es)
    where
      go : (u : Bool)
          → find (λ g. counts g.kind) (map (group_of all) es) ≡ option_map (group_of all) (first_of es)
          → cond u (Some (group_of all e)) (find (λ g. counts g.kind) (map (group_of all) es))
          ≡ option_map (group_of all) (cond u (Some e) (first_of es))
      go true rest = refl
      go false rest = rest

  pub first-group : (es : List Event) → find (λ g. counts g.kind) (grouped es) ≡ option_map (group_of es) (first_of es)
  unfolding grouped
  first-group es = first-of-groups es (firsts_after [] es) ∙ ap (option_map (group_of es)) (first-of-firsts [] es tt)

-- no error is a use where there is no first use
no-first : (es : List Event) → first_use es ≡ None → NoUse es
no-first [] e = tt
no-first (x ∷ xs) e = go (is_use x.kind) refl (no-first xs) e
  where
    go : (u : Bool) → is_use x.kind ≡ u → (first_use xs ≡ None → NoUse xs)
        → cond u (Some x) (first_use xs) ≡ None → NoUse (x ∷ xs)
    go true used rest e = cc
    go false used rest e = (used, rest e)

none-first : (es : List Event) → NoUse es → first_use es ≡ None
none-first [] none = refl
none-first (x ∷ xs) none = ap (λ u. cond u (Some x) (first_use xs)) none.0 ∙ none-first xs none.1

-- a machine's groups have no use where none of its errors is one
pub none-is-use : (gs : List Group) (es : List Event) → gs ≡ grouped es → (first : Option Group)
    → first ≡ find (λ g. is_use g.kind) gs → IsTrue (is_none first) ↔ NoUse es
none-is-use gs es is first found =
    let same : first ≡ option_map (group_of es) (first_use es) =
    found ∙ ap (find (λ g. is_use g.kind)) is ∙ first-group is_use kinds es in (
      λ clean. no-first es (unmapped (first_use es) (ap is_none (sym same) ∙ clean)),
      λ none. ap is_none (same ∙ ap (option_map (group_of es)) (none-first es none)),
    )
  where
    unmapped : (o : Option Event) → is_none (option_map (group_of es) o) ≡ true → o ≡ None
    unmapped None e = refl
    unmapped (Some x) e = cc

-- a loop over groups --

module _ (counts : Kind → Bool) where
  pub found : (gs : List Group) (i : ℕ) (g : Group) → slice_get gs i ≡ Some g → counts g.kind ≡ true
      → list_any (λ g. counts g.kind) (take i gs) ≡ false → find (λ g. counts g.kind) gs ≡ Some g
  found [] i g at used before = cc
  found (x ∷ xs) zero g at used before =
      let same : x ≡ g = cc in
      ap (λ (u : Bool). cond u (Some x) (find (λ g. counts g.kind) xs)) (ap (λ (y : Group). counts y.kind) same ∙ used)
      ∙ ap Some same
  found (x ∷ xs) (suc i) g at used before =
      let parts = or_parts (counts x.kind) (list_any (λ g. counts g.kind) (take i xs)) before in
      ap (λ (u : Bool). cond u (Some x) (find (λ g. counts g.kind) xs)) parts.0 ∙ found xs i g at used parts.1

  pub found-none : (gs : List Group) → list_any (λ g. counts g.kind) gs ≡ false → find (λ g. counts g.kind) gs ≡ None
  found-none [] none = refl
  found-none (x ∷ xs) none =
      let parts = or_parts (counts x.kind) (list_any (λ g. counts g.kind) xs) none in
      ap (λ (u : Bool). cond u (Some x) (find (λ g. counts g.kind) xs)) parts.0 ∙ found-none xs parts.1

  pub passed : (gs : List Group) (i : ℕ) (g : Group) → slice_get gs i ≡ Some g → counts g.kind ≡ false
      → list_any (λ g. counts g.kind) (take i gs) ≡ false → list_any (λ g. counts g.kind) (take (i + 1) gs) ≡ false
  passed gs i g at clean before =
      list_any_more (λ g. counts g.kind) gs i g (slice_get_within gs i g at)
      ∙ or_from (list_any (λ g. counts g.kind) (take i gs)) (counts (get_or gs i g).kind) before
      (ap (λ (x : Group). counts x.kind) (get_or_from_slice_get gs i g g at) ∙ clean)

pub past : (gs : List Group) (i : ℕ) → i < length gs → slice_get gs i ≡ None → ⊥
past [] i h none = omega (arith, h)
past (g ∷ gs) zero h none = cc
past (g ∷ gs) (suc i) h none = past gs i (let k : suc i < suc (length gs) = h in omega arith) none
