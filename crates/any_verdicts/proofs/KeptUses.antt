-- The groups of errors show whether one of the errors is a use, other than that of a write of undefined bytes.
use Rattle.std.proofs.Common.{◌≡◌, ℕ, ◌&&◌, not, Bool, true, false, cond, refl, ap, ◌∙◌, List, [], ◌∷◌, Option}
use Rattle.std.proofs.Common.{Some, None}
use Rattle.std.proofs.Common.{find}
use Rattle.std.specs.Option.{option_map}
use Rattle.std.specs.Str.{bytes_eq}
use Rattle.std.proofs.lemmas.Bool.{and_parts}
use Rattle.error_events.specs.Groups.{group_of, grouped, same_fault, same_kind}
use Rattle.error_events.specs.Parameters.{parameter_text}
use Rattle.error_events.specs.declared.event.Event.{Event}
use Rattle.error_events.specs.declared.event.Group.{Group}
use Rattle.error_events.specs.declared.kind.Kind.{Kind}
use Rattle.error_events.specs.declared.kind.Kind.TheVariants.{Cond, Free, Jump, Param, Read, Value, Write}
use Rattle.error_events.specs.declared.kind.ParameterFault.{ParameterFault}
use Rattle.error_events.specs.declared.kind.ParameterFault.TheVariants.{Contains, Unaddressable, Uninit}
use Rattle.error_events.specs.declared.parameter.Parameter.{Parameter}
use Rattle.error_events.specs.declared.parameter.Parameter.TheVariants.{WriteBuffer}
use Rattle.clean_reports.specs.Uses.{NoUse, is_use}
use Rattle.clean_reports.proofs.Groups.{first-group, kinds}
use Rattle.any_runs.specs.Echoes.{echo_of, is_echo, kept}
use Rattle.any_verdicts.specs.Verdicts.{IsFirstKept, first_kept_use, is_kept_use}

-- parameters with one text are both the buffer of a write or neither
writes : (p q : Parameter) → bytes_eq (parameter_text p) (parameter_text q) ≡ true
    → echo_of Uninit p ≡ echo_of Uninit q
writes WriteBuffer WriteBuffer e = refl
writes WriteBuffer _ e = cc
writes _ WriteBuffer e = cc
writes _ _ e = refl

faults : (p q : Parameter) (f g : ParameterFault) → bytes_eq (parameter_text p) (parameter_text q) ≡ true
    → same_fault f g ≡ true → echo_of f p ≡ echo_of g q
faults p q Contains Contains e s = refl
faults p q Uninit Uninit e s = writes p q e
faults p q Unaddressable Unaddressable e s = refl
faults p q _ _ e s = cc

echoes : (k l : Kind) → same_kind k l ≡ true → is_echo k ≡ is_echo l
echoes (Read m) (Read n) e = refl
echoes (Write m) (Write n) e = refl
echoes Value Value e = refl
echoes Cond Cond e = refl
echoes (Param p f) (Param q g) e =
    let parts = and_parts (bytes_eq (parameter_text p) (parameter_text q)) (same_fault f g) e in
    faults p q f g parts.0 parts.1
echoes Free Free e = refl
echoes Jump Jump e = refl
echoes _ _ e = cc

alike : (k l : Kind) → same_kind k l ≡ true → is_kept_use k ≡ is_kept_use l
alike k l e = λ i. kinds k l e i && not (echoes k l e i)

group-first : (es : List Event)
    → find (λ g. is_kept_use g.kind) (grouped es) ≡ option_map (group_of es) (first_kept_use es)
group-first es = first-group is_kept_use alike es

none-kept : (es : List Event) → first_kept_use es ≡ None → NoUse (kept es)
unfolding kept
none-kept [] e = tt
none-kept (x ∷ xs) e = go (is_use x.kind) (is_echo x.kind) refl refl (none-kept xs) e
  where
    go : (u b : Bool) → is_use x.kind ≡ u → is_echo x.kind ≡ b → (first_kept_use xs ≡ None → NoUse (kept xs))
        → cond (u && not b) (Some x) (first_kept_use xs) ≡ None → NoUse (cond b (kept xs) (x ∷ kept xs))
    go true true used echo rest e = rest e
    go true false used echo rest e = cc
    go false true used echo rest e = rest e
    go false false used echo rest e = (used, rest e)

-- no group is of such a use where no error is one
pub no-kept-use : (gs : List Group) (es : List Event) → gs ≡ grouped es → None ≡ find (λ g. is_kept_use g.kind) gs
    → NoUse (kept es)
no-kept-use gs es is none =
    none-kept es (go (first_kept_use es) (none ∙ ap (find (λ g. is_kept_use g.kind)) is ∙ group-first es))
  where
    go : (o : Option Event) → None ≡ option_map (group_of es) o → o ≡ None
    go None e = refl
    go (Some x) e = cc

-- the first group of one is that of the first one
pub found-kept-use : (gs : List Group) (es : List Event) (step : ℕ) (group : Group) → gs ≡ grouped es
    → Some group ≡ find (λ g. is_kept_use g.kind) gs
    → IsFirstKept es step (record { step = step; kind = group.kind; trace = group.trace })
unfolding group_of
found-kept-use gs es step group is some =
    go (first_kept_use es) refl (some ∙ ap (find (λ g. is_kept_use g.kind)) is ∙ group-first es)
  where
    go : (o : Option Event) → first_kept_use es ≡ o → ◌≡◌ {A = Option Group} (Some group) (option_map (group_of es) o)
        → IsFirstKept es step (record { step = step; kind = group.kind; trace = group.trace })
    go None at e = cc
    go (Some event) at e =
        let same : group ≡ group_of es event = cc in
        record {
          event = event;
          first = at;
          at = refl;
          kind = ap (λ (g : Group). g.kind) same;
          trace = ap (λ (g : Group). g.trace) same;
        }
