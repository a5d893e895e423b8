-- The search for the step that raises the first use, by halving.
use Rattle.std.proofs.Common.{◌≡◌, ℕ, suc, ◌-◌, ◌*◌, ◌/◌, ◌<◌, ◌≤◌, ◌↔◌, Bool, true, false, refl, sym}
use Rattle.std.proofs.Common.{ap, ◌∙◌}
use Rattle.std.proofs.Common.{arith, subst, List, inl, inr, IsTrue}
use Rattle.std.proofs.lemmas.Bool.{cases_lt, false≢true}
use Rattle.checkpoints.specs.Trails.{IsRightFor, is_short, last_held, loaded_of, spacing_of}
use Rattle.checkpoints.proofs.SpacingSteps.{apart as distance, place-low, up}
use Rattle.checkpoints.specs.Work.{reached}
use Rattle.checkpoints.specs.declared.trail.Trail.{Trail}
use Rattle.guest_machine.specs.Run.{post, pre}
use Rattle.guest_machine.specs.State.{State}
use Rattle.guest_machine.specs.declared.setup.Setup.{Setup}
use Rattle.run_values.specs.declared.alteration.Alteration.{Alteration}
use Rattle.clean_reports.specs.Uses.{NoUse}
use Rattle.clean_reports.specs.Verdicts.{RaisesFirstUse}
use Rattle.clean_reports.proofs.Runs.{marks-events}

-- the errors after a step's marks are those before them
pub marked-events : (start : State) (setup : Setup) (marks : List Alteration) (k : ℕ)
    → (post start setup marks k).events ≡ (pre start setup marks k).events
unfolding post
marked-events start setup marks k = marks-events k marks (pre start setup marks k)

-- a trail is as right as it was
abbrev pub StaysRight : Setup → List Alteration → Trail → Trail → Type 0
StaysRight setup marks old new =
    (start : State) → IsRightFor old start setup marks → IsRightFor new start setup marks

-- no error up to step clean is a use, and some error up to step used is one, of those up to step end
pub record Halves (setup : Setup) (marks : List Alteration) (old new : Trail) (end clean used : ℕ) : Type 0 where
  pub order : clean ≤ used
  pub within : used ≤ end
  pub right : StaysRight setup marks old new
  pub front : (start : State) → IsRightFor old start setup marks → NoUse start.events
      → NoUse (post start setup marks clean).events
  pub back : (start : State) → IsRightFor old start setup marks → (NoUse (post start setup marks end).events → ⊥)
      → NoUse (post start setup marks used).events → ⊥
  pub held : reached (spacing_of old) (last_held old) end ≡ last_held old → last_held new ≡ last_held old
  pub short : is_short new ≡ is_short old
  pub loaded : loaded_of new ≡ loaded_of old
  pub spacing : spacing_of new ≡ spacing_of old

pub begins : (setup : Setup) (marks : List Alteration) (trail : Trail) (end : ℕ)
    → Halves setup marks trail trail end 0 end
unfolding pre
begins setup marks trail end = record {
  order = omega arith;
  within = omega arith;
  right = λ start r. r;
  front = λ start r none. subst NoUse (sym (marked-events start setup marks 0)) none;
  back = λ start r some none. some none;
  held = λ h. refl;
  short = refl;
  loaded = refl;
  spacing = refl;
}

-- a machine is held as far as the end, so for an earlier step no more is
no-further : (s last end middle : ℕ) → 0 < s → middle ≤ end → reached s last end ≡ last → reached s last middle ≡ last
no-further s last end middle pos h e = omega (arith, e, up s (middle / s) (end / s) (place-low s middle end pos h))

-- what a look at a step in the middle leaves
pub record Tells (setup : Setup) (marks : List Alteration) (old new : Trail) (middle : ℕ) (clean : Bool) : Type 0 where
  pub tells : (start : State) → IsRightFor old start setup marks
      → IsTrue clean ↔ NoUse (post start setup marks middle).events
  pub right : StaysRight setup marks old new
  pub held : last_held new ≡ reached (spacing_of old) (last_held old) middle
  pub short : is_short new ≡ is_short old
  pub loaded : loaded_of new ≡ loaded_of old
  pub spacing : spacing_of new ≡ spacing_of old

module _ (setup : Setup) (marks : List Alteration) (old now new : Trail) (end clean used middle : ℕ) (b : Bool)
    (h : Halves setup marks old now end clean used) (t : Tells setup marks now new middle b) (low : clean ≤ middle)
    (high : middle ≤ used) where
  held-on : reached (spacing_of old) (last_held old) end ≡ last_held old → last_held new ≡ last_held old
  held-on e =
      let was = h.held e in
      let within = h.within in
      t.held ∙ ap (λ s. reached s (last_held now) middle) h.spacing
      ∙ ap (λ last. reached (spacing_of old) last middle) was
      ∙ no-further (spacing_of old) (last_held old) end middle (distance old) (omega arith) e

  pub after-clean : b ≡ true → Halves setup marks old new end middle used
  after-clean is = record {
    order = high;
    within = h.within;
    right = λ start r. t.right start (h.right start r);
    front = λ start r none. (t.tells start (h.right start r)).0 is;
    back = h.back;
    held = held-on;
    short = t.short ∙ h.short;
    loaded = t.loaded ∙ h.loaded;
    spacing = t.spacing ∙ h.spacing;
  }

  pub after-used : b ≡ false → Halves setup marks old new end clean middle
  after-used is =
      let within = h.within in
      record {
        order = low;
        within = omega arith;
        right = λ start r. t.right start (h.right start r);
        front = h.front;
        back = λ start r some none. false≢true (sym is ∙ (t.tells start (h.right start r)).1 none);
        held = held-on;
        short = t.short ∙ h.short;
        loaded = t.loaded ∙ h.loaded;
        spacing = t.spacing ∙ h.spacing;
      }

-- where the two are one step apart, that step raises the first use
module _ (setup : Setup) (marks : List Alteration) (old new : Trail) (end clean used : ℕ)
    (h : Halves setup marks old new end clean used) (near : used - clean ≤ 1) (start : State)
    (r : IsRightFor old start setup marks) (none : NoUse start.events)
    (some : NoUse (post start setup marks end).events → ⊥) where
  apart : suc clean ≡ used
  apart = elim (cases_lt clean used) [
    | inl below ↦ omega (arith, near, below)
    | inr over ↦
        let same : clean ≡ used = (let order = h.order in omega arith) in
        absurd (h.back start r some (subst (λ k. NoUse (post start setup marks k).events) same (h.front start r none)))
  ]

  pub raises : RaisesFirstUse start setup marks clean
  raises = record {
    before = subst NoUse (marked-events start setup marks clean) (h.front start r none);
    after = λ clear. h.back start r some (subst (λ k. NoUse (post start setup marks k).events) apart
        (subst NoUse (sym (marked-events start setup marks (suc clean))) clear));
  }

  pub below-end : clean < end
  below-end = let at = apart in let within = h.within in omega arith
