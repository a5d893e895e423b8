-- The walk over a pattern and items that goes back to the last star: what it keeps, and how each of its steps keeps it.
use Rattle.std.proofs.Common.{◌≡◌, ℕ, zero, suc, ◌+◌, ◌-◌, ◌*◌, ◌<◌, ◌≤◌, ◌⊎◌, inl, inr, List, [], ◌∷◌, length, drop}
use Rattle.std.proofs.Common.{Option, Some, None, Bool, true, false, IsTrue, sym, ap, ◌∙◌, arith}
use Rattle.std.proofs.lemmas.List.{drop-drop, drop_all}
use Rattle.std.proofs.lemmas.Bool.{cases_lt}
use Rattle.std.proofs.lemmas.Nat.{mul-add-lt}
use Rattle.std.proofs.Math.Nat.{mul-le-mul_right, mul_comm}
use Rattle.suppressions.specs.Fitting.{FitsPieces, FitsFront, IsStar, IsSingle, StandsAt}
use Rattle.suppressions.proofs.FittingSteps.{stands_within, some_stands, star_takes, some_taken, single_rest}
use Rattle.suppressions.proofs.FittingSteps.{single_first, one_more, end_open, end_closed, none_left, none_whole}

-- the last star was met at `from`, just before `star`; what lies between there and here takes as many items wherever it
-- fits
pub record Resumes {P X : Type 0} (Front : List P → List X
    → Type 0) (p : List P) (t : List X) (at place star from : ℕ) : Type 0 where
  pub behind : star ≤ at
  pub level : from + at ≡ star + place
  pub whole : (k : ℕ) → Front (drop star p) (drop (from + k) t) → Front p t
  pub between : (u : List X) → Front (drop star p) u → Front (drop at p) (drop (at - star) u)

abbrev pub CanResume : {P X : Type 0} → (List P → List X → Type 0) → List P → List X → ℕ → ℕ → Option (ℕ × ℕ) → Type 0
CanResume Front p t at place None = Unit {0}
CanResume Front p t at place (Some back) = Resumes Front p t at place back.0 back.1

-- the last star takes another item, or more than one
abbrev pub FitsLater : {P X : Type 0} → (List P → List X → Type 0) → List P → List X → Option (ℕ × ℕ) → Type 0
FitsLater Front p t None = ⊥
FitsLater Front p t (Some back) = (k : ℕ) × Front (drop back.0 p) (drop (back.1 + 1 + k) t)

-- the items fit the pattern exactly where the rest fits from here, or where the last star takes more
pub record Walk {P X : Type 0} (Front : List P → List X → Type 0) (p : List P) (t : List X) (at place : ℕ)
    (back : Option (ℕ × ℕ)) : Type 0 where
  pub in_pattern : at ≤ length p
  pub in_items : place ≤ length t
  pub sound : Front (drop at p) (drop place t) → Front p t
  pub complete : Front p t → Front (drop at p) (drop place t) ⊎ FitsLater Front p t back
  pub resume : CanResume Front p t at place back

-- where the last star was met
abbrev pub last_star : Option (ℕ × ℕ) → ℕ
last_star None = 0
last_star (Some back) = back.1

module _ {P X : Type 0} (Fits : P → List X → Type 0) (may_go_on : Bool) (p : List P) (t : List X) where
  abbrev Front : List P → List X → Type 0
  Front ps xs = FitsFront Fits may_go_on ps xs

  pub walk_begins : Walk Front p t 0 0 None
  walk_begins = record {
    in_pattern = omega arith;
    in_items = omega arith;
    sound = λ h. h;
    complete = λ h. inl h;
    resume = tt;
  }

  -- where the last star takes more, what is left of the pattern fits further on
  further : (at place star from k : ℕ) → Resumes Front p t at place star from
      → Front (drop star p) (drop (from + 1 + k) t) → Front (drop at p) (drop (place + 1 + k) t)
  further at place star from k r h =
      let far : drop (at - star) (drop (from + 1 + k) t) ≡ drop (place + 1 + k) t =
      drop-drop (at - star) (from + 1 + k) t ∙ ap (λ n. drop n t) (omega (arith, r.behind, r.level)) in
      rw far at (r.between (drop (from + 1 + k) t) h)

  -- a star
  pub walk_star : (q : P) (at place : ℕ) (back : Option (ℕ × ℕ)) → StandsAt p at q → IsStar Fits q
      → Walk Front p t at place back → Walk Front p t (at + 1) place (Some (at + 1, place))
  walk_star q at place back here star w =
      let lt = stands_within p at q here in
      record {
        in_pattern = omega arith;
        in_items = w.in_items;
        sound = λ h. w.sound (rw here (star_takes Fits may_go_on 0 q (drop (at + 1) p) (drop place t) star h));
        complete = λ h. split back w.resume (w.complete h);
        resume = record {
          behind = omega arith;
          level = omega arith;
          whole =
              λ k h. w.sound (rw here (star_takes Fits may_go_on k q (drop (at + 1) p) (drop place t) star
              (rw (after k) h)));
          between = λ u h. let none : at + 1 - (at + 1) ≡ 0 = omega arith in rw none h;
        };
      }
    where
      after : (k : ℕ) → drop k (drop place t) ≡ drop (place + k) t
      after k = drop-drop k place t

      taken : (k : ℕ) → Front (drop at p) (drop k t) → (j : ℕ) × Front (drop (at + 1) p) (drop (k + j) t)
      taken k h =
          let some = some_taken Fits may_go_on q (drop (at + 1) p) (drop k t) (rw here at h) in
          let far : drop some.0 (drop k t) ≡ drop (k + some.0) t = drop-drop some.0 k t in
          (some.0, rw far at some.1)

      first : (j : ℕ) → Front (drop (at + 1) p) (drop (place + j) t)
          → Front (drop (at + 1) p) (drop place t) ⊎ FitsLater Front p t (Some (at + 1, place))
      first zero f = let none : place + 0 ≡ place = omega arith in inl (rw none at f)
      first (suc j) f = let one : place + suc j ≡ place + 1 + j = omega arith in inr (j, rw one at f)

      split : (back : Option (ℕ × ℕ)) → CanResume Front p t at place back
          → Front (drop at p) (drop place t) ⊎ FitsLater Front p t back
          → Front (drop (at + 1) p) (drop place t) ⊎ FitsLater Front p t (Some (at + 1, place))
      split back r (inl h) = let some = taken place h in first some.0 some.1
      split None r (inr h) = absurd h
      split (Some back) r (inr h) =
          let some = taken (place + 1 + h.0) (further at place back.0 back.1 h.0 r h.1) in
          let far : place + 1 + h.0 + some.0 ≡ place + 1 + (h.0 + some.0) = omega arith in
          inr (h.0 + some.0, rw far at some.1)

  -- a piece that fits the item
  pub walk_one : (q : P) (x : X) (at place : ℕ) (back : Option (ℕ × ℕ)) → StandsAt p at q → StandsAt t place x
      → IsSingle Fits q → Fits q (x ∷ [])
      → Walk Front p t at place back → Walk Front p t (at + 1) (place + 1) back
  walk_one q x at place back here item single fits w =
      let lt = stands_within p at q here in
      let lt' = stands_within t place x item in
      record {
        in_pattern = omega arith;
        in_items = omega arith;
        sound =
            λ h. w.sound (rw (here, item) (one_more Fits may_go_on q x (drop (at + 1) p) (drop (place + 1) t) fits h));
        complete = λ h. on_here (w.complete h);
        resume = kept back w.resume;
      }
    where
      rest : (u : List X) → Front (drop at p) u → Front (drop (at + 1) p) (drop 1 u)
      rest u h = single_rest Fits may_go_on q (drop (at + 1) p) u single (rw here at h)

      on_here : Front (drop at p) (drop place t) ⊎ FitsLater Front p t back
          → Front (drop (at + 1) p) (drop (place + 1) t) ⊎ FitsLater Front p t back
      on_here (inl h) = inl (rw (drop-drop 1 place t) at (rest (drop place t) h))
      on_here (inr h) = inr h

      kept : (back : Option (ℕ × ℕ)) → CanResume Front p t at place back → CanResume Front p t (at + 1) (place + 1) back
      kept None r = tt
      kept (Some back) r = record {
        behind = omega (arith, r.behind);
        level = omega (arith, r.level);
        whole = r.whole;
        between = λ u h.
            let one : drop 1 (drop (at - back.0) u) ≡ drop (at + 1 - back.0) u = drop-drop 1 (at - back.0) u
            ∙ ap (λ n. drop n u) (omega (arith, r.behind)) in
            rw one at (rest (drop (at - back.0) u) (r.between u h));
      }

  -- back to the last star, which takes another item
  pub walk_back : (at place star from : ℕ) → place < length t → (Front (drop at p) (drop place t) → ⊥)
      → Walk Front p t at place (Some (star, from))
      → Walk Front p t star (from + 1) (Some (star, from + 1))
  walk_back at place star from lt unfit w =
      let r = w.resume in
      record {
        in_pattern = omega (arith, r.behind, w.in_pattern);
        in_items = omega (arith, r.behind, r.level);
        sound = λ h. r.whole 1 h;
        complete = λ h. later (w.complete h);
        resume = record {
          behind = omega arith;
          level = omega arith;
          whole = λ k h. let more : from + 1 + k ≡ from + (1 + k) = omega arith in r.whole (1 + k) (rw more at h);
          between = λ u h. let none : star - star ≡ 0 = omega arith in rw none h;
        };
      }
    where
      first : (k : ℕ) → Front (drop star p) (drop (from + 1 + k) t)
          → Front (drop star p) (drop (from + 1) t) ⊎ FitsLater Front p t (Some (star, from + 1))
      first zero f = let none : from + 1 + 0 ≡ from + 1 = omega arith in inl (rw none at f)
      first (suc k) f = let one : from + 1 + suc k ≡ from + 1 + 1 + k = omega arith in inr (k, rw one at f)

      later : Front (drop at p) (drop place t) ⊎ FitsLater Front p t (Some (star, from))
          → Front (drop star p) (drop (from + 1) t) ⊎ FitsLater Front p t (Some (star, from + 1))
      later (inl h) = absurd (unfit h)
      later (inr h) = first h.0 h.1

  -- no star to go back to
  pub walk_stuck : (at place : ℕ) → (Front (drop at p) (drop place t) → ⊥) → Walk Front p t at place None → Front p t
      → ⊥
  walk_stuck at place unfit w h = stuck (w.complete h)
    where
      stuck : Front (drop at p) (drop place t) ⊎ FitsLater Front p t None → ⊥
      stuck (inl h) = unfit h
      stuck (inr h) = h

  -- nothing fits here: the pattern ends, or its piece doesn't fit the item
  pub nothing_fits : (x : X) (at place : ℕ) → StandsAt t place x → at ≤ length p
      → ((may_go_on ≡ true) × (at ≡ length p → ⊥)) ⊎ (may_go_on ≡ false)
      → ((q : P) → StandsAt p at q → IsSingle Fits q) → (((q : P) × StandsAt p at q × Fits q (x ∷ [])) → ⊥)
      → Front (drop at p) (drop place t) → ⊥
  nothing_fits x at place item within end single unfit h = either (cases_lt at (length p)) end
    where
      either : (at < length p) ⊎ (length p ≤ at) → ((may_go_on ≡ true) × (at ≡ length p → ⊥)) ⊎ (may_go_on ≡ false) → ⊥
      either (inl lt) end =
          let here = some_stands p at lt in
          unfit (
            here.0,
            here.1,
            single_first Fits may_go_on here.0 x (drop (at + 1) p) (drop (place + 1) t)
                (single here.0 here.1) (rw (here.1, item) at h),
          )
      either (inr ge) (inl more) = more.1 (omega arith)
      either (inr ge) (inr closed) =
          let none = end_closed Fits may_go_on (drop place t) closed (rw (drop_all at p ge) at h) in
          absurd (omega (arith, ap length (sym item ∙ none)))

  -- at the pattern's end, where the items may continue
  pub walk_goes_on : (at place : ℕ) (back : Option (ℕ × ℕ)) → length p ≤ at → IsTrue may_go_on
      → Walk Front p t at place back → Front p t
  walk_goes_on at place back ge goes_on w =
      w.sound (rw (drop_all at p ge) (end_open Fits may_go_on (drop place t) goes_on))

  -- at the items' end
  pub walk_ends : (at place : ℕ) (back : Option (ℕ × ℕ)) → length t ≤ place → Walk Front p t at place back
      → (FitsPieces Fits (drop at p) [] → Front p t) × (Front p t → FitsPieces Fits (drop at p) [])
  walk_ends at place back ge w =
      let none : drop place t ≡ [] = drop_all place t ge in (
        λ h. w.sound (rw none (none_whole Fits may_go_on (drop at p) h)),
        λ h. none_left Fits may_go_on (drop at p) (ends back w.resume (w.complete h)),
      )
    where
      ends : (back : Option (ℕ × ℕ)) → CanResume Front p t at place back
          → Front (drop at p) (drop place t) ⊎ FitsLater Front p t back → Front (drop at p) []
      ends back r (inl h) = rw (drop_all place t ge) at h
      ends None r (inr h) = absurd h
      ends (Some back) r (inr h) =
          rw (drop_all (place + 1 + h.0) t (omega arith)) at (further at place back.0 back.1 h.0 r h.1)

-- what is left of the walk falls with each turn: a star, a piece that takes an item, and a step back --

pub falls_star : (n m at place last : ℕ) → at < m → last ≤ place
    → (n - place) * (m + 1) + (m - (at + 1)) < (n - last) * (m + 1) + (m - at)
falls_star n m at place last within later =
    let rest : n - place ≤ n - last = omega arith in
    let rows : (n - place) * (m + 1) ≤ (n - last) * (m + 1) = mul-le-mul_right (m + 1) rest in
    omega arith

pub falls_one : (rest m at : ℕ) → at < m → rest + (m - (at + 1)) < rest + (m - at)
falls_one rest m at within = omega arith

pub falls_back : (n m at star from : ℕ) → from < n
    → (n - (from + 1)) * (m + 1) + (m - star) < (n - from) * (m + 1) + (m - at)
falls_back n m at star from within =
    let rest : n - (from + 1) < n - from = omega arith in
    let piece : m - star < m + 1 = omega arith in
    let row : (n - (from + 1)) * (m + 1) + (m - star) < (m + 1) * (n - from) =
    mul-add-lt (n - (from + 1)) (m + 1) (m - star) (n - from) rest piece in
    let same : (m + 1) * (n - from) ≡ (n - from) * (m + 1) = mul_comm (m + 1) (n - from) in
    omega arith

-- the last star was met at or before where the walk is
pub star_before : {P X : Type 0} (Front : List P → List X → Type 0) (p : List P) (t : List X) (at place : ℕ)
    (back : Option (ℕ × ℕ)) → CanResume Front p t at place back → last_star back ≤ place
star_before Front p t at place None h = omega arith
star_before Front p t at place (Some back) h = let level = h.level in let behind = h.behind in omega arith
