-- The first step that passes a test, and where an edit with such a first effect cuts.
use Rattle.std.proofs.Common.{◌≡◌, ℕ, zero, suc, ◌-◌, ◌*◌, ◌/◌, ◌%◌, ◌<◌, ◌≤◌, Bool, true, false, Option, Some, None}
use Rattle.std.proofs.Common.{refl, ap}
use Rattle.std.proofs.Common.{sym, ◌∙◌, arith, min, max, inl, inr}
use Rattle.std.specs.Prelude.{◌⊎◌, ◌↔◌, Decides}
use Rattle.std.proofs.lemmas.Bool.{cases_lt, false≢true}
use Rattle.checkpoints.specs.FirstEffects.{IsBelowFirst}
use Rattle.checkpoints.specs.Work.{floor, IsFirst, lowered}
use Rattle.checkpoints.proofs.SpacingSteps.{at-place, exact, is-multiple, to-floor}

-- the first of some steps passes a test
abbrev pub IsLeast : (ℕ → Bool) → ℕ → Type 0
IsLeast p f = (p f ≡ true) × ((k : ℕ) → k < f → p k ≡ true → ⊥)

-- of the steps below n none passes a test, or one is the first
abbrev Searched : (ℕ → Bool) → ℕ → Type 0
Searched p n = ((k : ℕ) → k < n → p k ≡ true → ⊥) ⊎ ((f : ℕ) × (f < n) × IsLeast p f)

fails-here : (p : ℕ → Bool) (n k : ℕ) → n ≤ k → k < suc n → p n ≡ false → p k ≡ true → ⊥
fails-here p n k over under fails passes =
    let same : k ≡ n = omega arith in false≢true (sym fails ∙ ap p (sym same) ∙ passes)

searched : (p : ℕ → Bool) (n : ℕ) → Searched p n
searched p zero = inl (λ k l. absurd (omega arith))
searched p (suc n) = more (searched p n) (p n) refl
  where
    more : Searched p n → (b : Bool) → p n ≡ b → Searched p (suc n)
    more (inr found) b e = inr (found.0, omega (arith, found.1), found.2)
    more (inl none) true e = inr (n, omega arith, (e, none))
    more (inl none) false e = inl (λ k l. (elim (cases_lt k n) [
      | inl under ↦ none k under
      | inr over ↦ fails-here p n k over l e
    ]))

-- where some step passes, there is a first one
pub least : (p : ℕ → Bool) (n : ℕ) → p n ≡ true → (f : ℕ) × (f ≤ n) × IsLeast p f
least p n passes = go (searched p (suc n))
  where
    go : Searched p (suc n) → (f : ℕ) × (f ≤ n) × IsLeast p f
    go (inl none) = absurd (none n (omega arith) passes)
    go (inr found) = (found.0, omega (arith, found.1), found.2)

-- a multiple up to a step is up to the greatest multiple up to it
pub lift : (s h k : ℕ) → 0 < s → h % s ≡ 0 → h ≤ k → h ≤ floor s k
lift s h k pos at l =
    let whole : s * (h / s) ≡ h = exact s h at in
    omega (arith, whole, to-floor s (h / s) k pos (omega (arith, whole, l)))

-- the lesser of two multiples
pub lesser : (s m n : ℕ) → m % s ≡ 0 → n % s ≡ 0 → min m n % s ≡ 0
lesser s m n e f = elim (cases_lt m n) [
  | inl low ↦ (let is : min m n ≡ m = omega arith in ap (λ k. k % s) is ∙ e)
  | inr high ↦ (let is : min m n ≡ n = omega arith in ap (λ k. k % s) is ∙ f)
]

pub greater : (s m n : ℕ) → m % s ≡ 0 → n % s ≡ 0 → max m n % s ≡ 0
greater s m n e f = elim (cases_lt m n) [
  | inl low ↦ (let is : max m n ≡ n = omega arith in ap (λ k. k % s) is ∙ f)
  | inr high ↦ (let is : max m n ≡ m = omega arith in ap (λ k. k % s) is ∙ e)
]

-- a test decides a property of steps
abbrev pub DecidesEach : (ℕ → Bool) → (ℕ → Type 0) → Type 0
DecidesEach p P = (k : ℕ) → Decides (p k) (P k)

first-of : (P : ℕ → Type 0) (p : ℕ → Bool) → DecidesEach p P → (f : ℕ) → IsLeast p f → IsFirst P (Some f)
first-of P p d f h = ((d f).0 h.0, λ k l x. h.1 k l ((d k).1 x))

-- after an edit the last held step is where it was, with no effect up to it, or it is lowered by a first effect at or
-- below it
abbrev Cut : ℕ → (ℕ → Type 0) → ℕ → ℕ → Type 0
Cut s P last after =
    ((after ≡ last) × IsBelowFirst P last)
    ⊎ ((f : ℕ) × (f ≤ last) × IsFirst P (Some f) × (after ≡ min last (floor s (f - 1))))

cut : (s : ℕ) (P : ℕ → Type 0) (p : ℕ → Bool) (last after : ℕ) → 0 < s → DecidesEach p P → last % s ≡ 0
    → ((f : Option ℕ) → IsFirst P f → after ≡ lowered s last f) → Cut s P last after
cut s P p last after pos d round moves = go (searched p (suc last))
  where
    below : ((k : ℕ) → k < suc last → p k ≡ true → ⊥) → (after ≡ last → ⊥) → ⊥
    below none apart = apart (moves None (λ k x.
        let found = least p k ((d k).1 x) in
        let f = found.0 in
        let over : last < f = (elim (cases_lt last f) [
          | inl l ↦ l
          | inr under ↦ absurd (none f (omega arith) found.2.0)
        ]) in
        let lower = moves (Some f) (first-of P p d f found.2) in
        -- last is a multiple below f, so the greatest one below f isn't below it
        let high = lift s last (f - 1) pos round (omega arith) in
        apart (omega (arith, lower, high))))

    same : ((k : ℕ) → k < suc last → p k ≡ true → ⊥) → after ≡ last
    same none = (elim (cases_lt after last) [
      | inl under ↦ absurd (below none (λ e. absurd (omega arith)))
      | inr over ↦ (elim (cases_lt last after) [
        | inl above ↦ absurd (below none (λ e. absurd (omega arith)))
        | inr there ↦ omega arith
      ])
    ])

    go : Searched p (suc last) → Cut s P last after
    go (inl none) = inl (same none, λ j l x. none j (omega arith) ((d j).1 x))
    go (inr found) =
        let first = first-of P p d found.0 found.2 in
        inr (found.0, omega (arith, found.1), first, moves (Some found.0) first)

-- the last held step after an edit is a multiple of 1024, and of the multiples up to the old one those are below it
-- that the edit spares
pub kept-by : (s : ℕ) (P : ℕ → Type 0) (p : ℕ → Bool) (last after : ℕ) → 0 < s → DecidesEach p P → (P 0 → ⊥)
    → last % s ≡ 0 → ((f : Option ℕ) → IsFirst P f → after ≡ lowered s last f)
    → (after % s ≡ 0) × ((h : ℕ) → h % s ≡ 0 → (h ≤ after) ↔ ((h ≤ last) × IsBelowFirst P h))
kept-by s P p last after pos d start round moves = go (cut s P p last after pos d round moves)
  where
    positive : (f : ℕ) → P f → 0 < f
    positive zero x = absurd (start x)
    positive (suc k) x = omega arith

    go : Cut s P last after → (after % s ≡ 0) × ((h : ℕ) → h % s ≡ 0
        → (h ≤ after) ↔ ((h ≤ last) × IsBelowFirst P h))
    go (inl c) =
        let e = c.0 in (
          ap (λ k. k % s) e ∙ round,
          λ h at. (
            (λ l. (omega arith, λ j k x. c.1 j (omega arith) x)),
            (λ b. let l = b.0 in
                omega arith),
          ),
        )
    go (inr c) =
        let f = c.0 in
        let e = c.3 in
        let some : 0 < f = positive f c.2.0 in
        let low = c.1 in
        let under-f : floor s (f - 1) ≤ f - 1 = at-place s (f - 1) in (
          ap (λ k. k % s) e ∙ lesser s last (floor s (f - 1)) round (is-multiple s ((f - 1) / s)),
          λ h at. (
            (λ l. (omega arith, λ j k x. c.2.1 j (omega (arith, e, under-f, l, k, some)) x)),
            (λ b.
                let l = b.0 in
                let under : h < f = (elim (cases_lt h f) [
                  | inl u ↦ u
                  | inr over ↦ absurd (b.1 f over c.2.0)
                ]) in
                omega (arith, l, e, lift s h (f - 1) pos at (omega arith))),
          ),
        )
