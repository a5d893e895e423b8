use Rattle.std.proofs.Common.{◌≡◌, ℕ, zero, suc, ◌+◌, List, [], ◌∷◌, ◌++◌, take, drop, ap, ap₂, refl, sym}
use Rattle.std.proofs.Common.{◌∙◌, arith}
use Rattle.std.proofs.lemmas.Bool.Decides.{Decides-eqb}
use Rattle.std.proofs.lemmas.List.{take-append-drop, take_rest}
use Rattle.std.proofs.lemmas.Slice.Eq.{slice_eq-Decides}
use Rattle.shadow_memory.proofs.laws.are_same.Goals as goal

-- some more of a list
take-on : (xs : List ℕ) (n m k : ℕ) → k ≡ n + m → take k xs ≡ take n xs ++ take m (drop n xs)
take-on xs zero m k e = let same : k ≡ m = omega (arith, e) in ap (λ i. take i xs) same
take-on xs (suc n) m zero e = absurd (omega (arith, e))
take-on [] (suc n) zero (suc k) e = refl
take-on [] (suc n) (suc m) (suc k) e = refl
take-on (x ∷ xs) (suc n) m (suc k) e = ap (λ ys. x ∷ ys) (take-on xs n m k (omega (arith, e)))

pub loop-at-preserved : goal.loop-at-preserved
loop-at-preserved c =
    let inv = c.loop-at.invariant in
    let at = c.loop-at.at in
    record {
      within = omega arith;
      long = inv.long;
      same = take-on c.args.bytes.now at 64 (at + 64) refl
          ∙ ap₂ (λ xs ys. xs ++ ys) inv.same (c.if-not-are_same_at.ensures refl)
          ∙ sym (take-on c.args.others.now at 64 (at + 64) refl);
    }

pub returns : goal.returns
returns c equal =
    let inv = c.loop-at.invariant in
    let at = c.loop-at.at in
    sym (take-append-drop at c.args.bytes.now)
    ∙ ap₂ (λ xs ys. xs ++ ys) inv.same (sym (take_rest c.args.bytes.now at)
    ∙ (slice_eq-Decides Decides-eqb _ _ _ c.eq.ensures).0 equal ∙ take_rest c.args.others.now at)
    ∙ take-append-drop at c.args.others.now
