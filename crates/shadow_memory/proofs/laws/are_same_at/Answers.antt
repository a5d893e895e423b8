use Rattle.std.proofs.Common.{◌≡◌, ℕ, ◌+◌, ◌*◌, ◌%◌, ◌^◌, ◌==◌, Bool, true, false, not, eqb, List, [], ◌∷◌, length}
use Rattle.std.proofs.Common.{cond, ap, ap₂, refl, sym, ◌∙◌}
use Rattle.std.proofs.Common.{arith, w8}
use lib.Lanes.{chunk, mask_l, zip2}
use Rattle.std.proofs.lemmas.Bool.Decides.{nat_tests}
use Rattle.std.proofs.lemmas.Grind.{common_steps}
use Rattle.std.proofs.lemmas.Simd.{length-chunk, length-zip2, mask_l-mod, tops_compared}
use Rattle.shadow_memory.proofs.laws.are_same_at.Goals as goal

is-zero : (n : ℕ) → (n == 0) ≡ true → n ≡ 0
is-zero n h = grind (arith, nat_tests)

is_same : (x y : ℕ) → not (eqb x y) ≡ false → x ≡ y
is_same x y h = grind (arith, common_steps)

first-clear : (b : Bool) (n : ℕ) → cond b 1 0 + 2 * n ≡ 0 → (b ≡ false) × (n ≡ 0)
first-clear true n h = absurd (omega (arith, h))
first-clear false n h = (refl, omega (arith, h))

-- where no bit is set, no lane differs
none-set : (xs ys : List ℕ) → length xs ≡ length ys → mask_l (zip2 (λ x y. not (eqb x y)) xs ys) ≡ 0 → xs ≡ ys
none-set [] [] long h = refl
none-set [] (y ∷ ys) long h = absurd (omega (arith, long))
none-set (x ∷ xs) [] long h = absurd (omega (arith, long))
none-set (x ∷ xs) (y ∷ ys) long h =
    let clear = first-clear (not (eqb x y)) (mask_l (zip2 (λ x y. not (eqb x y)) xs ys)) h in
    ap₂ (λ z zs. z ∷ zs) (is_same x y clear.0) (none-set xs ys (omega (arith, long)) clear.1)

pub returns : goal.returns
returns c equal =
    let xs = chunk c.args.at 64 c.args.bytes.now in
    let ys = chunk c.args.at 64 c.args.others.now in
    let here = length-chunk c.args.at 64 c.args.bytes.now c.requires.here in
    let there = length-chunk c.args.at 64 c.args.others.now c.requires.there in
    let long : length xs ≡ length ys = here ∙ sym there in
    let t : ℕ → ℕ → Bool = λ x y. not (eqb x y) in
    let bits = length-zip2 t xs ys long ∙ here in
    let zeros = is-zero _ equal in
    none-set xs ys long (sym (mask_l-mod (zip2 t xs ys) 64 (omega (arith, bits)))
    ∙ ap (λ m. mask_l m % 2 ^ 64) (sym (tops_compared w8 t xs ys)) ∙ zeros)
