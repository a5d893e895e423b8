-- Machines held a number of steps apart: the products and quotients of that number.
use Rattle.std.proofs.Common.{◌≡◌, ℕ, zero, suc, ◌+◌, ◌-◌, ◌*◌, ◌/◌, ◌%◌, ◌<◌, ◌≤◌, ap, sym, ◌∙◌, arith, inl, inr}
use Rattle.std.proofs.Common.{le_trans, max}
use Rattle.std.proofs.Common.{Bool, None, Some, cond, false, min, refl, true, unwrap_or}
use Rattle.std.proofs.lemmas.Bool.{cases_lt}
use Rattle.std.proofs.Math.Nat.{div-add-mod, div-le_of_le-mul, div-mul-le_self, le-div_iff_mul-le}
use Rattle.std.proofs.Math.Nat.{le_of_mul-le-mul_left}
use Rattle.std.proofs.Math.Nat.{mul-add, mul-div-le, mul-div_cancel_left, mul-le-mul_left, mul-mod_right, mul-one}
use Rattle.std.proofs.Math.Nat.{mul-zero}
use Rattle.std.proofs.Math.Nat.{mul_comm}
use Rattle.checkpoints.specs.Trails.{spacing_of}
use Rattle.checkpoints.specs.Work.{floor, next_held, reached, spacing_for, steps_made}
use Rattle.checkpoints.specs.declared.trail.Trail.{Trail}

pub apart : (trail : Trail) → 0 < spacing_of trail
unfolding spacing_of
apart trail = trail.apart

pub up : (s a b : ℕ) → a ≤ b → s * a ≤ s * b
up s a b low = mul-le-mul_left s low

-- ---- multiples

pub is-multiple : (s n : ℕ) → s * n % s ≡ 0
is-multiple s n = mul-mod_right s n

pub exact : (s k : ℕ) → k % s ≡ 0 → s * (k / s) ≡ k
exact s k round = omega (arith, div-add-mod k s, round)

pub next : (s n : ℕ) → s * n + s ≡ s * (n + 1)
next s n = omega (arith, mul-add s n 1, mul-one s)

pub next-of : (s n : ℕ) → 0 < n → s * (n - 1) + s ≡ s * n
next-of s n some = next s (n - 1) ∙ ap (λ k. s * k) (omega arith)

-- ---- the place of a step, and the multiple there

pub at-place : (s k : ℕ) → s * (k / s) ≤ k
at-place s k = mul-div-le k s

pub place-low : (s a b : ℕ) → 0 < s → a ≤ b → a / s ≤ b / s
place-low s a b pos low = (le-div_iff_mul-le pos).1 (le_trans (div-mul-le_self a s) low)

pub place-under : (s k n : ℕ) → 0 < s → k ≤ s * n → k / s ≤ n
place-under s k n pos low = div-le_of_le-mul s low

pub place-held : (s k n : ℕ) → 0 < s → 0 < n → s * (k / s) ≤ s * (n - 1) → k / s < n
place-held s k n pos some low = let under : k / s ≤ n - 1 = le_of_mul-le-mul_left low pos in omega arith

pub to-floor : (s n k : ℕ) → 0 < s → s * n ≤ k → s * n ≤ s * (k / s)
to-floor s n k pos low = up s n (k / s) ((le-div_iff_mul-le pos).1 (omega (arith, low, mul_comm n s)))

-- the next multiple is one
pub next-floor : (s k : ℕ) → floor s (next_held s k) ≡ next_held s k
next-floor zero k = omega arith
next-floor (suc s) k =
    ap (floor (suc s)) (next (suc s) (k / suc s))
    ∙ ap (λ n. suc s * n) (mul-div_cancel_left (k / suc s + 1) (omega arith))
    ∙ sym (next (suc s) (k / suc s))

-- ---- machines held up to a place

-- the last step at which one is held, if machines were held before
pub top : (s count place now : ℕ) → 0 < count → now ≡ max count (place + 1)
    → s * (now - 1) ≡ max (s * (count - 1)) (s * place)
top s count place now some grown = elim (cases_lt (count - 1) place) [
  | inl less ↦
      let last : now - 1 ≡ place = omega arith in
      ap (λ n. s * n) last ∙ omega (arith, up s (count - 1) place (omega arith))
  | inr more ↦
      let last : now - 1 ≡ count - 1 = omega arith in
      ap (λ n. s * n) last ∙ omega (arith, up s place (count - 1) (omega arith))
]

-- the steps executed for them
pub missing : (s count place : ℕ) → 0 < count
    → s * (place + 1 - count) ≡ s * place - min (s * (count - 1)) (s * place)
missing s count place some = elim (cases_lt place count) [
  | inl held ↦
      let none : place + 1 - count ≡ 0 = omega arith in
      ap (λ n. s * n) none ∙ mul-zero s ∙ omega (arith, up s place (count - 1) (omega arith))
  | inr past ↦
      let sum : count - 1 + (place + 1 - count) ≡ place = omega arith in
      let parts : s * place ≡ s * (count - 1) + s * (place + 1 - count) =
      ap (λ n. s * n) (sym sum) ∙ mul-add s (count - 1) (place + 1 - count) in
      omega (arith, parts)
]

-- and those on to a step
pub cost : (s count place step old mid new : ℕ) → 0 < count → s * place ≤ step
    → mid ≡ min (old + s * (place + 1 - count)) 18446744073709551615
    → new ≡ min (mid + (step - place * s)) 18446744073709551615
    → new ≡ min (old + (step - min (s * (count - 1)) (s * place))) 18446744073709551615
cost s count place step old mid new some low held made =
    omega (arith, low, held, made, missing s count place some, mul_comm place s)

-- machines held up to the next multiple above a step
pub last-past : (s count k now : ℕ) → 0 < count → now ≡ max count (k / s + 1 + 1)
    → s * (now - 1) ≡ reached s (s * (count - 1)) (next_held s k)
last-past s count k now some grown =
    top s count (k / s + 1) now some grown
    ∙ ap (max (s * (count - 1))) (sym (next s (k / s)) ∙ sym (next-floor s k))

pub steps-past : (s count k : ℕ) → 0 < count
    → s * (k / s + 1 + 1 - count) ≡ steps_made s (s * (count - 1)) (next_held s k)
steps-past s count k some =
    omega (arith, missing s count (k / s + 1) some, next s (k / s), next-floor s k)

-- ---- the distances for a greatest step

pub record Fits (s : ℕ) : Type 0 where
  pub apart : 0 < s
  pub small : s ≤ 1048576
  pub whole : s * (4294967296 / s) ≡ 4294967296

-- each divides the numbers of 32 bits
pub fitting : (limit : ℕ) → Fits (spacing_for limit)
fitting limit = go _ _ _ _ _ _ _ _ _ _
  where
    go : (a b c d e f g h i j : Bool)
        → Fits (unwrap_or (cond a (Some 1024) (cond b (Some 2048) (cond c (Some 4096) (cond d (Some 8192)
        (cond e (Some 16384) (cond f (Some 32768) (cond g (Some 65536) (cond h (Some 131072) (cond i (Some 262144)
        (cond j (Some 524288) None)))))))))) 1048576)
    go true b c d e f g h i j = record { apart = omega arith; small = omega arith; whole = refl }
    go false true c d e f g h i j = record { apart = omega arith; small = omega arith; whole = refl }
    go false false true d e f g h i j = record { apart = omega arith; small = omega arith; whole = refl }
    go false false false true e f g h i j = record { apart = omega arith; small = omega arith; whole = refl }
    go false false false false true f g h i j = record { apart = omega arith; small = omega arith; whole = refl }
    go false false false false false true g h i j = record { apart = omega arith; small = omega arith; whole = refl }
    go false false false false false false true h i j =
        record { apart = omega arith; small = omega arith; whole = refl }
    go false false false false false false false true i j =
        record { apart = omega arith; small = omega arith; whole = refl }
    go false false false false false false false false true j =
        record { apart = omega arith; small = omega arith; whole = refl }
    go false false false false false false false false false true =
        record { apart = omega arith; small = omega arith; whole = refl }
    go false false false false false false false false false false =
        record { apart = omega arith; small = omega arith; whole = refl }
