-- The range of a table, and its lines one after another.
use Rattle.std.proofs.Common.{◌≡◌, ℕ, suc, ◌+◌, ◌*◌, ◌-◌, ◌%◌, ◌^◌, ◌<◌, ◌≤◌, ◌&&◌, ◌++◌, Bool, true, false, List, []}
use Rattle.std.proofs.Common.{ap, ap₂, arith, drop, inl, inr, length, min, refl, subst, sym, take, ◌∙◌}
use Rattle.std.proofs.Math.Nat.{mod-add-mod}
use Rattle.std.proofs.lemmas.List.{length-drop, take_min}
use Rattle.std.specs.List.{slice_range}
use Rattle.guest_elf.specs.declared.image.Image.{Image}
use Rattle.sweep_plans.specs.Plans.{has_only_bytes}
use Rattle.sweep_plans.specs.declared.plan.Plan.{Plan}
use Rattle.sweeps.specs.Covered.{FitsPlan}
use Rattle.sweep_tables.specs.SidesLines.{address_at, digits_at, range_for, sides_below, sides_line}

pub fits-plan : (with_sides : Bool) (plan : Plan) (image : Image) → FitsPlan plan (range_for with_sides plan image)
fits-plan false plan image = inr refl
fits-plan true plan image = go (has_only_bytes plan) refl
  where
    go : (only : Bool) → has_only_bytes plan ≡ only → FitsPlan plan (range_for true plan image)
    go true is = inl is
    go false is = inr (rw is refl)

pub first-address : (start apart : ℕ) → start < 2 ^ 32 → start ≡ address_at start apart 0
first-address start apart l = grind (arith, l)

pub next-address : (start apart n : ℕ)
    → (address_at start apart n + 64 * apart) % 2 ^ 32 ≡ address_at start apart (n + 1)
next-address start apart n =
    mod-add-mod (start + 64 * apart * n) (2 ^ 32) (64 * apart) ∙ ap (λ m. m % 2 ^ 32) (grow start apart n)
  where
    grow : (start apart n : ℕ) → start + 64 * apart * n + 64 * apart ≡ start + 64 * apart * (n + 1)
    grow start apart n = grind arith

pub another-line : (start apart n : ℕ) (digits : List ℕ) → sides_below start apart digits (n + 1)
    ≡ sides_below start apart digits n ++ sides_line (address_at start apart n) (digits_at digits n)
unfolding sides_below
another-line start apart n digits =
    let next : n + 1 ≡ suc n = omega arith in ap (sides_below start apart digits) next

-- the digits of a line are a part of the slice
pub line-digits : (digits : List ℕ) (n : ℕ) → n * 64 ≤ length digits
    → slice_range digits (n * 64) (min (length digits) (n * 64 + 64)) ≡ digits_at digits n
line-digits digits n l =
    let a = n * 64 in
    let gap : min (length digits) (a + 64) - a ≡ min 64 (length digits - a) = omega (arith, l) in
    let from : a ≡ 64 * n = omega arith in
    ap (λ m. take m (drop a digits)) (gap ∙ ap (λ m. min 64 m) (sym (length-drop a digits)))
    ∙ take_min 64 (drop a digits) ∙ ap (λ k. take 64 (drop k digits)) from
