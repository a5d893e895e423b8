-- The changes of a plan at a place are changes of that place.
use Rattle.std.proofs.Common.{◌≡◌, ℕ, zero, suc, ◌+◌, ◌^◌, ◌<◌, ◌≤◌, nat_le, Bool, true, false, List, [], ◌∷◌, ◌++◌}
use Rattle.std.proofs.Common.{length, refl, ap, arith, if◌then◌else◌}
use Rattle.std.specs.List.{All, flat_map}
use Rattle.std.proofs.lemmas.Bool.Decides.{nat_tests}
use Rattle.std.proofs.lemmas.List.Elements.{All-append, All-cons, All-head, All-map, All-nil, All-push, All-tail}
use Rattle.std.proofs.lemmas.List.Elements.{All-weaker}
use Rattle.scenario.specs.Limits.{furthest_step}
use Rattle.scenario.specs.Scenario.{Scenario, limit_of}
use Rattle.sweep_plans.specs.Glitches.{bits_of, flip_of, flips_at, glitches_at, register_flips, register_sets}
use Rattle.sweep_plans.specs.Glitches.{skip_at, when, word_flips}
use Rattle.sweep_plans.specs.Numbers.{below}
use Rattle.sweep_plans.specs.Plans.{HasNext, byte_to, byte_values, changes_of, half_to, wanted_halves, wanted_words}
use Rattle.sweep_plans.specs.Plans.{word_values}
use Rattle.sweep_plans.specs.declared.change.Change.{Change}
use Rattle.sweep_plans.specs.declared.change.Change.TheVariants.{Word, Once}
use Rattle.sweep_plans.specs.declared.change.Glitch.TheVariants.{Set, Skip}
use Rattle.sweep_plans.specs.declared.glitches.Target.{Target}
use Rattle.sweep_plans.specs.declared.glitches.Target.TheVariants.{Register, Pc, Word as WordAt}
use Rattle.sweep_plans.specs.declared.plan.FaultModels.{FaultModels}
use Rattle.sweep_plans.specs.declared.plan.Plan.{Plan}
use Rattle.sweep_plans.specs.declared.standing.Standing.{Standing}
use Rattle.sweep_plans.specs.declared.standing.Standing.TheVariants as At
use Rattle.sweeps.specs.Standing.{IsAt, IsBelow}

-- the numbers below another are below it
below-small : (n : ℕ) → All (λ k. k < n) (below n)
unfolding below
below-small zero = All-nil (λ k. k < 0)
below-small (suc n) =
    All-push (λ k. k < suc n) (below n) n
    (All-weaker (λ k. k < n) (λ k. k < suc n) (λ k l. omega arith) (below n) (below-small n)) (omega arith)

-- in the lists of lists
all-flat : (P : Change → Type 0) (f : ℕ → List Change) (xs : List ℕ) → All (λ x. All P (f x)) xs
    → All P (flat_map f xs)
all-flat P f [] h = All-nil P
all-flat P f (x ∷ xs) h =
    All-append P (f x) (flat_map f xs) (All-head (λ x. All P (f x)) x xs h)
    (all-flat P f xs (All-tail (λ x. All P (f x)) x xs h))

-- a target whose bits may be turned
abbrev IsGood : Target → Type 0
IsGood (Register r) = r < 32
IsGood Pc = Unit {0}
IsGood (WordAt addr) = addr + 4 ≤ 2 ^ 32

module _ (sc : Scenario) (step pc : ℕ) (short : Bool) (near : sc.step ≤ limit_of sc) (none : sc.marks ≡ [])
    (low : step < sc.step) where
  abbrev P : Change → Type 0
  P change = IsAt sc (At.Step step pc short) change

  one-flip : (target : Target) (mask : ℕ) → IsGood target → P (flip_of step target mask)
  one-flip (Register r) mask good = (refl, good)
  one-flip Pc mask good = (refl, tt)
  one-flip (WordAt addr) mask good =
      let size : length sc.marks ≡ 0 = ap length none in (
        refl,
        good,
        good,
        record { forward = omega arith; within = omega arith; near = omega arith; room = omega arith },
      )

  flips : (target : Target) (bits : ℕ) → IsGood target → All P (flips_at step target bits)
  unfolding flips_at
  flips target bits good =
      All-map P (λ bit. flip_of step target (2 ^ bit)) (below bits) (λ i d l. one-flip target _ good)

  all-registers : All P (register_flips step)
  unfolding register_flips
  all-registers =
      all-flat P (λ r. flips_at step (Register (r + 1)) 32) (below 31)
      (All-weaker (λ r. r < 31) (λ r. All P (flips_at step (Register (r + 1)) 32))
      (λ r l. flips (Register (r + 1)) 32 (omega arith)) (below 31) (below-small 31))

  all-sets : (value : ℕ) → All P (register_sets step value)
  unfolding register_sets
  all-sets value =
      All-map P (λ r. Once step (Set (r + 1) value)) (below 31)
      (All-weaker (λ r. r < 31) (λ r. P (Once step (Set (r + 1) value))) (λ r l. (refl, omega arith)) (below 31)
      (below-small 31))

  all-words : All P (word_flips step pc short)
  unfolding word_flips
  all-words = go (nat_le pc 4294967292) refl
    where
      go : (b : Bool) → nat_le pc 4294967292 ≡ b → All P (if b then flips_at step (WordAt pc) (bits_of short) else [])
      go true e = flips (WordAt pc) (bits_of short) (let l : pc ≤ 4294967292 = grind (arith, nat_tests) in omega arith)
      go false e = All-nil P

  all-when : (b : Bool) (xs : List Change) → All P xs → All P (when b xs)
  all-when true xs h = h
  all-when false xs h = All-nil P

  both : (xs ys : List Change) → All P xs → All P ys → All P (xs ++ ys)
  both xs ys = All-append P xs ys

  all-glitches : (models : FaultModels) → All P (glitches_at models step pc short)
  unfolding glitches_at
  all-glitches models =
      both _ _ (both _ _ (both _ _ (both _ _ (both _ _
      (all-when models.skip (skip_at step) (All-cons P (Once step Skip) [] (refl, tt) (All-nil P)))
      (all-when models.registers (register_flips step) all-registers))
      (all-when models.pc (flips_at step Pc 32) (flips Pc 32 tt)))
      (all-when models.words (word_flips step pc short) all-words))
      (all-when models.zero (register_sets step 0) (all-sets 0)))
      (all-when models.ones (register_sets step 4294967295) (all-sets 4294967295))

pub all-at : (sc : Scenario) (plan : Plan) (standing : Standing) → sc.step ≤ limit_of sc → sc.marks ≡ []
    → IsBelow sc.step standing → All (IsAt sc standing) (changes_of plan standing)
unfolding changes_of
all-at sc plan (At.Byte offset old) near none low =
    All-map (IsAt sc (At.Byte offset old)) (byte_to offset) (byte_values plan.byte_values old 256) (λ i d l. refl)
all-at sc plan (At.Word addr old) near none low =
    All-map (IsAt sc (At.Word addr old)) (Word addr) (word_values old (wanted_words plan.word_values old))
    (λ i d l. refl)
all-at sc plan (At.Half addr old) near none low =
    All-map (IsAt sc (At.Half addr old)) (half_to addr) (word_values old (wanted_halves plan.word_values old))
    (λ i d l. refl)
all-at sc plan (At.Step step pc short) near none low = all-glitches sc step pc short near none low plan.models

-- a step below the chosen one has a next step
pub next-below : (last : ℕ) (standing : Standing) → last ≤ furthest_step → IsBelow last standing → HasNext standing
next-below last (At.Step step pc short) near low = omega arith
next-below last _ near low = tt
