-- Bytes made undefined one after another, by the positions of the input from which they come.
use Rattle.std.proofs.Common.{◌≡◌, ℕ, ◌+◌, ◌^◌, ◌<◌, ◌||◌, ◌&&◌, Bool, true, false, refl, sym}
use Rattle.std.proofs.Common.{ap, ◌∙◌}
use Rattle.std.proofs.Common.{arith, List}
use Rattle.std.proofs.lemmas.Bool.Decides.{nat_tests}
use Rattle.shadow_memory.specs.Ranges.{above, is_in, offset}
use Rattle.run_values.specs.declared.span.Span.{Span}
use Rattle.guest_machine.specs.State.{State}
use Rattle.any_runs.specs.Secrets.{faded_at}
use Rattle.any_verdicts.specs.Chosen.{given_in, has_position}
use Rattle.any_verdicts.proofs.Changes.{faded-more, faded-none, faded-same, or-none}

-- no byte is given
pub given-none : (spans : List Span) (from start : ℕ) (s : State) → faded_at (given_in spans from 0 start) s ≡ s
given-none spans from start s =
    faded-none (given_in spans from 0 start) s (λ a. grind (arith, nat_tests))

-- the test of one byte more
one-more : (start i a : ℕ) → start < 2 ^ 32 → is_in start (i + 1) a ≡ (is_in start i a || is_in (above start i) 1 a)
one-more start i a small = grind (arith, nat_tests)

at-it : (start i a : ℕ) → start < 2 ^ 32 → i < 2 ^ 32 → is_in (above start i) 1 a ≡ true → offset start a ≡ i
at-it start i a small few h = grind (arith, nat_tests)

-- the only address of a range of one byte
pub one-in : (x a : ℕ) → x < 2 ^ 32 → is_in x 1 a ≡ true → a ≡ x
one-in x a small h = grind (arith, nat_tests)

-- a byte more, if it may be any
pub given-more : (spans : List Span) (from start i : ℕ) (s : State) → start < 2 ^ 32 → i < 2 ^ 32
    → has_position spans (from + i) ≡ true
    → faded_at (is_in (above start i) 1) (faded_at (given_in spans from i start) s)
    ≡ faded_at (given_in spans from (i + 1) start) s
given-more spans from start i s small few chosen =
    faded-more (is_in (above start i) 1) (given_in spans from i start) (given_in spans from (i + 1) start) s
    (λ a. sym (each a))
  where
    go : (a : ℕ) (here last : Bool) → (last ≡ true → offset start a ≡ i)
        → ((here && has_position spans (from + offset start a)) || last)
        ≡ ((here || last) && has_position spans (from + offset start a))
    go a true true at =
        let yes : has_position spans (from + offset start a) ≡ true =
        (λ j. has_position spans (from + at refl j)) ∙ chosen in
        ap (λ b. b || true) yes ∙ sym yes
    go a true false at = or-none (has_position spans (from + offset start a))
    go a false true at = sym ((λ j. has_position spans (from + at refl j)) ∙ chosen)
    go a false false at = refl

    each : (a : ℕ) → (given_in spans from i start a || is_in (above start i) 1 a) ≡ given_in spans from (i + 1) start a
    each a =
        go a (is_in start i a) (is_in (above start i) 1 a) (at-it start i a small few)
        ∙ sym (ap (λ b. b && has_position spans (from + offset start a)) (one-more start i a small))

-- a byte more that may not be any
pub given-less : (spans : List Span) (from start i : ℕ) (s : State) → start < 2 ^ 32 → i < 2 ^ 32
    → has_position spans (from + i) ≡ false
    → faded_at (given_in spans from i start) s ≡ faded_at (given_in spans from (i + 1) start) s
given-less spans from start i s small few none =
    faded-same (given_in spans from i start) (given_in spans from (i + 1) start) s each
  where
    go : (a : ℕ) (here last : Bool) → (last ≡ true → offset start a ≡ i)
        → (here && has_position spans (from + offset start a))
        ≡ ((here || last) && has_position spans (from + offset start a))
    go a true last at = refl
    go a false true at = sym ((λ j. has_position spans (from + at refl j)) ∙ none)
    go a false false at = refl

    each : (a : ℕ) → given_in spans from i start a ≡ given_in spans from (i + 1) start a
    each a =
        go a (is_in start i a) (is_in (above start i) 1 a) (at-it start i a small few)
        ∙ sym (ap (λ b. b && has_position spans (from + offset start a)) (one-more start i a small))
