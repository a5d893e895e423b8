-- The bytes that are read later, by what a look at the run finds.
use Rattle.std.proofs.Common.{◌≡◌, ℕ, zero, suc, ◌+◌, ◌^◌, ◌<◌, ◌≤◌, not, true, inl, inr, sym}
use Rattle.std.proofs.Common.{◌∙◌, subst, arith}
use Rattle.std.proofs.lemmas.Bool.{and_from, and_parts, cases_lt, false_from_ne_true, not-true, not_from_false}
use Rattle.std.proofs.lemmas.Bool.{or_cases, or_left, or_right}
use Rattle.std.proofs.lemmas.Bool.Decides.{nat_tests}
use Rattle.shadow_memory.specs.Ranges.{is_in}
use Rattle.guest_machine.specs.Spans.{covers}
use Rattle.checkpoints.specs.Searches.{Hits}
use Rattle.checkpoints.specs.declared.searches.Watch.TheVariants.{Read, Write}
use Rattle.scenario.specs.Scenario.{Scenario}
use Rattle.sweeps.specs.Laws.{DoesWith, IsReadFirst, ReadsAreLooks}
use Rattle.sweeps.specs.Memory.{is_read, is_written, touched_in}

-- a range of one byte
in-itself : (a : ℕ) → a < 2 ^ 32 → is_in a 1 a ≡ true
in-itself a l = grind (arith, nat_tests)

only-itself : (a b : ℕ) → a < 2 ^ 32 → is_in a 1 b ≡ true → b ≡ a
only-itself a b l h = grind (arith, nat_tests)

module _ (sc : Scenario) (a : ℕ) (low : a < 2 ^ 32) where
  reads-there : (k : ℕ) → covers (touched_in sc k).reads a ≡ true → DoesWith Read sc a k
  unfolding Hits
  reads-there k h = (a, in-itself a low, h)

  there-reads : (k : ℕ) → DoesWith Read sc a k → covers (touched_in sc k).reads a ≡ true
  unfolding Hits
  there-reads k h = subst (λ b. covers (touched_in sc k).reads b ≡ true) (only-itself a h.0 low h.1) h.2

  writes-there : (k : ℕ) → covers (touched_in sc k).writes a ≡ true → DoesWith Write sc a k
  unfolding Hits
  writes-there k h = (a, in-itself a low, h)

  there-writes : (k : ℕ) → DoesWith Write sc a k → covers (touched_in sc k).writes a ≡ true
  unfolding Hits
  there-writes k h = subst (λ b. covers (touched_in sc k).writes b ≡ true) (only-itself a h.0 low h.1) h.2

  -- a byte that is written is written by a step
  written-by : (first n : ℕ) → is_written sc first n a ≡ true
      → (j : ℕ) × (first ≤ j) × (j < first + n) × DoesWith Write sc a j
  unfolding is_written
  written-by first zero h = cc
  written-by first (suc n) h = elim (or_cases (is_written sc first n a) _ h) [
    | inl before ↦ let one = written-by first n before in (one.0, one.1, omega (arith, one.2), one.3)
    | inr here ↦ (first + n, omega arith, omega arith, writes-there (first + n) here)
  ]

  unwritten : (first n j : ℕ) → first ≤ j → j < first + n → DoesWith Write sc a j → is_written sc first n a ≡ true
  unfolding is_written
  unwritten first zero j l h w = absurd (omega arith)
  unwritten first (suc n) j l h w = elim (cases_lt j (first + n)) [
    | inl before ↦ or_left (is_written sc first n a) _ (unwritten first n j l before w)
    | inr here ↦
        let at : j ≡ first + n = omega (arith, l, h, here) in
        or_right (is_written sc first n a) _
        (subst (λ k. covers (touched_in sc k).writes a ≡ true) at (there-writes j w))
  ]

  -- a byte that is read is read by a step, and written by none before it
  read-by : (first n : ℕ) → is_read sc first n a ≡ true → IsReadFirst sc first n a
  unfolding is_read
  read-by first zero h = cc
  read-by first (suc n) h = elim (or_cases (is_read sc first n a) _ h) [
    | inl before ↦ let one = read-by first n before in (one.0, one.1, omega (arith, one.2), one.3, one.4)
    | inr here ↦
        let both = and_parts (covers (touched_in sc (first + n)).reads a) (not (is_written sc first n a)) here in
        let clear = not-true (is_written sc first n a) both.1 in (
          first + n,
          omega arith,
          omega arith,
          reads-there (first + n) both.0,
          λ j l b w. let wrong = sym clear ∙ unwritten first n j l b w in cc,
        )
  ]

  by-reads : (first n : ℕ) → IsReadFirst sc first n a → is_read sc first n a ≡ true
  unfolding is_read
  by-reads first zero h = absurd (omega (arith, h.1, h.2))
  by-reads first (suc n) h = elim (cases_lt h.0 (first + n)) [
    | inl before ↦ or_left (is_read sc first n a) _ (by-reads first n (h.0, h.1, before, h.3, h.4))
    | inr here ↦
        let at : h.0 ≡ first + n = omega (arith, h.1, h.2, here) in
        let clear = false_from_ne_true (is_written sc first n a)
        (λ w. let one = written-by first n w in h.4 one.0 one.1 (omega (arith, one.2, at)) one.3) in
        or_right (is_read sc first n a) _
        (and_from (covers (touched_in sc (first + n)).reads a) (not (is_written sc first n a))
        (subst (λ k. covers (touched_in sc k).reads a ≡ true) at (there-reads h.0 h.3))
        (not_from_false (is_written sc first n a) clear))
  ]

pub reads_are_looks : ReadsAreLooks
reads_are_looks sc first n a low = (read-by sc a low first n, by-reads sc a low first n)
