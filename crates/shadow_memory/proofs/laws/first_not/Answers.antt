use Rattle.std.proofs.Common.{◌≡◌, ◌≤◌, ◌+◌, ℕ, true, false, not, eqb, length, inl, inr, arith}
use Rattle.std.proofs.lemmas.Bool.{cases_lt}
use Rattle.std.proofs.lemmas.Simd.{run_in_chunk_fails, run_in_chunk_stops}
use Rattle.std.proofs.lemmas.Grind.{common_steps}
use Rattle.shadow_memory.proofs.laws.first_not.Goals as goal

-- a test that fails or passes, as a fact
is_byte : (x y : ℕ) → not (eqb x y) ≡ false → x ≡ y
is_byte x y h = grind (arith, common_steps)

is_other : (x y : ℕ) → not (eqb x y) ≡ true → x ≡ y → ⊥
is_other x y h e = grind (arith, common_steps)

pub returns-then-run-lt-LANES-clause-differs : goal.returns-then-run-lt-LANES-clause-differs
returns-then-run-lt-LANES-clause-differs c =
    is_other _ _ (run_in_chunk_stops (λ x. not (eqb x c.args.byte)) c.args.bytes.now c.loop-at.at 16 c.run_at-run.result
    0 (omega arith) c.run_at-run.ensures (omega arith))

pub returns-then-run-lt-LANES-clause-least : goal.returns-then-run-lt-LANES-clause-least
returns-then-run-lt-LANES-clause-least c = λ k below.
    let room : c.loop-at.at + 16 ≤ length c.args.bytes.now = omega arith in
    elim (cases_lt k c.loop-at.at) [
      | inl early ↦ c.loop-at.invariant.same k early
      | inr late ↦ is_byte _ _ (run_in_chunk_fails (λ x. not (eqb x c.args.byte)) c.args.bytes.now c.loop-at.at 16
          c.run_at-run.result 0 room c.run_at-run.ensures k late below)
    ]

pub loop-at-preserved : goal.loop-at-preserved
loop-at-preserved c =
    let room : c.loop-at.at + 16 ≤ length c.args.bytes.now = omega arith in
    let all : 16 ≤ c.run_at-run.result = omega arith in
    record {
      within = omega arith;
      same = λ k below. elim (cases_lt k c.loop-at.at) [
        | inl early ↦ c.loop-at.invariant.same k early
        | inr late ↦ is_byte _ _ (run_in_chunk_fails (λ x. not (eqb x c.args.byte)) c.args.bytes.now c.loop-at.at 16
            c.run_at-run.result 0 room c.run_at-run.ensures k late (omega arith))
      ];
    }
