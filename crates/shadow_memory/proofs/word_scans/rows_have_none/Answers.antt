use Rattle.std.proofs.Common.{◌≡◌, ◌∙◌, ◌+◌, ◌-◌, ◌*◌, ◌/◌, ◌%◌, ◌^◌, ◌<◌, ℕ, IsTrue, ap₂, arith, inl, inr, min}
use Rattle.std.proofs.Common.{slice_index, subst}
use Rattle.std.proofs.lemmas.Bool.{cases_lt}
use Rattle.shadow_memory.specs.Values.{value_at}
use Rattle.shadow_memory.proofs.Scanning.{word-outside}
use Rattle.shadow_memory.proofs.word_scans.rows_have_none.Goals as goal

-- how far above the least value a word is
far : goal.After-are_greater → ℕ → ℕ
far c a = (value_at (slice_index c.args.bytes.now) a + (2 ^ 32 - c.args.low)) % 2 ^ 32

-- the four words of a lane
lane-far : (c : goal.After-are_greater) → IsTrue c.are_greater.result → (j : ℕ) → j < 16
    → c.extent.result < min (min (far c (c.args.at + 4 * j)) (far c (c.args.at + 64 + 4 * j)))
    (min (far c (c.args.at + 128 + 4 * j)) (far c (c.args.at + 192 + 4 * j)))
unfolding far
lane-far c greater j near =
    subst (λ (x : ℕ). c.extent.result < x)
    (c.lesser.ensures.each j near
    ∙ ap₂ min
    (c.lesser-first.ensures.each j near ∙ ap₂ min (c.above.ensures.each j near) (c.above-2.ensures.each j near))
    (c.lesser-second.ensures.each j near ∙ ap₂ min (c.above-3.ensures.each j near) (c.above-4.ensures.each j near)))
    (c.are_greater.ensures greater j near)

word-far : (c : goal.After-are_greater) → IsTrue c.are_greater.result → (j q r : ℕ) → r < 16 → j ≡ 16 * q + r → q < 4
    → c.extent.result < far c (c.args.at + 4 * j)
word-far c greater j q r near is few =
    let all = lane-far c greater r near in
    elim (cases_lt q 1) [
      | inl first ↦
          let e : c.args.at + 4 * r ≡ c.args.at + 4 * j = omega arith in
          subst (λ (a : ℕ). c.extent.result < far c a) e (omega arith)
      | inr later ↦ elim (cases_lt q 2) [
        | inl second ↦
            let e : c.args.at + 64 + 4 * r ≡ c.args.at + 4 * j = omega arith in
            subst (λ (a : ℕ). c.extent.result < far c a) e (omega arith)
        | inr last ↦ elim (cases_lt q 3) [
          | inl third ↦
              let e : c.args.at + 128 + 4 * r ≡ c.args.at + 4 * j = omega arith in
              subst (λ (a : ℕ). c.extent.result < far c a) e (omega arith)
          | inr fourth ↦
              let e : c.args.at + 192 + 4 * r ≡ c.args.at + 4 * j = omega arith in
              subst (λ (a : ℕ). c.extent.result < far c a) e (omega arith)
        ]
      ]
    ]

pub returns : goal.returns
unfolding far
returns c greater j near =
    word-outside c.args.bytes.now (c.args.at + 4 * j) c.args.low c.args.high c.extent.result (λ k. c.type_inv.bytes k)
    (omega arith) c.extent.ensures (word-far c greater j (j / 16) (j % 16) (omega arith) (omega arith) (omega arith))
