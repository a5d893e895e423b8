-- A plan of which all places are bytes has a byte at each number, or nothing.
use Rattle.std.proofs.Common.{◌≡◌, ℕ, ◌+◌, ◌-◌, ◌*◌, ◌==◌, ◌&&◌, nat_lt, Bool, true, false, List, Option, Some, None}
use Rattle.std.proofs.Common.{length}
use Rattle.std.proofs.Common.{arith, refl, subst, sym, ap, ◌∙◌}
use Rattle.std.specs.Prelude.{slice_get, unwrap_or}
use Rattle.std.proofs.lemmas.Bool.{true≢false}
use Rattle.std.proofs.lemmas.Bool.Decides.{Decides-eqb, nat_tests}
use Rattle.std.proofs.lemmas.Option.{slice_get_past}
use Rattle.sweep_plans.specs.Plans.{count, has_only_bytes, nth, place_at, place_behind, place_behind_words, place_by}
use Rattle.sweep_plans.specs.Plans.{step_place}
use Rattle.sweep_plans.specs.declared.plan.SweepPlace.{SweepPlace}
use Rattle.sweep_plans.specs.declared.plan.SweepPlace.TheVariants.{Byte as ByteAt, Word as WordAt, Nowhere}
use Rattle.sweep_plans.specs.declared.plan.Places.{Places}
use Rattle.sweep_plans.specs.declared.plan.Plan.{Plan}

first-of : (a b : Bool) → (a && b) ≡ true → a ≡ true
first-of true b h = refl
first-of false b h = absurd (true≢false (sym h))

second-of : (a b : Bool) → (a && b) ≡ true → b ≡ true
second-of true b h = h
second-of false b h = absurd (true≢false (sym h))

none-at : (places : Places) (i : ℕ) → count places ≡ 0 → nth places i ≡ None
none-at places i none =
    let test : nat_lt i (count places) ≡ false = grind (arith, nat_tests) in
    rw test refl

module _ (plan : Plan) (only : has_only_bytes plan ≡ true) where
  abbrev rest : Bool
  rest = length plan.instructions.items == 0 && count plan.steps == 0

  no-words : count plan.words ≡ 0
  no-words = (Decides-eqb (count plan.words) 0).0 (first-of (count plan.words == 0) rest only)

  others : rest ≡ true
  others = second-of (count plan.words == 0) rest only

  no-instructions : length plan.instructions.items ≡ 0
  no-instructions =
      (Decides-eqb (length plan.instructions.items) 0).0
      (first-of (length plan.instructions.items == 0) (count plan.steps == 0) others)

  no-steps : count plan.steps ≡ 0
  no-steps =
      (Decides-eqb (count plan.steps) 0).0
      (second-of (length plan.instructions.items == 0) (count plan.steps == 0) others)

  none-behind-words : (i : ℕ) → place_behind_words plan i ≡ Nowhere
  unfolding place_behind_words
  none-behind-words i =
      let list = plan.instructions.items in
      ap (λ (o : Option SweepPlace). unwrap_or o (step_place (nth plan.steps (i - length list))))
      (slice_get_past list i (omega (arith, no-instructions)))
      ∙ ap step_place (none-at plan.steps (i - length list) no-steps)

  none-behind : (i : ℕ) → place_behind plan i ≡ Nowhere
  unfolding place_behind
  none-behind i =
      ap (λ (o : Option ℕ). place_by (λ word. WordAt (4 * word)) o (place_behind_words plan (i - count plan.words)))
      (none-at plan.words i no-words)
      ∙ none-behind-words (i - count plan.words)

  -- what holds of bytes and of nothing holds of each place
  pub only-bytes : (P : SweepPlace → Type 0) → ((offset : ℕ) → P (ByteAt offset)) → P Nowhere → (i : ℕ)
      → P (place_at plan i)
  unfolding place_at
  only-bytes P bytes nowhere i = go (nth plan.bytes i)
    where
      go : (o : Option ℕ) → P (place_by ByteAt o (place_behind plan (i - count plan.bytes)))
      go (Some offset) = bytes offset
      go None = subst P (sym (none-behind (i - count plan.bytes))) nowhere
