use Rattle.std.proofs.Common.{◌≡◌, ℕ, ◌+◌, ◌*◌, ◌-◌, ◌/◌, ◌%◌, ◌^◌, ◌<◌, ◌≤◌, ◌∙◌, Bool, true, false, ap, cond, min}
use Rattle.std.proofs.Common.{refl, subst, sym}
use Rattle.std.proofs.Common.{inl, inr, length, get_or, arith}
use Rattle.std.proofs.lemmas.Bool.{cases_eq}
use Rattle.std.proofs.lemmas.Bool.Decides.{nat_tests}
use Rattle.std.proofs.lemmas.List.{get_or_default}
use Rattle.checkpoints.specs.Words.{IsEntered, never, place_in}
use Rattle.checkpoints.specs.Entries.{entry_of, ranges_of}
use Rattle.checkpoints.proofs.WordSteps.{meets-no-other}
use Rattle.checkpoints.proofs.uses.FirstUses.remembers_code.Goals as goal

-- what is compared is a quarter of an address only where the code begins at a multiple of 4
begins-word : (start turned : ℕ) → start < 2 ^ 32 → start % 2 ≡ 0 → turned ≡ start / 4 + start % 4 * 2 ^ 30
    → ((turned ≡ never → ⊥) → turned < 2 ^ 30) → (turned ≡ start / 4) × (start % 4 ≡ 0)
begins-word start turned small even is word =
    let other : turned ≡ never → ⊥ = λ e. omega arith in
    let low : turned < 2 ^ 30 = word other in
    (omega arith, omega arith)

-- a step that isn't below an entry leaves it
left : (b : Bool) (x step : ℕ) → x ≤ step → x ≡ cond b (min x step) x
left true x step low = omega arith
left false x step low = omega arith

pub returns : goal.returns
unfolding entry_of ranges_of
returns c last step clean w few placed =
    let self = c.args.self.now in
    let code = c.args.code in
    let ranges = self.ranges.items in
    let x = get_or self.steps.items (place_in ranges w) never in
    let turned : ℕ = code.start / 4 + code.start % 4 * 2 ^ 30 in
    let slot : ℕ = turned % 256 in
    let within : slot < length self.remembered = omega (arith, self.room) in
    let is : get_or self.remembered slot never ≡ turned =
    get_or_default self.remembered slot never 0 within ∙ grind (arith, nat_tests, last) in
    let at = begins-word code.start turned (omega arith) c.requires.even refl
    (λ other. subst (λ n. n < 2 ^ 30) is (self.words slot (λ e. other (sym is ∙ e)))) in
    let short : code.len ≤ 4 - code.start % 4 = omega (arith, at.1, c.requires.few) in
    elim (cases_eq w (code.start / 4)) [
      | inl same ↦ (
          let entered = subst (IsEntered ranges self.steps.items) (is ∙ at.0 ∙ sym same) (self.known slot) few placed in
          let below = self.early (place_in ranges w) entered in
          let low : x ≤ step = omega (arith, clean, below) in
          left _ x step low
          )
      | inr other ↦ sym (ap (λ m. cond m (min x step) x) (meets-no-other code w (omega arith) few short other))
    ]
