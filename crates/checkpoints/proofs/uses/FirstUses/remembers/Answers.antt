use Rattle.std.proofs.Common.{◌≡◌, ℕ, ◌/◌, ◌%◌, ◌<◌, ◌≤◌, ◌∙◌, Bool, true, false, ap, cond, min, subst, sym}
use Rattle.std.proofs.Common.{inl, inr, length, get_or, arith}
use Rattle.std.proofs.lemmas.Bool.{cases_eq}
use Rattle.std.proofs.lemmas.Bool.Decides.{nat_tests}
use Rattle.std.proofs.lemmas.List.{get_or_default}
use Rattle.checkpoints.specs.Words.{IsEntered, never, place_in}
use Rattle.checkpoints.specs.Entries.{entry_of, ranges_of}
use Rattle.checkpoints.proofs.WordSteps.{meets-no-other}
use Rattle.checkpoints.proofs.uses.FirstUses.remembers.Goals as goal

-- a step that isn't below an entry leaves it
left : (b : Bool) (x step : ℕ) → x ≤ step → x ≡ cond b (min x step) x
left true x step low = omega arith
left false x step low = omega arith

pub returns : goal.returns
unfolding entry_of ranges_of
returns c last step clean w few placed =
    let self = c.args.self.now in
    let span = c.args.span in
    let ranges = self.ranges.items in
    let x = get_or self.steps.items (place_in ranges w) never in
    let slot = span.start / 4 % 256 in
    let within : slot < length self.remembered = omega (arith, self.room) in
    let short = c.requires in
    let is : get_or self.remembered slot never ≡ span.start / 4 =
    get_or_default self.remembered slot never 0 within ∙ grind (arith, nat_tests, last) in
    elim (cases_eq w (span.start / 4)) [
      | inl same ↦ (
          let entered = subst (IsEntered ranges self.steps.items) (is ∙ sym same) (self.known slot) few placed in
          let below = self.early (place_in ranges w) entered in
          let low : x ≤ step = omega (arith, clean, below) in
          left _ x step low
          )
      | inr other ↦ sym (ap (λ m. cond m (min x step) x) (meets-no-other span w (omega arith) few short other))
    ]
