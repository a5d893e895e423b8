use Rattle.std.proofs.Common.{◌≡◌, ℕ, Option, ap, sym, ◌∙◌, subst, arith}
use Rattle.std.specs.Prelude.{unwrap_or}
use Rattle.instructions.specs.Codes.{len_of}
use Rattle.checkpoints.specs.FirstUses.{first_of_code}
use Rattle.checkpoints.specs.Forks.{IsLastUnshown}
use Rattle.checkpoints.specs.Trails.{table_of, loaded_of}
use Rattle.checkpoints.specs.Words.{IsCodeIn}
use Rattle.checkpoints.specs.declared.effect.Effect.TheVariants.{Patch}
use Rattle.checkpoints.proofs.ForkSteps.{first-within, first-is-last}
use Rattle.checkpoints.proofs.TrailSteps.{first-of-code}
use Rattle.checkpoints.proofs.trail.Trail.last_unused.Goals as goal

pub returns-clause-within : goal.returns-clause-within
returns-clause-within c =
    let is : c.unwrap_or.result
    ≡ unwrap_or (first_of_code c.args.self.now.uses c.args.addr c.args.len c.args.last) c.args.last =
    c.unwrap_or.ensures ∙ ap (λ (o : Option ℕ). unwrap_or o c.args.last) c.first_of_code.ensures in
    omega (arith, is, first-within c.args.self.now.uses c.args.addr c.args.len c.args.last)

pub returns-clause-step : goal.returns-clause-step
unfolding table_of loaded_of
returns-clause-step c code setup marks size start h =
    let trail = c.args.self.now in
    let last = c.args.last in
    let addr = c.args.addr in
    let found = first_of_code trail.uses addr (len_of code) last in
    let is : c.unwrap_or.result ≡ unwrap_or found last = c.unwrap_or.ensures
    ∙ ap (λ (o : Option ℕ). unwrap_or o last) (c.first_of_code.ensures
    ∙ ap (λ n. first_of_code trail.uses addr n last) (sym size)) in
    let below-last = c.requires.held in
    let whole : IsCodeIn (loaded_of trail) addr (len_of code) = (let P : ℕ → Type 0 = λ n. IsCodeIn (loaded_of trail)
    addr n in subst P (sym size) c.requires.code) in
    subst (λ (k : ℕ). IsLastUnshown (Patch addr code) (record { start = start; setup = setup; marks = marks }) last k)
    (sym is)
    (first-is-last addr code last (record { start = start; setup = setup; marks = marks }) found
    (first-of-code trail start setup marks addr (len_of code) last h whole (omega arith)))
