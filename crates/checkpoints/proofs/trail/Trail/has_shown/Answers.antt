use Rattle.std.proofs.Common.{◌≡◌, ℕ, Option, ◌*◌, ◌-◌, ◌≤◌, ap, sym, ◌∙◌, arith, subst, Bool, length}
use Rattle.std.proofs.Math.Nat.{mul_comm}
use Rattle.checkpoints.proofs.SpacingSteps.{up}
use Rattle.std.specs.Prelude.{is_some}
use Rattle.checkpoints.specs.Places.{places_of}
use Rattle.checkpoints.specs.Trails.{machines_of, table_of, loaded_of, last_held, spacing_of}
use Rattle.checkpoints.specs.FirstUses.{first_of_code}
use Rattle.instructions.specs.Codes.{len_of}
use Rattle.checkpoints.specs.Effects.{Tells, WritesWithin}
use Rattle.checkpoints.specs.declared.effect.Effect.{Effect}
use Rattle.checkpoints.specs.FirstEffects.{PatchShows}
use Rattle.checkpoints.proofs.EffectSteps.{told-after, told-code, told-anew}
use Rattle.checkpoints.proofs.trail.Trail.has_shown.Goals as goal

pub returns-in-After : goal.returns-in-After
unfolding spacing_of
returns-in-After c start setup marks h =
    rw c.in-After.is (told-after c.in-After.marked (c.args.self.now.spacing * c.args.place)
    (c.args.place * c.args.self.now.spacing)
    (mul_comm c.args.place c.args.self.now.spacing))

pub returns-in-Patch : goal.returns-in-Patch
unfolding machines_of table_of loaded_of last_held spacing_of
returns-in-Patch c start setup marks h =
    let place = c.args.place in
    let s = c.args.self.now.spacing in
    let near : place ≤ length (places_of c.args.self.now.held) - 1 = omega (arith, c.requires.held) in
    let under = up s place (length (places_of c.args.self.now.held) - 1) near in
    let low = c.requires.held in
    let addr = c.in-Patch.addr in
    let len = len_of c.in-Patch.code in
    let code = subst (λ (e : Effect). WritesWithin (loaded_of c.args.self.now) e) c.in-Patch.is c.requires.within in
    let size : c.len.result ≡ len = c.len.ensures in
    rw c.in-Patch.is (subst (λ (b : Bool). Tells (PatchShows addr len start setup marks) (s * place) b)
    (sym (c.is_some.ensures ∙ ap (λ (o : Option ℕ). is_some o) (c.first_of_code.ensures
    ∙ ap (λ n. first_of_code c.args.self.now.uses addr n (place * s)) size)))
    (told-code c.args.self.now start setup marks addr len (s * place) (place * s) (mul_comm place s)
    (omega (arith, mul_comm place s, under))
    h code))

pub returns-in-Anew : goal.returns-in-Anew
unfolding spacing_of
returns-in-Anew c start setup marks h =
    rw c.in-Anew.is (told-anew (c.args.self.now.spacing * c.args.place) (c.args.place * c.args.self.now.spacing)
    (mul_comm c.args.place c.args.self.now.spacing))
