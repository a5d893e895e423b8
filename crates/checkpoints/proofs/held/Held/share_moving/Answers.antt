use Rattle.std.proofs.Common.{◌≡◌, ◌-◌, ◌∙◌, ap, arith, get_or, length, subst, sym}
use Rattle.std.proofs.lemmas.List.{get_or_default}
use Rattle.std.proofs.lemmas.Result.{IfOk-weaker}
use Rattle.guest_machine.specs.Shows.{Shows}
use Rattle.guest_machine.specs.declared.machine.Machine.{Machine}
use Rattle.checkpoints.specs.Places.{places_of}
use Rattle.checkpoints.proofs.PlaceSteps.{machine-count, some-machines, placed, placed-length, placed-last}
use Rattle.checkpoints.proofs.held.Held.share_moving.Goals as goal

pub returns-clause-copy : goal.returns-clause-copy
unfolding places_of
returns-clause-copy c =
    let held = c.args.self.now in
    let ms = held.machines.items in
    let n = held.more in
    let some = some-machines held in
    let count = machine-count held in
    let long = placed-length ms n some in
    let old = c.index_mut.result.now in
    let last : length ms - 1 ≡ c.len-last.result - 1 = omega (arith, c.len-last.ensures, count) in
    IfOk-weaker c.share_moving.result _ _
    (λ copy is d s h.
    let at : get_or (placed ms n) (length (placed ms n) - 1) d ≡ old =
    placed-last ms n (length (placed ms n) - 1) d some (omega (arith, long)) (omega (arith, long, some))
    ∙ get_or_default ms (length ms - 1) d old (omega (arith, some)) ∙ ap (λ k. get_or ms k old) last
    ∙ sym c.index_mut.ensures.value in
    is s (subst (λ (m : Machine). Shows m s) at h)) c.share_moving.ensures.copy
