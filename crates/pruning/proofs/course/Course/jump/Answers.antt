use Rattle.std.proofs.Common.{◌≡◌, ◌-◌, ◌*◌, [], Option, Some, IfSome, arith, refl, subst, sym}
use Rattle.std.specs.List.{All}
use Rattle.guest_machine.specs.Differences.{ShowsButFor}
use Rattle.guest_machine.specs.Laws.{DifferWithin, SharesRest, Within}
use Rattle.guest_machine.specs.Run.{pre}
use Rattle.guest_machine.specs.Shows.{Shows}
use Rattle.shadow_memory.specs.Differences.{in_words, IsWordApart}
use Rattle.pruning.proofs.ApartSteps.{AreFree, get-is, jumped, jumps-nowhere}
use Rattle.pruning.proofs.course.Course.jump.Goals as goal

of-found : {X : Type 0} (P : X → Type 0) (o : Option X) (x : X) → o ≡ Some x → IfSome o P → P x
of-found P o x e told = subst (λ p. IfSome p P) e told

pub returns-in_default-clause-shows : goal.returns-in_default-clause-shows
returns-in_default-clause-shows c s h =
    jumps-nowhere c.args.machine c.args.setup.now c.args.self.now.apart c.args.place s h

pub returns-then-saved-lt-LEAST_JUMP-clause-shows : goal.returns-then-saved-lt-LEAST_JUMP-clause-shows
returns-then-saved-lt-LEAST_JUMP-clause-shows c s h =
    jumps-nowhere c.args.machine c.args.setup.now c.args.self.now.apart c.args.place s h

pub returns-clause-shows : goal.returns-clause-shows
returns-clause-shows c s h =
    let course = c.args.self.now in
    let words = c.in-Some.words.items in
    let found = of-found (λ words. ShowsButFor words.items (Shows c.args.machine) (Shows c.index.result.now))
    c.in_ok-found.found c.in-Some.words c.in-Some.is c.in_ok-found.ensures s h in
    let there = jumped c.keeps_apart.ensures c.reads_on.ensures course.touches.keys.items words course.setup
    c.args.setup.now course.apart c.args.place c.reach-there.result course.machines.items c.index.result.now
    c.index-2.result.now s course.right c.reach-there.ensures.later
    (get-is course.machines.items c.args.place _ (omega arith) c.index.ensures)
    (get-is course.machines.items c.reach-there.result _ (omega arith) c.index-2.ensures) found.0 found.1 found.2
    found.3 (subst (λ p. SharesRest p course.setup c.args.setup.now) (c.position.ensures s h)
    (c.if-not-shares_rest.ensures refl))
    (subst (λ ws. AreFree course.touches.keys.items ws (course.apart * c.args.place)
    (course.apart * c.reach-there.result)) c.deref.ensures.value c.reach-there.ensures.free) in
    let t = pre s c.args.setup.now [] (course.apart * (c.reach-there.result - c.args.place)) in
    let back = sym c.deref-2.ensures.value in
    c.in_ok-jumped.ensures there.state t there.bytes
    (c.made_ready-ready.ensures there.state (c.in_ok-next.ensures there.state there.shows))
    (subst (λ ws. DifferWithin (Within (in_words ws)) there.state t) back there.differ)
    (subst (All (IsWordApart t.bytes there.bytes)) back there.inside)
