use Rattle.std.proofs.Common.{◌≡◌, arith, length, refl}
use Rattle.call_stacks.proofs.Lists.{same_lists}
use Rattle.error_events.specs.Shown.{groups_of}
use Rattle.error_events.proofs.groups.Groups.are_same.Goals as goal

pub returns-clause-same : goal.returns-clause-same
returns-clause-same c all =
    let long : length (groups_of c.args.self.now) ≡ length (groups_of c.args.others.now) = omega arith in
    same_lists (groups_of c.args.self.now) (groups_of c.args.others.now) long (λ k inside. c.loop-index.invariant k
    (omega arith))

pub returns-clause-found : goal.returns-clause-found
returns-clause-found c same few = refl
