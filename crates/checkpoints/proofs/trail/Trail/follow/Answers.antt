use Rattle.std.proofs.Common.{inl}
use Rattle.checkpoints.proofs.EffectSteps.{led-by-code, led-by-cut, followed-by-cut, whole-by-cut}
use Rattle.std.proofs.lemmas.Result.{on_ok_weaker}
use Rattle.checkpoints.proofs.trail.Trail.follow.Goals as goal

pub returns-in-Patch-clause-right : goal.returns-in-Patch-clause-right
returns-in-Patch-clause-right c =
    rw c.in-Patch.is (on_ok_weaker c.patch.result
    (led-by-code c.in-Patch.addr c.in-Patch.code c.args.self.now c.patch.new.self) c.patch.ensures.right)

pub returns-in-Patch-clause-followed : goal.returns-in-Patch-clause-followed
returns-in-Patch-clause-followed c = rw c.in-Patch.is c.patch.ensures.written

pub returns-in-Patch-clause-kept : goal.returns-in-Patch-clause-kept
returns-in-Patch-clause-kept c = rw c.in-Patch.is c.patch.ensures.kept

pub returns-in-Patch-clause-short : goal.returns-in-Patch-clause-short
returns-in-Patch-clause-short c = rw c.in-Patch.is c.patch.ensures.short

pub returns-in_default-clause-right : goal.returns-in_default-clause-right
returns-in_default-clause-right c =
    led-by-cut c.args.effect (c.in_default.not-Patch, c.in_default.not-Anew) c.args.self.now c.cut.new.self
    c.cut.ensures.right

pub returns-in_default-clause-followed : goal.returns-in_default-clause-followed
returns-in_default-clause-followed c =
    let machines = c.cut.ensures.machines in
    followed-by-cut c.args.effect (c.in_default.not-Patch, c.in_default.not-Anew) c.args.self.now c.cut.new.self
    machines.0 machines.2

pub returns-in_default-clause-kept : goal.returns-in_default-clause-kept
returns-in_default-clause-kept c start setup marks h = inl (c.cut.ensures.kept start setup marks h, c.cut.ensures.short)

pub returns-in_default-clause-short : goal.returns-in_default-clause-short
returns-in_default-clause-short c = whole-by-cut c.args.effect c.args.self.now c.cut.new.self c.cut.ensures.short

pub returns-in-Anew-clause-right : goal.returns-in-Anew-clause-right
returns-in-Anew-clause-right c = rw c.in-Anew.is c.begin_anew.ensures.right

pub returns-in-Anew-clause-followed : goal.returns-in-Anew-clause-followed
returns-in-Anew-clause-followed c = rw c.in-Anew.is c.begin_anew.ensures.followed

pub returns-in-Anew-clause-kept : goal.returns-in-Anew-clause-kept
returns-in-Anew-clause-kept c = rw c.in-Anew.is c.begin_anew.ensures.kept

pub returns-in-Anew-clause-short : goal.returns-in-Anew-clause-short
returns-in-Anew-clause-short c = rw c.in-Anew.is c.begin_anew.ensures.short
