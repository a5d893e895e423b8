use Rattle.std.proofs.Common.{◌<◌, arith}
use Rattle.std.proofs.lemmas.Result.{on_ok_weaker, on_err_weaker}
use Rattle.shadow_memory.specs.Edits.{each_of}
use Rattle.shadow_memory.specs.Memories.{cells_of}
use Rattle.shadow_memory.proofs.Copying.{zeros-copied}
use Rattle.shadow_memory.proofs.memory.Memory.copy_zeros.Goals as goal

pub returns-clause-ok : goal.returns-clause-ok
unfolding each_of
returns-clause-ok c =
    on_ok_weaker c.change_all.result (zeros-copied (cells_of c.args.self.now) (cells_of c.change_all.new.self)
    c.args.from c.args.to c.args.count c.args.count
    c.args.kind (omega arith) c.requires)
    c.change_all.ensures.ok

pub returns-clause-err : goal.returns-clause-err
unfolding each_of
returns-clause-err c = on_err_weaker c.change_all.result (λ front.
    let fewer : front.0 < c.args.count = front.1 in (
      front.0,
      front.1,
      zeros-copied (cells_of c.args.self.now) (cells_of c.change_all.new.self) c.args.from c.args.to front.0
          c.args.count c.args.kind (omega arith) c.requires
          front.2,
    ))
    c.change_all.ensures.err
