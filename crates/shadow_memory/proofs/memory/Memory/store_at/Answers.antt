use Rattle.std.proofs.lemmas.Result.{on_err_weaker}
use Rattle.shadow_memory.specs.Changes.{stored}
use Rattle.shadow_memory.specs.Memories.{cells_of}
use Rattle.shadow_memory.proofs.Storing.{empty-front}
use Rattle.shadow_memory.proofs.memory.Memory.store_at.Goals as goal

pub returns-then-bits-eq0-clause-err : goal.returns-then-bits-eq0-clause-err
returns-then-bits-eq0-clause-err c =
    on_err_weaker c.store_defined.result
    (empty-front (cells_of c.args.self.now) _ c.args.addr c.args.n (stored c.args.bits) c.requires)
    c.store_defined.ensures.err

pub returns-then-has_all_bits-clause-err : goal.returns-then-has_all_bits-clause-err
returns-then-has_all_bits-clause-err c =
    on_err_weaker c.store_undefined.result
    (empty-front (cells_of c.args.self.now) _ c.args.addr c.args.n (stored c.args.bits) c.requires)
    c.store_undefined.ensures.err
