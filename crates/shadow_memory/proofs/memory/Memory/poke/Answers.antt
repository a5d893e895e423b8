use Rattle.std.proofs.lemmas.Result.{on_ok_weaker, on_err_weaker}
use Rattle.shadow_memory.specs.Edits.{change_of, count_of}
use Rattle.shadow_memory.proofs.Seen.{either_way, poked-seen, unchanged-bytes, unchanged-shadows}
use Rattle.shadow_memory.proofs.memory.Memory.poke.Goals as goal

pub returns-clause-bytes : goal.returns-clause-bytes
unfolding count_of change_of
returns-clause-bytes c =
    on_ok_weaker c.change.result (λ h. (poked-seen c.args.self.now c.change.new.self c.args.addr c.args.byte
    c.cell-cell.result c.cell-cell.ensures.value h).0) c.change.ensures.ok

pub returns-clause-shadows : goal.returns-clause-shadows
unfolding count_of change_of
returns-clause-shadows c =
    either_way c.change.result (on_ok_weaker c.change.result
    (λ h. (poked-seen c.args.self.now c.change.new.self c.args.addr c.args.byte c.cell-cell.result
    c.cell-cell.ensures.value h).1) c.change.ensures.ok)
    (on_err_weaker c.change.result (unchanged-shadows c.args.self.now c.change.new.self) c.change.ensures.err)

pub returns-clause-err : goal.returns-clause-err
returns-clause-err c =
    on_err_weaker c.change.result (unchanged-bytes c.args.self.now c.change.new.self) c.change.ensures.err
