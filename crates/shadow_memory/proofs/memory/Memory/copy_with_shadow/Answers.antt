use Rattle.std.proofs.lemmas.Result.{on_ok_weaker, on_err_weaker}
use Rattle.shadow_memory.proofs.Seen.{copied-seen}
use Rattle.shadow_memory.proofs.memory.Memory.copy_with_shadow.Goals as goal

pub returns-clause-bytes : goal.returns-clause-bytes
returns-clause-bytes c =
    on_ok_weaker c.copy_cells.result (λ h. (copied-seen c.args.self.now c.copy_cells.new.self c.args.from c.args.to
    c.args.len h).0) c.copy_cells.ensures.ok

pub returns-clause-shadows : goal.returns-clause-shadows
returns-clause-shadows c =
    on_ok_weaker c.copy_cells.result (λ h. (copied-seen c.args.self.now c.copy_cells.new.self c.args.from c.args.to
    c.args.len h).1) c.copy_cells.ensures.ok

pub returns-clause-err : goal.returns-clause-err
returns-clause-err c =
    on_err_weaker c.copy_cells.result (λ front. (
      front.0,
      front.1,
      copied-seen c.args.self.now c.copy_cells.new.self c.args.from c.args.to front.0 front.2,
    )) c.copy_cells.ensures.err
