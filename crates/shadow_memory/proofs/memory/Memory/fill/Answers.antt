use Rattle.std.proofs.lemmas.Result.{on_ok_weaker, on_err_weaker}
use Rattle.shadow_memory.proofs.Seen.{filled-seen}
use Rattle.shadow_memory.proofs.memory.Memory.fill.Goals as goal

pub returns-clause-bytes : goal.returns-clause-bytes
returns-clause-bytes c =
    on_ok_weaker c.fill_cells.result (λ h. (filled-seen c.args.self.now c.fill_cells.new.self c.args.addr c.args.len
    c.args.bytes.now h).0) c.fill_cells.ensures.ok

pub returns-clause-shadows : goal.returns-clause-shadows
returns-clause-shadows c =
    on_ok_weaker c.fill_cells.result (λ h. (filled-seen c.args.self.now c.fill_cells.new.self c.args.addr c.args.len
    c.args.bytes.now h).1) c.fill_cells.ensures.ok

pub returns-clause-err : goal.returns-clause-err
returns-clause-err c =
    on_err_weaker c.fill_cells.result
    (λ front. (
      front.0,
      front.1,
      filled-seen c.args.self.now c.fill_cells.new.self c.args.addr front.0 c.args.bytes.now
          front.2,
    )) c.fill_cells.ensures.err
