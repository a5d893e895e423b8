use Rattle.std.proofs.Common.{length}
use Rattle.std.proofs.lemmas.Result.{on_ok_weaker, on_err_weaker}
use Rattle.shadow_memory.proofs.Seen.{received-seen}
use Rattle.shadow_memory.proofs.memory.Memory.store_bytes.Goals as goal

pub returns-clause-bytes : goal.returns-clause-bytes
returns-clause-bytes c =
    on_ok_weaker c.store_bytes_cells.result
    (λ h. (received-seen c.args.self.now c.store_bytes_cells.new.self c.args.addr (length c.args.bytes.now)
    c.args.bytes.now h).0)
    c.store_bytes_cells.ensures.ok

pub returns-clause-shadows : goal.returns-clause-shadows
returns-clause-shadows c =
    on_ok_weaker c.store_bytes_cells.result
    (λ h. (received-seen c.args.self.now c.store_bytes_cells.new.self c.args.addr (length c.args.bytes.now)
    c.args.bytes.now h).1)
    c.store_bytes_cells.ensures.ok

pub returns-clause-err : goal.returns-clause-err
returns-clause-err c =
    on_err_weaker c.store_bytes_cells.result
    (λ front. (
      front.0,
      front.1,
      received-seen c.args.self.now c.store_bytes_cells.new.self c.args.addr front.0
          c.args.bytes.now front.2,
    ))
    c.store_bytes_cells.ensures.err
