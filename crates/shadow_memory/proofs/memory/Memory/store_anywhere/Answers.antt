use Rattle.shadow_memory.proofs.Seen.{at_refusal, stored-seen}
use Rattle.shadow_memory.proofs.memory.Memory.store_anywhere.Goals as goal

pub returns-in_err-store_at-clause-err : goal.returns-in_err-store_at-clause-err
returns-in_err-store_at-clause-err c =
    let front = c.in_err-store_at.ensures.err in
    at_refusal c.from_residual.result (
      front.0,
      front.1,
      stored-seen c.args.self.now c.store_at.new.self c.args.addr
          front.0 c.args.bits front.2,
    )

pub returns-clause-bytes : goal.returns-clause-bytes
returns-clause-bytes c =
    (stored-seen c.args.self.now c.store_at.new.self c.args.addr c.args.n c.args.bits c.in_ok-store_at.ensures.ok).0

pub returns-clause-shadows : goal.returns-clause-shadows
returns-clause-shadows c =
    (stored-seen c.args.self.now c.store_at.new.self c.args.addr c.args.n c.args.bits c.in_ok-store_at.ensures.ok).1
