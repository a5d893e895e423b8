use Rattle.shadow_memory.proofs.Seen.{stored-seen, unchanged-bytes, unchanged-shadows}
use Rattle.shadow_memory.proofs.memory.Memory.store_at_once.Goals as goal

pub returns-clause-bytes : goal.returns-clause-bytes
returns-clause-bytes c done =
    (stored-seen c.args.self.now c.put_word.new.self c.args.addr c.args.n c.args.bits (c.put_word.ensures.done done)).0

pub returns-clause-shadows : goal.returns-clause-shadows
returns-clause-shadows c done =
    (stored-seen c.args.self.now c.put_word.new.self c.args.addr c.args.n c.args.bits (c.put_word.ensures.done done)).1

pub returns-clause-bytes_kept : goal.returns-clause-bytes_kept
returns-clause-bytes_kept c kept = unchanged-bytes c.args.self.now c.put_word.new.self (c.put_word.ensures.kept kept)

pub returns-clause-shadows_kept : goal.returns-clause-shadows_kept
returns-clause-shadows_kept c kept =
    unchanged-shadows c.args.self.now c.put_word.new.self (c.put_word.ensures.kept kept)
