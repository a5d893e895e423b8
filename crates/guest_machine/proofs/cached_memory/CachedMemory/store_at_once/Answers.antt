use Rattle.guest_machine.proofs.Altering.{kept, at-once-alters}
use Rattle.guest_machine.proofs.cached_memory.CachedMemory.store_at_once.Goals as goal

pub invariant_of-self-inside : goal.invariant_of-self-inside
invariant_of-self-inside c = (
  kept c.self.inside.memory c.store_at_once.new.self c.self.inside.cache c.forget.new.self c.args.addr c.args.n
      (at-once-alters c.store_at_once.result c.self.inside.memory c.store_at_once.new.self c.args.addr c.args.n
      c.args.bits c.store_at_once.ensures.bytes c.store_at_once.ensures.shadows c.store_at_once.ensures.bytes_kept
      c.store_at_once.ensures.shadows_kept)
      c.forget.ensures.words c.forget.ensures.halves c.self.inside.kept,
  tt,
)
