use Rattle.guest_machine.proofs.Altering.{kept, store-alters}
use Rattle.guest_machine.proofs.cached_memory.CachedMemory.store.Goals as goal

pub invariant_of-self-inside : goal.invariant_of-self-inside
invariant_of-self-inside c = (
  kept c.self.inside.memory c.store.new.self c.self.inside.cache c.forget.new.self c.args.addr c.args.n
      (store-alters c.store.result c.self.inside.memory c.store.new.self c.args.addr c.args.n c.args.bits
      c.store.ensures.bytes c.store.ensures.shadows c.store.ensures.err)
      c.forget.ensures.words c.forget.ensures.halves c.self.inside.kept,
  tt,
)
