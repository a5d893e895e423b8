use Rattle.guest_machine.proofs.Altering.{kept, both, receive-alters}
use Rattle.guest_machine.proofs.cached_memory.CachedMemory.store_bytes.Goals as goal

pub invariant_of-self-inside : goal.invariant_of-self-inside
invariant_of-self-inside c = (
  kept c.self.inside.memory c.store_bytes.new.self c.self.inside.cache c.forget.new.self c.args.addr _
      (receive-alters c.store_bytes.result c.self.inside.memory c.store_bytes.new.self c.args.addr _ c.args.bytes.now
      (both _ _ c.store_bytes.result c.store_bytes.ensures.bytes c.store_bytes.ensures.shadows)
      c.store_bytes.ensures.err)
      c.forget.ensures.words c.forget.ensures.halves c.self.inside.kept,
  tt,
)
