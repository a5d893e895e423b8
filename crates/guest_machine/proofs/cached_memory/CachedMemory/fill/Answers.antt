use Rattle.guest_machine.proofs.Altering.{kept, both, fill-alters}
use Rattle.guest_machine.proofs.cached_memory.CachedMemory.fill.Goals as goal

pub invariant_of-self-inside : goal.invariant_of-self-inside
invariant_of-self-inside c = (
  kept c.self.inside.memory c.fill.new.self c.self.inside.cache c.forget.new.self c.args.addr c.args.len
      (fill-alters c.fill.result c.self.inside.memory c.fill.new.self c.args.addr c.args.len c.args.bytes.now
      (both _ _ c.fill.result c.fill.ensures.bytes c.fill.ensures.shadows) c.fill.ensures.err)
      c.forget.ensures.words c.forget.ensures.halves c.self.inside.kept,
  tt,
)
