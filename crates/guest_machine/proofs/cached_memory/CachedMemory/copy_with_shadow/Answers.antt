use Rattle.guest_machine.proofs.Altering.{kept, both, copy-alters}
use Rattle.guest_machine.proofs.cached_memory.CachedMemory.copy_with_shadow.Goals as goal

pub invariant_of-self-inside : goal.invariant_of-self-inside
invariant_of-self-inside c = (
  kept c.self.inside.memory c.copy_with_shadow.new.self c.self.inside.cache c.forget.new.self c.args.to c.args.len
      (copy-alters c.copy_with_shadow.result c.self.inside.memory c.copy_with_shadow.new.self c.args.from c.args.to
      c.args.len
      (both _ _ c.copy_with_shadow.result c.copy_with_shadow.ensures.bytes c.copy_with_shadow.ensures.shadows)
      c.copy_with_shadow.ensures.err)
      c.forget.ensures.words c.forget.ensures.halves c.self.inside.kept,
  tt,
)
