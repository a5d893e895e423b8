use Rattle.guest_machine.proofs.Altering.{kept, range-alters}
use Rattle.guest_machine.proofs.cached_memory.CachedMemory.set_range.Goals as goal

pub invariant_of-self-inside : goal.invariant_of-self-inside
invariant_of-self-inside c = (
  kept c.self.inside.memory c.set_range.new.self c.self.inside.cache c.forget.new.self c.args.addr c.args.len
      (range-alters c.set_range.result c.self.inside.memory c.set_range.new.self c.args.addr c.args.len c.args.kind
      c.set_range.ensures.bytes c.set_range.ensures.shadows c.set_range.ensures.err)
      c.forget.ensures.words c.forget.ensures.halves c.self.inside.kept,
  tt,
)
