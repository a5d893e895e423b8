use Rattle.guest_machine.proofs.Altering.{kept, poke-alters}
use Rattle.guest_machine.proofs.cached_memory.CachedMemory.poke_half.Goals as goal

pub invariant_of-self-inside : goal.invariant_of-self-inside
invariant_of-self-inside c = (
  kept c.self.inside.memory c.poke_half.new.self c.self.inside.cache c.forget.new.self c.args.addr 2
      (poke-alters c.poke_half.result c.self.inside.memory c.poke_half.new.self c.args.addr 2 c.args.half
      c.poke_half.ensures.shadows c.poke_half.ensures.bytes c.poke_half.ensures.err)
      c.forget.ensures.words c.forget.ensures.halves c.self.inside.kept,
  tt,
)
