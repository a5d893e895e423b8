use Rattle.guest_machine.proofs.Altering.{kept, poke-alters}
use Rattle.guest_machine.proofs.cached_memory.CachedMemory.poke_word.Goals as goal

pub invariant_of-self-inside : goal.invariant_of-self-inside
invariant_of-self-inside c = (
  kept c.self.inside.memory c.poke_word.new.self c.self.inside.cache c.forget.new.self c.args.addr 4
      (poke-alters c.poke_word.result c.self.inside.memory c.poke_word.new.self c.args.addr 4 c.args.word
      c.poke_word.ensures.shadows c.poke_word.ensures.bytes c.poke_word.ensures.err)
      c.forget.ensures.words c.forget.ensures.halves c.self.inside.kept,
  tt,
)
