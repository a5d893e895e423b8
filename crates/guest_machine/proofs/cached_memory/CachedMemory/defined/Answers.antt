use Rattle.std.proofs.Common.{IfSome, subst}
use Rattle.shadow_memory.specs.Shadows.{HasDefined}
use Rattle.shadow_memory.specs.Memories.{bytes_in, shadows_in}
use Rattle.shadow_memory.specs.declared.memory.Memory.{Memory}
use Rattle.guest_machine.proofs.cached_memory.CachedMemory.defined.Goals as goal

pub returns-clause-has : goal.returns-clause-has
returns-clause-has c =
    subst (λ (m : Memory). IfSome c.defined.result
    (λ value. HasDefined (bytes_in m) (shadows_in m) c.args.addr c.args.n value)) c.self.view_is c.defined.ensures.has
