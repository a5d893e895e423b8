use Rattle.std.proofs.Common.{IfSome, subst}
use Rattle.shadow_memory.specs.Memories.{bytes_in, shadows_in}
use Rattle.shadow_memory.specs.declared.memory.Memory.{Memory}
use Rattle.guest_machine.specs.DecodeCaches.{HasRow}
use Rattle.guest_machine.proofs.DecodeSteps.{decoded-has}
use Rattle.guest_machine.proofs.cached_memory.CachedMemory.decoded_half.Goals as goal

pub returns : goal.returns
returns c =
    let entries = c.self.inside.cache.halves.items in
    subst (λ (m : Memory). IfSome c.half_at.result (λ row. HasRow (bytes_in m) (shadows_in m) 2 c.args.addr row))
    c.self.view_is
    (decoded-has _ _ 2 entries c.args.addr c.half_at.result c.requires c.self.inside.kept.halves c.half_at.ensures)
