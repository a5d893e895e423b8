use Rattle.std.proofs.Common.{ap, rules}
use Rattle.shadow_memory.specs.Memories.{bytes_in, cells_of}
use Rattle.shadow_memory.specs.declared.cells.Cell.{Cell}
use Rattle.shadow_memory.proofs.Differing.{word-read}
use Rattle.shadow_memory.proofs.memory.Memory.word_at.Goals as goal

pub returns : goal.returns
unfolding bytes_in
returns c =
    word-read (cells_of c.args.self.now) c.args.addr c.word.result c.cell-first.result.byte c.cell-second.result.byte
    c.cell-third.result.byte c.cell-fourth.result.byte (search rules) (search rules) (search rules) (search rules)
    c.word.ensures (ap (λ (x : Cell). x.byte) c.cell-first.ensures.value)
    (ap (λ (x : Cell). x.byte) c.cell-second.ensures.value) (ap (λ (x : Cell). x.byte) c.cell-third.ensures.value)
    (ap (λ (x : Cell). x.byte) c.cell-fourth.ensures.value)
