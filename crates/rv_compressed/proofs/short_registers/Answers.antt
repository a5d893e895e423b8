-- The law is a fact of the table.
use Rattle.rv_compressed.proofs.Expansions.{short_registers-ShortRegisters}
use Rattle.rv_compressed.proofs.short_registers.Goals as goal

pub returns : goal.returns
returns c = short_registers-ShortRegisters
