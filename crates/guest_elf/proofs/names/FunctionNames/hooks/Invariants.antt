use Rattle.guest_elf.proofs.Hooked.{Gathered}
use Rattle.guest_elf.proofs.names.FunctionNames.hooks.Given as goal

abbrev pub invariant-loop-symbol : goal.invariant-loop-symbol
invariant-loop-symbol l = Gathered l.self.strings.now l.self.symbols.items l.hooks.items l.symbol-index l.end
