-- The opcode is none of the table's.
use Rattle.std.proofs.Common.{sym, rules}
use Rattle.rv_extensions.proofs.TableLemmas.{extension_other}
use Rattle.rv_extensions.proofs.by_opcode.Goals as goal

pub returns-in_default : goal.returns-in_default
returns-in_default c = sym (extension_other c.args.word (search rules))
