-- The funct5 or the funct3 is none of the table's.
use Rattle.std.proofs.Common.{sym, rules}
use Rattle.rv_extensions.proofs.TableLemmas.{extension_other_update}
use Rattle.rv_extensions.proofs.update.Goals as goal

pub returns-in_default : goal.returns-in_default
returns-in_default c =
    sym (extension_other_update c.args.word c.requires.opcode c.requires.other (search rules))
