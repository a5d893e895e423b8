-- The funct3 is none of the table's.
use Rattle.std.proofs.Common.{sym, rules}
use Rattle.rv_extensions.proofs.TableLemmas.{extension_other_system}
use Rattle.rv_extensions.proofs.system.Goals as goal

pub returns-in_default : goal.returns-in_default
returns-in_default c = sym (extension_other_system c.args.word c.requires (search rules))
