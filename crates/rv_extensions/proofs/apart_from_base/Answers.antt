-- The law is a fact of the table.
use Rattle.rv_extensions.proofs.TableLaws.{extension-ApartFromBase}
use Rattle.rv_extensions.proofs.apart_from_base.Goals as goal

pub returns : goal.returns
returns c = extension-ApartFromBase
