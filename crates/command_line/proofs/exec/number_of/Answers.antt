use Rattle.clap.specs.Words.{found_of}
use Rattle.command_line.proofs.Steps.{is-number}
use Rattle.command_line.proofs.exec.number_of.Goals as goal

pub returns : goal.returns
returns c =
    is-number (found_of c.args.chosen.now) c.args.name.now c.get_one.result c.get_one.ensures.none
    c.get_one.ensures.value
