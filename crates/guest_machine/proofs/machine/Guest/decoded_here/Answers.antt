use Rattle.guest_machine.specs.Shows.{bytes_of, core_of}
use Rattle.guest_machine.proofs.Fetching.{at_ready, found_word}
use Rattle.guest_machine.proofs.machine.Guest.decoded_here.Goals as goal

pub decoded_word-requires : goal.decoded_word-requires
decoded_word-requires c = at_ready (core_of c.args.self.now) c.requires

pub returns : goal.returns
returns c =
    found_word (core_of c.args.self.now) (bytes_of c.args.self.now) c.decoded_word.result c.requires
    c.decoded_word.ensures
