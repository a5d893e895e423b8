use Rattle.std.proofs.Common.{◌≡◌, ◌<◌, ◌^◌, arith, length}
use Rattle.std.proofs.lemmas.Result.{on_ok_weaker}
use Rattle.shadow_memory.specs.Edits.{change_of, count_of}
use Rattle.shadow_memory.specs.Memories.{cells_of}
use Rattle.shadow_memory.proofs.Storing.{store-undefined}
use Rattle.shadow_memory.proofs.memory.Memory.store_undefined.Goals as goal

pub returns-clause-ok : goal.returns-clause-ok
unfolding count_of change_of
returns-clause-ok c =
    let small : c.args.addr < 2 ^ 32 = omega arith in
    let long : length c.word_bytes-bytes.result ≡ 4 = omega arith in
    on_ok_weaker c.change.result (λ h. store-undefined (cells_of c.args.self.now) (cells_of c.change.new.self)
    c.args.addr c.args.n c.args.bits c.word_bytes-bytes.result small c.requires.one_page c.requires.width long
    c.word_bytes-bytes.ensures c.requires.undefined h)
    c.change.ensures.ok
