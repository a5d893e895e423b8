use Rattle.std.proofs.Common.{◌≡◌, ◌∙◌, ◌<◌, ◌/◌, ◌%◌, ap, arith, length, rules, vec_len}
use Rattle.shadow_memory.specs.Memories.{cells_of}
use Rattle.shadow_memory.specs.Views.{cells_seen}
use Rattle.shadow_memory.proofs.Tables.{seen-there}
use Rattle.shadow_memory.proofs.memory.Memory.view.Goals as goal

pub returns-then-at-len : goal.returns-then-at-len
unfolding cells_of
returns-then-at-len c = λ a same.
    let tops = c.args.self.now.tops in
    let long : vec_len tops ≡ length tops.items = search rules in
    let within : c.args.addr / 134217728 < length tops.items = omega
    (arith, c.if-at-len.true, c.len.ensures, long) in
    let here : a / 134217728 ≡ c.args.addr / 134217728 = omega (arith, same) in
    let page : a % 134217728 / 4096 ≡ c.args.addr % 134217728 / 4096 = omega (arith, same) in
    let place : a % 134217728 % 4096 ≡ a % 4096 = omega arith in
    seen-there tops.items c.index.result.now c.args.addr a within c.index.ensures here
    ∙ c.view.ensures (a % 134217728) page ∙ ap (cells_seen c.view.result) place
