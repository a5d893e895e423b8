use Rattle.std.proofs.Common.{◌≡◌, ◌∙◌, ◌<◌, ◌/◌, ◌%◌, ap, arith, length, rules, vec_len}
use Rattle.std.proofs.lemmas.Result.{IfOk-weaker}
use Rattle.shadow_memory.specs.Directories.{cells_at}
use Rattle.shadow_memory.specs.Memories.{cells_of}
use Rattle.shadow_memory.proofs.Tables.{seen-there}
use Rattle.shadow_memory.proofs.memory.Memory.slot.Goals as goal

pub returns-then-at-len : goal.returns-then-at-len
unfolding cells_of
returns-then-at-len c =
    let tops = c.args.self.now.tops in
    let long : vec_len tops ≡ length tops.items = search rules in
    let within : c.args.addr / 134217728 < length tops.items = omega
    (arith, c.if-at-len.true, c.len.ensures, long) in
    IfOk-weaker c.slot.result _ _ (λ slot h a same.
    let here : a / 134217728 ≡ c.args.addr / 134217728 = omega (arith, same) in
    let page : a % 134217728 / 4096 ≡ c.args.addr % 134217728 / 4096 = omega (arith, same) in
    let place : a % 134217728 % 4096 ≡ a % 4096 = omega arith in
    seen-there tops.items c.index.result.now c.args.addr a within c.index.ensures here
    ∙ h (a % 134217728) page ∙ ap (cells_at slot) place) c.slot.ensures
