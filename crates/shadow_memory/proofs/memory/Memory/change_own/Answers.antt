use Rattle.std.proofs.Common.{◌≡◌, ◌<◌, ◌≤◌, ◌+◌, ◌/◌, ◌%◌, arith, length, rules, vec_len}
use Rattle.shadow_memory.specs.Edits.{change_of, count_of}
use Rattle.shadow_memory.specs.Memories.{cells_of}
use Rattle.shadow_memory.proofs.Tables.{shelf-changed, shelf-kept}
use Rattle.shadow_memory.proofs.memory.Memory.change_own.Goals as goal

pub returns-then-number-len-clause-done : goal.returns-then-number-len-clause-done
unfolding cells_of
returns-then-number-len-clause-done c done =
    let n = count_of c.args.edit.now in
    let long : vec_len c.args.self.now.tops ≡ length c.args.self.now.tops.items = search rules in
    let within : c.args.addr / 134217728 < length c.args.self.now.tops.items = omega
    (arith, c.if-number-len.true, c.len.ensures, long) in
    let fits : c.args.addr % 134217728 + n ≤ 134217728 = omega arith in
    shelf-changed c.args.self.now.tops.items c.index_mut.result.now c.change_own.new.self
    c.args.addr n (change_of c.args.edit.now)
    within fits c.index_mut.ensures.value (c.change_own.ensures.done done)

pub returns-then-number-len-clause-kept : goal.returns-then-number-len-clause-kept
unfolding cells_of
returns-then-number-len-clause-kept c same =
    let tops = c.args.self.now.tops in
    let long : vec_len tops ≡ length tops.items = search rules in
    let within : c.args.addr / 134217728 < length tops.items = omega
    (arith, c.if-number-len.true, c.len.ensures, long) in
    shelf-kept tops.items c.index_mut.result.now c.change_own.new.self c.args.addr within c.index_mut.ensures.value
    (c.change_own.ensures.kept same)
