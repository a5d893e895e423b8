use Rattle.std.proofs.Common.{◌∙◌, ◌≡◌, ◌<◌, ◌≤◌, ◌+◌, ◌/◌, ◌%◌, ap, arith, length, rules, slice_index, vec_len}
use Rattle.shadow_memory.specs.Changes.{received}
use Rattle.shadow_memory.specs.Memories.{cells_of}
use Rattle.shadow_memory.specs.declared.cells.Cell.{Cell}
use Rattle.shadow_memory.proofs.Tables.{seen-there, shelf-changed, shelf-kept}
use Rattle.shadow_memory.proofs.memory.Memory.put.Goals as goal

pub returns-then-number-len-clause-done : goal.returns-then-number-len-clause-done
unfolding cells_of
returns-then-number-len-clause-done c done =
    let n = length c.args.bytes.now in
    let long : vec_len c.args.self.now.tops ≡ length c.args.self.now.tops.items = search rules in
    let within : c.args.addr / 134217728 < length c.args.self.now.tops.items = omega
    (arith, c.if-number-len.true, c.len.ensures, long) in
    let fits : c.args.addr % 134217728 + n ≤ 134217728 = omega arith in
    shelf-changed c.args.self.now.tops.items c.index_mut.result.now c.put.new.self
    c.args.addr n (received (slice_index c.args.bytes.now))
    within fits c.index_mut.ensures.value (c.put.ensures.done done)

pub returns-then-number-len-clause-whole : goal.returns-then-number-len-clause-whole
unfolding cells_of
returns-then-number-len-clause-whole c done k low high =
    let n = length c.args.bytes.now in
    let addr = c.args.addr in
    let tops = c.args.self.now.tops in
    let long : vec_len tops ≡ length tops.items = search rules in
    let within : addr / 134217728 < length tops.items = omega
    (arith, c.if-number-len.true, c.len.ensures, long) in
    let fits : addr % 4096 + n ≤ 4096 = c.requires in
    let here : k / 134217728 ≡ addr / 134217728 = omega (arith, low, high, fits) in
    let from : addr % 134217728 ≤ k % 134217728 = omega (arith, low, here) in
    let to : k % 134217728 < addr % 134217728 + n = omega (arith, high, here) in
    ap (λ (cell : Cell). cell.accessible)
    (seen-there tops.items c.index_mut.result.now addr k within c.index_mut.ensures.value here)
    ∙ c.put.ensures.whole done (k % 134217728) from to

pub returns-then-number-len-clause-kept : goal.returns-then-number-len-clause-kept
unfolding cells_of
returns-then-number-len-clause-kept c same =
    let tops = c.args.self.now.tops in
    let long : vec_len tops ≡ length tops.items = search rules in
    let within : c.args.addr / 134217728 < length tops.items = omega
    (arith, c.if-number-len.true, c.len.ensures, long) in
    shelf-kept tops.items c.index_mut.result.now c.put.new.self c.args.addr within c.index_mut.ensures.value
    (c.put.ensures.kept same)
