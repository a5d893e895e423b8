use Rattle.std.proofs.Common.{◌≡◌, ◌<◌, ◌≤◌, ◌+◌, ◌/◌, ◌%◌, arith, length, rules, slice_index, vec_len}
use Rattle.shadow_memory.specs.Changes.{received}
use Rattle.shadow_memory.specs.TopDirectories.{cells_below, cells_on}
use Rattle.shadow_memory.specs.declared.directory_slots.DirectorySlot.TheVariants.{Blank}
use Rattle.shadow_memory.proofs.Tables.{directory-changed}
use Rattle.shadow_memory.proofs.top_directories.TopDirectory.put.Goals as goal

pub returns-then-number-len-clause-done : goal.returns-then-number-len-clause-done
unfolding cells_on
returns-then-number-len-clause-done c done =
    let n = length c.args.bytes.now in
    let long : vec_len c.args.self.now.directories ≡ length c.args.self.now.directories.items = search rules in
    let within : c.args.at / 4194304 < length c.args.self.now.directories.items = omega
    (arith, c.if-number-len.true, c.len.ensures, long) in
    let fits : c.args.at % 4194304 + n ≤ 4194304 = omega arith in
    directory-changed cells_below Blank c.args.self.now.directories.items c.index_mut.result.now c.put.new.self
    c.args.at n (received (slice_index c.args.bytes.now))
    within fits c.index_mut.ensures.value (c.put.ensures.done done)
