use Rattle.std.proofs.Common.{◌+◌, ◌≤◌, arith, rules, length}
use Rattle.guest_elf.proofs.Loading.{good_from_test}
use Rattle.guest_elf.proofs.reading.bytes_of.Goals as goal

pub slice_bounds-result-end-2 : goal.slice_bounds-result-end-2
slice_bounds-result-end-2 c =
    let good = good_from_test (length c.args.file.now) c.args.header c.requires in
    let inside : c.args.header.offset + c.args.header.filesz ≤ length c.args.file.now = good.in_file (omega arith) in
    search (rules, inside)
