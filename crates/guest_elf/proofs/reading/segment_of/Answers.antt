use Rattle.std.proofs.Common.{◌≡◌, ◌∙◌, ap, arith, length}
use Rattle.guest_elf.proofs.Loading.{count_of_bytes, good_from_test}
use Rattle.guest_elf.proofs.reading.segment_of.Goals as goal

pub invariant_of-result : goal.invariant_of-result
invariant_of-result c =
    let good = good_from_test (length c.args.file.now) c.args.header c.requires in
    let count : length c.bytes_of.result.now ≡ c.args.header.filesz =
    ap length c.bytes_of.ensures ∙ count_of_bytes c.args.file.now c.args.header c.requires in
    record { in_space = good.in_space; within = omega arith }
