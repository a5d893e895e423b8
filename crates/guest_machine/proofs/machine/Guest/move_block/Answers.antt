use Rattle.std.proofs.Common.{◌+◌, ◌<◌, ◌≤◌, refl, arith, rules}
use Rattle.memory_map.specs.Regions.{greatest_heap_begin, heap_size}
use Rattle.guest_machine.specs.Shows.{core_of}
use Rattle.guest_machine.proofs.HeapSteps.{moved_apart}
use Rattle.guest_machine.proofs.machine.Guest.move_block.Goals as goal

pub copy-requires : goal.copy-requires
copy-requires c =
    let found = c.in-Some.is in
    let block = c.args.block in
    let clear = rw found at c.in_ok-take_place.ensures.apart in
    let within = rw found at c.in_ok-take_place.ensures.within in
    let small = rw found at c.in_ok-take_place.ensures.small in
    let kept : c.min-len.result ≤ block.size = search rules in
    let place = c.in_region.ensures.live block.start block c.requires.live in
    let low : block.start < greatest_heap_begin + heap_size = omega (arith, place.below, c.in_region.ensures.within) in
    let fits : c.min-len.result ≤ c.args.size = search rules in
    moved_apart (core_of c.args.self.now).blocks block block.start c.in-Some.to c.args.size c.args.redzone
    c.min-len.result c.requires.live refl
    low clear small within.0 within.1 kept fits
