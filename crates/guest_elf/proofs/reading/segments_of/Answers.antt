use Rattle.std.proofs.Common.{◌≡◌, ◌∙◌, ap, arith, map}
use Rattle.std.proofs.lemmas.List.{take_all}
use Rattle.guest_elf.specs.File.{content_in}
use Rattle.guest_elf.specs.Segments.{content_of}
use Rattle.guest_elf.proofs.Loading.{loaded_is}
use Rattle.guest_elf.proofs.reading.segments_of.Goals as goal

pub returns-clause-loads : goal.returns-clause-loads
returns-clause-loads c =
    let file = c.args.file.now in
    let contents : map content_of c.loop-header.segments.items ≡ map (content_in file) c.args.loads.now =
    c.loop-header.invariant
    ∙ ap (map (content_in file)) (take_all c.loop-header.header-index c.args.loads.now (omega arith)) in
    loaded_is file c.loop-header.segments.items c.args.loads.now contents c.requires
