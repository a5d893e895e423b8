use Rattle.std.proofs.Common.{◌<◌, ap, arith, length, slice_index}
use Rattle.shadow_memory.specs.Changes.{received}
use Rattle.shadow_memory.specs.Directories.{cells_under, page_at}
use Rattle.shadow_memory.proofs.Kept.{page-changed, page-same}
use Rattle.shadow_memory.proofs.directories.Directory.put.Goals as goal

pub returns-in-Some-clause-done : goal.returns-in-Some-clause-done
unfolding cells_under page_at
returns-in-Some-clause-done c done =
    let kept = c.in-Some.ensures.some in
    let within : c.in-Some.place < length c.args.self.now.pages.items = omega (arith, kept.1) in
    page-changed c.args.self.now.first c.in-Some.place c.args.self.now.pages.items c.index_mut.result.now c.put.new.self
    c.args.at (length c.args.bytes.now)
    (received (slice_index c.args.bytes.now)) kept.0 within c.requires.one_page c.index_mut.ensures.value
    (c.put.ensures.done done)

pub returns-in-Some-clause-kept : goal.returns-in-Some-clause-kept
unfolding cells_under page_at
returns-in-Some-clause-kept c same =
    let kept = c.in-Some.ensures.some in
    let within : c.in-Some.place < length c.args.self.now.pages.items = omega (arith, kept.1) in
    page-same c.args.self.now.first c.in-Some.place c.args.self.now.pages.items c.index_mut.result.now c.put.new.self
    c.args.at kept.0 within
    c.index_mut.ensures.value (λ k low. ap (λ f. f k) (c.put.ensures.kept same))
