use Rattle.std.proofs.Common.{◌<◌, ap, arith, length}
use Rattle.shadow_memory.specs.Directories.{cells_under, page_at}
use Rattle.shadow_memory.specs.Edits.{change_of, count_of}
use Rattle.shadow_memory.proofs.Kept.{page-changed, page-same}
use Rattle.shadow_memory.proofs.directories.Directory.change_own.Goals as goal

pub returns-in-Some-clause-done : goal.returns-in-Some-clause-done
unfolding cells_under page_at
returns-in-Some-clause-done c done =
    let kept = c.in-Some.ensures.some in
    let within : c.in-Some.place < length c.args.self.now.pages.items = omega (arith, kept.1) in
    page-changed c.args.self.now.first c.in-Some.place c.args.self.now.pages.items c.index_mut.result.now
    c.change_own.new.self c.args.at (count_of c.args.edit.now) (change_of c.args.edit.now) kept.0 within
    c.requires.one_page c.index_mut.ensures.value (c.change_own.ensures.done done)

pub returns-in-Some-clause-kept : goal.returns-in-Some-clause-kept
unfolding cells_under page_at
returns-in-Some-clause-kept c same =
    let kept = c.in-Some.ensures.some in
    let within : c.in-Some.place < length c.args.self.now.pages.items = omega (arith, kept.1) in
    page-same c.args.self.now.first c.in-Some.place c.args.self.now.pages.items c.index_mut.result.now
    c.change_own.new.self c.args.at kept.0 within
    c.index_mut.ensures.value (λ k low. ap (λ f. f k) (c.change_own.ensures.kept same))
