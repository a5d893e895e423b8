use Rattle.std.proofs.Common.{◌≡◌, ◌∙◌, ◌+◌, ◌-◌, ◌<◌, ◌/◌, ℕ, ap, arith, length}
use Rattle.std.proofs.lemmas.Result.{on_err_weaker, on_ok_weaker}
use Rattle.shadow_memory.specs.Places.{changed_from}
use Rattle.shadow_memory.specs.Directories.{cells_under, page_at}
use Rattle.shadow_memory.specs.Edits.{change_of, count_of}
use Rattle.shadow_memory.specs.declared.cells.Cell.{Cell}
use Rattle.shadow_memory.proofs.Kept.{page-changed, page-same}
use Rattle.shadow_memory.proofs.directories.Directory.change.Goals as goal

pub returns-clause-ok : goal.returns-clause-ok
unfolding cells_under page_at
returns-clause-ok c =
    let room = c.in_ok-reach.ensures.room in
    let first = c.reach.new.self.first in
    let pages = c.reach.new.self.pages.items in
    let place = c.args.at / 4096 - first in
    let here : c.args.at / 4096 ≡ first + place = omega (arith, room.0) in
    let within : place < length pages = omega (arith, room.1) in
    let n = count_of c.args.edit.now in
    let change = change_of c.args.edit.now in
    on_ok_weaker c.change.result (λ h. page-changed first place pages c.index_mut.result.now c.change.new.self c.args.at
    n change here within c.requires.one_page c.index_mut.ensures.value h
    ∙ ap (λ (f : ℕ → Cell). changed_from f c.args.at n change) c.reach.ensures.same) c.change.ensures.ok

pub returns-clause-err : goal.returns-clause-err
unfolding cells_under page_at
returns-clause-err c =
    let room = c.in_ok-reach.ensures.room in
    let first = c.reach.new.self.first in
    let pages = c.reach.new.self.pages.items in
    let place = c.args.at / 4096 - first in
    let here : c.args.at / 4096 ≡ first + place = omega (arith, room.0) in
    let within : place < length pages = omega (arith, room.1) in
    on_err_weaker c.change.result
    (λ h. page-same first place pages c.index_mut.result.now c.change.new.self c.args.at here within
    c.index_mut.ensures.value h ∙ c.reach.ensures.same)
    c.change.ensures.err
