use Rattle.std.proofs.Common.{◌≡◌, ◌∙◌, ◌*◌, ◌/◌, ℕ, ap, arith}
use Rattle.std.proofs.lemmas.Result.{on_err_weaker, IfOk-weaker}
use Rattle.shadow_memory.specs.Directories.{cells_under}
use Rattle.shadow_memory.specs.Edits.{each_of}
use Rattle.shadow_memory.specs.Places.{changed_from}
use Rattle.shadow_memory.specs.declared.cells.Cell.{Cell}
use Rattle.shadow_memory.proofs.Growing.{changed-none}
use Rattle.shadow_memory.proofs.directories.Directory.change_some.Goals as goal

pub returns-then-count-gt0-clause-ok : goal.returns-then-count-gt0-clause-ok
returns-then-count-gt0-clause-ok c =
    let change : ℕ → Cell → Cell = λ i cell. each_of c.args.each cell in
    let here : 4096 * (c.args.at / 4096) ≡ c.args.at = omega arith in
    c.in_ok-count.ensures.ok ∙ ap (λ at. changed_from (cells_under c.args.self.now) at (4096 * c.in_ok-count.count)
    change) here

-- where no page was blank, nothing changed
unchanged : (c : goal.After-change_page-2) → cells_under c.change_blank.new.self ≡ cells_under c.args.self.now
unchanged c =
    let none : 4096 * c.in_ok-count.count ≡ 0 = omega arith in
    c.in_ok-count.ensures.ok ∙ changed-none (cells_under c.args.self.now) (4096 * (c.args.at / 4096))
    (4096 * c.in_ok-count.count) (λ i cell. each_of c.args.each cell) none

pub returns-clause-ok : goal.returns-clause-ok
returns-clause-ok c =
    IfOk-weaker c.change_page-2.result _ _ (λ n h. h
    ∙ ap (λ (f : ℕ → Cell). changed_from f c.args.at n (λ i cell. each_of c.args.each cell)) (unchanged c))
    c.change_page-2.ensures.ok

pub returns-clause-err : goal.returns-clause-err
returns-clause-err c = on_err_weaker c.change_page-2.result (λ h. h ∙ unchanged c) c.change_page-2.ensures.err
