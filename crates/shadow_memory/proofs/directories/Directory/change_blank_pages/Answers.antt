use Rattle.std.proofs.Common.{◌≡◌, ◌∙◌, ◌+◌, ◌*◌, ◌<◌, ◌/◌, ℕ, ap, arith, length, refl}
use Rattle.std.proofs.Math.Path.{fun_ext}
use Rattle.shadow_memory.specs.Directories.{cells_under, page_at}
use Rattle.shadow_memory.specs.Edits.{each_of}
use Rattle.shadow_memory.specs.Places.{changed_from}
use Rattle.shadow_memory.specs.declared.cells.Cell.{Cell}
use Rattle.shadow_memory.proofs.Blanks.{page-swept}
use Rattle.shadow_memory.proofs.Growing.{changed-joins}
use Rattle.shadow_memory.proofs.Kept.{page-same}
use Rattle.shadow_memory.proofs.directories.Directory.change_blank_pages.Goals as goal

pub returns-then-not-change_if_blank-clause-swept : goal.returns-then-not-change_if_blank-clause-swept
unfolding cells_under page_at
returns-then-not-change_if_blank-clause-swept c =
    let first = c.loop-i.self.first in
    let pages = c.loop-i.self.pages.items in
    let place = c.args.place + c.loop-i.i in
    let at = 4096 * (first + place) in
    let here : at / 4096 ≡ first + place = omega arith in
    let within : place < length pages = omega arith in
    page-same first place pages c.index_mut.result.now c.change_if_blank.new.self at here within
    c.index_mut.ensures.value
    (λ k low. ap (λ (f : ℕ → Cell). f k) (c.change_if_blank.ensures.kept c.if-not-change_if_blank.true))
    ∙ c.loop-i.invariant.swept

pub loop-i-preserved : goal.loop-i-preserved
unfolding cells_under page_at
loop-i-preserved c =
    let first = c.loop-i.self.first in
    let pages = c.loop-i.self.pages.items in
    let place = c.args.place + c.loop-i.i in
    let within : place < length pages = omega arith in
    let d = 4096 * c.loop-i.i in
    let at = 4096 * (c.args.self.now.first + c.args.place) in
    let change : ℕ → Cell → Cell = λ i cell. each_of c.args.each cell in
    let same : first ≡ c.args.self.now.first = c.loop-i.invariant.same in
    let here : 4096 * (first + place) ≡ at + d = omega arith in
    let all : d + 4096 ≡ 4096 * (c.loop-i.i + 1) = omega arith in
    let swept = page-swept first place pages c.index_mut.result.now c.change_if_blank.new.self c.args.each within
    c.index_mut.ensures.value (c.change_if_blank.ensures.done c.if-not-change_if_blank.false) in
    record {
      same = same;
      long = c.loop-i.invariant.long;
      swept =
          fun_ext (λ k. changed-joins (cells_under c.args.self.now) (cells_under c.loop-i.self) _ at d 4096 change
          change (λ j. ap (λ (f : ℕ → Cell). f j) c.loop-i.invariant.swept)
          (λ j. ap (λ (f : ℕ → Cell). f j) swept
          ∙ ap (λ n. changed_from (cells_under c.loop-i.self) n 4096 change j) here) (λ i below x. refl) k
          ∙ ap (λ n. changed_from (cells_under c.args.self.now) at n change k) all);
    }

pub returns-clause-swept : goal.returns-clause-swept
returns-clause-swept c =
    let change : ℕ → Cell → Cell = λ i cell. each_of c.args.each cell in
    let all : c.loop-i.i ≡ c.args.most = omega arith in
    c.loop-i.invariant.swept ∙ ap (λ n. changed_from (cells_under c.args.self.now)
    (4096 * (c.args.self.now.first + c.args.place)) (4096 * n) change) all
