use Rattle.std.proofs.Common.{◌∙◌, ◌<◌, ◌≤◌, ◌+◌, ◌/◌, ◌%◌, ℕ, ap, arith, length, rules, vec_len, ◌≡◌}
use Rattle.shadow_memory.specs.Edits.{each_of}
use Rattle.shadow_memory.specs.Places.{changed_from}
use Rattle.shadow_memory.specs.Memories.{cells_of}
use Rattle.shadow_memory.specs.declared.cells.Cell.{Cell}
use Rattle.shadow_memory.proofs.Seen.{at_refusal}
use Rattle.shadow_memory.proofs.Tables.{shelf-changed, shelf-kept}
use Rattle.shadow_memory.proofs.memory.Memory.change_any_some.Goals as goal

pub returns-clause-ok : goal.returns-clause-ok
unfolding cells_of
returns-clause-ok c =
    let n = c.in_ok-count.count in
    let change : ℕ → Cell → Cell = λ i cell. each_of c.args.each cell in
    let long : vec_len c.grow.new.self.tops ≡ length c.grow.new.self.tops.items = search rules in
    let full : c.args.addr / 134217728 < vec_len c.grow.new.self.tops = c.in_ok-grow.ensures.room in
    let within : c.args.addr / 134217728 < length c.grow.new.self.tops.items = omega arith in
    let most = c.in_ok-count.ensures.within in
    let fits : c.args.addr % 134217728 + n ≤ 134217728 = omega arith in
    shelf-changed c.grow.new.self.tops.items c.index_mut.result.now c.change_some.new.self
    c.args.addr n change within fits
    c.index_mut.ensures.value c.in_ok-count.ensures.ok
    ∙ ap (λ (f : ℕ → Cell). changed_from f c.args.addr n change) c.grow.ensures.same

pub returns-in_err-count-clause-err : goal.returns-in_err-count-clause-err
unfolding cells_of
returns-in_err-count-clause-err c =
    let long : vec_len c.grow.new.self.tops ≡ length c.grow.new.self.tops.items = search rules in
    let full : c.args.addr / 134217728 < vec_len c.grow.new.self.tops = c.in_ok-grow.ensures.room in
    let within : c.args.addr / 134217728 < length c.grow.new.self.tops.items = omega arith in
    at_refusal c.from_residual-in_err-count.result
    (shelf-kept c.grow.new.self.tops.items c.index_mut.result.now
    c.change_some.new.self c.args.addr within c.index_mut.ensures.value c.in_err-count.ensures.err
    ∙ c.grow.ensures.same)
