use Rattle.std.proofs.Common.{◌∙◌, ◌<◌, ◌≤◌, ◌+◌, ◌/◌, ◌%◌, ℕ, ap, arith, length, rules, vec_len, ◌≡◌}
use Rattle.std.proofs.lemmas.Result.{on_ok_weaker, on_err_weaker}
use Rattle.shadow_memory.specs.Places.{changed_from}
use Rattle.shadow_memory.specs.Edits.{change_of, count_of}
use Rattle.shadow_memory.specs.Memories.{cells_of}
use Rattle.shadow_memory.specs.declared.cells.Cell.{Cell}
use Rattle.shadow_memory.proofs.Tables.{shelf-changed, shelf-kept}
use Rattle.shadow_memory.proofs.memory.Memory.change_any.Goals as goal

pub returns-clause-ok : goal.returns-clause-ok
unfolding cells_of
returns-clause-ok c =
    let n = count_of c.args.edit.now in
    let change = change_of c.args.edit.now in
    let long : vec_len c.grow.new.self.tops ≡ length c.grow.new.self.tops.items = search rules in
    let full : c.args.addr / 134217728 < vec_len c.grow.new.self.tops = c.in_ok-grow.ensures.room in
    let within : c.args.addr / 134217728 < length c.grow.new.self.tops.items = omega arith in
    let fits : c.args.addr % 134217728 + n ≤ 134217728 = omega arith in
    on_ok_weaker c.change.result (λ h. shelf-changed c.grow.new.self.tops.items
    c.index_mut.result.now c.change.new.self
    c.args.addr n change within fits c.index_mut.ensures.value h
    ∙ ap (λ (f : ℕ → Cell). changed_from f c.args.addr n change) c.grow.ensures.same) c.change.ensures.ok

pub returns-clause-err : goal.returns-clause-err
unfolding cells_of
returns-clause-err c =
    let long : vec_len c.grow.new.self.tops ≡ length c.grow.new.self.tops.items = search rules in
    let full : c.args.addr / 134217728 < vec_len c.grow.new.self.tops = c.in_ok-grow.ensures.room in
    let within : c.args.addr / 134217728 < length c.grow.new.self.tops.items = omega arith in
    on_err_weaker c.change.result (λ h. shelf-kept c.grow.new.self.tops.items
    c.index_mut.result.now c.change.new.self c.args.addr within c.index_mut.ensures.value h
    ∙ c.grow.ensures.same)
    c.change.ensures.err
