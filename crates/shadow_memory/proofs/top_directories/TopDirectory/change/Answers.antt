use Rattle.std.proofs.Common.{◌∙◌, ◌<◌, ◌≤◌, ◌+◌, ◌/◌, ◌%◌, ℕ, ap, arith, length, rules, vec_len, ◌≡◌}
use Rattle.std.proofs.lemmas.Result.{on_ok_weaker, on_err_weaker}
use Rattle.shadow_memory.specs.Places.{changed_from}
use Rattle.shadow_memory.specs.Edits.{change_of, count_of}
use Rattle.shadow_memory.specs.TopDirectories.{cells_below, cells_on}
use Rattle.shadow_memory.specs.declared.cells.Cell.{Cell}
use Rattle.shadow_memory.specs.declared.directory_slots.DirectorySlot.TheVariants.{Blank}
use Rattle.shadow_memory.proofs.Tables.{directory-changed, directory-kept}
use Rattle.shadow_memory.proofs.top_directories.TopDirectory.change.Goals as goal

pub returns-clause-ok : goal.returns-clause-ok
unfolding cells_on
returns-clause-ok c =
    let n = count_of c.args.edit.now in
    let change = change_of c.args.edit.now in
    let long : vec_len c.grow.new.self.directories ≡ length c.grow.new.self.directories.items = search rules in
    let full : c.args.at / 4194304 < vec_len c.grow.new.self.directories = c.in_ok-grow.ensures.room in
    let within : c.args.at / 4194304 < length c.grow.new.self.directories.items = omega arith in
    let fits : c.args.at % 4194304 + n ≤ 4194304 = omega arith in
    on_ok_weaker c.change.result (λ h. directory-changed cells_below Blank c.grow.new.self.directories.items
    c.index_mut.result.now c.change.new.self
    c.args.at n change within fits c.index_mut.ensures.value h
    ∙ ap (λ (f : ℕ → Cell). changed_from f c.args.at n change) c.grow.ensures.same) c.change.ensures.ok

pub returns-clause-err : goal.returns-clause-err
unfolding cells_on
returns-clause-err c =
    let long : vec_len c.grow.new.self.directories ≡ length c.grow.new.self.directories.items = search rules in
    let full : c.args.at / 4194304 < vec_len c.grow.new.self.directories = c.in_ok-grow.ensures.room in
    let within : c.args.at / 4194304 < length c.grow.new.self.directories.items = omega arith in
    on_err_weaker c.change.result (λ h. directory-kept cells_below Blank c.grow.new.self.directories.items
    c.index_mut.result.now c.change.new.self c.args.at within c.index_mut.ensures.value h
    ∙ c.grow.ensures.same)
    c.change.ensures.err
