use Rattle.std.proofs.Common.{◌≡◌, ℕ, IfOk, subst}
use Rattle.shadow_memory.specs.Edits.{each_of}
use Rattle.shadow_memory.specs.Memories.{cells_of}
use Rattle.shadow_memory.specs.Places.{changed_from}
use Rattle.shadow_memory.specs.declared.cells.Cell.{Cell}
use Rattle.shadow_memory.proofs.memory.Memory.change_some.Goals as goal

pub returns-then-change_own_alike-clause-ok : goal.returns-then-change_own_alike-clause-ok
returns-then-change_own_alike-clause-ok c = c.change_own_alike.ensures.done c.if-change_own_alike.true

pub returns-clause-ok : goal.returns-clause-ok
returns-clause-ok c =
    let same = c.change_own_alike.ensures.kept c.if-change_own_alike.false in
    subst (λ (cells : ℕ → Cell). IfOk c.change_any_some.result (λ n. cells_of c.change_any_some.new.self
    ≡ changed_from cells c.args.addr n (λ i cell. each_of c.args.each cell))) same c.change_any_some.ensures.ok
