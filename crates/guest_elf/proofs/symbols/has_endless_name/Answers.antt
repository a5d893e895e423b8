use Rattle.std.proofs.Common.{◌/◌, ◌∙◌, ap, sym, arith, true, false, ℕ, drop}
use Rattle.std.specs.List.{list_any}
use Rattle.guest_elf.proofs.Counted.{any_first, items_end, items_start, items_step}
use Rattle.guest_elf.proofs.Strings.{bad_name_is}
use Rattle.guest_elf.specs.Sections.{has_bad_name, is_zero, strings_in, symbol_at}
use Rattle.guest_elf.proofs.symbols.has_endless_name.Goals as goal

pub loop-index-init : goal.loop-index-init
loop-index-init c =
    ap (list_any (has_bad_name (strings_in c.args.file.now c.args.table)))
    (items_start (symbol_at c.args.file.now c.args.table) (c.args.table.size / 16))

pub returns-then-is_function_from : goal.returns-then-is_function_from
returns-then-is_function_from c =
    let file = c.args.file.now in
    let p = has_bad_name (strings_in file c.args.table) in
    let step = items_step (symbol_at file c.args.table) (c.args.table.size / 16) c.loop-index.index (omega arith) in
    let ends = λ (start : ℕ). ap (λ strings. list_any is_zero (drop start strings)) (sym c.strings_in.ensures)
    ∙ c.names_end-end.ensures start in
    let bad = bad_name_is (strings_in file c.args.table) c.names_end-end.result ends c.symbol_at.result in
    sym (any_first p _ _ _ true step (cc bad)) ∙ c.loop-index.invariant

pub loop-index-preserved : goal.loop-index-preserved
loop-index-preserved c =
    let file = c.args.file.now in
    let p = has_bad_name (strings_in file c.args.table) in
    let step = items_step (symbol_at file c.args.table) (c.args.table.size / 16) c.loop-index.index (omega arith) in
    let ends = λ (start : ℕ). ap (λ strings. list_any is_zero (drop start strings)) (sym c.strings_in.ensures)
    ∙ c.names_end-end.ensures start in
    let bad = bad_name_is (strings_in file c.args.table) c.names_end-end.result ends c.symbol_at.result in
    sym (any_first p _ _ _ false step (cc bad)) ∙ c.loop-index.invariant

pub returns : goal.returns
returns c =
    sym (ap (list_any (has_bad_name (strings_in c.args.file.now c.args.table)))
    (items_end (symbol_at c.args.file.now c.args.table) (c.args.table.size / 16) c.loop-index.index (omega arith)))
    ∙ c.loop-index.invariant
