use Rattle.std.proofs.Common.{◌∙◌, ap, sym, arith, true, false}
use Rattle.std.specs.List.{find}
use Rattle.guest_elf.proofs.Counted.{find_first, items_end, items_start, items_step}
use Rattle.guest_elf.specs.Sections.{is_symbol_table, section_at, section_count, symbol_table}
use Rattle.guest_elf.proofs.sections.symbol_table.Goals as goal

pub loop-index-init : goal.loop-index-init
loop-index-init c = ap (find is_symbol_table) (items_start (section_at c.args.file.now) (section_count c.args.file.now))

pub returns-then-is_symbol_table : goal.returns-then-is_symbol_table
unfolding symbol_table
returns-then-is_symbol_table c =
    let file = c.args.file.now in
    let step = items_step (section_at file) (section_count file) c.loop-index.index (omega arith) in
    let first = find_first is_symbol_table _ _ _ true step (cc) in
    cc (first, c.loop-index.invariant)

pub loop-index-preserved : goal.loop-index-preserved
loop-index-preserved c =
    let file = c.args.file.now in
    let step = items_step (section_at file) (section_count file) c.loop-index.index (omega arith) in
    sym (find_first is_symbol_table _ _ _ false step (cc)) ∙ c.loop-index.invariant

pub returns : goal.returns
unfolding symbol_table
returns c =
    let file = c.args.file.now in
    sym (ap (find is_symbol_table) (items_end (section_at file) (section_count file) c.loop-index.index (omega arith)))
    ∙ c.loop-index.invariant
