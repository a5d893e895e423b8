use Rattle.std.proofs.Common.{◌≡◌, ◌∙◌, ap, sym, subst, cond, false, map, IfOk, ℕ, List, [], Option, Some, None}
use Rattle.std.specs.Prelude.{is_some}
use Rattle.guest_elf.specs.Defined.{defined_by, defined_in, symbol_content, SymbolContent}
use Rattle.guest_elf.specs.File.{early_refusal, has_bad_symbols}
use Rattle.guest_elf.specs.Sections.{symbol_table}
use Rattle.guest_elf.specs.declared.defined.DefinedSymbol.{DefinedSymbol}
use Rattle.guest_elf.specs.declared.sections.SectionHeader.{SectionHeader}
use Rattle.guest_elf.proofs.defined.defined_symbols.Goals as goal

-- a file that is rejected for none of these reasons defines what its table does
of_table : (file : List ℕ) (table : Option SectionHeader) → is_some (early_refusal file) ≡ false
    → has_bad_symbols file ≡ false → symbol_table file ≡ table → defined_by file table ≡ defined_in file
unfolding defined_in
of_table file table early good is =
    ap (defined_by file) (sym is)
    ∙ ap (λ b. cond b [] (defined_by file (symbol_table file))) (sym good)
    ∙ ap (λ b. cond b [] (cond (has_bad_symbols file) [] (defined_by file (symbol_table file)))) (sym early)

pub returns-in-Some : goal.returns-in-Some
unfolding defined_by
returns-in-Some c =
    let early : is_some (early_refusal c.args.file.now) ≡ false = ap is_some (sym c.early_refusal.ensures.value)
    ∙ sym c.is_some.ensures ∙ c.if-is_some.false in
    let whole = of_table c.args.file.now (Some c.in-Some.table) early
    (sym c.has_bad_symbols.ensures.value ∙ c.if-has_bad_symbols.false) (sym c.symbol_table.ensures ∙ c.in-Some.is) in
    subst (λ (contents : List SymbolContent). IfOk c.defined_by.result (λ list. map symbol_content list.items
    ≡ contents)) whole c.defined_by.ensures

pub returns-in-None : goal.returns-in-None
unfolding defined_by
returns-in-None c =
    let early : is_some (early_refusal c.args.file.now) ≡ false = ap is_some (sym c.early_refusal.ensures.value)
    ∙ sym c.is_some.ensures ∙ c.if-is_some.false in
    ap (λ (list : List DefinedSymbol). map symbol_content list) c.new-in-None.ensures.items
    ∙ of_table c.args.file.now None early (sym c.has_bad_symbols.ensures.value ∙ c.if-has_bad_symbols.false)
    (sym c.symbol_table.ensures ∙ c.in-None.is)
