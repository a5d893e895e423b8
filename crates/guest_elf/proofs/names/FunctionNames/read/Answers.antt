use Rattle.std.proofs.Common.{◌∙◌, ap, sym, rules, List, [], ℕ, Option}
use Rattle.std.proofs.lemmas.List.Sorted.{IsNonDecreasingBy-from_sort_by_key, answers_always}
use Rattle.guest_elf.proofs.Nearest.{nearest_sorted}
use Rattle.guest_elf.proofs.Hooked.{hooks_of_sorted}
use Rattle.guest_elf.specs.File.{name_in, hooks_in}
use Rattle.guest_elf.specs.Hooks.{hooks_by}
use Rattle.guest_elf.specs.declared.hook.Hook.{Hook}
use Rattle.guest_elf.specs.Names.{name_by, named_by, nearest}
use Rattle.guest_elf.specs.Sections.{naming_in, strings_in, strings_of}
use Rattle.guest_elf.specs.declared.sections.SectionHeader.{SectionHeader}
use Rattle.guest_elf.specs.declared.symbols.Symbol.{Symbol}
use Rattle.guest_elf.proofs.names.FunctionNames.read.Goals as goal

-- the name that a file gives by its symbol table
by_table : List ℕ → ℕ → Option SectionHeader → List ℕ
by_table file address table = name_by (strings_of file table) address (nearest (naming_in file table) address)

-- the functions of the heap that a file gives by its symbol table
hooks_by_table : List ℕ → Option SectionHeader → List (ℕ × Hook)
hooks_by_table file table = hooks_by (strings_of file table) (naming_in file table)

pub returns-in_default-clause-hooks : goal.returns-in_default-clause-hooks
unfolding hooks_in hooks_by naming_in strings_of hooks_by_table
returns-in_default-clause-hooks c =
    ap (λ (symbols : List Symbol). hooks_by [] symbols) c.new.ensures.items
    ∙ ap (hooks_by_table c.args.file.now) (sym c.in_default.is ∙ c.symbol_table.ensures)

pub returns-in_default-clause-names : goal.returns-in_default-clause-names
unfolding name_in named_by naming_in strings_of by_table
returns-in_default-clause-names c = λ address.
    ap (λ (symbols : List Symbol). name_by [] address (nearest symbols address)) c.new.ensures.items
    ∙ ap (by_table c.args.file.now address) (sym c.in_default.is ∙ c.symbol_table.ensures)

pub invariant_of-result-2 : goal.invariant_of-result-2
invariant_of-result-2 c = record {
  ascending =
      IsNonDecreasingBy-from_sort_by_key (λ (s : Symbol). s.value) _ c.in_ok-sort_by_key.ensures.sorted
      (λ a r q k. search rules);
}

pub returns-clause-hooks : goal.returns-clause-hooks
unfolding hooks_in naming_in strings_of hooks_by_table
returns-clause-hooks c =
    let file = c.args.file.now in
    let strings = strings_in file c.in-Some.table in
    let stable = c.sort_by_key.ensures.stable (λ (s : Symbol). s.value)
    (answers_always _ _ _ (λ f a r g h. search rules)) in
    ap (λ (bytes : List ℕ). hooks_by bytes c.sort_by_key.new.self.items) c.strings_in-strings.ensures
    ∙ hooks_of_sorted strings c.in_ok-symbols.symbols.items c.sort_by_key.new.self.items stable
    ∙ ap (λ (symbols : List Symbol). hooks_by strings symbols) c.in_ok-symbols.ensures
    ∙ ap (hooks_by_table file) (sym c.in-Some.is ∙ c.symbol_table.ensures)

pub returns-clause-names : goal.returns-clause-names
unfolding name_in named_by naming_in strings_of by_table
returns-clause-names c = λ address.
    let file = c.args.file.now in
    let strings = strings_in file c.in-Some.table in
    let stable = c.sort_by_key.ensures.stable (λ (s : Symbol). s.value)
    (answers_always _ _ _ (λ f a r g h. search rules)) in
    ap (λ (bytes : List ℕ). name_by bytes address (nearest c.sort_by_key.new.self.items address))
    c.strings_in-strings.ensures
    ∙ ap (name_by strings address) (nearest_sorted c.in_ok-symbols.symbols.items c.sort_by_key.new.self.items address
    c.sort_by_key.ensures.permutation stable)
    ∙ ap (λ (symbols : List Symbol). name_by strings address (nearest symbols address)) c.in_ok-symbols.ensures
    ∙ ap (by_table file address) (sym c.in-Some.is ∙ c.symbol_table.ensures)
