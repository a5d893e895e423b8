use Rattle.std.proofs.Common.{◌≡◌, ◌∙◌, ◌+◌, ◌++◌, append-nil, ◌∷◌, [], ◌/◌, ap, sym, arith, map, true, false, List}
use Rattle.std.specs.List.{filter}
use Rattle.std.proofs.lemmas.List.{map-append}
use Rattle.guest_elf.proofs.Counted.{filter_first, items_after, items_end, items_start, items_step, pushed_more}
use Rattle.guest_elf.specs.Defined.{content_by, is_defined, symbol_content, SymbolContent}
use Rattle.guest_elf.specs.Sections.{strings_in, symbol_at}
use Rattle.guest_elf.specs.declared.defined.DefinedSymbol.{DefinedSymbol}
use Rattle.guest_elf.proofs.defined.defined_by.Goals as goal
use Rattle.guest_elf.proofs.defined.defined_by.Goals.{then-is_defined+in_ok-push, else-is_defined}

pub loop-index-init : goal.loop-index-init
loop-index-init c =
    let file = c.args.file.now in
    let table = c.args.table in
    let content = content_by (strings_in file table) in
    ap (λ (list : List DefinedSymbol). map symbol_content list ++ map content (filter is_defined (items_after
    (symbol_at file table) (table.size / 16) 0))) c.new-list.ensures.items
    ∙ ap (λ symbols. map content (filter is_defined symbols)) (items_start (symbol_at file table) (table.size / 16))

pub loop-index-preserved : goal.loop-index-preserved
loop-index-preserved c =
    let file = c.args.file.now in
    let table = c.args.table in
    let strings = strings_in file table in
    let here = symbol_at file table c.loop-index.index in
    let content = content_by strings in
    let step = items_step (symbol_at file table) (table.size / 16) c.loop-index.index (omega arith) in
    let same : is_defined c.symbol_at-symbol.result ≡ c.is_defined.result = sym c.is_defined.ensures in
    elim c.if-is_defined.branch [
      | then-is_defined+in_ok-push w ↦
          let taken = filter_first is_defined _ _ _ true step (cc) in
          let pushed : c.if-is_defined.list.items ≡ c.loop-index.list.items ++ w.defined.result ∷ [] = cc
          (w.in_ok-push.ensures.items) in
          let named : symbol_content w.defined.result ≡ content here = w.defined.ensures
          ∙ ap (λ texts. content_by texts c.symbol_at-symbol.result) c.strings_in-strings.ensures
          ∙ ap content c.symbol_at-symbol.ensures in
          let viewed : map symbol_content c.if-is_defined.list.items
          ≡ map symbol_content c.loop-index.list.items ++ content here ∷ [] = ap (map symbol_content) pushed
          ∙ map-append symbol_content c.loop-index.list.items (w.defined.result ∷ [])
          ∙ ap (λ (last : SymbolContent). map symbol_content c.loop-index.list.items ++ last ∷ []) named in
          pushed_more (map symbol_content c.loop-index.list.items) (map symbol_content c.if-is_defined.list.items)
          (map content (filter is_defined (items_after (symbol_at file table) (table.size / 16) c.loop-index.index)))
          (map content (filter is_defined (items_after (symbol_at file table) (table.size / 16)
          (c.loop-index.index + 1)))) (content here) viewed (ap (map content) taken)
          ∙ c.loop-index.invariant
      | else-is_defined w ↦
          let skipped = filter_first is_defined _ _ _ false step (cc) in
          let kept : c.if-is_defined.list.items ≡ c.loop-index.list.items = cc in
          ap (λ (list : List DefinedSymbol). map symbol_content list ++ map content (filter is_defined (items_after
          (symbol_at file table) (table.size / 16) (c.loop-index.index + 1)))) kept
          ∙ ap (λ left. map symbol_content c.loop-index.list.items ++ map content left) (sym skipped)
          ∙ c.loop-index.invariant
    ]

pub returns : goal.returns
returns c =
    let file = c.args.file.now in
    let table = c.args.table in
    let content = content_by (strings_in file table) in
    let none = items_end (symbol_at file table) (table.size / 16) c.loop-index.index (omega arith) in
    sym (append-nil (map symbol_content c.loop-index.list.items))
    ∙ ap (λ left. map symbol_content c.loop-index.list.items ++ map content (filter is_defined left)) (sym none)
    ∙ c.loop-index.invariant
