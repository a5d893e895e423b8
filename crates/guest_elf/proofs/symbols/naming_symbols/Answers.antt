use Rattle.std.proofs.Common.{◌≡◌, ◌∙◌, ◌+◌, ◌++◌, append-nil, ◌∷◌, [], ◌/◌, ap, sym, arith, true, false}
use Rattle.std.specs.List.{filter}
use Rattle.guest_elf.proofs.Counted.{filter_first, items_after, items_end, items_start, items_step, pushed_more}
use Rattle.guest_elf.specs.Sections.{is_naming, strings_in, symbol_at}
use Rattle.guest_elf.proofs.symbols.naming_symbols.Goals as goal
use Rattle.guest_elf.proofs.symbols.naming_symbols.Goals.{then-is_naming+in_ok-push, else-is_naming}

pub loop-index-init : goal.loop-index-init
loop-index-init c =
    let p = is_naming (strings_in c.args.file.now c.args.table) in
    ap (λ symbols. symbols ++ filter p (items_after (symbol_at c.args.file.now c.args.table) (c.args.table.size / 16)
    0)) c.new-symbols.ensures.items
    ∙ ap (filter p) (items_start (symbol_at c.args.file.now c.args.table) (c.args.table.size / 16))

pub loop-index-preserved : goal.loop-index-preserved
loop-index-preserved c =
    let file = c.args.file.now in
    let table = c.args.table in
    let p = is_naming (strings_in file table) in
    let step = items_step (symbol_at file table) (table.size / 16) c.loop-index.index (omega arith) in
    let same : p c.symbol_at-symbol.result ≡ c.is_naming.result = ap (λ s. is_naming s c.symbol_at-symbol.result)
    (sym c.strings_in-strings.ensures) ∙ sym c.is_naming.ensures in
    elim c.if-is_naming.branch [
      | then-is_naming+in_ok-push w ↦
          let taken = filter_first p _ _ _ true step (cc) in
          let pushed : c.if-is_naming.symbols.items ≡ c.loop-index.symbols.items
          ++ symbol_at file table c.loop-index.index ∷ [] = cc (w.in_ok-push.ensures.items) in
          pushed_more c.loop-index.symbols.items c.if-is_naming.symbols.items _ _ _ pushed taken
          ∙ c.loop-index.invariant
      | else-is_naming w ↦
          let skipped = filter_first p _ _ _ false step (cc) in
          let kept : c.if-is_naming.symbols.items ≡ c.loop-index.symbols.items = cc in
          ap (λ symbols. symbols ++ filter p (items_after (symbol_at file table) (table.size / 16)
          (c.loop-index.index + 1))) kept
          ∙ ap (λ left. c.loop-index.symbols.items ++ left) (sym skipped) ∙ c.loop-index.invariant
    ]

pub returns : goal.returns
returns c =
    let p = is_naming (strings_in c.args.file.now c.args.table) in
    let none = items_end (symbol_at c.args.file.now c.args.table) (c.args.table.size / 16) c.loop-index.index
    (omega arith) in
    sym (append-nil c.loop-index.symbols.items) ∙ ap (λ left. c.loop-index.symbols.items ++ filter p left) (sym none)
    ∙ c.loop-index.invariant
