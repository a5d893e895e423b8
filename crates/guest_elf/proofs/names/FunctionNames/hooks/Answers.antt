use Rattle.std.proofs.Common.{◌≡◌, ◌∙◌, ap, sym, subst, arith, get_or, List, [], ◌∷◌, ◌++◌, ◌+◌, ℕ}
use Rattle.guest_elf.proofs.Hooked.{Gathered, gathered-start, gathered-end, gathered-before, gathered-none}
use Rattle.guest_elf.proofs.Hooked.{gathered-more}
use Rattle.guest_elf.specs.Hooks.{hook_named}
use Rattle.guest_elf.specs.Sections.{name_from}
use Rattle.guest_elf.specs.declared.hook.Hook.{Hook}
use Rattle.guest_elf.specs.declared.symbols.Symbol.{Symbol}
use Rattle.guest_elf.proofs.names.FunctionNames.hooks.Goals as goal
use Rattle.guest_elf.proofs.names.FunctionNames.hooks.Goals.{in-Some+in_ok-push, in_default}

-- the value past the end
abbrev no_symbol : Symbol
no_symbol = record { name = 0; value = 0; size = 0; info = 0; section = 0 }

pub loop-symbol-init : goal.loop-symbol-init
loop-symbol-init c =
    subst (λ (es : List (ℕ × Hook)). Gathered c.args.self.now.strings.now c.args.self.now.symbols.items es 0 0)
    (sym c.new-hooks.ensures.items)
    (gathered-start c.args.self.now.strings.now c.args.self.now.symbols.items)

pub loop-symbol-preserved-then-from-end : goal.loop-symbol-preserved-then-from-end
loop-symbol-preserved-then-from-end c =
    let symbols = c.args.self.now.symbols.items in
    let level : (get_or symbols c.loop-symbol.symbol-index no_symbol).value ≡ c.from.result =
    ap (λ (l : List Symbol). (get_or l c.loop-symbol.symbol-index no_symbol).value)
    (sym c.deref-symbol-items.ensures.value) ∙ sym c.from.ensures in
    gathered-before c.args.self.now.strings.now symbols c.loop-symbol.hooks.items c.loop-symbol.symbol-index
    c.loop-symbol.end no_symbol
    (omega arith) (omega (arith, level, c.if-from-end.true)) c.loop-symbol.invariant

pub loop-symbol-preserved : goal.loop-symbol-preserved
loop-symbol-preserved c =
    let strings = c.args.self.now.strings.now in
    let symbols = c.args.self.now.symbols.items in
    let index = c.loop-symbol.symbol-index in
    let hooks = c.loop-symbol.hooks.items in
    let symbol : Symbol = get_or c.deref-symbol-items.result.now index no_symbol in
    let same : symbol ≡ get_or symbols index no_symbol = ap (λ (l : List Symbol). get_or l index no_symbol)
    c.deref-symbol-items.ensures.value in
    let named : c.hook_from.result ≡ hook_named (name_from strings (get_or symbols index no_symbol).name) =
    c.hook_from.ensures ∙ ap (λ (s : Symbol). hook_named (name_from strings s.name)) same in
    let level : c.from.result ≡ (get_or symbols index no_symbol).value = c.from.ensures
    ∙ ap (λ (s : Symbol). s.value) same in
    elim c.match-hook_from.branch [
      | in-Some+in_ok-push w ↦
          let put : c.match-hook_from.hooks.items ≡ hooks ++ ((get_or symbols index no_symbol).value, w.in-Some.hook)
          ∷ [] =
          cc (w.in_ok-push.ensures.items) in
          let from : symbol.value ≡ (get_or symbols index no_symbol).value = ap (λ (s : Symbol). s.value) same in
          subst (λ (es : List (ℕ × Hook)). Gathered strings symbols es (index + 1) c.match-hook_from.end) (sym put)
          (gathered-more strings symbols hooks index c.loop-symbol.end c.match-hook_from.end no_symbol w.in-Some.hook
          (omega (arith, w.end-is, w.from-end.ensures, from))
          c.args.self.now.ascending (omega arith) (omega (arith, level, c.if-from-end.false)) (sym named ∙ w.in-Some.is)
          c.loop-symbol.invariant)
      | in_default w ↦
          let put : c.match-hook_from.hooks.items ≡ hooks = cc in
          let still : c.match-hook_from.end ≡ c.loop-symbol.end = cc in
          let kept = gathered-none strings symbols hooks index c.loop-symbol.end no_symbol (omega arith) (sym named
          ∙ w.in_default.is) c.loop-symbol.invariant in
          subst (λ (es : List (ℕ × Hook)). Gathered strings symbols es (index + 1) c.match-hook_from.end) (sym put)
          (subst (λ n. Gathered strings symbols hooks (index + 1) n) (sym still) kept)
    ]

pub returns : goal.returns
returns c =
    gathered-end c.args.self.now.strings.now c.args.self.now.symbols.items c.loop-symbol.hooks.items
    c.loop-symbol.symbol-index c.loop-symbol.end (omega arith) c.loop-symbol.invariant
