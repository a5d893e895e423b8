use Rattle.std.proofs.Common.{◌-◌, ◌∙◌, ap, take, drop, sym, length, List, ℕ}
use Rattle.std.proofs.lemmas.List.{drop_all, take_rest}
use Rattle.std.specs.List.{before_first}
use Rattle.guest_elf.proofs.Strings.{name_before, name_whole}
use Rattle.guest_elf.specs.Sections.{is_zero, name_from}
use Rattle.guest_elf.proofs.lookups.name_from.Goals as goal

pub returns-then-start-strings : goal.returns-then-start-strings
unfolding name_from
returns-then-start-strings c =
    sym (ap (λ (rest : List ℕ). before_first is_zero rest)
    (drop_all c.args.start c.args.strings.now c.if-start-strings.true))

pub returns-in-Some : goal.returns-in-Some
unfolding name_from
returns-in-Some c =
    let strings = c.args.strings.now in
    let rest = take (length strings - c.args.start) (drop c.args.start strings) in
    name_before rest c.in-Some.end (sym c.first_zero.ensures ∙ c.in-Some.is)
    ∙ ap (λ (bytes : List ℕ). before_first is_zero bytes) (take_rest strings c.args.start)

pub returns-in-None : goal.returns-in-None
unfolding name_from
returns-in-None c =
    let strings = c.args.strings.now in
    let rest = take (length strings - c.args.start) (drop c.args.start strings) in
    name_whole rest (sym c.first_zero.ensures ∙ c.in-None.is)
    ∙ ap (λ (bytes : List ℕ). before_first is_zero bytes) (take_rest strings c.args.start)
