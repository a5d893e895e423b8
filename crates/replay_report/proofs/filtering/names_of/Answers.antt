use Rattle.std.proofs.Common.{ℕ, List, [], ◌∷◌, ◌++◌, Bor, map, get_or, take, take_all, ap, ap₂, sym, ◌∙◌, arith}
use Rattle.std.proofs.lemmas.List.{map_push, take_more}
use Rattle.guest_elf.specs.Images.{name_at}
use Rattle.replay_report.specs.Filtering.{names_of}
use Rattle.replay_report.proofs.filtering.names_of.Goals as goal

abbrev text : Bor (List ℕ) → List ℕ
text name = name.now

pub loop-addr-preserved : goal.loop-addr-preserved
loop-addr-preserved c =
    let image = c.args.image.now in
    let trace = c.args.trace.now in
    let i = c.loop-addr.addr-index in
    ap (map text) c.in_ok-push.ensures.items
    ∙ map_push text c.loop-addr.names.items c.name_of.result
    ∙ ap₂ (λ (names : List (List ℕ)) (name : List ℕ). names ++ name ∷ []) c.loop-addr.invariant c.name_of.ensures
    ∙ sym (map_push (name_at image) (take i trace) (get_or trace i 0))
    ∙ ap (names_of image) (sym (take_more trace i 0 c.loop-addr-test.true))

pub returns : goal.returns
returns c =
    c.loop-addr.invariant
    ∙ ap (names_of c.args.image.now) (take_all c.loop-addr.addr-index c.args.trace.now (omega arith))
