use Rattle.std.proofs.Common.{◌∙◌, ap, refl, get_or, map, take, ◌++◌, ◌∷◌, []}
use Rattle.std.proofs.lemmas.List.{map-append, take_all}
use Rattle.report_lines.specs.Text.{shown_byte, shown_name}
use Rattle.report_lines.proofs.Joins.{joined_more}
use Rattle.report_lines.proofs.text.push_name.Goals as goal

pub loop-b-preserved : goal.loop-b-preserved
loop-b-preserved c =
    let name = c.args.name.now in
    let i = c.loop-b.b-index in
    let b = get_or name i 0 in
    joined_more (map shown_byte) name i 0 b _ _ _ c.loop-b-test.true refl c.loop-b.invariant
    (shown_byte b ∷ []) (map-append shown_byte (take i name) (b ∷ [])) (c.in_ok-push.ensures.items
    ∙ ap (λ glyph. c.loop-b.out.items ++ glyph ∷ []) c.shown_byte.ensures)

pub returns : goal.returns
unfolding shown_name
returns c =
    c.loop-b.invariant ∙ ap (λ bytes. c.args.out.now.items ++ map shown_byte bytes)
    (take_all c.loop-b.b-index c.args.name.now c.loop-b-test.false)
