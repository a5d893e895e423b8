use Rattle.std.proofs.Common.{◌∙◌, ◌++◌, ap, arith, map, take_all}
use Rattle.std.specs.List.{flat_map}
use Rattle.std.specs.Prelude.{option_to_list}
use Rattle.look_lines.specs.Lists.{spaced}
use Rattle.look_lines.proofs.Sites.{site-more}
use Rattle.look_lines.proofs.lists.push_sites.Goals as goal

pub loop-i-preserved : goal.loop-i-preserved
loop-i-preserved c =
    site-more c.args.frames.now c.loop-i.i c.args.out.now.items _ _ c.loop-i.invariant
    (c.in_ok-push_site.ensures
    ∙ ap (λ frame. c.loop-i.out.items ++ flat_map spaced (map (λ frame. frame.site) (option_to_list frame)))
    c.frame.ensures)

pub returns : goal.returns
returns c =
    c.loop-i.invariant
    ∙ ap (λ frames. c.args.out.now.items ++ flat_map spaced (map (λ frame. frame.site) frames))
    (take_all c.loop-i.i c.args.frames.now (omega (arith, c.depth-i-end.ensures)))
