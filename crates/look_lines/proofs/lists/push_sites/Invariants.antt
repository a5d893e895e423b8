use Rattle.std.proofs.Common.{◌≡◌, ◌++◌, map, take}
use Rattle.std.specs.List.{flat_map}
use Rattle.look_lines.specs.Lists.{spaced}
use Rattle.look_lines.proofs.lists.push_sites.Given as goal

abbrev pub invariant-loop-i : goal.invariant-loop-i
invariant-loop-i l =
    l.out.items ≡ l.fn.out.items ++ flat_map spaced (map (λ frame. frame.site) (take l.i l.frames))
