use Rattle.std.proofs.Common.{◌∙◌, ap, sym, subst}
use Rattle.guest_heap.specs.Bounds.{AreFresh}
use Rattle.guest_heap.proofs.Bounding.{fresh_replicate}
use Rattle.guest_heap.proofs.bounds.Bounds.forget.Goals as goal

pub returns : goal.returns
returns c =
    subst AreFresh (sym (ap (λ list. list.items) c.in_ok-new.ensures.ok
    ∙ c.in_ok-list.ensures.items_if_clones_equal (λ copy same. same))) (fresh_replicate 268)
