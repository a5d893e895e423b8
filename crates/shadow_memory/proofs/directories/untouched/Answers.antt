use Rattle.std.proofs.Common.{◌≡◌, ◌∙◌, ◌++◌, ◌∷◌, [], ℕ, List, ap, arith, replicate}
use Rattle.std.proofs.lemmas.List.{replicate_more}
use Rattle.shadow_memory.specs.declared.cells.RangeKind.TheVariants.{NoAccess}
use Rattle.shadow_memory.specs.declared.slots.PageSlot.{PageSlot}
use Rattle.shadow_memory.specs.declared.slots.PageSlot.TheVariants.{Blank}
use Rattle.shadow_memory.proofs.directories.untouched.Goals as goal

pub loop-i-preserved : goal.loop-i-preserved
loop-i-preserved c =
    c.in_ok-push.ensures.items ∙ ap (λ (pages : List PageSlot). pages ++ Blank NoAccess ∷ []) c.loop-i.invariant
    ∙ replicate_more c.loop-i._i (Blank NoAccess)

pub returns : goal.returns
returns c =
    let done : c.loop-i._i ≡ c.args.count = omega arith in
    c.loop-i.invariant ∙ ap (λ (n : ℕ). replicate n (Blank NoAccess)) done
