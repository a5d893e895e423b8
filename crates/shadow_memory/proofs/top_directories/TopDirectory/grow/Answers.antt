use Rattle.std.proofs.Common.{◌∙◌, ap, rules, get_or, List}
use Rattle.shadow_memory.specs.TopDirectories.{cells_below}
use Rattle.shadow_memory.specs.declared.directory_slots.DirectorySlot.{DirectorySlot}
use Rattle.shadow_memory.specs.declared.directory_slots.DirectorySlot.TheVariants.{Blank}
use Rattle.shadow_memory.proofs.Clones.{same_on, one_more}
use Rattle.shadow_memory.proofs.top_directories.TopDirectory.grow.Goals as goal

pub returns-in_err-push-clause-same : goal.returns-in_err-push-clause-same
returns-in_err-push-clause-same c =
    same_on _ _ (λ i. ap (λ (xs : List DirectorySlot). cells_below (get_or xs i Blank)) c.in_err-push.ensures.items)
    ∙ c.loop-i.invariant.same

pub loop-i-preserved : goal.loop-i-preserved
loop-i-preserved c = record {
  same =
      same_on _ _ (λ i. ap (λ (xs : List DirectorySlot). cells_below (get_or xs i Blank)) c.in_ok-push.ensures.items
      ∙ ap cells_below (one_more Blank c.loop-i.self.directories.items i))
      ∙ c.loop-i.invariant.same;
  grown = search rules;
}
