use Rattle.std.proofs.Common.{◌∙◌, ap, rules, List}
use Rattle.shadow_memory.specs.TopDirectories.{top_directory_of}
use Rattle.shadow_memory.specs.declared.top_directories.TopDirectory.{TopDirectory}
use Rattle.shadow_memory.proofs.Clones.{more_shelves, same_of}
use Rattle.shadow_memory.proofs.memory.Memory.grow.Goals as goal

pub returns-in_err-push-clause-same : goal.returns-in_err-push-clause-same
returns-in_err-push-clause-same c =
    same_of _ _ (λ i. ap (λ (xs : List TopDirectory). top_directory_of xs i) c.in_err-push.ensures.items)
    ∙ c.loop-i.invariant.same

pub loop-i-preserved : goal.loop-i-preserved
loop-i-preserved c = record {
  same =
      same_of _ _ (λ i. ap (λ (xs : List TopDirectory). top_directory_of xs i) c.in_ok-push.ensures.items
      ∙ more_shelves c.loop-i.self.tops.items c.new.result i c.new.ensures)
      ∙ c.loop-i.invariant.same;
  grown = search rules;
}
