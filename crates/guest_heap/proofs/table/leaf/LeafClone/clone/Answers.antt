use Rattle.std.proofs.Common.{◌∙◌}
use Rattle.guest_heap.specs.Entries.{entry_of}
use Rattle.guest_heap.proofs.Clones.{same_slots, same_in, entry_by_value, same_uses, slot_clone}
use Rattle.guest_heap.proofs.table.leaf.LeafClone.clone.Goals as goal

pub returns : goal.returns
returns c = record {
  cases = same_in _ _ (same_slots slot_clone (λ p q h. h) (λ p h. h) (λ p h. h) entry_of
      entry_by_value _ _ c.in_ok-slots.ensures.cases.0);
}

pub invariant_of-result : goal.invariant_of-result
invariant_of-result c = record {
  full = c.in_ok-slots.ensures.cases.1 ∙ c.args.self.now.full;
  within = c.args.self.now.within;
  unused = λ k h. same_uses _ _ c.in_ok-slots.ensures.cases.0 k ∙ c.args.self.now.unused k h;
}
