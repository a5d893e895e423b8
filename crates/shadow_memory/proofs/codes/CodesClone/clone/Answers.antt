use Rattle.std.proofs.Common.{◌/◌, ◌%◌, List, ℕ, ap, arith, slice_index}
use Rattle.std.proofs.lemmas.List.Elements.{same_from_all_zip}
use Rattle.shadow_memory.specs.Codes.{code_at}
use Rattle.shadow_memory.specs.Parts.{part_of}
use Rattle.shadow_memory.proofs.codes.CodesClone.clone.Goals as goal

pub invariant_of-result : goal.invariant_of-result
invariant_of-result c = omega (arith, c.in_ok-packed.ensures.cases.1)

pub returns : goal.returns
unfolding code_at
returns c =
    let same = same_from_all_zip _ _ _ c.in_ok-packed.ensures.cases.0 (λ x y h. h) in
    record { cases = λ at. ap (λ (xs : List ℕ). part_of (slice_index xs (at / 4)) (at % 4)) same }
