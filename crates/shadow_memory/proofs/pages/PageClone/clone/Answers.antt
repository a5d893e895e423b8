use Rattle.std.proofs.Common.{List, ℕ, ap, ap₂, arith, slice_index}
use Rattle.std.proofs.lemmas.List.Elements.{same_from_all_zip}
use Rattle.shadow_memory.specs.Marks.{marked}
use Rattle.shadow_memory.specs.Pages.{cells_in}
use Rattle.shadow_memory.proofs.pages.PageClone.clone.Goals as goal

pub invariant_of-result : goal.invariant_of-result
invariant_of-result c = omega (arith, c.in_ok-bytes.ensures.cases.1)

pub returns : goal.returns
unfolding cells_in
returns c =
    let same = same_from_all_zip _ _ _ c.in_ok-bytes.ensures.cases.0 (λ x y h. h) in
    record { cases = λ at. ap₂ marked (ap (λ (xs : List ℕ). slice_index xs at) same) (c.in_ok-marks.ensures.cases at) }
