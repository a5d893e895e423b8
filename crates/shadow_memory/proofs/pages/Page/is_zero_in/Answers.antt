use Rattle.std.proofs.Common.{◌∙◌, ◌<◌, ◌≤◌, ◌-◌, List, ℕ, length, slice_index, take, drop, ap, arith, sym}
use Rattle.std.proofs.lemmas.List.{length-drop, length-take}
use Rattle.shadow_memory.specs.Pages.{cells_in}
use Rattle.shadow_memory.proofs.Parts.{between-read}
use Rattle.shadow_memory.proofs.pages.Page.is_zero_in.Goals as goal

pub returns : goal.returns
unfolding cells_in
returns c zeros k low high =
    let xs = c.deref.result.now in
    let inside : c.args.to ≤ length xs = omega arith in
    let near : k - c.args.from < length (take (c.args.to - c.args.from) (drop c.args.from xs)) = simp
    (length-take, length-drop) (omega arith) in
    ap (λ (l : List ℕ). slice_index l k) (sym c.deref.ensures.value)
    ∙ sym (between-read xs c.args.from c.args.to k low high) ∙ c.all_are.ensures.0 zeros (k - c.args.from) near
