use Rattle.std.proofs.Common.{ℕ, List, slice_index, ap, sym}
use Rattle.shadow_memory.specs.Pages.{cells_in}
use Rattle.shadow_memory.proofs.Comparing.{bytes-of-slices}
use Rattle.shadow_memory.proofs.pages.Page.is_same_in.Goals as goal

pub returns : goal.returns
unfolding cells_in
returns c equal =
    bytes-of-slices (cells_in c.args.self.now) (cells_in c.args.other.now) c.deref.result.now c.deref-2.result.now
    c.args.from c.args.to (λ k. ap (λ (l : List ℕ). slice_index l k) (sym c.deref.ensures.value))
    (λ k. ap (λ (l : List ℕ). slice_index l k) (sym c.deref-2.ensures.value))
    (c.are_same.ensures equal)
