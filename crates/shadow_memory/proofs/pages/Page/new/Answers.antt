use Rattle.std.proofs.Common.{◌≡◌, ℕ, zero, suc, get_or, replicate, refl}
use Rattle.shadow_memory.specs.Pages.{cells_in, marks_in}
use Rattle.shadow_memory.proofs.pages.Page.new.Goals as goal

zeros : (n i : ℕ) → ◌≡◌ {A = ℕ} (get_or (replicate n 0) i 0) 0
zeros zero i = refl
zeros (suc n) zero = refl
zeros (suc n) (suc i) = zeros n i

pub returns : goal.returns
unfolding cells_in marks_in
returns c = λ at small. rw (c.in_ok-bytes.ensures.items_if_clones_equal (λ y h. h), zeros 4096 at) refl
