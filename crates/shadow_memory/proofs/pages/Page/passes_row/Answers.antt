use Rattle.std.proofs.Common.{◌≡◌, ◌+◌, ◌*◌, ◌<◌, ◌&&◌, ℕ, List, false, nat_le, nat_lt, slice_index, subst}
use Rattle.shadow_memory.specs.Cells.{shadow_in}
use Rattle.shadow_memory.specs.Pages.{cells_in}
use Rattle.shadow_memory.specs.Values.{value_at}
use Rattle.shadow_memory.proofs.Ranging.{values-outside}
use Rattle.shadow_memory.proofs.pages.Page.passes_row.Goals as goal

-- none of n words of bytes has such a value
abbrev AreOutside : ℕ → ℕ → ℕ → ℕ → List ℕ → Type 0
AreOutside low high at n bytes =
    (j : ℕ) → j < n
    → (nat_le low (value_at (slice_index bytes) (at + 4 * j))
    && nat_lt (value_at (slice_index bytes) (at + 4 * j)) high) ≡ false

pub returns : goal.returns
unfolding cells_in
returns c passes =
    values-outside (λ k. (cells_in c.args.self.now k).byte) (λ k. shadow_in (cells_in c.args.self.now k)) c.args.low
    c.args.high c.args.at 16 c.requires.aligned
    (subst (AreOutside c.args.low c.args.high c.args.at 16) c.deref.ensures.value (c.row_has_none.ensures passes))
