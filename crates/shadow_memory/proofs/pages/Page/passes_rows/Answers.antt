use Rattle.std.proofs.Common.{◌≡◌, ◌+◌, ◌*◌, ◌<◌, ◌&&◌, ℕ, List, ap, false, true, nat_le, nat_lt, slice_index, subst}
use Rattle.shadow_memory.specs.Cells.{shadow_in}
use Rattle.shadow_memory.specs.Marks.{shadow_of_mark}
use Rattle.shadow_memory.specs.Pages.{cells_in}
use Rattle.shadow_memory.specs.Shadows.{is_bad}
use Rattle.shadow_memory.specs.Values.{value_at}
use Rattle.shadow_memory.specs.declared.cells.ByteShadow.{ByteShadow}
use Rattle.shadow_memory.proofs.Ranging.{bad-holds-none, values-outside}
use Rattle.shadow_memory.proofs.pages.Page.passes_rows.Goals as goal

-- none of n words of bytes has such a value
abbrev AreOutside : ℕ → ℕ → ℕ → ℕ → List ℕ → Type 0
AreOutside low high at n bytes =
    (j : ℕ) → j < n
    → (nat_le low (value_at (slice_index bytes) (at + 4 * j))
    && nat_lt (value_at (slice_index bytes) (at + 4 * j)) high) ≡ false

pub returns-then-are_inaccessible : goal.returns-then-are_inaccessible
unfolding cells_in
returns-then-are_inaccessible c passes a start below aligned =
    bad-holds-none (λ k. (cells_in c.args.self.now k).byte) (λ k. shadow_in (cells_in c.args.self.now k)) c.args.low
    c.args.high a
    (ap (λ (mark : ByteShadow). is_bad true (shadow_of_mark mark))
    (c.are_inaccessible.ensures c.if-are_inaccessible.true a start below))

pub returns-else-are_inaccessible : goal.returns-else-are_inaccessible
unfolding cells_in
returns-else-are_inaccessible c passes =
    values-outside (λ k. (cells_in c.args.self.now k).byte) (λ k. shadow_in (cells_in c.args.self.now k)) c.args.low
    c.args.high c.args.at 64 c.requires.aligned
    (subst (AreOutside c.args.low c.args.high c.args.at 64) c.deref.ensures.value (c.rows_have_none.ensures passes))
