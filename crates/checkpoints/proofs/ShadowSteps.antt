-- Whether what is known of a byte of a range differs in two memories, as the range is gone through.
use Rattle.std.proofs.Common.{◌≡◌, ℕ, ◌<◌, ◌^◌, Bool, true, false, refl, sym, ◌∙◌, subst, arith}
use Rattle.std.specs.Prelude.{Decides}
use Rattle.std.proofs.lemmas.Bool.{true≢false}
use Rattle.std.proofs.lemmas.Bool.Decides.{nat_tests}
use Rattle.shadow_memory.specs.Ranges.{above, is_in, offset}
use Rattle.shadow_memory.specs.Shadows.{Shadow}
use Rattle.run_values.specs.declared.span.Span.{Span}
use Rattle.checkpoints.specs.Searches.{AreAlikeIn, DiffersIn}

-- an address in a range is that at its offset
offset-above : (start n a : ℕ) → start < 2 ^ 32 → is_in start n a ≡ true → above start (offset start a) ≡ a
offset-above start n a small within = grind (arith, nat_tests)

offset-below : (start n a : ℕ) → is_in start n a ≡ true → offset start a < n
offset-below start n a within = grind (arith, nat_tests)

-- where the same is known of the bytes at all offsets
pub all-alike : (range : Span) (before after : ℕ → Shadow) → range.start < 2 ^ 32
    → ((j : ℕ) → j < range.len → before (above range.start j) ≡ after (above range.start j))
    → AreAlikeIn range before after
all-alike range before after small alike a within =
    let at : above range.start (offset range.start a) ≡ a = offset-above range.start range.len a small within in
    subst (λ x. before x ≡ after x) at (alike (offset range.start a) (offset-below range.start range.len a within))

-- what differs from a memory that is alike before differs from before
differs-from : (range : Span) (seen before after : ℕ → Shadow) (b : Bool) → AreAlikeIn range seen before
    → (b ≡ true → DiffersIn range seen after) → (b ≡ false → AreAlikeIn range seen after)
    → Decides b (DiffersIn range before after)
differs-from range seen before after true same differs alike =
    (λ e. let d = differs refl in (d.0, d.1, λ e. d.2 (same d.0 d.1 ∙ e)), λ d. refl)
differs-from range seen before after false same differs alike =
    (λ e. absurd (true≢false (sym e)), λ d. absurd (d.2 (sym (same d.0 d.1) ∙ alike refl d.0 d.1)))

-- and so it does in the states that memories are those of
pub differs-in-states : (range : Span) (seen before after old new : ℕ → Shadow) (b : Bool) → before ≡ old → after ≡ new
    → AreAlikeIn range seen before
    → (b ≡ true → DiffersIn range seen after) → (b ≡ false → AreAlikeIn range seen after)
    → Decides b (DiffersIn range old new)
differs-in-states range seen before after old new b e f same differs alike =
    subst (λ x. Decides b (DiffersIn range x new)) e
    (subst (λ y. Decides b (DiffersIn range before y)) f (differs-from range seen before after b same differs alike))
