use Rattle.std.proofs.Common.{◌≡◌, ℕ, ◌<◌, ◌∙◌, ap, cond, sym, length, slice_index, arith}
use Rattle.shadow_memory.specs.Changes.{received}
use Rattle.shadow_memory.specs.Pages.{cells_in}
use Rattle.shadow_memory.specs.Places.{changed_from}
use Rattle.shadow_memory.specs.Ranges.{byte_of, little_word}
use Rattle.shadow_memory.specs.declared.cells.Cell.{Cell}
use Rattle.shadow_memory.proofs.Growing.{same-change}
use Rattle.shadow_memory.proofs.Ranging.{byte-of-number}
use Rattle.shadow_memory.proofs.pages.Page.put_out.Goals as goal

pub returns-in-len4-clause-done : goal.returns-in-len4-clause-done
unfolding little_word
returns-in-len4-clause-done c done k within =
    let bytes = c.args.bytes.now in
    let old = cells_in c.args.self.now in
    let four : length bytes ≡ 4 = omega arith in
    let value : c.word.result ≡ little_word (slice_index bytes) = c.word.ensures in
    let alike : (i : ℕ) → i < length bytes → (x : Cell)
    → received (byte_of c.word.result) i x ≡ received (slice_index bytes) i x = λ i few x.
    ap (λ b. record { byte = b; accessible = x.accessible; undef = cond x.accessible 0 x.undef })
    (ap (λ n. byte_of n i) value ∙ byte-of-number (slice_index bytes) (λ j. omega (arith, c.type_inv.bytes j)) i
    (omega (arith, few, four))) in
    c.put_word.ensures.done done k within
    ∙ ap (λ n. changed_from old c.args.at n (received (byte_of c.word.result)) k) (sym four)
    ∙ ap (λ (f : ℕ → Cell). f k) (same-change old c.args.at (length bytes) _ _ alike)
