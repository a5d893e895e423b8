use Rattle.std.proofs.Common.{◌≡◌, ℕ, ◌/◌, ◌%◌, ◌++◌, ◌∷◌, [], append_assoc, ap, arith, codes, false, ◌∙◌}
use Rattle.std.specs.Fmt.{digit_glyph}
use Rattle.std.proofs.lemmas.Result.{on_ok_weaker}
use Rattle.report_lines.specs.Text.{byte_text}
use Rattle.sweeps.specs.Tables.{half_text}
use Rattle.sweeps.proofs.rows.push_half.Goals as goal

-- the text of a half is that of its two bytes
in-bytes : (half : ℕ) → codes "0x" ++ (byte_text (half / 256) ++ byte_text (half % 256)) ≡ half_text half
unfolding byte_text half_text
in-bytes half =
    let a : half / 256 / 16 % 16 ≡ half / 4096 % 16 = omega arith in
    let b : half / 256 / 1 % 16 ≡ half / 256 % 16 = omega arith in
    let c : half % 256 / 16 % 16 ≡ half / 16 % 16 = omega arith in
    let d : half % 256 / 1 % 16 ≡ half / 1 % 16 = omega arith in
    (λ i. 48 ∷ 120 ∷ digit_glyph false (a i) ∷ digit_glyph false (b i) ∷ digit_glyph false (c i)
    ∷ digit_glyph false (d i) ∷ [])

pub returns : goal.returns
returns c =
    let out = c.args.out.now.items in
    let half = c.args.half in
    on_ok_weaker c.push_byte-2.result (λ e.
    e ∙ ap (λ xs. xs ++ byte_text (half % 256)) (c.in_ok-push_byte.ensures
    ∙ ap (λ xs. xs ++ byte_text (half / 256)) c.in_ok-push_text.ensures)
    ∙ append_assoc (out ++ codes "0x") (byte_text (half / 256)) (byte_text (half % 256))
    ∙ append_assoc out (codes "0x") (byte_text (half / 256) ++ byte_text (half % 256))
    ∙ ap (λ xs. out ++ xs) (in-bytes half)) c.push_byte-2.ensures
