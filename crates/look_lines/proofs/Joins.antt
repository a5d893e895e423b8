-- Texts that are appended piece by piece.
use Rattle.std.proofs.Common.{◌≡◌, ◌∙◌, ◌++◌, ◌+◌, ℕ, List, ap, append_assoc, append-nil, sym, suc, arith}
use Rattle.look_lines.specs.Texts.{joined_below}

-- none of the texts
pub no_more : (text : ℕ → List ℕ) (begun out : List ℕ) → out ≡ begun → out ≡ begun ++ joined_below text 0
unfolding joined_below
no_more text begun out so = so ∙ sym (append-nil begun)

-- another text
pub one_more : (text : ℕ → List ℕ) (n : ℕ) (begun out new : List ℕ) → out ≡ begun ++ joined_below text n
    → new ≡ out ++ text n
    → new ≡ begun ++ joined_below text (n + 1)
unfolding joined_below
one_more text n begun out new so more =
    let next : suc n ≡ n + 1 = omega arith in
    more ∙ ap (λ xs. xs ++ text n) so ∙ append_assoc begun (joined_below text n) (text n)
    ∙ ap (λ m. begun ++ joined_below text m) next
