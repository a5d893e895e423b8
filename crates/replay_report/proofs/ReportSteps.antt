-- The lines of a report, one part after another.
use Rattle.std.proofs.Common.{◌≡◌, List, ◌++◌, ap, sym, ◌∙◌, append_assoc}
use Rattle.report_lines.proofs.Joins.{joined}

pub three_joined : {X : Type 0} (o p q r a b c : List X) → p ≡ o ++ a → q ≡ p ++ b → r ≡ q ++ c
    → r ≡ o ++ (a ++ b ++ c)
three_joined o p q r a b c d e f = joined o q r (a ++ b) c (joined o p q a b d e) f

-- a head before three parts
pub headed : {X : Type 0} (h a b c : List X) → h ++ (a ++ b ++ c) ≡ h ++ a ++ b ++ c
headed h a b c = sym (append_assoc h (a ++ b) c) ∙ ap (λ x. x ++ c) (sym (append_assoc h a b))
