use Rattle.std.proofs.Common.{◌≡◌, ◌==◌, ◌&&◌, ℕ, List, ap, ap₂, unwrap_or}
use Rattle.std.specs.BTreeMap.{is_at}
use Rattle.std.specs.Map.{lookup}
use Rattle.std.specs.Ordering.{nat_cmp}
use Rattle.std.proofs.lemmas.Bool.Decides.{Decides-and, Decides-eqb, Decides-like}
use Rattle.std.proofs.lemmas.Slice.Eq.{slice_eq-Decides}
use Rattle.std.specs.Bool.{Decides}
use Rattle.shadow_memory.specs.Pages.{marks_mixed}
use Rattle.shadow_memory.specs.Parts.{mark_by}
use Rattle.shadow_memory.proofs.marks.Mixed.are_same.Goals as goal

-- two entries of the side map are compared by place and bits
Decides-entry : (p q : ℕ × ℕ) → Decides ((p.0 == q.0) && (p.1 == q.1)) (p ≡ q)
Decides-entry p q =
    Decides-like ((p.0 == q.0) && (p.1 == q.1)) (λ h. ap₂ (λ place bits. (place, bits)) h.0 h.1)
    (λ e. (ap (λ (x : ℕ × ℕ). x.0) e, ap (λ (x : ℕ × ℕ). x.1) e))
    (Decides-and (p.0 == q.0) (p.1 == q.1) (Decides-eqb p.0 q.0) (Decides-eqb p.1 q.1))

pub returns-then-are_same : goal.returns-then-are_same
unfolding marks_mixed
returns-then-are_same c equal = λ at.
    ap₂ mark_by (c.are_same.ensures c.if-are_same.true at)
    (ap (λ (entries : List (ℕ × ℕ)). unwrap_or (lookup (is_at (nat_cmp at)) entries) 0)
    ((slice_eq-Decides Decides-entry _ _ _ c.eq.ensures).0 equal))
