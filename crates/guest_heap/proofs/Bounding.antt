-- Lists of bounds, as they are made and lowered.
use Rattle.std.proofs.Common.{◌≡◌, ℕ, zero, suc, List, [], replicate, ap, sym, subst, arith}
use Rattle.guest_heap.specs.Blocks.{Blocks}
use Rattle.guest_heap.specs.Bounds.{AreBounds, AreFresh}
use Rattle.guest_heap.specs.declared.bounds.Bound.{Bound}
use Rattle.guest_heap.proofs.KeptSteps.{some-same}

abbrev pub nothing_known : Bound
nothing_known = record { size = 0; from = 0; next = 0; until = 0 }

pub fresh_replicate : (n : ℕ) → AreFresh (replicate n nothing_known)
fresh_replicate zero i b h = cc
fresh_replicate (suc n) zero b h = (ap (λ x. x.from) (sym (some-same h)), ap (λ x. x.until) (sym (some-same h)))
fresh_replicate (suc n) (suc i) b h = fresh_replicate n i b h

-- bounds that say nothing hold
pub fresh_bounds : (blocks : Blocks) (redzone : ℕ) (bounds : List Bound) → AreFresh bounds
    → AreBounds blocks redzone bounds
fresh_bounds blocks redzone bounds fresh i b there =
    let none = fresh i b there in
    record {
      below = λ q over less. absurd (omega (arith, none.0));
      between = λ q over less. absurd (omega (arith, none.1));
    }

-- where there are no bounds, all hold
pub absent_bounds : (blocks : Blocks) (redzone : ℕ) (bounds : List Bound) → bounds ≡ []
    → AreBounds blocks redzone bounds
absent_bounds blocks redzone bounds none = subst (AreBounds blocks redzone) (sym none) (λ i b h. cc)
