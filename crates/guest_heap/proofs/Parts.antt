-- A part of its own from a reference that copies share: the part itself, or a clone.
use Rattle.std.proofs.Common.{◌≡◌, ◌⊎◌, inl, inr, ap, refl, sym, subst, Result, Ok}
use Rattle.std.specs.Result.{IsOk}
use Rattle.guest_heap.specs.Entries.{Entries}

pub is_ok : {T E : Type 0} (r : Result T E) (x : T) → r ≡ Ok x → IsOk r
is_ok r x h = subst IsOk (sym h) refl

pub own_part : {P : Type 0} (entries : P → Entries) (is_clone : P → P → Type 0)
    → ((part copy : P) → is_clone part copy → entries copy ≡ entries part) → (part own : P)
    → (own ≡ part) ⊎ is_clone part own → entries own ≡ entries part
own_part entries is_clone same part own (inl kept) = ap entries kept
own_part entries is_clone same part own (inr copied) = same part own copied
