-- No place, where none is found.
use Rattle.std.proofs.Common.{◌≡◌, ℕ, Option, Some, None, refl}

pub none-found : (found : Option ℕ) → ((n : ℕ) → found ≡ Some n → ⊥) → found ≡ None
none-found None h = refl
none-found (Some n) h = absurd (h n refl)
