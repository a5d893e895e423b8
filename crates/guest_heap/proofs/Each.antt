-- Lists of which something holds of each item.
use Rattle.std.proofs.Common.{◌≡◌, ℕ, zero, suc, List, [], ◌∷◌, Option, Some, None, map, slice_get, set, refl, sym, ◌∙◌}
use Rattle.std.proofs.Common.{subst}
use Rattle.std.specs.Option.{option_map}
use Rattle.std.proofs.lemmas.Option.{slice_get-map}
use Rattle.guest_heap.proofs.KeptSteps.{some-same}

abbrev pub Each : {T : Type 0} → (T → Type 0) → List T → Type 0
Each P xs = (i : ℕ) → (x : _) → slice_get xs i ≡ Some x → P x

-- one item is written anew
pub each_set : {T : Type 0} (P : T → Type 0) (xs : List T) (i : ℕ) (x : T) → Each P xs → P x → Each P (set xs i x)
each_set P [] i x hold new k y there = cc
each_set P (z ∷ xs) zero x hold new zero y there = subst P (some-same there) new
each_set P (z ∷ xs) zero x hold new (suc k) y there = hold (suc k) y there
each_set P (z ∷ xs) (suc i) x hold new zero y there = hold zero y there
each_set P (z ∷ xs) (suc i) x hold new (suc k) y there = each_set P xs i x (λ j d h. hold (suc j) d h) new k y there

option_map-some : {A B : Type 0} (f : A → B) (o : Option A) (y : B) → option_map f o ≡ Some y
    → (x : A) × (o ≡ Some x) × (f x ≡ y)
option_map-some f None y h = cc
option_map-some f (Some x) y h = (x, refl, some-same h)

-- each item is changed
pub each_mapped : {T : Type 0} (P Q : T → Type 0) (f : T → T) → ((x : T) → P x → Q (f x)) → (xs : List T) → Each P xs
    → Each Q (map f xs)
each_mapped P Q f step xs hold i y there =
    let (x, at, is) = option_map-some f (slice_get xs i) y (sym (slice_get-map f xs i) ∙ there) in
    subst Q is (step x (hold i x at))
