-- The number of places of a part, and the number of parts of a row.
use Rattle.std.specs.Prelude.{ℕ, ◌*◌, ◌/◌, ◌<◌, ◌≤◌, ◌≡◌, nat_lt, Bool, true, false, if◌then◌else◌, refl}
use Rattle.std.proofs.Common.{arith}
use Rattle.std.proofs.Math.Nat.{div-mul-le_self, mul-pos}
use Rattle.std.proofs.lemmas.Nat.{le-div}
use Rattle.std.proofs.lemmas.Bool.Decides.{Decides-ltb}

-- at least one place, and at most as many as the heap's region has
pub record IsSize (places : ℕ) : Type 0 where
  pub some : 0 < places
  pub few : places ≤ 33554432

-- a row has 64 parts, or, if each part is a row of 64 rows of 64 leaves, as many as the heap's region has
unfoldable pub parts_of : ℕ → ℕ
parts_of each = if nat_lt each 262144 then 64 else 33554432 / each

unfoldable pub places_of : ℕ → ℕ
places_of each = parts_of each * each

sized-by : (each : ℕ) (small : Bool) → nat_lt each 262144 ≡ small → IsSize each
    → IsSize ((if small then 64 else 33554432 / each) * each)
sized-by each true is h =
    let less = (Decides-ltb each 262144).0 is in
    let some = h.some in
    record { some = omega arith; few = omega arith }
sized-by each false is h =
    let few = h.few in
    record {
      some = mul-pos (le-div 1 33554432 each h.some (omega arith)) h.some;
      few = div-mul-le_self 33554432 each;
    }

-- a row of parts has a size
pub row_sized : (each : ℕ) → IsSize each → IsSize (places_of each)
unfolding places_of parts_of
row_sized each h = sized-by each (nat_lt each 262144) refl h
