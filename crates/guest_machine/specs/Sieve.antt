-- A sieve of functions: marks that show for most addresses at once that no function begins there. It is only for this
-- crate's proofs.
use Rattle.std.specs.Prelude.{◌≡◌, ℕ, ◌/◌, ◌%◌, ◌<◌, Bool, true, false, List, slice_index_or}
use Rattle.guest_elf.specs.declared.hook.Hook.{Hook}

-- the place of an address in a sieve of 64 marks
abbrev pub slot_of : ℕ → ℕ
slot_of address = address / 4 % 64

-- the first n of the functions have their marks
abbrev pub AreMarked : List Bool → List (ℕ × Hook) → ℕ → Type 0
AreMarked sieve hooks n =
    (k : ℕ) (d : ℕ × Hook) → k < n → slice_index_or sieve (slot_of (slice_index_or hooks k d).0) false ≡ true
