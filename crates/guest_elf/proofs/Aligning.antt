-- Where an instruction may begin.
use Rattle.std.proofs.Common.{◌≡◌, ◌%◌, ◌==◌, ℕ, Bool, true, false, if◌then◌else◌, arith}
use Rattle.std.proofs.lemmas.Bool.Decides.{nat_tests}
use Rattle.guest_elf.specs.Profiles.{is_aligned, unit}
use Rattle.guest_elf.specs.declared.profile.Isa.{Isa}

-- at each multiple of 4
pub word_aligned : (isa : Isa) (a : ℕ) → a % 4 ≡ 0 → true ≡ is_aligned isa a
unfolding unit
word_aligned isa a h = go isa.compressed
  where
    go : (compressed : Bool) → true ≡ (a % (if compressed then 2 else 4) == 0)
    go true = let even : a % 2 ≡ 0 = omega arith in grind (arith, nat_tests)
    go false = grind (arith, nat_tests)
