-- A code that is fetched begins where an instruction may, and is at least as long as the shortest ones.
use Rattle.std.proofs.Common.{◌≡◌, ◌%◌, ◌≤◌, ◌==◌, ◌&&◌, ℕ, Bool, true, false, if◌then◌else◌, refl, arith, Option, Some}
use Rattle.std.proofs.Common.{None, IfSome}
use Rattle.std.specs.Prelude.{is_none}
use Rattle.std.proofs.lemmas.Bool.Decides.{nat_tests}
use Rattle.guest_elf.specs.Profiles.{is_aligned, is_half, is_short, unit}
use Rattle.guest_elf.specs.declared.hook.Hook.{Hook}
use Rattle.guest_elf.specs.declared.profile.Isa.{Isa}
use Rattle.shadow_memory.specs.Shadows.{Shadow, first_inaccessible}
use Rattle.guest_machine.specs.State.{Core}
use Rattle.guest_machine.specs.Exec.{called_here, action_by, fetch_by, fetch_span, fetched, fetches, half_at}
use Rattle.guest_machine.specs.Exec.{touched_at}
use Rattle.guest_machine.specs.Exec.{word_at, word_fault}
use Rattle.guest_machine.specs.Fetches.{FetchesCodes, IsCodeOf}
use Rattle.guest_machine.proofs.Fetching.{at_start, no-fault}

few-bytes : (isa : Isa) → unit isa ≤ 4
unfolding unit
few-bytes isa = go isa.compressed
  where
    go : (compressed : Bool) → (if compressed then 2 else 4) ≤ 4
    go true = omega arith
    go false = omega arith

multiple : (isa : Isa) (a : ℕ) → is_aligned isa a ≡ true → a % unit isa ≡ 0
unfolding unit
multiple isa a h = go isa.compressed h
  where
    go : (compressed : Bool) → (a % (if compressed then 2 else 4) == 0) ≡ true → a % (if compressed then 2 else 4) ≡ 0
    go true h = grind (arith, nat_tests)
    go false h = grind (arith, nat_tests)

-- where there are halves, and where a word can be cut, the shortest instructions have two bytes
by-half : (isa : Isa) (first : ℕ) → is_half isa first ≡ true → unit isa ≤ 2
unfolding is_half unit
by-half isa first h = go isa.compressed h
  where
    go : (compressed : Bool) → compressed && is_short first ≡ true → (if compressed then 2 else 4) ≤ 2
    go true h = omega arith
    go false h = cc

by-cut : (isa : Isa) (shadows : ℕ → Shadow) (a : ℕ) → first_inaccessible shadows a (unit isa) ≡ None
    → is_none (first_inaccessible shadows a 4) ≡ false → unit isa ≤ 2
unfolding unit
by-cut isa shadows a none some = go isa.compressed none
  where
    go : (compressed : Bool) → first_inaccessible shadows a (if compressed then 2 else 4) ≡ None
        → (if compressed then 2 else 4) ≤ 2
    go true none = omega arith
    go false none = cc

of-code : (core : Core) (bytes : ℕ → ℕ) (function : Option Hook)
    → IfSome (fetch_span core (action_by function (fetched core bytes))) (IsCodeOf core.isa)
unfolding fetched
of-code core bytes (Some function) = tt
of-code core bytes None =
    go (fetches core) (is_half core.isa (half_at core bytes)) (is_none (word_fault core)) refl refl refl
  where
    go : (may short whole : Bool) → fetches core ≡ may → is_half core.isa (half_at core bytes) ≡ short
        → is_none (word_fault core) ≡ whole
        → IfSome (fetch_span core (fetch_by may short whole (half_at core bytes) (word_at core bytes)))
        (IsCodeOf core.isa)
    go false short whole m h w = tt
    go true true whole m h w = record {
      aligned = multiple core.isa core.pc (at_start core m);
      whole = by-half core.isa (half_at core bytes) h;
      few = omega arith;
    }
    go true false true m h w = record {
      aligned = multiple core.isa core.pc (at_start core m);
      whole = few-bytes core.isa;
      few = omega arith;
    }
    go true false false m h w = record {
      aligned = multiple core.isa core.pc (at_start core m);
      whole = by-cut core.isa core.shadow core.pc (no-fault core m) w;
      few = omega arith;
    }

pub fetches-codes : FetchesCodes
unfolding touched_at
fetches-codes setup s = of-code s.core s.bytes (called_here s.core setup.hooks)
