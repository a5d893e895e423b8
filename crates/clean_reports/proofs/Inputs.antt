-- Inputs are lists of bytes.
use Rattle.std.proofs.Common.{◌≡◌, ℕ, ◌^◌, ◌<◌, List, All, slice_index, subst, sym}
use Rattle.std.proofs.lemmas.List.Elements.{All-from_get_or}
use Rattle.guest_machine.specs.declared.setup.Setup.{Setup}
use Rattle.clean_reports.specs.Disturbed.{HasBytes}

pub all-bytes : (xs : List ℕ) → ((k : ℕ) → slice_index xs k < 2 ^ 8) → All (λ byte. byte < 2 ^ 8) xs
all-bytes xs fits = All-from_get_or (λ byte. byte < 2 ^ 8) xs 0 (λ k h. fits k)

-- as those of a slice are bytes
pub has-bytes : (input : List ℕ) → ((k : ℕ) → slice_index input k < 2 ^ 8) → (setup : Setup) → setup.input ≡ input
    → HasBytes setup
has-bytes input fits setup is = subst (λ xs. All (λ byte. byte < 2 ^ 8) xs) (sym is) (all-bytes input fits)
