-- The verdict on a run without edits.
use Rattle.std.proofs.Common.{◌≡◌, ℕ, ◌^◌, ◌<◌, Bool, true, false, List, [], All, Option, Some, None, inl, inr}
use Rattle.std.proofs.Common.{refl, subst, subst₂, sym}
use Rattle.std.specs.Prelude.{is_some}
use Rattle.std.specs.Io.KnownBytes.{Appends}
use Rattle.checkpoints.specs.Trails.{IsRightFor}
use Rattle.checkpoints.specs.declared.trail.Trail.{Trail}
use Rattle.guest_elf.specs.declared.image.Image.{Image}
use Rattle.guest_machine.specs.Run.{start_state}
use Rattle.guest_machine.specs.State.{State}
use Rattle.guest_machine.specs.declared.setup.Setup.{Setup}
use Rattle.run_values.specs.declared.alteration.Alteration.{Alteration}
use Rattle.scenario.specs.Setups.{setup_with}
use Rattle.clean_reports.specs.Agreement.{AreBytes}
use Rattle.clean_reports.specs.Disturbed.{HasBytes, IsStartOf}
use Rattle.clean_reports.specs.Lines.{verdict_line}
use Rattle.clean_reports.specs.Uses.{NoUse}
use Rattle.clean_reports.specs.Verdicts.{IsCertified, IsVerdict}
use Rattle.clean_reports.specs.declared.verdict.Verdict.{Verdict}
use Rattle.clean_reports.specs.declared.verdict.Verdict.TheVariants.{Clean, Use, Mark as ByMark}
use Rattle.any_runs.specs.Echoes.{kept}
use Rattle.any_runs.specs.Secrets.{Secrets}
use Rattle.any_verdicts.specs.Chosen.{has_address, has_position, is_revealed, listed, secrets_of}
use Rattle.any_verdicts.specs.Verdicts.{AllOthersAreSame, IsAnyVerdict}
use Rattle.any_verdicts.specs.declared.any_bytes.AnyBytes.{AnyBytes}
use Rattle.any_verdicts.specs.declared.chosen.Chosen.{Chosen}
use Rattle.any_verdicts.specs.declared.verdict.AnyVerdict.{AnyVerdict}
use Rattle.driver.specs.AnyCertified.{AreSameOnce, IsAnyOnce, chosen_secrets, clean_end}
use Rattle.driver.specs.Certified.{Certifies, IsCertifiedOnce, IsVerdictOnce, end_of_verdict, step_for}

-- a program begins with no errors
none-yet : (image : Image) → NoUse (start_state image).events
unfolding start_state
none-yet image = tt

begins : (image : Image) → IsStartOf image (start_state image)
unfolding start_state
begins image = record { core = refl; events = refl }

module _ (image : Image) (input : List ℕ) (step : ℕ) (setup : Setup) (plain : setup ≡ setup_with image input)
    (trail : Trail) (right : (setup : Setup) (marks : List Alteration)
    → IsRightFor trail (start_state image) setup marks)
  where
    pub verdict-once : (verdict : Verdict)
        → ((start : State) → IsRightFor trail start setup [] → NoUse start.events
        → IsVerdict start setup [] step verdict)
        → IsVerdictOnce image input step verdict
    verdict-once verdict tells =
        subst (λ (s : Setup). IsVerdict (start_state image) s [] step verdict) plain
        (tells (start_state image) (right setup []) (none-yet image))

    pub certified-once : All (λ byte. byte < 2 ^ 8) input
        → ((image : Image) (start : State) → IsRightFor trail start setup [] → IsStartOf image start → HasBytes setup
        → IsCertified image start setup [] step)
        → IsCertifiedOnce image input step
    certified-once bytes certified =
        subst (λ (s : Setup). IsCertified image (start_state image) s [] step) plain
        (certified image (start_state image) (right setup []) (begins image)
        (subst (λ (s : Setup). HasBytes s) (sym plain) bytes))

-- for every value of what is chosen --

none-kept : (image : Image) → NoUse (kept (start_state image).events)
unfolding start_state kept
none-kept image = tt

pub secrets-are : (chosen : Chosen) (bytes : AnyBytes) → bytes.input.items ≡ listed chosen.input
    → bytes.memory.items ≡ listed chosen.memory → bytes.revealed.items ≡ listed chosen.reveal
    → secrets_of bytes ≡ chosen_secrets chosen
unfolding secrets_of
secrets-are chosen bytes input memory revealed = λ i. record {
  input = has_position (input i);
  memory = has_address (memory i);
  revealed = is_revealed (revealed i);
}

module _ (image : Image) (input : List ℕ) (step : ℕ) (setup : Setup) (plain : setup ≡ setup_with image input)
    (chosen : Chosen) (bytes : AnyBytes) (is : secrets_of bytes ≡ chosen_secrets chosen)
  where
    pub any-once : (verdict : AnyVerdict)
        → (NoUse (kept (start_state image).events)
        → IsAnyVerdict (secrets_of bytes) (start_state image) setup step verdict)
        → IsAnyOnce image input step chosen verdict
    any-once verdict tells =
        subst₂ (λ (secrets : Secrets) (s : Setup). IsAnyVerdict secrets (start_state image) s step verdict) is plain
        (tells (none-kept image))

    pub same-once : All (λ byte. byte < 2 ^ 8) input
        → (IsStartOf image (start_state image) → AreBytes (start_state image).bytes → HasBytes setup
        → AllOthersAreSame (secrets_of bytes) (start_state image) setup step)
        → AreSameOnce image input step chosen
    same-once small same loaded =
        subst₂ (λ (secrets : Secrets) (s : Setup). AllOthersAreSame secrets (start_state image) s step) is plain
        (same (begins image) loaded (subst (λ (s : Setup). HasBytes s) (sym plain) small))

-- a verdict with a clean end is a clean one
pub is-clean : (verdict : Verdict) (P : Type 0) → is_some (clean_end verdict) ≡ true
    → ((ended : Bool) → verdict ≡ Clean ended → P) → P
is-clean (Clean ended) P some told = told ended refl
is-clean (ByMark index mark) P some told = cc
is-clean (Use found) P some told = cc

-- what was written for a verdict
pub certifies : (image : Image) (input : List ℕ) (asked : Option ℕ) (old new : Option (List ℕ)) (verdict : Verdict)
    → IsVerdictOnce image input (step_for asked) verdict
    → ((ended : Bool) → verdict ≡ Clean ended → IsCertifiedOnce image input (step_for asked))
    → Appends old new (verdict_line image (step_for asked) verdict)
    → Certifies image input asked old new (end_of_verdict (is_some asked) verdict)
certifies image input asked old new (Clean true) is certified appended =
    (true, refl, ((is, appended), certified true refl))
certifies image input (Some n) old new (Clean false) is certified appended =
    (false, refl, ((is, appended), certified false refl))
certifies image input None old new (Clean false) is certified appended =
    inr (refl, ((is, appended), certified false refl))
certifies image input asked old new (ByMark index mark) is certified appended = let at = is.at in cc
certifies image input asked old new (Use found) is certified appended = inl (found, (is, appended))
