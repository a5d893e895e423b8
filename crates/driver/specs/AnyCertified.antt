-- One run of a program from step zero, and the verdict on it for every value of some bytes.
use Rattle.std.specs.Prelude.{◌≡◌, ◌⊎◌, ◌||◌, ◌≤◌, ℕ, Bool, true, false, List, [], Option, Some, None, is_some, length}
use Rattle.std.specs.Prelude.{take}
use Rattle.std.specs.Io.KnownBytes.{Appends}
use Rattle.command_line.specs.declared.order.CertifyArgs.{CertifyArgs}
use Rattle.exit_status.specs.declared.ends.End.{End}
use Rattle.exit_status.specs.declared.ends.End.TheVariants.{Done, CannotWrite, NoMemory, NotClean}
use Rattle.guest_elf.specs.declared.image.Image.{Image}
use Rattle.guest_machine.specs.Run.{start_state}
use Rattle.scenario.specs.Setups.{setup_with}
use Rattle.clean_reports.specs.Agreement.{AreBytes}
use Rattle.clean_reports.specs.Lines.{verdict_line}
use Rattle.clean_reports.specs.declared.verdict.Verdict.{Verdict}
use Rattle.clean_reports.specs.declared.verdict.Verdict.TheVariants.{Clean, Use as FirstUsed, Mark as ByMark}
use Rattle.any_runs.specs.Secrets.{Secrets}
use Rattle.any_verdicts.specs.Chosen.{has_address, has_position, is_revealed, listed}
use Rattle.any_verdicts.specs.Lines.{any_line}
use Rattle.any_verdicts.specs.Verdicts.{AllOthersAreSame, IsAnyVerdict}
use Rattle.any_verdicts.specs.declared.chosen.Chosen.{Chosen}
use Rattle.any_verdicts.specs.declared.verdict.AnyVerdict.{AnyVerdict}
use Rattle.any_verdicts.specs.declared.verdict.AnyVerdict.TheVariants.{Same}
use Rattle.driver.specs.Certified.{Certifies, IsCertifiedOnce, IsVerdictOnce, step_for}
use Rattle.driver.specs.Choosing.{IsChosen, IsNotChosen}

-- what is chosen, as tests of positions and addresses
abbrev pub chosen_secrets : Chosen → Secrets
chosen_secrets chosen =
    record {
      input = has_position (listed chosen.input);
      memory = has_address (listed chosen.memory);
      revealed = is_revealed (listed chosen.reveal);
    }

-- the verdict on the run of a program with an input up to step n, for every value of what is chosen
abbrev pub IsAnyOnce : Image → List ℕ → ℕ → Chosen → AnyVerdict → Type 0
IsAnyOnce image input n chosen verdict =
    IsAnyVerdict (chosen_secrets chosen) (start_state image) (setup_with image input) n verdict

-- each other run is the same, where what the file loads is bytes
abbrev pub AreSameOnce : Image → List ℕ → ℕ → Chosen → Type 0
AreSameOnce image input n chosen =
    AreBytes (start_state image).bytes
    → AllOthersAreSame (chosen_secrets chosen) (start_state image) (setup_with image input) n

-- is it all right that this is said? The run is the same, and has ended, or its step was asked for
abbrev pub is_right : Bool → AnyVerdict → Bool
is_right asked (Same ended read) = ended || asked
is_right asked verdict = false

-- has a clean run ended?
abbrev pub clean_end : Verdict → Option Bool
clean_end (Clean ended) = Some ended
clean_end (ByMark index mark) = None
clean_end (FirstUsed found) = None

-- a clean run that is judged for every value, and the line that says so
pub record IsJudged (image : Image) (input : List ℕ) (n : ℕ) (asked : Bool) (chosen : Chosen) (text : List ℕ)
    (right : Bool) : Type 0 where
  pub plain : Verdict
  pub clean : is_some (clean_end plain) ≡ true
  pub first : IsVerdictOnce image input n plain
  pub certified : IsCertifiedOnce image input n
  pub verdict : AnyVerdict
  pub once : IsAnyOnce image input n chosen verdict
  pub same : (ended : Bool) (read : ℕ) → verdict ≡ Same ended read → AreSameOnce image input n chosen
  pub line : text ≡ any_line image chosen n verdict
  pub is : right ≡ is_right asked verdict

-- a run that isn't clean, and the line that says so: nothing is said of other values
pub record IsUnclean (image : Image) (input : List ℕ) (n : ℕ) (text : List ℕ) (right : Bool) : Type 0 where
  pub verdict : Verdict
  pub once : IsVerdictOnce image input n verdict
  pub unclean : clean_end verdict ≡ None
  pub line : text ≡ verdict_line image n verdict
  pub is : right ≡ false

-- what is said of a run, and whether it is all right
abbrev pub IsTold : Image → List ℕ → ℕ → Bool → Chosen → List ℕ → Bool → Type 0
IsTold image input n asked chosen text right =
    IsUnclean image input n text right ⊎ IsJudged image input n asked chosen text right

-- it was written; or a front of it, after which a write failed; or nothing, as memory ran out
abbrev pub CertifiesAny : Image → List ℕ → Option ℕ → Chosen → Option (List ℕ) → Option (List ℕ) → End → Type 0
CertifiesAny image input asked chosen old new Done =
    (text : List ℕ) × IsTold image input (step_for asked) (is_some asked) chosen text true × Appends old new text
CertifiesAny image input asked chosen old new NotClean =
    (text : List ℕ) × IsTold image input (step_for asked) (is_some asked) chosen text false × Appends old new text
CertifiesAny image input asked chosen old new CannotWrite =
    (text : List ℕ) × (right : Bool) × (sent : ℕ)
    × IsTold image input (step_for asked) (is_some asked) chosen text right
    × (sent ≤ length text) × Appends old new (take sent text)
CertifiesAny image input asked chosen old new NoMemory = Appends old new []
CertifiesAny image input asked chosen old new end = ⊥

abbrev pub CertifiesChosen : Image → List ℕ → Option ℕ → Option Chosen → Option (List ℕ) → Option (List ℕ) → End
    → Type 0
CertifiesChosen image input asked None old new end = Certifies image input asked old new end
CertifiesChosen image input asked (Some chosen) old new end = CertifiesAny image input asked chosen old new end

-- the arguments are read, and then the run is judged by them, or they end the program
abbrev pub CertifiesBy : Image → List ℕ → CertifyArgs → Option (List ℕ) → Option (List ℕ) → End → Type 0
CertifiesBy image input args old new end =
    (IsNotChosen args (length input) end × Appends old new [])
    ⊎ ((chosen : Option Chosen) × IsChosen args (length input) chosen
    × CertifiesChosen image input args.step chosen old new end)
