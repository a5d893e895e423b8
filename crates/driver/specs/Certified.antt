-- One run of a program from step zero, and the verdict on it.
use Rattle.std.specs.Prelude.{◌≡◌, ◌⊎◌, ◌||◌, ◌≤◌, ℕ, Bool, true, false, List, [], Option, None, if◌then◌else◌, is_some}
use Rattle.std.specs.Prelude.{length, take, unwrap_or}
use Rattle.std.specs.Io.KnownBytes.{Appends}
use Rattle.guest_elf.specs.declared.image.Image.{Image}
use Rattle.guest_machine.specs.Run.{start_state}
use Rattle.scenario.specs.Limits.{most_steps}
use Rattle.scenario.specs.Setups.{setup_with}
use Rattle.clean_reports.specs.Lines.{verdict_line}
use Rattle.clean_reports.specs.Verdicts.{IsCertified, IsVerdict}
use Rattle.clean_reports.specs.declared.verdict.FirstUse.{FirstUse}
use Rattle.clean_reports.specs.declared.verdict.Verdict.{Verdict}
use Rattle.clean_reports.specs.declared.verdict.Verdict.TheVariants.{Clean, Use, Mark as ByMark}
use Rattle.exit_status.specs.declared.ends.End.{End}
use Rattle.exit_status.specs.declared.ends.End.TheVariants.{Done, CannotWrite, NoMemory, NotClean}

-- the verdict on the run of a program with an input up to step n, with no marks and default options
abbrev pub IsVerdictOnce : Image → List ℕ → ℕ → Verdict → Type 0
IsVerdictOnce image input n verdict = IsVerdict (start_state image) (setup_with image input) [] n verdict

-- that run is certified
abbrev pub IsCertifiedOnce : Image → List ℕ → ℕ → Type 0
IsCertifiedOnce image input n = IsCertified image (start_state image) (setup_with image input) [] n

-- the line of a verdict, and nothing else, was written
abbrev pub WritesVerdict : Image → List ℕ → ℕ → Option (List ℕ) → Option (List ℕ) → Verdict → Type 0
WritesVerdict image input n old new verdict =
    IsVerdictOnce image input n verdict × Appends old new (verdict_line image n verdict)

-- the line of a clean run, which has ended or goes on, was written, and the run is certified
abbrev pub WritesClean : Image → List ℕ → ℕ → Option (List ℕ) → Option (List ℕ) → Bool → Type 0
WritesClean image input n old new ended =
    WritesVerdict image input n old new (Clean ended) × IsCertifiedOnce image input n

-- how the program ends with a verdict, by whether its step was asked for: a clean run that goes on is all right only
-- then
abbrev pub end_of_verdict : Bool → Verdict → End
end_of_verdict asked (Clean ended) = if ended || asked then Done else NotClean
end_of_verdict asked (ByMark index mark) = NotClean
end_of_verdict asked (Use found) = NotClean

-- the step of the verdict: the one that was asked for, or the greatest one
abbrev pub step_for : Option ℕ → ℕ
step_for asked = unwrap_or asked most_steps

-- the line of a clean run was written, and the run is certified: it has ended, or its step was asked for; or the line
-- of the first use, or that of a clean run that goes on, if no step was asked for; or a front of the line, after which
-- a write failed; or nothing, as memory ran out
abbrev pub Certifies : Image → List ℕ → Option ℕ → Option (List ℕ) → Option (List ℕ) → End → Type 0
Certifies image input asked old new Done =
    (ended : Bool) × (ended || is_some asked ≡ true) × WritesClean image input (step_for asked) old new ended
Certifies image input asked old new NotClean =
    ((found : FirstUse) × WritesVerdict image input (step_for asked) old new (Use found))
    ⊎ ((asked ≡ None) × WritesClean image input (step_for asked) old new false)
Certifies image input asked old new CannotWrite =
    (verdict : Verdict) × (sent : ℕ) × IsVerdictOnce image input (step_for asked) verdict
    × (sent ≤ length (verdict_line image (step_for asked) verdict))
    × Appends old new (take sent (verdict_line image (step_for asked) verdict))
Certifies image input asked old new NoMemory = Appends old new []
Certifies image input asked old new end = ⊥
