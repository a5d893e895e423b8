use Rattle.std.proofs.Common.{◌≡◌, ◌≤◌, ◌∙◌, length, sym, List, [], ℕ, Err, ap, option_map, subst}
use Rattle.program_files.proofs.Fronts.{bad-text, has-rules}
use Rattle.exit_status.proofs.EndSteps.{same-error}
use Rattle.program_files.proofs.StreamSteps.{no-text}
use Rattle.exit_status.specs.declared.ends.End.TheVariants.{Suppressions}
use Rattle.program_files.specs.Files.{longest_text}
use Rattle.suppressions.specs.Texts.{faults, rules as rules_of, IsLeast}
use Rattle.program_files.proofs.reading.read_suppressions.Goals as goal

pub parse-requires : goal.parse-requires
parse-requires g c =
    subst (λ (xs : List ℕ). length xs ≤ longest_text) (sym c.deref.ensures.value) c.in_ok-text.ensures.ok.1

pub returns-in_err-text-clause-err : goal.returns-in_err-text-clause-err
returns-in_err-text-clause-err g c =
    same-error c.from_residual.result _ _ c.from_residual.ensures.1
    (no-text (g.F.Files.gives c.args.files.now) _ _ _ (ap (option_map (λ path. path.now)) c.in-Some.is)
    c.in_err-text.ensures.err)

pub returns-in_err-parse-clause-err : goal.returns-in_err-parse-clause-err
returns-in_err-parse-clause-err g c =
    same-error _ (Suppressions c.in_err-parse.field-0.0) _ c.from_residual-in_err-parse.ensures.1
    (bad-text (g.F.Files.gives c.args.files.now) _ _ c.in_ok-text.text.items _
    (ap (option_map (λ path. path.now)) c.in-Some.is) c.in_ok-text.ensures.ok.0 c.in_ok-text.ensures.ok.1
    (λ line e. subst (λ (xs : List ℕ). IsLeast line (faults xs)) c.deref.ensures.value
    (c.in_err-parse.ensures.refused line (ap Err e))))

pub returns-clause-ok : goal.returns-clause-ok
returns-clause-ok g c =
    let read = c.in_ok-parse.ensures.read in
    has-rules (g.F.Files.gives c.args.files.now) _ _ c.in_ok-text.text.items _
    (ap (option_map (λ path. path.now)) c.in-Some.is) c.in_ok-text.ensures.ok.0 c.in_ok-text.ensures.ok.1
    (subst (λ (xs : List ℕ). faults xs ≡ []) c.deref.ensures.value read.0) (read.1 ∙ ap rules_of c.deref.ensures.value)
