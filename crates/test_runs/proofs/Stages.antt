-- The stages of `exec`: options, edits and patches.
use Rattle.std.proofs.Common.{◌≡◌, ◌∙◌, ◌⊎◌, inl, inr, ℕ, Bool, true, false, List, [], ◌∷◌, Option, Some, None, refl}
use Rattle.std.proofs.Common.{ap, sym}
use Rattle.std.proofs.Common.{subst, Result, Ok, Err, IfOk, IfErr, OnOk}
use Rattle.std.proofs.Common.{is_none, is_some, not, option_map, take}
use Rattle.std.proofs.KnownBytes.{Appends-nil, Appends-trans, Consumes-nil}
use Rattle.std.specs.Io.KnownBytes.{Appends}
use Rattle.exit_status.specs.declared.ends.End.{End}
use Rattle.exit_status.specs.declared.ends.End.TheVariants.{NoMemory}
use Rattle.exit_status.specs.declared.exec_ends.ChosenStatuses.{ChosenStatuses}
use Rattle.exit_status.specs.declared.exec_ends.ExecEnd.TheVariants.{Early, NoReport, Ran}
use Rattle.suppressions.specs.declared.leak_kinds.LeakKinds.{LeakKinds}
use denote.Ref.{Bor}
use Rattle.commands.specs.Commands.{number}
use Rattle.commands.specs.declared.edit.Edit.{Edit}
use Rattle.commands.specs.declared.edit.Edit.TheVariants.{Patch}
use Rattle.exit_status.specs.declared.exec_ends.ExecEnd.{ExecEnd}
use Rattle.guest_elf.specs.declared.image.Image.{Image}
use Rattle.guest_elf.specs.declared.profile.Profile.{Profile}
use Rattle.guest_machine.specs.State.{State}
use Rattle.program_files.specs.Files.{Giving, HasInput, IsFront, NoBytes, NoImage, NoProgram, most_judged}
use Rattle.program_files.specs.Profiles.{IsProfileNamed}
use Rattle.command_line.specs.declared.order.ProfileArgs.{ProfileArgs}
use Rattle.replay_report.specs.Findings.{HasFindings}
use Rattle.run_values.specs.declared.alteration.Alteration.{Alteration}
use Rattle.scenario.specs.Edits.{IsTaken, row}
use Rattle.scenario.specs.Scenario.{Scenario}
use Rattle.suppressions.specs.Rules.{Rule}
use Rattle.test_runs.specs.Executions.{Held}
use Rattle.test_runs.proofs.Steps.{gives-none}
use Rattle.unknown_calls.specs.declared.UnknownCall.{UnknownCall}
use Rattle.test_runs.specs.Executed.{Executed, IsChoice, IsUntouched, Opening, Pipes, WithImage}
use Rattle.test_runs.specs.Executed.{names_in, pipes, plan_for, waits_for}
use Rattle.test_runs.specs.declared.executing.Plan.{Plan}
use Rattle.file_heaps.specs.FileHeaps.{known_of}
use Rattle.file_heaps.specs.declared.heap.Known.{Known}
use Rattle.guest_elf.specs.Defined.{SymbolContent, defined_in}
use Rattle.test_runs.specs.declared.executing.Choices.{Choices}
use Rattle.command_line.specs.declared.order.Order.{Order}
use Rattle.command_line.specs.declared.order.ExecArgs.{ExecArgs}
use Rattle.exit_status.specs.declared.ends.End.TheVariants.{Image as Refused}
use Rattle.guest_elf.specs.File.{IsImageFor, refusal, early_refusal}
use Rattle.guest_elf.specs.declared.fault.ElfFault.{ElfFault}
use Rattle.guest_elf.specs.declared.fault.ElfFault.TheVariants.{Memory}
use Rattle.test_runs.specs.Prepared.{KeepsRun, IsEdited, IsNoPatch, IsOptionRefused, IsPatched, IsPatchedBy}
use Rattle.test_runs.specs.Prepared.{NoPatch, patch_in}
use Rattle.test_runs.specs.Prepared.{patch_of, patch_with}
use Rattle.texts.specs.Parts.{parts}

pub untouched : (left : Option (List ℕ)) (held : Held) (logged : Option (List ℕ)) (opened : Option (Option (List ℕ)))
    → opened ≡ None
    → IsUntouched (pipes left held logged opened) (pipes left held logged opened)
untouched left held logged opened none = (Consumes-nil left, gives-none held, Appends-nil logged, none)

-- ---- results

pub if-err : {T E : Type 0} (result : Result T E) (P : E → Type 0) → ((e : E) → P e) → IfErr result P
if-err (Ok x) P p = tt
if-err (Err e) P p = p e

pub weaker-err : {T E : Type 0} (result : Result T E) (P Q : E → Type 0) → ((e : E) → P e → Q e) → IfErr result P
    → IfErr result Q
weaker-err (Ok x) P Q step h = tt
weaker-err (Err e) P Q step h = step e h

pub weaker-ok : {T E : Type 0} (result : Result T E) (P Q : T → Type 0) → ((x : T) → P x → Q x) → IfOk result P
    → IfOk result Q
weaker-ok (Ok x) P Q step h = step x h
weaker-ok (Err e) P Q step h = tt

pub all-ok : {T E : Type 0} (result : Result T E) (P Q R S : T → Type 0) → ((x : T) → P x → Q x → R x → S x)
    → IfOk result P → IfOk result Q → IfOk result R → IfOk result S
all-ok (Ok x) P Q R S step p q r = step x p q r
all-ok (Err e) P Q R S step p q r = tt

pub weaker-on : {T E : Type 0} (result : Result T E) (P Q : Type 0) → (P → Q) → OnOk result P → OnOk result Q
weaker-on (Ok x) P Q step h = step h
weaker-on (Err e) P Q step h = tt

-- ---- edits

abbrev pub Made : Edit → Scenario → Scenario → Type 0
Made edit old new = IsTaken old edit × (new ≡ (row old edit).after)

pub edited-more : (edit : Edit) (edits : List Edit) (sc next done : Scenario) → Made edit sc next
    → IsEdited edits next done → IsEdited (edit ∷ edits) sc done
edited-more edit edits sc next done (taken, is) rest = (taken, subst (λ sc. IsEdited edits sc done) is rest)

pub refused-more : (edit : Edit) (edits : List Edit) (sc next : Scenario) → Made edit sc next
    → IsOptionRefused edits next → IsOptionRefused (edit ∷ edits) sc
refused-more edit edits sc next (taken, is) rest = inr (taken, subst (IsOptionRefused edits) is rest)

-- ---- patches

same-some : (x y : Edit) → ◌≡◌ {A = Option Edit} (Some x) (Some y) → x ≡ y
same-some x y e = cc

none-some : (x : Edit) → ◌≡◌ {A = Option Edit} None (Some x) → ⊥
none-some x e = cc

with-keeps : (addr word : Option ℕ) (edit : Edit) → patch_with addr word ≡ Some edit → (sc : Scenario)
    → KeepsRun sc (row sc edit).after
with-keeps (Some addr) (Some word) edit is sc =
    let same = sym (same-some (Patch addr word) edit is) in
    (ap (λ e. (row sc e).after.marks) same, ap (λ e. (row sc e).after.setup.input) same)
with-keeps (Some addr) None edit is sc = absurd (none-some edit is)
with-keeps None word edit is sc = absurd (none-some edit is)

patch-keeps : (fields : List (List ℕ)) (edit : Edit) → patch_of fields ≡ Some edit → (sc : Scenario)
    → KeepsRun sc (row sc edit).after
unfolding patch_of
patch-keeps [] edit is sc = absurd (none-some edit is)
patch-keeps (addr ∷ []) edit is sc = absurd (none-some edit is)
patch-keeps (addr ∷ word ∷ []) edit is sc = with-keeps (number addr) (number word) edit is sc
patch-keeps (addr ∷ word ∷ more ∷ rest) edit is sc = absurd (none-some edit is)

-- a patch leaves marks and input
pub patched-keeps : (text : List ℕ) (sc done : Scenario) → IsPatchedBy text sc done → KeepsRun sc done
patched-keeps text sc done (edit, is, taken, after) =
    let kept = patch-keeps (parts 61 text) edit is sc in
    (ap (λ sc. sc.marks) after ∙ kept.0, ap (λ sc. sc.setup.input) after ∙ kept.1)

pub keeps-on : (a b c : Scenario) → KeepsRun a b → KeepsRun b c → KeepsRun a c
keeps-on a b c one two = (two.0 ∙ one.0, two.1 ∙ one.1)

-- ---- findings

pub findings-of : (s : State) (image other : Image) (rules list : List Rule) (callers n : ℕ) (kinds shown : List Bool)
    (found : Bool) → image ≡ other → rules ≡ list → callers ≡ n → kinds ≡ shown
    → HasFindings s image rules callers kinds found → HasFindings s other list n shown found
findings-of s image other rules list callers n kinds shown found a b c d h =
    subst (λ x. HasFindings s x list n shown found) a (subst (λ x. HasFindings s image x n shown found) b
    (subst (λ x. HasFindings s image rules x shown found) c
    (subst (λ x. HasFindings s image rules callers x found) d h)))

-- ---- the file of a report

-- opening it writes nothing, so what is written after it is what is written
-- ---- the input

pub no-input : (gives : Giving) (named : Option (List ℕ)) (input : List ℕ) → named ≡ None → HasInput gives named input
    → input ≡ []
no-input gives None input none has = has
no-input gives (Some path) input none has = absurd (some-none path none)
  where
    some-none : (path : List ℕ) → ◌≡◌ {A = Option (List ℕ)} (Some path) None → ⊥
    some-none path e = cc

-- ---- the program

pub no-image : {T : Type 0} (gives : Giving) (words : ProfileArgs) (path front bytes : List ℕ) (profile : Profile)
    (fault : ElfFault) → IsProfileNamed words profile → IsFront gives path most_judged front → bytes ≡ front
    → ((fault ≡ Memory) ⊎ (refusal profile.regions bytes ≡ Some fault))
    → ((early : ElfFault) → early_refusal bytes ≡ Some early → ◌≡◌ {A = Result T ElfFault} (Err fault) (Err early))
    → NoImage gives words path (Refused fault)
no-image gives words path front bytes profile fault named read same refused least = inr (
  profile,
  named,
  (
    front,
    read,
    (
      subst (λ (xs : List ℕ). (fault ≡ Memory) ⊎ (refusal profile.regions xs ≡ Some fault)) same refused,
      λ early e. let told = least early (subst (λ (xs : List ℕ). early_refusal xs ≡ Some early) (sym same) e) in cc,
    ),
  ),
)

-- there is no file
no-program : (gives : Giving) (profile : Profile) (path : List ℕ) (end : End) → NoBytes gives path end
    → NoProgram gives profile.regions path end
no-program gives profile path (Refused fault) none = absurd none
no-program gives profile path end none = none

pub no-file : (gives : Giving) (words : ProfileArgs) (path : List ℕ) (profile : Profile) (end : End)
    → IsProfileNamed words profile → NoBytes gives path end → NoImage gives words path end
no-file gives words path profile end named none =
    inr (profile, named, no-program gives profile path end none)

-- ---- the plan

-- that of what was chosen is the one that the order asks for
abbrev pub plan-with : Bool → Choices → Known → Option (Bor (List ℕ)) → Plan
plan-with waits choices known place = record {
  waits = waits;
  codes = choices.codes;
  count = choices.count;
  quiet = choices.quiet;
  requires_heap = choices.requires_heap;
  limit = choices.limit;
  end_line = choices.end_line;
  known = known;
  place = place;
}

pub plan-is : (order : Order) (asked : ExecArgs) (kinds : LeakKinds) (choices : Choices) (waits : Bool) (known : Known)
    (symbols : List SymbolContent) → IsChoice asked kinds choices → waits ≡ waits_for order
    → known ≡ known_of symbols (names_in asked.not_heap)
    → plan-with waits choices known asked.report ≡ plan_for order asked choices.count symbols
plan-is order asked kinds choices waits known symbols choice same is = λ i. record {
  waits = same i;
  codes = choice.codes i;
  count = choices.count;
  quiet = choice.quiet i;
  requires_heap = choice.requires_heap i;
  limit = choice.limit i;
  end_line = choice.end_line i;
  known = is i;
  place = asked.report;
}

-- with its options judged, and its program read
pub with-program : (gives : Giving) (opens : Opening) (order : Order) (asked : ExecArgs) (show : LeakKinds)
    (choices : Choices) (profile : Profile) (front bytes : List ℕ) (image : Image) (old new : Pipes)
    (end : ExecEnd) (names : List ℕ) (unknown : List UnknownCall)
    → IsChoice asked show choices → IsProfileNamed order.profile profile
    → IsFront gives order.file.now most_judged front → bytes ≡ front → IsImageFor profile bytes image
    → WithImage gives opens order asked show choices.count image (defined_in front) old new end names unknown
    → Executed gives opens order asked old new end names unknown
with-program gives opens order asked show choices profile front bytes image old new end names unknown choice named read
    same
    is h =
    inr (
      show,
      choices.count,
      choice.show,
      choice.count,
      inr (inr (
        image,
        defined_in front,
        (profile, front, named, read, subst (λ (xs : List ℕ). IsImageFor profile xs image) same is, refl),
        h,
      )),
    )

-- whether an input is named
pub waits-same : (waits : Bool) (named : Option (Bor (List ℕ))) → is_some named ≡ not waits
    → waits ≡ is_none (option_map (λ path. path.now) named)
waits-same true None eq = refl
waits-same true (Some path) eq = cc
waits-same false None eq = cc
waits-same false (Some path) eq = refl
