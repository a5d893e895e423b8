-- The line of a verdict.
use Rattle.std.specs.Prelude.{◌≡◌, ℕ, Bool, true, false, List, [], ◌∷◌, ◌++◌, codes}
use Rattle.std.specs.Fmt.{decimal}
use Rattle.std.specs.List.{flat_map}
use Rattle.guest_elf.specs.declared.image.Image.{Image}
use Rattle.guest_elf.specs.Images.{name_at}
use Rattle.guest_machine.specs.State.{State}
use Rattle.guest_machine.specs.declared.setup.Setup.{Setup}
use Rattle.report_lines.specs.Lines.{kind_text}
use Rattle.report_lines.specs.Text.{address_text, newline, shown_name}
use Rattle.run_values.specs.declared.alteration.Act.{Act}
use Rattle.run_values.specs.declared.alteration.Act.TheVariants.{Make}
use Rattle.run_values.specs.declared.alteration.Alteration.{Alteration}
use Rattle.shadow_memory.specs.declared.cells.RangeKind.{RangeKind}
use Rattle.shadow_memory.specs.declared.cells.RangeKind.TheVariants.{NoAccess, Undefined, Defined}
use Rattle.clean_reports.specs.Verdicts.{IsVerdict}
use Rattle.clean_reports.specs.declared.verdict.FirstUse.{FirstUse}
use Rattle.clean_reports.specs.declared.verdict.Verdict.{Verdict}
use Rattle.clean_reports.specs.declared.verdict.Verdict.TheVariants.{Clean, Mark as ByMark, Use}

-- `clean to step N: .. on this run` of a run that has ended by step N, and `clean up to step N: .. on the run up to
-- there; the run goes on` of one that hasn't
abbrev pub clean_front : Bool → List ℕ
clean_front true = codes "clean to step "
clean_front false = codes "clean up to step "

abbrev pub clean_end : Bool → List ℕ
clean_end true = codes "on this run\n"
clean_end false = codes "on the run up to there; the run goes on\n"

unfoldable pub clean_line : ℕ → Bool → List ℕ
clean_line n ended =
    clean_front ended ++ decimal n
    ++ codes ": nothing that uninitialised, freed or unmapped memory holds has any influence " ++ clean_end ended

-- the kind of a mark, as the line of a session names it
abbrev pub range_kind_text : RangeKind → List ℕ
range_kind_text NoAccess = codes "noaccess"
range_kind_text Undefined = codes "undefined"
range_kind_text Defined = codes "defined"

-- ` makes L bytes at A KIND`
unfoldable pub range_text : ℕ → ℕ → RangeKind → List ℕ
range_text addr len kind =
    codes " makes " ++ decimal len ++ codes " bytes at " ++ address_text addr ++ codes " " ++ range_kind_text kind

-- what a mark does: that, or ` alters the machine`
abbrev pub act_text : Act → List ℕ
act_text (Make addr len kind) = range_text addr len kind
act_text _ = codes " alters the machine"

-- `not clean: mark I makes L bytes at A KIND at step N`, or `not clean: mark I alters the machine at step N`
unfoldable pub mark_front : ℕ → List ℕ
mark_front index = codes "not clean: mark " ++ decimal index

unfoldable pub mark_line : ℕ → Alteration → List ℕ
mark_line index mark =
    mark_front index ++ act_text mark.act ++ codes " at step "
    ++ decimal mark.step ++ newline

-- ` at A: NAME` or `, by A: NAME`
unfoldable pub caller_text : List ℕ → Image → ℕ → List ℕ
caller_text word image a = word ++ address_text a ++ codes ": " ++ shown_name (name_at image a)

-- a whole trace, on one line
unfoldable pub trace_text : Image → List ℕ → List ℕ
trace_text image [] = []
trace_text image (a ∷ callers) =
    caller_text (codes " at ") image a ++ flat_map (caller_text (codes ", by ") image) callers

-- `not clean: first use at step N: TEXT at A: NAME, by A: NAME`
unfoldable pub use_front : ℕ → List ℕ
use_front step = codes "not clean: first use at step " ++ decimal step ++ codes ": "

unfoldable pub use_line : Image → FirstUse → List ℕ
use_line image found =
    use_front found.step ++ kind_text found.kind
    ++ trace_text image found.trace ++ newline

-- the line of a verdict up to step n
abbrev pub verdict_line : Image → ℕ → Verdict → List ℕ
verdict_line image n (Clean ended) = clean_line n ended
verdict_line image n (ByMark index mark) = mark_line index mark
verdict_line image n (Use found) = use_line image found

-- a text is the line of the verdict on a run up to step n
abbrev pub IsVerdictLine : Image → State → Setup → List Alteration → ℕ → List ℕ → Type 0
IsVerdictLine image start setup marks n text =
    (verdict : Verdict) × IsVerdict start setup marks n verdict × (text ≡ verdict_line image n verdict)
