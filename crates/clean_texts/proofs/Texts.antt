-- A report that ends with the line of no errors, and an outline without the line of an error, are of a state without
-- errors.
use Rattle.std.proofs.Common.{◌≡◌, ℕ, ◌^◌, ◌<◌, List, [], ◌∷◌, ◌++◌, length, slice_index, codes, Bool, true, false}
use Rattle.std.proofs.Common.{refl, sym, ap, ◌∙◌, subst, inr}
use Rattle.std.specs.Fmt.{decimal, digits}
use Rattle.std.specs.List.{flat_map}
use Rattle.std.proofs.lemmas.List.{append_assoc, append-nil, append_cancel_right}
use Rattle.guest_elf.specs.declared.image.Image.{Image}
use Rattle.run_values.specs.declared.status.Status.{Status}
use Rattle.run_values.specs.declared.status.Status.TheVariants.{Running, Exited, Stopped}
use Rattle.error_events.specs.declared.event.Event.{Event}
use Rattle.error_events.specs.declared.event.Group.{Group}
use Rattle.error_events.specs.Groups.{firsts_after, grouped}
use Rattle.suppressions.specs.Rules.{Rule}
use Rattle.guest_machine.specs.State.{State}
use Rattle.guest_machine.specs.Run.{poked, start_state}
use Rattle.report_lines.specs.Lines.{error_total, group_lines, hidden_summary, kind_text, output_line, shown_summary}
use Rattle.report_lines.specs.Lines.{stop_word, summary_line}
use Rattle.report_lines.specs.Text.{newline}
use Rattle.replay_report.specs.Filtering.{hidden_groups, shown_groups}
use Rattle.replay_report.specs.LeakLines.{leak_section}
use Rattle.replay_report.specs.Outlines.{IsOutline, end_line, error_outline, leak_outlines, outline_head}
use Rattle.replay_report.specs.Outlines.{outline_text, stop_place}
use Rattle.replay_report.specs.Report.{IsReport, head_lines, report_text}
use Rattle.scenario.specs.Scenario.{IsReportOf, at_step, begun, chosen_state, first_state, with_words}
use Rattle.scenario.specs.declared.written.Written.{Written}
use Rattle.clean_reports.specs.Disturbed.{IsStartOf}
use Rattle.clean_reports.specs.Uses.{NoUse}
use Rattle.clean_reports.proofs.Inputs.{has-bytes}
use Rattle.clean_reports.proofs.Verdicts.{certified}
use Rattle.clean_texts.specs.Laws.{CleanOutlines, CleanTexts, NoErrorsMeansNone, PrintedTexts, RunTexts}
use Rattle.clean_texts.specs.Texts.{EndsWithNoErrors, HasErrorLine, IsOfLines, no_errors_line}
use Rattle.clean_texts.proofs.Endings.{peeled}
use Rattle.clean_texts.proofs.Events.{no-events, none-shown}

-- the last line of a report --

-- a text and a summary after it, of n contexts and m suppressed ones; a and b are its numbers of errors, as texts
abbrev with_summary : List ℕ → List ℕ → ℕ → List ℕ → ℕ → List ℕ
with_summary front a n b m =
    front ++ ((codes "ERROR SUMMARY: " ++ a ++ codes " errors from " ++ decimal n ++ codes " contexts")
    ++ (codes " (suppressed: " ++ b ++ codes " from " ++ decimal m ++ codes ")" ++ newline))

-- the same up to each number in turn
abbrev to_errors : List ℕ → List ℕ → List ℕ
to_errors front a = front ++ codes "ERROR SUMMARY: " ++ a

abbrev to_contexts : List ℕ → List ℕ → ℕ → List ℕ
to_contexts front a n = to_errors front a ++ codes " errors from " ++ decimal n

abbrev to_suppressed : List ℕ → List ℕ → ℕ → List ℕ → List ℕ
to_suppressed front a n b = to_contexts front a n ++ codes " contexts (suppressed: " ++ b

regroup : (x p a q n r s b t m u v : List ℕ)
    → x ++ ((p ++ a ++ q ++ n ++ r) ++ (s ++ b ++ t ++ m ++ u ++ v))
    ≡ (((x ++ p ++ a) ++ q ++ n) ++ (r ++ s) ++ b) ++ t ++ m ++ (u ++ v)
regroup x p a q n r s b t m u v = simp append_assoc refl

joined : (front a : List ℕ) (n : ℕ) (b : List ℕ) (m : ℕ)
    → with_summary front a n b m ≡ to_suppressed front a n b ++ codes " from " ++ decimal m ++ codes ")\n"
joined front a n b m =
    regroup front (codes "ERROR SUMMARY: ") a (codes " errors from ") (decimal n) (codes " contexts")
    (codes " (suppressed: ") b (codes " from ") (decimal m) (codes ")") newline

-- the numbers are read off from the end: what is before them needs no premise
last-line : (xs ys : List ℕ) (a n b m : ℕ)
    → with_summary xs (decimal a) n (decimal b) m ≡ with_summary ys (decimal 0) 0 (decimal 0) 0
    → (n ≡ 0) × (m ≡ 0)
last-line xs ys a n b m e =
    let whole = sym (joined xs (decimal a) n (decimal b) m) ∙ e ∙ joined ys (decimal 0) 0 (decimal 0) 0 in
    let hidden =
    peeled (to_suppressed xs (decimal a) n (decimal b)) (to_suppressed ys (decimal 0) 0 (decimal 0))
    (codes " from") m (append_cancel_right _ _ (codes ")\n") whole) in
    let errors =
    peeled (to_contexts xs (decimal a) n) (to_contexts ys (decimal 0) 0)
    (codes " contexts (suppressed:") b (append_cancel_right _ _ (codes " from") hidden.0) in
    let shown =
    peeled (to_errors xs (decimal a)) (to_errors ys (decimal 0))
    (codes " errors from") n (append_cancel_right _ _ (codes " contexts (suppressed:") errors.0) in
    (shown.1, hidden.1)

-- the line of no errors is the summary of none
none-line : no_errors_line ≡ summary_line [] []
unfolding digits shown_summary hidden_summary
none-line = refl

ends-with-none : (xs ys : List ℕ) (shown hidden : List Group)
    → xs ++ summary_line shown hidden ≡ ys ++ no_errors_line
    → (length shown ≡ 0) × (length hidden ≡ 0)
unfolding shown_summary hidden_summary
ends-with-none xs ys shown hidden e =
    last-line xs ys (error_total shown) (length shown) (error_total hidden) (length hidden)
    (e ∙ ap (λ line. ys ++ line) none-line)

no-groups : (rules : List Rule) (image : Image) (callers : ℕ) → shown_groups rules image callers [] ≡ []
unfolding shown_groups grouped firsts_after
no-groups rules image callers = refl

none-hidden : (rules : List Rule) (image : Image) (callers : ℕ) → hidden_groups rules image callers [] ≡ []
unfolding hidden_groups grouped firsts_after
none-hidden rules image callers = refl

pub no-errors-means-none : NoErrorsMeansNone
unfolding IsReport report_text
no-errors-means-none s image rules options step input_len text report = (to, back)
  where
    shown : List Event → List Group
    shown es = shown_groups rules image options.callers es

    hidden : List Event → List Group
    hidden es = hidden_groups rules image options.callers es

    to : EndsWithNoErrors text → s.events ≡ []
    to ends =
        let counts = ends-with-none _ ends.0 (shown s.events) (hidden s.events) (sym report.2 ∙ ends.1) in
        no-events rules image options.callers s.events counts.0 counts.1

    front : List ℕ
    front =
        head_lines s step input_len ++ flat_map (group_lines image options.callers) (shown s.events)
        ++ leak_section image rules options report.0

    back : s.events ≡ [] → EndsWithNoErrors text
    back none = (
      front,
      report.2
          ∙ ap (λ line. front ++ line) (ap (λ es. summary_line (shown es) (hidden es)) none ∙ same ∙ sym none-line),
    )
      where
        same : summary_line (shown []) (hidden []) ≡ summary_line [] []
        same = ap (λ gs. summary_line gs (hidden [])) (no-groups rules image options.callers)
            ∙ ap (λ gs. summary_line [] gs) (none-hidden rules image options.callers)

-- the run of such a report --

begins : (image : Image) → IsStartOf image (start_state image)
unfolding start_state
begins image = record { core = refl; events = refl }

-- words that are written change only bytes
words-begin : (image : Image) (s : State) (words : List Written) → IsStartOf image s
    → IsStartOf image (with_words s words)
unfolding poked
words-begin image s [] h = h
words-begin image s (w ∷ words) h =
    words-begin image (poked s w.addr w.code) words (record { core = h.core; events = h.events })

module _ (input : List ℕ) (fits : (k : ℕ) → slice_index input k < 2 ^ 8) where
  pub clean-texts : CleanTexts input
  clean-texts image start setup marks n rules options step input_len text begins is clear report ends =
      let none = (no-errors-means-none _ image rules options step input_len text report).0 ends in
      certified image start setup marks n begins (has-bytes input fits setup is) clear (subst NoUse (sym none) tt)

  pub printed-texts : PrintedTexts input
  unfolding IsReportOf chosen_state first_state
  printed-texts sc text is clear report ends =
      clean-texts sc.image (first_state sc) sc.setup sc.marks sc.step sc.rules sc.options sc.step
      (length sc.setup.input) text (words-begin sc.image (start_state sc.image) sc.words (begins sc.image)) is clear
      report ends

  pub run-texts : RunTexts input
  unfolding first_state
  run-texts image rules n text report ends =
      printed-texts (at_step (begun image input rules) n) text refl refl report ends

-- outlines --

end-is-line : (status : Status) (pc : ℕ) → (front : List ℕ) × (end_line status pc ≡ front ++ newline)
unfolding end_line
end-is-line Running pc = (codes "running", refl)
end-is-line (Exited code) pc = (codes "exited " ++ decimal code, refl)
end-is-line (Stopped stop) pc = (codes "stopped " ++ stop_word stop ++ stop_place stop pc, refl)

head-is-lines : (s : State) (with_output : Bool) → IsOfLines (outline_head s with_output)
unfolding outline_head output_line
head-is-lines s false =
    let last = end-is-line s.core.status s.core.pc in inr (last.0, append-nil _ ∙ last.1)
head-is-lines s true =
    let written = codes "output " ++ decimal (length s.output) in
    inr (end_line s.core.status s.core.pc ++ written, sym (append_assoc _ _ newline))

-- the text of a first group is a line of the outline
first-line : (head : List ℕ) (image : Image) (callers : ℕ) (g : Group) (gs : List Group) (rest : List ℕ)
    → IsOfLines head → HasErrorLine (head ++ flat_map (error_outline image callers) (g ∷ gs) ++ rest)
unfolding error_outline
first-line head image callers g gs rest lines = (
  g.kind,
  record {
    front = head;
    back = _;
    before = lines;
    parts = moved head (kind_text g.kind) newline _ _ rest;
  },
)
  where
    moved : (x k l t u v : List ℕ) → x ++ ((k ++ l ++ t) ++ u) ++ v ≡ x ++ k ++ l ++ (t ++ (u ++ v))
    moved x k l t u v = simp append_assoc refl

pub clean-outlines : CleanOutlines
unfolding IsOutline outline_text
clean-outlines s image options with_output text outline none =
    none-shown image options.callers s.events (go (shown_groups [] image options.callers s.events) refl)
  where
    go : (gs : List Group) → shown_groups [] image options.callers s.events ≡ gs
        → shown_groups [] image options.callers s.events ≡ []
    go [] is = is
    go (g ∷ gs) is =
        let rest = leak_outlines image [] options outline.0 in
        let head = outline_head s with_output in
        let has = first-line head image options.callers g gs rest (head-is-lines s with_output) in
        let same = outline.2 ∙ ap (λ u. head ++ flat_map (error_outline image options.callers) u ++ rest) is in
        absurd (none (subst HasErrorLine (sym same) has))
