use Rattle.std.proofs.Common.{◌≡◌, ◌≤◌, [], inl, inr, Err, List, length, ap, sym, ◌∙◌, subst}
use Rattle.std.proofs.KnownBytes.{Appends-nil}
use Rattle.std.proofs.Math.Path.{transport}
use Rattle.command_line.specs.Orders.{rules_path}
use Rattle.suppressions.specs.Texts.{faults, rules, IsLeast}
use Rattle.program_files.specs.Files.{longest_text}
use Rattle.exit_status.specs.Ends.{end_of}
use Rattle.sweep_tables.specs.Swept.{Sweeps}
use Rattle.exit_status.proofs.EndSteps.{passed-on}
use Rattle.program_files.proofs.StreamSteps.{refused-rules, short-text}
use Rattle.driver.proofs.carrying.sweep_image.Goals as goal

pub parse-requires : goal.parse-requires
parse-requires g c =
    subst (λ (xs : List _). length xs ≤ longest_text) (sym c.deref.ensures.value)
    (short-text (g.F.Files.gives c.args.files.now) (rules_path c.args.order.now) c.in_ok-text.text.items
    c.in_ok-text.ensures.ok)

pub returns-in_err-text : goal.returns-in_err-text
returns-in_err-text g c =
    rw (passed-on c.from_residual.result _ c.from_residual.ensures.1) (inl (c.in_err-text.ensures.err, Appends-nil _))

pub returns-in_err-suppressions : goal.returns-in_err-suppressions
returns-in_err-suppressions g c =
    let refused = refused-rules c.in_ok-text.text.items c.in_err-suppressions.field-0.0
    (λ line e. subst (λ xs. IsLeast line (faults xs)) c.deref.ensures.value
    (c.in_err-suppressions.ensures.refused line (ap Err e))) in
    rw (passed-on c.from_residual-in_err-suppressions.result _ c.from_residual-in_err-suppressions.ensures.1)
    (inr (c.in_ok-text.text.items, c.in_ok-text.ensures.ok, inl (refused, Appends-nil _)))

pub returns-in_err-input : goal.returns-in_err-input
returns-in_err-input g c =
    let none = subst (λ xs. faults xs ≡ []) c.deref.ensures.value c.in_ok-suppressions.ensures.read.0 in
    rw (passed-on c.from_residual-in_err-input.result _ c.from_residual-in_err-input.ensures.1)
    (inr (
      c.in_ok-text.text.items,
      c.in_ok-text.ensures.ok,
      inr (none, inl (c.in_err-input.ensures.err, Appends-nil _)),
    ))

pub returns : goal.returns
returns g c =
    let read = c.in_ok-suppressions.ensures.read in
    let list = read.1 ∙ ap rules c.deref.ensures.value in
    let none = subst (λ xs. faults xs ≡ []) c.deref.ensures.value read.0 in
    let old = g.W.Write.contents c.args.writer.now in
    let later = g.W.Write.contents c.sweep_program.new.writer in
    let swept = transport (λ i. Sweeps c.args.program.file.now (c.deref-2.ensures.value i) c.args.program.image
    c.in_ok-input.input.items (list i) c.args.asked.words.now c.args.asked.request old later (end_of
    c.sweep_program.result)) c.sweep_program.ensures in
    inr (
      c.in_ok-text.text.items,
      c.in_ok-text.ensures.ok,
      inr (none, inr (c.in_ok-input.input.items, c.in_ok-input.ensures.ok, swept)),
    )
