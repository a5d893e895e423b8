use Rattle.std.proofs.Common.{◌≡◌, ◌∙◌, ℕ, IsTrue, List, Option, ap, codes, subst, sym}
use denote.Ref.{Bor}
use Rattle.std.specs.Io.KnownBytes.{Appends}
use Rattle.exit_status.specs.Ends.{line_with}
use Rattle.exit_status.specs.ExecEnds.{exec_lines, place_name}
use Rattle.exit_status.specs.declared.exec_ends.ExecEnd.{ExecEnd}
use Rattle.exit_status.specs.declared.exec_ends.ExecEnd.TheVariants.{NoReport}
use Rattle.exit_status.proofs.Pieces.{line-front, line-whole}
use Rattle.exit_status.proofs.exec_ends.write_lines.Goals as goal

pub returns-in-BadPatch-clause-line : goal.returns-in-BadPatch-clause-line
returns-in-BadPatch-clause-line g c =
    line-front (g.W.Write.contents c.args.writer.now) (g.W.Write.contents c.send_line.new.writer)
    (codes "replaycheck exec: not ADDR=WORD: --patch ")
    c.as_bytes.result.now c.in-BadPatch.text.now (exec_lines c.args.end)
    c.as_bytes.ensures.value (ap exec_lines (sym c.in-BadPatch.is))
    c.send_line.ensures.front

pub returns-in-BadPatch-clause-whole : goal.returns-in-BadPatch-clause-whole
returns-in-BadPatch-clause-whole g c =
    line-whole (IsTrue c.send_line.result) (g.W.Write.contents c.args.writer.now)
    (g.W.Write.contents c.send_line.new.writer)
    (codes "replaycheck exec: not ADDR=WORD: --patch ")
    c.as_bytes.result.now c.in-BadPatch.text.now (exec_lines c.args.end)
    c.as_bytes.ensures.value (ap exec_lines (sym c.in-BadPatch.is))
    c.send_line.ensures.whole

pub returns-in-BadKinds-clause-line : goal.returns-in-BadKinds-clause-line
returns-in-BadKinds-clause-line g c =
    line-front (g.W.Write.contents c.args.writer.now) (g.W.Write.contents c.send_line-in-BadKinds.new.writer)
    (codes "replaycheck exec: no list of leak kinds: ")
    c.as_bytes-in-BadKinds.result.now c.in-BadKinds.text.now (exec_lines c.args.end)
    c.as_bytes-in-BadKinds.ensures.value (ap exec_lines (sym c.in-BadKinds.is))
    c.send_line-in-BadKinds.ensures.front

pub returns-in-BadKinds-clause-whole : goal.returns-in-BadKinds-clause-whole
returns-in-BadKinds-clause-whole g c =
    line-whole (IsTrue c.send_line-in-BadKinds.result) (g.W.Write.contents c.args.writer.now)
    (g.W.Write.contents c.send_line-in-BadKinds.new.writer)
    (codes "replaycheck exec: no list of leak kinds: ")
    c.as_bytes-in-BadKinds.result.now c.in-BadKinds.text.now (exec_lines c.args.end)
    c.as_bytes-in-BadKinds.ensures.value (ap exec_lines (sym c.in-BadKinds.is))
    c.send_line-in-BadKinds.ensures.whole

pub returns-in-ReportInPlace-clause-line : goal.returns-in-ReportInPlace-clause-line
returns-in-ReportInPlace-clause-line g c =
    line-front (g.W.Write.contents c.args.writer.now) (g.W.Write.contents c.send_line-in-ReportInPlace.new.writer)
    (codes "replaycheck exec: the report would replace a file that is read: ")
    c.as_bytes-in-ReportInPlace.result.now c.in-ReportInPlace.path.now (exec_lines c.args.end)
    c.as_bytes-in-ReportInPlace.ensures.value (ap exec_lines (sym c.in-ReportInPlace.is))
    c.send_line-in-ReportInPlace.ensures.front

pub returns-in-ReportInPlace-clause-whole : goal.returns-in-ReportInPlace-clause-whole
returns-in-ReportInPlace-clause-whole g c =
    line-whole (IsTrue c.send_line-in-ReportInPlace.result) (g.W.Write.contents c.args.writer.now)
    (g.W.Write.contents c.send_line-in-ReportInPlace.new.writer)
    (codes "replaycheck exec: the report would replace a file that is read: ")
    c.as_bytes-in-ReportInPlace.result.now c.in-ReportInPlace.path.now (exec_lines c.args.end)
    c.as_bytes-in-ReportInPlace.ensures.value (ap exec_lines (sym c.in-ReportInPlace.is))
    c.send_line-in-ReportInPlace.ensures.whole

report-line : (name : List ℕ) (place : Option (Bor (List ℕ))) (end : ExecEnd) → name ≡ place_name place
    → NoReport place ≡ end → line_with (codes "replaycheck exec: cannot write the report: ") name ≡ exec_lines end
report-line name place end named is =
    ap (line_with (codes "replaycheck exec: cannot write the report: ")) named ∙ ap exec_lines is

pub returns-in-NoReport-clause-line : goal.returns-in-NoReport-clause-line
returns-in-NoReport-clause-line g c =
    line-front (g.W.Write.contents c.args.writer.now) (g.W.Write.contents c.send_line-in-NoReport.new.writer)
    (codes "replaycheck exec: cannot write the report: ")
    c.as_bytes-in-NoReport.result.now c.place_name-name.result.now (exec_lines c.args.end)
    c.as_bytes-in-NoReport.ensures.value
    (report-line c.place_name-name.result.now c.in-NoReport.place c.args.end c.place_name-name.ensures
    (sym c.in-NoReport.is))
    c.send_line-in-NoReport.ensures.front

pub returns-in-NoReport-clause-whole : goal.returns-in-NoReport-clause-whole
returns-in-NoReport-clause-whole g c =
    line-whole (IsTrue c.send_line-in-NoReport.result) (g.W.Write.contents c.args.writer.now)
    (g.W.Write.contents c.send_line-in-NoReport.new.writer)
    (codes "replaycheck exec: cannot write the report: ")
    c.as_bytes-in-NoReport.result.now c.place_name-name.result.now (exec_lines c.args.end)
    c.as_bytes-in-NoReport.ensures.value
    (report-line c.place_name-name.result.now c.in-NoReport.place c.args.end c.place_name-name.ensures
    (sym c.in-NoReport.is))
    c.send_line-in-NoReport.ensures.whole

pub returns-in-PatchRefused-clause-line : goal.returns-in-PatchRefused-clause-line
returns-in-PatchRefused-clause-line g c =
    line-front (g.W.Write.contents c.args.writer.now) (g.W.Write.contents c.send_line-in-PatchRefused.new.writer)
    (codes "replaycheck exec: patch refused 4: ")
    c.as_bytes-in-PatchRefused.result.now c.in-PatchRefused.text.now (exec_lines c.args.end)
    c.as_bytes-in-PatchRefused.ensures.value (ap exec_lines (sym c.in-PatchRefused.is))
    c.send_line-in-PatchRefused.ensures.front

pub returns-in-PatchRefused-clause-whole : goal.returns-in-PatchRefused-clause-whole
returns-in-PatchRefused-clause-whole g c =
    line-whole (IsTrue c.send_line-in-PatchRefused.result) (g.W.Write.contents c.args.writer.now)
    (g.W.Write.contents c.send_line-in-PatchRefused.new.writer)
    (codes "replaycheck exec: patch refused 4: ")
    c.as_bytes-in-PatchRefused.result.now c.in-PatchRefused.text.now (exec_lines c.args.end)
    c.as_bytes-in-PatchRefused.ensures.value (ap exec_lines (sym c.in-PatchRefused.is))
    c.send_line-in-PatchRefused.ensures.whole

pub returns-in-Ran-clause-whole : goal.returns-in-Ran-clause-whole
returns-in-Ran-clause-whole g c whole =
    subst (Appends (g.W.Write.contents c.args.writer.now) (g.W.Write.contents c.write_run.new.writer))
    (ap exec_lines (sym c.in-Ran.is)) (c.write_run.ensures.whole whole)
