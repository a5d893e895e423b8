use Rattle.std.proofs.Common.{◌-◌, subst, sym}
use Rattle.sweep_tables.specs.Swept.{Writes}
use Rattle.exit_status.proofs.EndSteps.{passed-on}
use Rattle.sweep_tables.proofs.TableSteps.{reached-first, stops-beginning}
use Rattle.sweep_tables.proofs.program.write_behind.Goals as goal

pub returns-in_err-write_all : goal.returns-in_err-write_all
returns-in_err-write_all g c case first plan from same output table has is =
    let old = g.W.Write.contents c.args.writer.now in
    let later = g.W.Write.contents c.write_all.new.writer in
    let all = c.args.to - c.args.from in
    let failed = c.in_err-write_all.ensures.err in
    rw (passed-on c.from_residual.result _ c.from_residual.ensures.1)
    (subst (Writes case all old later) (sym failed.0)
    (stops-beginning case all old later c.args.sweep.now c.args.first_lines.now same output (first, has, is) failed.1))

pub returns : goal.returns
returns g c case first plan from same output table has is =
    let old = g.W.Write.contents c.args.writer.now in
    let now = g.W.Write.contents c.write_all.new.writer in
    c.write_table.ensures case old plan from
    (reached-first case old now c.args.sweep.now c.args.first_lines.now same output table (first, has, is)
    c.in_ok-write_all.ensures.ok)
