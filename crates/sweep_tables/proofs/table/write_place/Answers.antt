use Rattle.std.proofs.Common.{sym, subst, arith}
use Rattle.std.proofs.lemmas.Result.{IfErr-weaker, on_ok_weaker}
use Rattle.std.specs.Io.KnownBytes.{Appends}
use Rattle.exit_status.specs.Ends.{AppendsFront}
use Rattle.sweep_tables.specs.Swept.{Writes}
use Rattle.sweep_tables.proofs.TableSteps.{reached-more, stops-short, stops-writing}
use Rattle.sweep_tables.proofs.table.write_place.Goals as goal

pub returns-in_default-clause-err : goal.returns-in_default-clause-err
returns-in_default-clause-err g c case n all base is at l reached =
    stops-short case n all base (g.W.Write.contents c.args.writer.now) c.args.sweep.now (omega arith) reached

pub returns-clause-ok : goal.returns-clause-ok
returns-clause-ok g c =
    let now = g.W.Write.contents c.args.writer.now in
    let later = g.W.Write.contents c.write_all.new.writer in
    on_ok_weaker c.write_all.result (λ sent case n base is at reached. reached-more case n c.args.place c.args.plan.now
    c.args.sweep.now c.rows_of.new.sweep
    c.in-Ok.out.items base now later is at c.in-Ok.ensures.scenario c.in-Ok.ensures.output c.in-Ok.ensures.range
    c.in-Ok.ensures.covered c.in-Ok.ensures.met
    (subst (Appends now later) c.deref.ensures.value sent) reached)
    c.write_all.ensures.ok

pub returns-clause-err : goal.returns-clause-err
returns-clause-err g c =
    let now = g.W.Write.contents c.args.writer.now in
    let later = g.W.Write.contents c.write_all.new.writer in
    IfErr-weaker c.write_all.result _ _ (λ end failed case n all base is at l reached. subst
    (Writes case all base later) (sym failed.0)
    (stops-writing case n c.args.place c.args.plan.now c.args.sweep.now c.rows_of.new.sweep c.in-Ok.out.items base now
    later is at c.in-Ok.ensures.scenario
    c.in-Ok.ensures.output c.in-Ok.ensures.range c.in-Ok.ensures.covered c.in-Ok.ensures.met all l
    (subst (AppendsFront now later) c.deref.ensures.value failed.1)
    reached)) c.write_all.ensures.err
