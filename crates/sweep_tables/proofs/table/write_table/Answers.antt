use Rattle.std.proofs.Common.{◌-◌, sym, subst, arith}
use Rattle.std.proofs.lemmas.Result.{IfErr-weaker, on_ok_weaker}
use Rattle.std.specs.Io.KnownBytes.{Appends}
use Rattle.exit_status.specs.Ends.{AppendsFront}
use Rattle.sweep_tables.specs.Swept.{Writes}
use Rattle.exit_status.proofs.EndSteps.{passed-on}
use Rattle.sweep_tables.proofs.TableSteps.{end-by, stops-ending, stops-short, writes-all}
use Rattle.sweep_tables.proofs.table.write_table.Goals as goal

pub returns-in_err-write_places : goal.returns-in_err-write_places
returns-in_err-write_places g c case base is from reached =
    rw (passed-on c.from_residual.result _ c.from_residual.ensures.1)
    (c.in_err-write_places.ensures.err case base is from reached)

pub returns-in_default : goal.returns-in_default
returns-in_default g c case base is from reached =
    stops-short case (c.args.to - c.args.from) (c.args.to - c.args.from) base
    (g.W.Write.contents c.write_places.new.writer) c.write_places.new.sweep (omega arith)
    (c.in_ok-write_places.ensures.ok case base is from reached)

pub returns : goal.returns
returns g c case base is from reached =
    let now = g.W.Write.contents c.write_places.new.writer in
    let later = g.W.Write.contents c.write_all.new.writer in
    let all = c.args.to - c.args.from in
    let here = c.in_ok-write_places.ensures.ok case base is from reached in
    end-by c.write_all.result (Writes case all base later)
    (on_ok_weaker c.write_all.result (λ sent. writes-all case all base now later c.write_places.new.sweep
    c.in-Ok.totals.items c.in-Ok.ensures
    (subst (Appends now later) c.deref.ensures.value sent) here) c.write_all.ensures.ok)
    (IfErr-weaker c.write_all.result _ _ (λ end failed. subst (Writes case all base later) (sym failed.0)
    (stops-ending case all base now later c.write_places.new.sweep c.in-Ok.totals.items c.in-Ok.ensures
    (subst (AppendsFront now later) c.deref.ensures.value failed.1) here))
    c.write_all.ensures.err)
