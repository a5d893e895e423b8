use Rattle.std.proofs.Common.{Err, Ok, length, subst}
use Rattle.look_lines.specs.Inputs.{ReadsFor, edit_tried}
use Rattle.replay_session.specs.Session.{scenario_of}
use Rattle.tries.specs.Stages.{reply_of_tries, stage_of_tries}
use Rattle.tries.specs.Tries.{Differ}
use Rattle.tries.proofs.KeepSteps.{base-on, told-so}
use Rattle.tries.proofs.trying.Tries.differ_line.Goals as goal

pub returns-in-Ok : goal.returns-in-Ok
unfolding stage_of_tries
returns-in-Ok c =
    let old = stage_of_tries c.args.self.now in
    let mid = stage_of_tries c.compare-done.new.self in
    let new = stage_of_tries c.finish.new.self in
    let edit = c.in-Ok.edit in
    let line = c.args.line.now in (
      base-on old mid new c.compare-done.ensures.base c.finish.ensures.base,
      (
        Ok edit,
        subst (ReadsFor (length (scenario_of c.args.self.now.viewer.session).setup.input) (edit_tried line)) c.in-Ok.is
            (subst (λ n. ReadsFor n (edit_tried line) c.edit_tried.result) c.input_len-len.ensures
            c.edit_tried.ensures),
        told-so c.compare-done.result old mid new c.compare-done.new.self.shown.items (reply_of_tries c.finish.new.self)
            (Differ old edit) c.compare-done.ensures.differ c.compare-done.ensures.kept c.finish.ensures.ok
            c.finish.ensures.refused,
      ),
    )

pub returns-in-Err : goal.returns-in-Err
unfolding stage_of_tries
returns-in-Err c =
    let line = c.args.line.now in (
      c.refuse.ensures.base,
      (
        Err c.in-Err.fault,
        subst (ReadsFor (length (scenario_of c.args.self.now.viewer.session).setup.input) (edit_tried line)) c.in-Err.is
            (subst (λ n. ReadsFor n (edit_tried line) c.edit_tried.result) c.input_len-len.ensures
            c.edit_tried.ensures),
        c.refuse.ensures.rejected,
      ),
    )
