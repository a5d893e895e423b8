use Rattle.std.proofs.Common.{subst, sym}
use Rattle.commands.specs.declared.edit.Edit.{Edit}
use Rattle.replay_session.specs.Session.{scenario_of}
use Rattle.replay_session.specs.Trying.{GivesInput}
use Rattle.scenario.specs.Edits.{IsTaken}
use Rattle.texts.specs.Tallied.{entries_of}
use Rattle.tries.specs.Stages.{stage_of_tries}
use Rattle.tries.specs.Tries.{gathered}
use Rattle.tries.proofs.PlanSteps.{is-taken, kept-at-failure, kept-gathered, kept-so-far, told-so-far}
use Rattle.tries.proofs.trying.Tries.try_byte.Goals as goal

pub run-requires : goal.run-requires
run-requires c = record {
  taken = subst (λ (e : Edit). IsTaken (scenario_of c.args.self.now.viewer.session) e) (sym c.in_ok-edit.ensures)
      (is-taken (scenario_of c.args.self.now.viewer.session) c.args.attempt c.requires);
  input = subst (λ (e : Edit). GivesInput e) (sym c.in_ok-edit.ensures) tt;
}

pub returns-clause-tried : goal.returns-clause-tried
unfolding stage_of_tries
returns-clause-tried c =
    let old = stage_of_tries c.args.self.now in
    let mid = stage_of_tries c.run.new.self in
    let text = c.args.text.now.bytes.items in
    let tried = c.in_ok-tried.ensures.tried in
    told-so-far c.tell_planned.result (scenario_of c.args.self.now.viewer.session) c.args.self.now.range c.args.attempt
    c.in_ok-edit.edit (gathered old text) (gathered mid text)
    (record {
      seen = c.tell_planned.new.seen.items;
      told = entries_of c.tell_planned.new.told;
      text = c.tell_planned.new.text.bytes.items;
    })
    c.in_ok-tried.tried.outcome.items c.in_ok-tried.tried.sides.items c.in_ok-edit.ensures
    (kept-gathered old mid text c.run.ensures.kept) tried.outcome tried.sides c.tell_planned.ensures.tells
    c.tell_planned.ensures.told c.tell_planned.ensures.seen

pub returns-clause-kept : goal.returns-clause-kept
unfolding stage_of_tries
returns-clause-kept c =
    let old = stage_of_tries c.args.self.now in
    let mid = stage_of_tries c.run.new.self in
    let text = c.args.text.now.bytes.items in
    kept-so-far c.tell_planned.result (gathered old text) (gathered mid text)
    (record {
      seen = c.tell_planned.new.seen.items;
      told = entries_of c.tell_planned.new.told;
      text = c.tell_planned.new.text.bytes.items;
    })
    (kept-gathered old mid text c.run.ensures.kept) c.tell_planned.ensures.kept

pub returns-in_err-tried-clause-kept : goal.returns-in_err-tried-clause-kept
returns-in_err-tried-clause-kept c =
    kept-at-failure c.from_residual-in_err-tried.result _
    (kept-gathered (stage_of_tries c.args.self.now) (stage_of_tries c.run.new.self) c.args.text.now.bytes.items
    c.run.ensures.kept)
