use Rattle.std.proofs.Common.{◌≡◌, ◌++◌, ◌∙◌, ℕ, List, ap, subst, sym}
use Rattle.std.proofs.lemmas.Result.{on_ok_weaker}
use Rattle.look_lines.specs.Lists.{ListsBlocks, stack_text}
use Rattle.replay_session.specs.Session.{scenario_of}
use Rattle.scenario.specs.Scenario.{chosen_state}
use Rattle.looks.proofs.viewer.show.Goals as goal

pub returns-in-Certify-clause-work : goal.returns-in-Certify-clause-work
returns-in-Certify-clause-work c = rw c.in-Certify.is c.certify.ensures.work

pub returns-in_ok-machine-in-Stack-clause-tells : goal.returns-in_ok-machine-in-Stack-clause-tells
returns-in_ok-machine-in-Stack-clause-tells c =
    let s = chosen_state (scenario_of c.args.session.now) in
    rw c.in-Stack.is
    (on_ok_weaker c.push_stack.result
    (λ told. told s c.in_ok-machine-in-Stack.ensures.shows ∙ ap (λ (xs : List ℕ). xs ++ stack_text s) c.requires.empty)
    c.push_stack.ensures)

pub returns-in_ok-machine-in-Blocks-clause-tells : goal.returns-in_ok-machine-in-Blocks-clause-tells
returns-in_ok-machine-in-Blocks-clause-tells c =
    let s = chosen_state (scenario_of c.args.session.now) in
    rw c.in-Blocks.is
    (on_ok_weaker c.push_blocks.result
    (λ told.
    let lists = told s c.in_ok-machine-in-Blocks.ensures.shows in
    subst (ListsBlocks s.core.blocks c.in-Blocks.from)
    (sym (lists.2 ∙ ap (λ (xs : List ℕ). xs ++ lists.0) c.requires.empty)) lists.1)
    c.push_blocks.ensures)
