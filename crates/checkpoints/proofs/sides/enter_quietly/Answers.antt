use Rattle.std.proofs.Common.{◌≡◌, ◌+◌, ◌≤◌, ◌∙◌, ℕ, List, ap, arith, refl, subst}
use Rattle.guest_machine.specs.State.{State}
use Rattle.guest_machine.specs.Run.{post}
use Rattle.guest_machine.specs.Shows.{Shows}
use Rattle.guest_machine.specs.declared.machine.Machine.{Machine}
use Rattle.guest_machine.specs.declared.setup.Setup.{Setup}
use Rattle.guest_machine.specs.declared.setup.Touched.{Touched}
use Rattle.guest_machine.specs.Exec.{exec, touched_of}
use Rattle.run_values.specs.declared.alteration.Alteration.{Alteration}
use Rattle.checkpoints.specs.Extending.{Extends, Turns}
use Rattle.checkpoints.specs.Marks.{NoneBetween}
use Rattle.checkpoints.proofs.ExtendSteps.{extends-none, extends-then, extends-turn}
use Rattle.checkpoints.proofs.QuietSteps.{steps-on, unmarked}
use Rattle.checkpoints.proofs.sides.enter_quietly.Goals as goal

later-on : (from at end : ℕ) (marks : List Alteration) → from ≤ at → NoneBetween from end marks
    → NoneBetween at end marks
later-on from at end marks later none k low high = none k (omega (arith, later, low)) high

turned : (start : State) (setup : Setup) (marks : List Alteration) (k : ℕ) (old new : Machine) (touched : Touched)
    → ((s : State) → Shows old s → Shows new (exec s setup))
    → ((s : State) → Shows old s → touched ≡ touched_of s setup)
    → Shows old (post start setup marks k) → Turns start setup marks k new touched.fetch
turned start setup marks k old new touched step same marked = record {
  shows = steps-on start setup marks k old new step marked;
  fetched = ap (λ (t : Touched). t.fetch) (same _ marked);
}

pub loop-at-init : goal.loop-at-init
loop-at-init c = record {
  later = omega arith;
  within = omega arith;
  marked = λ start marks none h within. h;
  shows = λ start marks none h later. absurd (omega arith);
  rows = refl;
  extends = λ start marks none h. extends-none start c.args.setup.now marks c.args.first c.args.apart c.args.from _;
}

pub returns-then-at-end-clause-extends : goal.returns-then-at-end-clause-extends
returns-then-at-end-clause-extends c start marks none h =
    let inv = c.loop-at.invariant in
    let at = c.loop-at.at in
    let setup = c.args.setup.now in
    let till = later-on c.args.from at c.args.end marks inv.later none in
    let marked = inv.marked start marks none h c.loop-at-test.true in
    subst (λ n. Extends start setup marks c.args.from n c.args.first c.args.apart c.args.table.now.items
    c.pass_straight.new.table.items) c.if-at-end.true
    (extends-then start setup marks c.args.first c.args.apart c.args.from at c.in_ok-stepped.reached _ _ _ inv.rows
    (inv.extends start marks none h) (c.in_ok-stepped.ensures.extends start marks till marked))

pub returns-then-not-is_running-clause-shows : goal.returns-then-not-is_running-clause-shows
returns-then-not-is_running-clause-shows c start marks none h =
    let inv = c.loop-at.invariant in
    let till = later-on c.args.from c.loop-at.at c.args.end marks inv.later none in
    let marked = inv.marked start marks none h c.loop-at-test.true in
    (turned start c.args.setup.now marks c.in_ok-stepped.reached c.in_ok-stepped.stepped c.in_ok-stepped-2.stepped
    c.in_ok-stepped-2.touched c.in_ok-stepped-2.ensures.shows c.in_ok-stepped-2.ensures.touched
    (c.in_ok-stepped.ensures.marked start marks till marked
    (omega (arith, c.in_ok-stepped.ensures.within, c.if-at-end.false)))).shows

pub returns-then-not-is_running-clause-extends : goal.returns-then-not-is_running-clause-extends
returns-then-not-is_running-clause-extends c start marks none h =
    let inv = c.loop-at.invariant in
    let at = c.loop-at.at in
    let reached = c.in_ok-stepped.reached in
    let setup = c.args.setup.now in
    let passed = c.in_ok-stepped.ensures in
    let till = later-on c.args.from at c.args.end marks inv.later none in
    let marked = inv.marked start marks none h c.loop-at-test.true in
    let turns = turned start setup marks reached c.in_ok-stepped.stepped c.in_ok-stepped-2.stepped
    c.in_ok-stepped-2.touched c.in_ok-stepped-2.ensures.shows c.in_ok-stepped-2.ensures.touched
    (passed.marked start marks till marked (omega (arith, passed.within, c.if-at-end.false))) in
    extends-then start setup marks c.args.first c.args.apart c.args.from reached (reached + 1) _ _ _
    (passed.rows ∙ inv.rows)
    (extends-then start setup marks c.args.first c.args.apart c.args.from at reached _ _ _ inv.rows
    (inv.extends start marks none h) (passed.extends start marks till marked))
    (extends-turn start setup marks c.args.first c.args.apart reached c.pc.result c.in_ok-stepped-2.stepped
    c.in_ok-stepped-2.touched.fetch _ _ turns c.pc.ensures c.enter.ensures)

pub loop-at-preserved : goal.loop-at-preserved
loop-at-preserved c =
    let inv = c.loop-at.invariant in
    let at = c.loop-at.at in
    let reached = c.in_ok-stepped.reached in
    let setup = c.args.setup.now in
    let passed = c.in_ok-stepped.ensures in
    let stepped = c.in_ok-stepped-2.stepped in
    let till : (marks : List Alteration) → NoneBetween c.args.from c.args.end marks
    → NoneBetween at c.args.end marks =
    λ marks none. later-on c.args.from at c.args.end marks inv.later none in
    let turns : (start : State) (marks : List Alteration) → NoneBetween c.args.from c.args.end marks
    → Shows c.args.machine (post start setup marks c.args.from)
    → Turns start setup marks reached stepped c.in_ok-stepped-2.touched.fetch =
    λ start marks none h. turned start setup marks reached c.in_ok-stepped.stepped stepped
    c.in_ok-stepped-2.touched c.in_ok-stepped-2.ensures.shows c.in_ok-stepped-2.ensures.touched
    (passed.marked start marks (till marks none) (inv.marked start marks none h c.loop-at-test.true)
    (omega (arith, passed.within, c.if-at-end.false))) in
    record {
      later = omega (arith, inv.later, passed.later);
      within = omega (arith, passed.within, c.if-at-end.false);
      marked = λ start marks none h less. unmarked start setup marks (reached + 1) stepped
          (none (reached + 1) (omega (arith, inv.later, passed.later)) less) (turns start marks none h).shows;
      shows = λ start marks none h later. (turns start marks none h).shows;
      rows = c.enter.ensures.rows ∙ passed.rows ∙ inv.rows;
      extends = λ start marks none h.
          extends-then start setup marks c.args.first c.args.apart c.args.from reached (reached + 1) _ _ _
          (passed.rows ∙ inv.rows)
          (extends-then start setup marks c.args.first c.args.apart c.args.from at reached _ _ _ inv.rows
          (inv.extends start marks none h)
          (passed.extends start marks (till marks none) (inv.marked start marks none h c.loop-at-test.true)))
          (extends-turn start setup marks c.args.first c.args.apart reached c.pc.result stepped
          c.in_ok-stepped-2.touched.fetch _ _ (turns start marks none h) c.pc.ensures c.enter.ensures);
    }

pub returns-clause-extends : goal.returns-clause-extends
returns-clause-extends c start marks none h =
    let all : c.loop-at.at ≡ c.args.end = omega arith in
    subst (λ n. Extends start c.args.setup.now marks c.args.from n c.args.first c.args.apart c.args.table.now.items
    c.loop-at.table.items) all (c.loop-at.invariant.extends start marks none h)
