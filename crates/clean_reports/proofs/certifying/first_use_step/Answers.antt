use Rattle.std.proofs.Common.{◌+◌, ◌-◌, ◌/◌, arith}
use Rattle.clean_reports.proofs.Halving.{after-clean, after-used, begins, raises}
use Rattle.clean_reports.proofs.certifying.first_use_step.Goals as goal

pub halve-init : goal.halve-init
halve-init c = begins c.args.setup.now c.args.marks.now c.args.trail.now c.args.end

pub returns-in_err-is_clean_at-clause-right : goal.returns-in_err-is_clean_at-clause-right
returns-in_err-is_clean_at-clause-right c =
    λ start right. c.is_clean_at.ensures.right start (c.halve.invariant.right start right)

pub halve-preserved-then-branch : goal.halve-preserved-then-branch
halve-preserved-then-branch c =
    after-clean c.args.setup.now c.args.marks.now c.args.trail.now c.halve.trail c.is_clean_at.new.trail c.args.end
    c.halve.clean c.halve.used (c.halve.clean + (c.halve.used - c.halve.clean) / 2) c.in_ok-is_clean_at.field-0
    c.halve.invariant (record {
      tells = c.in_ok-is_clean_at.ensures.tells;
      right = c.is_clean_at.ensures.right;
      held = c.in_ok-is_clean_at.ensures.held;
      short = c.is_clean_at.ensures.short;
      loaded = c.is_clean_at.ensures.loaded;
      spacing = c.is_clean_at.ensures.spacing;
    }) (omega arith) (let order = c.halve.invariant.order in omega arith) c.if-branch.true

pub halve-preserved : goal.halve-preserved
halve-preserved c =
    after-used c.args.setup.now c.args.marks.now c.args.trail.now c.halve.trail c.is_clean_at.new.trail c.args.end
    c.halve.clean c.halve.used (c.halve.clean + (c.halve.used - c.halve.clean) / 2) c.in_ok-is_clean_at.field-0
    c.halve.invariant (record {
      tells = c.in_ok-is_clean_at.ensures.tells;
      right = c.is_clean_at.ensures.right;
      held = c.in_ok-is_clean_at.ensures.held;
      short = c.is_clean_at.ensures.short;
      loaded = c.is_clean_at.ensures.loaded;
      spacing = c.is_clean_at.ensures.spacing;
    }) (omega arith) (let order = c.halve.invariant.order in omega arith) c.if-branch.false

pub returns-clause-raises : goal.returns-clause-raises
returns-clause-raises c =
    λ start right none some. raises c.args.setup.now c.args.marks.now c.args.trail.now c.halve.trail c.args.end
    c.halve.clean c.halve.used c.halve.invariant (omega arith) start right none some
