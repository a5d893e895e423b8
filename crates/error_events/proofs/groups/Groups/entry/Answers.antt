use Rattle.std.proofs.Common.{sym, ◌∙◌, ap, rules}
use Rattle.std.specs.Option.{option_map}
use Rattle.error_events.specs.Lent.{lent_group}
use Rattle.error_events.proofs.ShownSteps.{shown-no-key, shown-no-count, shown-both}
use Rattle.error_events.proofs.groups.Groups.entry.Goals as goal

pub returns-in_err-key : goal.returns-in_err-key
returns-in_err-key c =
    ap (option_map lent_group) c.from_residual.ensures
    ∙ sym (shown-no-key c.args.self.now c.args.index (search rules))

pub returns-in_err-count : goal.returns-in_err-count
returns-in_err-count c =
    ap (option_map lent_group) c.from_residual-in_err-count.ensures
    ∙ sym (shown-no-count c.args.self.now c.args.index (search rules))

pub returns : goal.returns
returns c =
    sym (shown-both c.args.self.now c.args.index (c.in_ok-key.key.now, c.in_ok-key.note.now) c.in_ok-count.count
    (search rules) (search rules))
