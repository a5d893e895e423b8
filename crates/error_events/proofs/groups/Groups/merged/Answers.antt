use Rattle.std.proofs.Common.{◌<◌, ◌≤◌, length, arith}
use Rattle.std.specs.Option.{option_map}
use Rattle.error_events.specs.Lent.{lent_group}
use Rattle.error_events.specs.Shown.{groups_of}
use Rattle.error_events.proofs.LoopSteps.{merged-step, merged-end}
use Rattle.error_events.proofs.groups.Groups.merged.Goals as goal

pub loop-index-preserved : goal.loop-index-preserved
loop-index-preserved c =
    let within : c.loop-index.index < length c.args.keep.now = omega arith in
    merged-step c.args.callers c.loop-index.index (groups_of c.loop-index.groups) (groups_of c.merge.new.self) _
    c.args.keep.now (groups_of c.args.self.now) (option_map lent_group c.entry.result) _
    c.requires.each within c.loop-index.invariant c.entry.ensures c.in_ok-merge.ensures

pub returns : goal.returns
returns c =
    let past : length c.args.keep.now ≤ c.loop-index.index = omega arith in
    merged-end c.args.callers c.loop-index.index (groups_of c.loop-index.groups) _ c.args.keep.now
    (groups_of c.args.self.now) past c.loop-index.invariant
