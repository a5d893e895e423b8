use Rattle.std.proofs.Common.{◌≡◌, ◌<◌, ◌+◌, ◌*◌, ◌-◌, ◌/◌, ◌%◌, length, arith, rules, sym}
use Rattle.error_events.proofs.CountSteps.{get-in-chunk, get-recent}
use Rattle.error_events.proofs.counts.Counts.get.Goals as goal

pub returns-then-chunk-len : goal.returns-then-chunk-len
returns-then-chunk-len c =
    let at : c.args.index ≡ 256 * (c.args.index / 256) + c.args.index % 256 = omega arith in
    let within : c.args.index / 256 < length c.args.self.now.chunks.items = omega arith in
    let there = sym (get-in-chunk c.args.self.now (c.args.index / 256) c.index.result.now _ within c.index.ensures
    (c.args.index % 256) c.args.index (omega arith) at) in
    search (rules, there)

pub returns : goal.returns
returns c =
    let at : c.args.index ≡ 256 * length c.args.self.now.chunks.items
    + (c.args.index - 256 * c.len-2.result) = omega arith in
    let there = sym (get-recent c.args.self.now (c.args.index - 256 * c.len-2.result) c.args.index at) in
    search (rules, there)
