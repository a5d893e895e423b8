use Rattle.std.proofs.Common.{rules}
use Rattle.error_events.specs.contracts.event.KeyPartialEq.TheImpl.{ghosts}
use Rattle.error_events.proofs.ApartSteps.{last-apart, joined-apart, kept-entries, kept-apart}
use Rattle.error_events.proofs.layers.+taken_up.Goals as goal

pub joined-requires : goal.joined-requires
joined-requires t c =
    last-apart ghosts.eq c.args.maps.now c.in-Some.before.now c.in-Some.last.now c.args.young
    c.in-Some.ensures.cases.0 c.requires

pub taken_up-requires : goal.taken_up-requires
taken_up-requires t c =
    let apart = joined-apart ghosts.eq c.args.maps.now c.in-Some.before.now c.in-Some.last.now c.args.young
    c.in-Some.ensures.cases.0
    c.in_ok-whole-in-Some.whole c.in_ok-whole-in-Some.ensures c.requires in
    let shorter = c.in-Some.ensures.cases.1 in
    search (rules, apart, shorter)

pub returns-in_ok-whole-in-Some-clause-entries : goal.returns-in_ok-whole-in-Some-clause-entries
returns-in_ok-whole-in-Some-clause-entries t c =
    kept-entries ghosts.eq c.args.maps.now c.in-Some.before.now c.in-Some.last.now c.args.young
    c.in-Some.ensures.cases.0 c.in_ok-whole-in-Some.whole c.in_ok-whole-in-Some.ensures
    c.taken_up.result c.taken_up.ensures.count c.taken_up.ensures.entries

pub returns-in_ok-whole-in-Some-clause-apart : goal.returns-in_ok-whole-in-Some-clause-apart
returns-in_ok-whole-in-Some-clause-apart t c =
    kept-apart ghosts.eq c.args.maps.now c.in-Some.before.now c.in-Some.last.now c.args.young
    c.in-Some.ensures.cases.0 c.in_ok-whole-in-Some.whole c.in_ok-whole-in-Some.ensures
    c.taken_up.result c.taken_up.ensures.count c.taken_up.ensures.apart
