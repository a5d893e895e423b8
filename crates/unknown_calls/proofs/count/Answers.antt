use Rattle.std.proofs.Common.{◌∙◌, ap, arith}
use Rattle.unknown_calls.specs.UnknownCalls.{place_in}
use Rattle.unknown_calls.proofs.Counting.{added-at, found-at, full-at, times-fit}
use Rattle.unknown_calls.proofs.count.Goals as goal

pub overflow_add-index_mut : goal.overflow_add-index_mut
overflow_add-index_mut c =
    let fits = times-fit c.args.calls.now.items c.place_in-place.result c.index_mut.result.now c.requires
    (omega (arith, c.if-place-len.true, c.len.ensures)) c.index_mut.ensures.value in
    omega (arith, fits)

pub returns-then-place-len-clause-ok : goal.returns-then-place-len-clause-ok
returns-then-place-len-clause-ok c =
    found-at c.args.calls.now.items c.args.number c.place_in-place.result c.index_mut.result.now
    (c.place_in-place.ensures ∙ ap (λ calls. place_in calls c.args.number) c.deref.ensures.value)
    (omega (arith, c.if-place-len.true, c.len.ensures)) c.index_mut.ensures.value

pub returns-in_ok-push-clause-ok : goal.returns-in_ok-push-clause-ok
returns-in_ok-push-clause-ok c =
    c.in_ok-push.ensures.items
    ∙ added-at c.args.calls.now.items c.args.number c.place_in-place.result
    (c.place_in-place.ensures ∙ ap (λ calls. place_in calls c.args.number) c.deref.ensures.value)
    (omega (arith, c.if-place-len.false, c.len.ensures)) (omega (arith, c.if-place-lt-MOST.true))

pub returns-else-place-lt-MOST-clause-ok : goal.returns-else-place-lt-MOST-clause-ok
returns-else-place-lt-MOST-clause-ok c =
    full-at c.args.calls.now.items c.args.number c.place_in-place.result
    (c.place_in-place.ensures ∙ ap (λ calls. place_in calls c.args.number) c.deref.ensures.value)
    (omega (arith, c.if-place-len.false, c.len.ensures)) (omega (arith, c.if-place-lt-MOST.false))
