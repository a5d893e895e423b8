use Rattle.std.proofs.Common.{ap, ◌∙◌}
use Rattle.std.proofs.lemmas.Result.{on_ok_weaker, on_err_weaker}
use Rattle.indexmap.specs.IndexMap.{insert_entry}
use Rattle.error_events.specs.contracts.event.KeyPartialEq.TheImpl.{ghosts}
use Rattle.error_events.proofs.EntrySteps.{insert-absent, is-ok, own-entries}
use Rattle.error_events.proofs.shared_map.insert.Goals as goal

pub returns-clause-ok : goal.returns-clause-ok
returns-clause-ok c =
    let map = c.args.shared.now.value in
    let own = c.in_ok-own.own.now in
    let kept = c.make_mut.follows.holds c.put.new.map (is-ok _ _ c.in_ok-own.was) in
    let same = own-entries _ _ (λ x y h. h) (λ x y h. h) map own c.in_ok-own.ensures.value in
    let added = insert-absent ghosts.eq c.args.key.now c.args.note map.entries c.requires in
    on_ok_weaker c.put.result (λ put. ap (λ m. m.entries) kept ∙ put
    ∙ ap (λ es. insert_entry ghosts.eq es c.args.key.now c.args.note) same ∙ added)
    c.put.ensures.ok

pub returns-clause-err : goal.returns-clause-err
returns-clause-err c =
    let map = c.args.shared.now.value in
    let own = c.in_ok-own.own.now in
    let kept = c.make_mut.follows.holds c.put.new.map (is-ok _ _ c.in_ok-own.was) in
    let same = own-entries _ _ (λ x y h. h) (λ x y h. h) map own c.in_ok-own.ensures.value in
    on_err_weaker c.put.result (λ put. ap (λ m. m.entries) kept ∙ put ∙ same) c.put.ensures.err
