use Rattle.std.proofs.Common.{ap, sym, subst, ◌∙◌, ◌++◌, ◌∷◌, []}
use Rattle.error_events.specs.contracts.event.KeyPartialEq.TheImpl.{ghosts}
use Rattle.error_events.specs.Layers.{AreApart, entries_in}
use Rattle.error_events.proofs.ApartSteps.{put-is}
use Rattle.error_events.proofs.layers.put_behind.Goals as goal

pub taken_up-requires : goal.taken_up-requires
taken_up-requires c =
    subst (λ maps. AreApart ghosts.eq (maps ++ c.args.young ∷ []))
    (sym (c.deref.ensures.value ∙ c.in_ok-reserve.ensures.items)) c.requires

pub returns-clause-apart : goal.returns-clause-apart
returns-clause-apart c =
    let is = put-is c.deref.result.now _ _ c.push.new.self.items c.in_ok-kept.kept c.in_ok-kept.whole
    c.in_ok-push.ensures.items c.truncate.ensures.items c.deref.ensures.value in
    subst (λ maps. AreApart ghosts.eq maps) (sym is) c.in_ok-kept.ensures.apart

pub returns-clause-entries : goal.returns-clause-entries
returns-clause-entries c =
    let is = put-is c.deref.result.now _ _ c.push.new.self.items c.in_ok-kept.kept c.in_ok-kept.whole
    c.in_ok-push.ensures.items c.truncate.ensures.items c.deref.ensures.value in
    ap (λ maps. entries_in maps) is ∙ c.in_ok-kept.ensures.entries
    ∙ ap (λ maps. entries_in (maps ++ c.args.young ∷ [])) (c.deref.ensures.value ∙ c.in_ok-reserve.ensures.items)
