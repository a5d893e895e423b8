use Rattle.std.proofs.Common.{◌≡◌, ◌<◌, ◌^◌, ◌∷◌, List, subst, rules}
use Rattle.std.specs.List.{All}
use Rattle.std.proofs.lemmas.List.Elements.{All-head, All-tail}
use Rattle.std.proofs.lemmas.Result.{IfOk-weaker}
use Rattle.guest_machine.specs.Laws.{DifferWithin, Within}
use Rattle.shadow_memory.specs.Differences.{in_words, IsWordApart}
use Rattle.shadow_memory.specs.declared.differences.WordApart.{WordApart}
use Rattle.pruning.proofs.BackSteps.{put-in}
use Rattle.pruning.proofs.jumping.+put_back.Goals as goal

pub returns : goal.returns
returns d c =
    let w = c.in-Some.word.now in
    let ws = c.in-Some.later.now in
    let small : w.addr < 2 ^ 32 = search rules in
    let parts : c.args.words.now ≡ w ∷ ws = search rules in
    IfOk-weaker c.put_back.result _ _ (λ r told s t other shows differ inside.
    let all = subst (All (IsWordApart t.bytes other)) parts inside in
    told _ t other (c.in_ok-poked.ensures s shows)
    (put-in w ws s t other small (All-head (IsWordApart t.bytes other) w ws all)
    (subst (λ (xs : List WordApart). DifferWithin (Within (in_words xs)) s t) parts differ))
    (All-tail (IsWordApart t.bytes other) w ws all)) c.put_back.ensures
