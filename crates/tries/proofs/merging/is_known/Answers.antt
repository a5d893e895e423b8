use Rattle.std.proofs.Common.{◌≡◌, ◌∙◌, true, arith, get_or, inl, inr, subst, sym}
use Rattle.std.proofs.lemmas.Bool.{cases_lt, true≢false}
use Rattle.tries.specs.Merging.{adds_none, unreached}
use Rattle.tries.proofs.merging.is_known.Goals as goal
use Rattle.tries.proofs.merging.is_known.Goals.{then-known, else-known}

pub loop-place-preserved : goal.loop-place-preserved
loop-place-preserved c said i l =
    let place = c.loop-place.place in
    let seen = c.args.seen.now in
    let run = c.args.run.now in
    elim c.if-known.branch [
      | then-known w ↦ elim (cases_lt i place) [
        | inl low ↦ c.loop-place.invariant w.if-known.true i low
        | inr high ↦ (
            let at : place ≡ i = omega arith in
            subst (λ j. adds_none (get_or seen j unreached) (get_or run j unreached) ≡ true) at
            (sym c.adds_none-adds_none.ensures ∙ sym w.known-is ∙ said)
            )
      ]
      | else-known w ↦ absurd (true≢false (sym said ∙ w.known-is ∙ w.if-known.false))
    ]
