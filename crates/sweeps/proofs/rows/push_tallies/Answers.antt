use Rattle.std.proofs.Common.{◌≡◌, ◌+◌, ◌++◌, get_or, length, take, ap, sym, ◌∙◌, append-nil, append_assoc, arith}
use Rattle.std.proofs.lemmas.List.{length-take, take_more}
use Rattle.sweeps.specs.Tables.{tally_line, tally_lines}
use Rattle.sweeps.proofs.Steps.{tally-more}
use Rattle.sweeps.proofs.rows.push_tallies.Goals as goal

pub loop-number-init : goal.loop-number-init
unfolding tally_lines
loop-number-init c = sym (append-nil c.args.out.now.items)

pub loop-number-preserved : goal.loop-number-preserved
loop-number-preserved c =
    let counts = c.args.counts.now in
    let n = c.loop-number.number in
    let count = get_or counts n 0 in
    let number : 0 + length (take n counts) ≡ n = omega (arith, length-take n counts) in
    c.in_ok-push_tally.ensures
    ∙ ap (λ out. out ++ tally_line n count) c.loop-number.invariant
    ∙ append_assoc c.args.out.now.items (tally_lines 0 (take n counts)) (tally_line n count)
    ∙ ap (λ text. c.args.out.now.items ++ text)
    (ap (λ k. tally_lines 0 (take n counts) ++ tally_line k count) (sym number)
    ∙ sym (tally-more 0 (take n counts) count)
    ∙ ap (tally_lines 0) (sym (take_more counts n 0 c.loop-number-test.true)))
