use Rattle.std.proofs.Common.{◌≡◌, ℕ, ◌+◌, ◌^◌, ◌-◌, ◌*◌, ◌<◌, ◌∙◌, List, Some, true, false, ap, arith, inl, inr}
use Rattle.std.proofs.Common.{subst, sym}
use Rattle.std.proofs.lemmas.Bool.{cases_lt}
use Rattle.guest_machine.specs.State.{State}
use Rattle.guest_machine.specs.Run.{post, pre}
use Rattle.guest_machine.specs.Shows.{Shows}
use Rattle.run_values.specs.declared.alteration.Alteration.{Alteration}
use Rattle.checkpoints.specs.Marks.{NoneBetween}
use Rattle.checkpoints.specs.Sides.{side_of, sided}
use Rattle.checkpoints.proofs.ExtendSteps.{goes-ahead, goes-away}
use Rattle.checkpoints.proofs.QuietSteps.{steps-on, unmarked}
use Rattle.checkpoints.proofs.straight.run_words.Goals as goal

pub returns-then-pc-next-clause-away : goal.returns-then-pc-next-clause-away
returns-then-pc-next-clause-away c start marks from none h away =
    let inv = c.loop-left.invariant in
    let fits = c.words_from-fits.ensures in
    let done = c.in_ok-stepped.ensures in
    let made = c.if-not-is_made.false in
    let setup = c.args.setup.now in
    let next = c.loop-left.next in
    let i = c.words_from-fits.result - c.loop-left.left in
    let at : next ≡ c.args.pc + 4 * i = inv.at in
    let less : i < c.args.most = omega (arith, fits.most, inv.within, c.loop-left-test.true) in
    let s = post start setup marks (from + i) in
    let marked = inv.marked start marks from none h less in
    let fetched = done.fetched s marked made ∙ ap (λ pc. Some (record { start = pc; len = 4 }))
    (sym (inv.there s marked)) in
    record {
      shows = steps-on start setup marks (from + i) c.loop-left.machine c.in_ok-stepped.stepped
          (λ t shown. done.shows t shown made) marked;
      side = subst (λ a. side_of s setup ≡ Some (sided a false)) at
          (goes-away s setup next 4 fetched
          (λ e. c.if-pc-next.true (c.pc.ensures _ (done.shows s marked made) ∙ e))
          (omega (arith, at, fits.room, inv.within, c.loop-left-test.true)));
    }

pub loop-left-preserved : goal.loop-left-preserved
loop-left-preserved c =
    let inv = c.loop-left.invariant in
    let fits = c.words_from-fits.ensures in
    let done = c.in_ok-stepped.ensures in
    let made = c.if-not-is_made.false in
    let setup = c.args.setup.now in
    let stepped = c.in_ok-stepped.stepped in
    let pc = c.args.pc in
    let here = c.loop-left.next in
    let i = c.words_from-fits.result - c.loop-left.left in
    let j = c.words_from-fits.result - (c.loop-left.left - 1) in
    let at : here ≡ pc + 4 * i = inv.at in
    let more : i + 1 ≡ j = omega (arith, inv.within, c.loop-left-test.true) in
    let within : i < c.args.most = omega (arith, fits.most, inv.within, c.loop-left-test.true) in
    let room : here + 4 < 2 ^ 32 = omega (arith, at, fits.room, inv.within, c.loop-left-test.true) in
    let there : (s : State) → Shows stepped s → here + 4 ≡ s.core.pc =
    λ s shown. sym c.if-pc-next.false ∙ c.pc.ensures s shown in
    let next : (start : State) (marks : List Alteration) (from : ℕ) → NoneBetween from (from + c.args.most) marks
    → Shows c.args.machine (post start setup marks from) → Shows stepped (pre start setup marks (from + j)) =
    λ start marks from none h. subst (λ n. Shows stepped (pre start setup marks n)) (omega (arith, more))
    (steps-on start setup marks (from + i) c.loop-left.machine stepped (λ s shown. done.shows s shown made)
    (inv.marked start marks from none h within)) in
    record {
      there = there;
      within = omega (arith, inv.within);
      at = omega (arith, at, more);
      marked = λ start marks from none h less. unmarked start setup marks (from + j) stepped
          (none (from + j) (omega (arith, more)) (omega (arith, less))) (next start marks from none h);
      shows = λ start marks from none h some. next start marks from none h;
      straight = λ start marks from none h k less. elim (cases_lt k i) [
        | inl before ↦ inv.straight start marks from none h k before
        | inr past ↦ (
            let s = post start setup marks (from + i) in
            let marked = inv.marked start marks from none h within in
            let last : i ≡ k = omega (arith, less, past, more) in
            let on = sym (there _ (done.shows s marked made)) in
            let fetched = done.fetched s marked made ∙ ap (λ pc. Some (record { start = pc; len = 4 }))
            (sym (inv.there s marked)) in
            subst (λ n. side_of (post start setup marks (from + n)) setup ≡ Some (sided (pc + 4 * n) true)) last
            (subst (λ a. side_of s setup ≡ Some (sided a true)) at
            (goes-ahead s setup here 4 fetched on room))
            )
      ];
    }
