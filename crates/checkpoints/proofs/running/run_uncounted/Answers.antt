use Rattle.std.proofs.Common.{◌≡◌, ℕ, ◌+◌, ◌*◌, ◌/◌, ◌^◌, ◌<◌, ◌∙◌, List, refl, sym, subst, arith}
use Rattle.guest_machine.specs.State.{State}
use Rattle.guest_machine.specs.Exec.{has_touched}
use Rattle.guest_machine.specs.Run.{pre, post}
use Rattle.guest_machine.specs.Shows.{Shows}
use Rattle.run_values.specs.declared.alteration.Alteration.{Alteration}
use Rattle.run_values.specs.declared.span.Span.{Span}
use Rattle.checkpoints.specs.Marks.{NoneBetween}
use Rattle.checkpoints.specs.Words.{meets, IsPlaced}
use Rattle.checkpoints.specs.Entries.{ranges_of, entry_of, below, IsClean}
use Rattle.checkpoints.specs.FirstUses.{uses_word, IsFirstBelow}
use Rattle.checkpoints.proofs.WordSteps.{placed-word}
use Rattle.checkpoints.proofs.FirstSteps.{clean-entry, below-stays}
use Rattle.checkpoints.proofs.QuietSteps.{steps-on, unmarked, enters-on}
use Rattle.checkpoints.proofs.running.run_uncounted.Goals as goal

moved : (rs ss : List Span) (w : ℕ) → ss ≡ rs → IsPlaced rs w → IsPlaced ss w
moved rs ss w e h = let P : List Span → Type 0 = λ xs. IsPlaced xs w in subst P (sym e) h

pub loop-k-init : goal.loop-k-init
loop-k-init c = record {
  marked = λ start marks none h within. h;
  shows = λ start marks none h later. absurd (omega arith);
  ranges = refl;
  kept = λ n w low few placed. refl;
  clean = c.requires.clean;
  first = λ start marks none h addr word f. f;
}

pub loop-k-preserved : goal.loop-k-preserved
loop-k-preserved c =
    let inv = c.loop-k.invariant in
    let k = c.loop-k.k in
    let setup = c.args.setup.now in
    let within : k < c.args.end = omega arith in
    let next : (start : State) (marks : List Alteration) → NoneBetween c.args.from c.args.end marks
    → Shows c.args.machine (post start setup marks c.args.from)
    → Shows c.in_ok-stepped.stepped (pre start setup marks (k + 1)) =
    λ start marks none h. steps-on start setup marks k c.loop-k.machine c.in_ok-stepped.stepped
    c.in_ok-stepped.ensures.shows (inv.marked start marks none h within) in
    record {
      marked = λ start marks none h low. unmarked start setup marks (k + 1) c.in_ok-stepped.stepped
          (none (k + 1) (omega arith) low) (next start marks none h);
      shows = λ start marks none h later. next start marks none h;
      ranges = c.enter_touched-took_word.ensures.ranges ∙ inv.ranges;
      kept = λ n w low few placed.
          below-stays (meets (has_touched c.in_ok-stepped.touched) (4 * w)) n k (entry_of c.loop-k.uses w) _
          (omega arith) (c.enter_touched-took_word.ensures.entries w few (moved _ _ w inv.ranges placed))
          ∙ inv.kept n w low few placed;
      clean = c.enter_touched-took_word.ensures.clean;
      first = λ start marks none h addr word f.
          let few : addr / 4 < 2 ^ 30 = (let small = word.small in omega arith) in
          enters-on start setup marks addr k (entry_of c.loop-k.uses (addr / 4)) _ c.in_ok-stepped.touched
          (c.in_ok-stepped.ensures.touched _ (inv.marked start marks none h within)) word.aligned
          (clean-entry c.loop-k.uses k (addr / 4) inv.clean) (omega arith)
          (c.enter_touched-took_word.ensures.entries (addr / 4) few
          (moved _ _ (addr / 4) inv.ranges (placed-word (ranges_of c.args.uses.now) addr word)))
          (inv.first start marks none h addr word f);
    }

pub returns-then-not-is_running-clause-shows : goal.returns-then-not-is_running-clause-shows
returns-then-not-is_running-clause-shows c start marks none h =
    steps-on start c.args.setup.now marks c.loop-k.k c.loop-k.machine c.in_ok-stepped.stepped
    c.in_ok-stepped.ensures.shows (c.loop-k.invariant.marked start marks none h (omega arith))

pub returns-then-not-is_running-clause-first : goal.returns-then-not-is_running-clause-first
returns-then-not-is_running-clause-first c start marks none h addr word f =
    let inv = c.loop-k.invariant in
    let few : addr / 4 < 2 ^ 30 = (let small = word.small in omega arith) in
    enters-on start c.args.setup.now marks addr c.loop-k.k (entry_of c.loop-k.uses (addr / 4)) _ c.in_ok-stepped.touched
    (c.in_ok-stepped.ensures.touched _ (inv.marked start marks none h (omega arith))) word.aligned
    (clean-entry c.loop-k.uses c.loop-k.k (addr / 4) inv.clean) (omega arith)
    (c.enter_touched-took_word.ensures.entries (addr / 4) few
    (moved _ _ (addr / 4) inv.ranges (placed-word (ranges_of c.args.uses.now) addr word)))
    (inv.first start marks none h addr word f)

pub returns : goal.returns
returns c =
    let inv = c.loop-k.invariant in
    let setup = c.args.setup.now in
    let all : c.loop-k.k ≡ c.args.end = omega arith in record {
      on = c.requires.forward;
      within = omega arith;
      shows = λ start marks none h. subst (λ n. Shows c.loop-k.machine (pre start setup marks n)) all
          (inv.shows start marks none h (omega arith));
      ranges = inv.ranges;
      kept = inv.kept;
      clean = subst (IsClean c.loop-k.uses) all inv.clean;
      first = λ start marks none h addr word f. subst (λ n. IsFirstBelow (uses_word start setup marks addr) n
          (below n (entry_of c.loop-k.uses (addr / 4)))) all (inv.first start marks none h addr word f);
    }
