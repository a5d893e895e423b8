-- What happens in the steps of a run, one step after another.
use Rattle.std.proofs.Common.{◌≡◌, ℕ, zero, suc, ◌+◌, ◌<◌, ◌≤◌, max, nat_lt, false, cond}
use Rattle.std.proofs.Common.{List, [], ◌++◌, length, take, Option, None}
use Rattle.std.proofs.Common.{refl, ap, ap₂, sym, ◌∙◌, arith, add-one, length-append}
use Rattle.std.specs.Prelude.{option_map, option_to_list}
use Rattle.std.proofs.lemmas.Bool.Decides.{nat_tests}
use Rattle.guest_machine.specs.State.{State}
use Rattle.guest_machine.specs.Exec.{is_running}
use Rattle.guest_machine.specs.Laws.{StaysHalted}
use Rattle.guest_machine.specs.Run.{pre, post}
use Rattle.guest_machine.specs.declared.setup.Setup.{Setup}
use Rattle.run_values.specs.declared.alteration.Alteration.{Alteration}
use Rattle.checkpoints.specs.Happenings.{counts_of, happened_at, happened_between, happened_by, what_happens}
use Rattle.checkpoints.specs.declared.happenings.Counts.{Counts}
use Rattle.checkpoints.specs.declared.happenings.Happened.{Happened}
use Rattle.checkpoints.proofs.Halted.{halted-after}
use Rattle.checkpoints.proofs.Listing.{at-most-one, ended, enough, fell-silent, is-below, is-past}

not-less : (n : ℕ) → nat_lt n n ≡ false
not-less n = grind (arith, nat_tests)

-- nothing happens where nothing is counted
nothing : (setup : Setup) (pc : ℕ) (counts : Counts) → what_happens setup pc counts counts ≡ None
unfolding what_happens
nothing setup pc counts =
    rw (not-less counts.heap_calls, not-less counts.depth, not-less counts.position, not-less counts.output) refl

-- nor where the machine doesn't run
pub none-happens : (law : StaysHalted) (k : ℕ) (s : State) (setup : Setup) → is_running s.core.status ≡ false
    → happened_at k s setup ≡ None
none-happens law k s setup h =
    ap (λ t. happened_by k setup s t) (law setup s h).0
    ∙ ap (option_map (λ what. record { step = k; what = what })) (nothing setup s.core.pc (counts_of s))

-- what is counted before and after a step says what happens in it
pub happens-so : (step : ℕ) (setup : Setup) (s t : State) (pc : ℕ) (old new : Counts) → pc ≡ t.core.pc
    → old ≡ counts_of s → new ≡ counts_of t
    → option_map (λ what. record { step = step; what = what }) (what_happens setup pc old new)
    ≡ happened_by step setup s t
happens-so step setup s t pc old new at before after =
    ap (option_map (λ what. record { step = step; what = what }))
    (ap (λ a. what_happens setup a old new) at ∙ ap₂ (what_happens setup t.core.pc) before after)

-- at most one more
pub one-at-most : (xs ys : List Happened) (what : Option Happened) → ys ≡ xs ++ option_to_list what
    → length ys ≤ length xs + 1
one-at-most xs ys what e =
    let long = ap length e in
    omega (arith, long, length-append xs (option_to_list what), at-most-one what)

pub fewer : (n m most : ℕ) → n < most → m ≤ n + 1 → (m ≡ most → ⊥) → m < most
fewer n m most few l other = omega (arith, other)

module _ (start : State) (setup : Setup) (marks : List Alteration) (from : ℕ) where
  abbrev up_to : ℕ → List Happened
  up_to to = happened_between start setup marks from to

  abbrev of_step : ℕ → Option Happened
  of_step k = happened_at k (post start setup marks k) setup

  pub none-yet : (to : ℕ) → to ≤ from → up_to to ≡ []
  unfolding happened_between
  none-yet zero l = refl
  none-yet (suc k) l =
      ap (λ below. cond below [] (up_to k ++ option_to_list (of_step k))) (is-below k from (omega arith))

  -- another step
  happened-more : (k : ℕ) → from ≤ k → up_to (k + 1) ≡ up_to k ++ option_to_list (of_step k)
  unfolding happened_between
  happened-more k l =
      rw (add-one k) (ap (λ below. cond below [] (up_to k ++ option_to_list (of_step k))) (is-past k from l))

  pub found-more : (k : ℕ) (old new : List Happened) → from ≤ k → new ≡ old ++ option_to_list (of_step k)
      → old ≡ up_to k → new ≡ up_to (k + 1)
  found-more k old new l made before =
      made ∙ ap (λ xs. xs ++ option_to_list (of_step k)) before ∙ sym (happened-more k l)

  pub all-found : (k to most : ℕ) (found : List Happened) → from ≤ k → k ≤ to → length found ≡ most → found ≡ up_to k
      → found ≡ take most (up_to to)
  all-found = enough of_step from up_to none-yet happened-more

  pub all-passed : (k to most : ℕ) (found : List Happened) → to ≤ k → k ≤ max from to → length found < most
      → found ≡ up_to k → found ≡ take most (up_to to)
  all-passed = ended of_step from up_to none-yet happened-more

  -- of a machine that is halted
  pub all-halted : (law : StaysHalted) (k : ℕ) → from ≤ k → is_running (pre start setup marks k).core.status ≡ false
      → (to most : ℕ) (found : List Happened) → k ≤ to → length found < most → found ≡ up_to k
      → found ≡ take most (up_to to)
  all-halted law k l halted =
      fell-silent of_step from up_to none-yet happened-more k l
      (λ j after. none-happens law j (post start setup marks j) setup
      (halted-after law start setup marks k halted j after))
