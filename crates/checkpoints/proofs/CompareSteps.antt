-- The compares of a run, one step after another.
use Rattle.std.proofs.Common.{◌≡◌, ℕ, zero, suc, ◌+◌, ◌<◌, ◌≤◌, max, ◌&&◌, Bool, true, false, cond}
use Rattle.std.proofs.Common.{List, [], ◌++◌, length, take, Option, Some, None, is_none}
use Rattle.std.proofs.Common.{refl, ap, ap₂, sym, ◌∙◌, arith, add-one}
use Rattle.std.specs.Prelude.{option_and_then, option_map, option_to_list}
use Rattle.guest_elf.specs.declared.hook.Hook.{Hook}
use Rattle.guest_elf.specs.Hooks.{hook_at}
use Rattle.guest_elf.specs.Profiles.{is_aligned, is_half}
use Rattle.guest_machine.specs.State.{State}
use Rattle.guest_machine.specs.Exec.{Action, code_in, called_here, action_by, fetch_by, fetch_fault, fetched, fetches}
use Rattle.guest_machine.specs.Exec.{half_at, is_ready, is_running, word_at, word_fault}
use Rattle.guest_machine.specs.Laws.{StaysHalted}
use Rattle.guest_machine.specs.Run.{pre, post}
use Rattle.guest_machine.specs.declared.setup.Setup.{Setup}
use Rattle.guest_machine.proofs.Halted.{halts}
use Rattle.run_values.specs.declared.alteration.Alteration.{Alteration}
use Rattle.checkpoints.specs.Compares.{code_at, compare_at, compare_by, compares_between, operands_in}
use Rattle.checkpoints.specs.declared.compares.Compare.{Compare}
use Rattle.checkpoints.proofs.Halted.{halted-after}
use Rattle.checkpoints.proofs.Listing.{ended, enough, fell-silent, is-below, is-past}

-- ---- which code a step takes

-- none where a function is called by name
no-code : (function : Hook) (runs aligned may short whole : Bool) (half word : ℕ)
    → code_in (action_by (cond (runs && aligned) (Some function) None)
    (fetch_by (runs && (aligned && may)) short whole half word)) ≡ None
no-code function true true may short whole half word = refl
no-code function true false may short whole half word = refl
no-code function false aligned may short whole half word = refl

pub by-name : (s : State) (setup : Setup) (function : Hook) → hook_at setup.hooks s.core.pc ≡ Some function
    → code_at s setup ≡ None
unfolding called_here fetched fetches
by-name s setup function h =
    ap (λ found. code_in (action_by (cond (is_ready s.core) found None) (fetched s.core s.bytes))) h
    ∙ no-code function (is_running s.core.status) (is_aligned s.core.isa s.core.pc) (is_none (fetch_fault s.core))
    (is_half s.core.isa (half_at s.core s.bytes)) (is_none (word_fault s.core)) (half_at s.core s.bytes)
    (word_at s.core s.bytes)

-- the one that can be fetched, elsewhere
same-action : (ready : Bool) (action : Action) → action_by (cond ready None None) action ≡ action
same-action true action = refl
same-action false action = refl

pub by-code : (s : State) (setup : Setup) → hook_at setup.hooks s.core.pc ≡ None
    → code_at s setup ≡ code_in (fetched s.core s.bytes)
unfolding called_here
by-code s setup h =
    ap (λ found. code_in (action_by (cond (is_ready s.core) found None) (fetched s.core s.bytes))) h
    ∙ ap code_in (same-action (is_ready s.core) (fetched s.core s.bytes))

-- none where the machine doesn't run
no-compare : (k : ℕ) (s : State) (setup : Setup) → is_running s.core.status ≡ false → compare_at k s setup ≡ None
no-compare k s setup h =
    ap (λ action. option_map (compare_by k s.core.pc) (option_and_then (operands_in s.core) (code_in action)))
    (halts s.core s.bytes setup.hooks h)

-- ---- lists of compares

module _ (start : State) (setup : Setup) (marks : List Alteration) (from : ℕ) where
  abbrev up_to : ℕ → List Compare
  up_to to = compares_between start setup marks from to

  abbrev of_step : ℕ → Option Compare
  of_step k = compare_at k (post start setup marks k) setup

  pub none-yet : (to : ℕ) → to ≤ from → up_to to ≡ []
  unfolding compares_between
  none-yet zero l = refl
  none-yet (suc k) l =
      ap (λ below. cond below [] (up_to k ++ option_to_list (of_step k))) (is-below k from (omega arith))

  -- another step
  pub compares-more : (k : ℕ) → from ≤ k → up_to (k + 1) ≡ up_to k ++ option_to_list (of_step k)
  unfolding compares_between
  compares-more k l =
      rw (add-one k) (ap (λ below. cond below [] (up_to k ++ option_to_list (of_step k))) (is-past k from l))

  pub found-more : (k : ℕ) (old new : List Compare) (compare : Option Compare) → from ≤ k
      → new ≡ old ++ option_to_list compare → compare ≡ of_step k → old ≡ up_to k → new ≡ up_to (k + 1)
  found-more k old new compare l made is before =
      made ∙ ap₂ (λ xs one. xs ++ option_to_list one) before is ∙ sym (compares-more k l)

  pub all-found : (k to most : ℕ) (found : List Compare) → from ≤ k → k ≤ to → length found ≡ most → found ≡ up_to k
      → found ≡ take most (up_to to)
  all-found = enough of_step from up_to none-yet compares-more

  pub all-passed : (k to most : ℕ) (found : List Compare) → to ≤ k → k ≤ max from to → length found < most
      → found ≡ up_to k → found ≡ take most (up_to to)
  all-passed = ended of_step from up_to none-yet compares-more

  -- of a machine that is halted
  pub all-halted : (law : StaysHalted) (k : ℕ) → from ≤ k → is_running (pre start setup marks k).core.status ≡ false
      → (to most : ℕ) (found : List Compare) → k ≤ to → length found < most → found ≡ up_to k
      → found ≡ take most (up_to to)
  all-halted law k l halted =
      fell-silent of_step from up_to none-yet compares-more k l
      (λ j after. no-compare j (post start setup marks j) setup (halted-after law start setup marks k halted j after))
