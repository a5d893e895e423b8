-- Tables of sides after further steps of a run.
use Rattle.std.proofs.Common.{◌≡◌, ℕ, ◌+◌, ◌*◌, ◌%◌, ◌^◌, ◌<◌, ◌≤◌, ◌∙◌}
use Rattle.std.proofs.Common.{◌==◌, Bool, true, false, List, Option, Some, ap, ap₂}
use Rattle.std.proofs.Common.{length, get_or, subst, sym, arith}
use Rattle.std.proofs.Common.{refl}
use Rattle.std.proofs.lemmas.Bool.Decides.{Decides-eqb}
use Rattle.guest_machine.specs.State.{State}
use Rattle.guest_machine.specs.Exec.{exec, is_running}
use Rattle.guest_machine.specs.Exec.{touched_of}
use Rattle.guest_machine.specs.Laws.{StaysHalted}
use Rattle.guest_machine.specs.Run.{pre, post}
use Rattle.guest_machine.specs.Shows.{Shows}
use Rattle.guest_machine.specs.declared.machine.Machine.{Machine}
use Rattle.guest_machine.specs.declared.setup.Setup.{Setup}
use Rattle.run_values.specs.declared.alteration.Alteration.{Alteration}
use Rattle.run_values.specs.declared.span.Span.{Span}
use Rattle.checkpoints.specs.Entering.{Enters}
use Rattle.checkpoints.specs.Extending.{Extends, GoesStraight, Turns}
use Rattle.checkpoints.specs.Sides.{side_by, side_of, sided}
use Rattle.checkpoints.specs.declared.sides.Sides.{Sides}
use Rattle.checkpoints.proofs.AlsoSteps.{also-halted, also-more}
use Rattle.checkpoints.proofs.MarkSteps.{pre-more}
use Rattle.checkpoints.proofs.SideSteps.{tells-halted, tells-more}

-- ---- the side of a step that goes straight ahead

pub goes-ahead : (s : State) (setup : Setup) (here apart : ℕ)
    → (touched_of s setup).fetch ≡ Some (record { start = here; len = apart })
    → (exec s setup).core.pc ≡ here + apart → here + apart < 2 ^ 32 → side_of s setup ≡ Some (sided here true)
goes-ahead s setup here apart fetched on room =
    let pc = (exec s setup).core.pc in
    ap (λ (code : Option Span). side_by code pc) fetched
    ∙ ap (λ way. Some (sided here way)) ((Decides-eqb pc ((here + apart) % 2 ^ 32)).1 (omega (arith, on, room)))

unless : (b : Bool) → (b ≡ true → ⊥) → b ≡ false
unless true h = absurd (h refl)
unless false h = refl

-- and that of one that goes elsewhere
pub goes-away : (s : State) (setup : Setup) (here apart : ℕ)
    → (touched_of s setup).fetch ≡ Some (record { start = here; len = apart })
    → ((exec s setup).core.pc ≡ here + apart → ⊥) → here + apart < 2 ^ 32
    → side_of s setup ≡ Some (sided here false)
goes-away s setup here apart fetched off room =
    let pc = (exec s setup).core.pc in
    ap (λ (code : Option Span). side_by code pc) fetched
    ∙ ap (λ way. Some (sided here way)) (unless (pc == (here + apart) % 2 ^ 32)
    (λ e. off ((Decides-eqb pc ((here + apart) % 2 ^ 32)).0 e ∙ omega (arith, room))))

module _ (start : State) (setup : Setup) (marks : List Alteration) (first apart : ℕ) where
  pub extends-none : (from : ℕ) (table : List Sides) → Extends start setup marks from from first apart table table
  extends-none from table = record {
    tells = λ i on d less told. told;
    also = λ i on others d less says. says;
  }

  pub extends-then : (from k to : ℕ) (old mid new : List Sides) → length mid ≡ length old
      → Extends start setup marks from k first apart old mid → Extends start setup marks k to first apart mid new
      → Extends start setup marks from to first apart old new
  extends-then from k to old mid new rows one two = record {
    tells = λ i on d less told. two.tells i on d (subst (λ n. i < n) (sym rows) less) (one.tells i on d less told);
    also = λ i on others d less says.
        two.also i on others d (subst (λ n. i < n) (sym rows) less) (one.also i on others d less says);
  }

  -- by a step whose side is entered
  pub extends-more : (k : ℕ) (old new : List Sides)
      → Enters first apart (side_of (post start setup marks k) setup) old new
      → Extends start setup marks k (k + 1) first apart old new
  extends-more k old new entered = record {
    tells = λ i on d less told.
        tells-more start setup marks k _ on _ _ told (entered.tells i on d less) (entered.again i on d less);
    also = λ i on others d less says.
        also-more start setup marks k _ on others (get_or old i d) (get_or new i d) says (entered.tells i on d less);
  }

  -- by one of those that go straight ahead
  pub extends-ahead : (from pc count i : ℕ) (old new : List Sides) → GoesStraight start setup marks from pc apart count
      → i < count → Enters first apart (Some (sided (pc + apart * i) true)) old new
      → Extends start setup marks (from + i) (from + (i + 1)) first apart old new
  extends-ahead from pc count i old new straight less entered =
      let next : from + i + 1 ≡ from + (i + 1) = omega arith in
      subst (λ n. Extends start setup marks (from + i) n first apart old new) next
      (extends-more (from + i) old new (subst (λ it. Enters first apart it old new) (sym (straight i less)) entered))

  -- by one that doesn't
  pub extends-turn : (k pc : ℕ) (machine : Machine) (code : Option Span) (old new : List Sides)
      → Turns start setup marks k machine code → ((s : State) → Shows machine s → pc ≡ s.core.pc)
      → Enters first apart (side_by code pc) old new
      → Extends start setup marks k (k + 1) first apart old new
  unfolding post
  extends-turn k pc machine code old new turns there entered =
      let side : side_by code pc ≡ side_of (post start setup marks k) setup =
      ap₂ side_by turns.fetched (there _ turns.shows ∙ ap (λ (s : State). s.core.pc) (pre-more start setup marks k)) in
      extends-more k old new (subst (λ it. Enters first apart it old new) side entered)

  -- by steps of a machine that is halted
  pub extends-halted : StaysHalted → (k to : ℕ) (table : List Sides) → k ≤ to
      → is_running (pre start setup marks k).core.status ≡ false
      → Extends start setup marks k to first apart table table
  extends-halted law k to table l halted = record {
    tells = λ i on d less told. tells-halted start setup marks law k to _ on _ l halted told;
    also = λ i on others d less says.
        also-halted start setup marks law k to _ on others (get_or table i d) l halted says;
  }
