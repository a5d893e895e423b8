use Rattle.std.proofs.Common.{◌≡◌, ℕ, ◌-◌, ◌<◌, List, ◌∷◌, ◌++◌, [], ◌*◌, ◌/◌, ◌+◌, ◌∙◌, length, arith, sym, ap}
use Rattle.std.proofs.Common.{subst, refl, min, slice_index_or, le_trans}
use Rattle.checkpoints.proofs.SpacingSteps.{next, next-of, up}
use Rattle.std.proofs.lemmas.List.{length-append}
use Rattle.guest_machine.specs.Run.{pre}
use Rattle.guest_machine.specs.Shows.{Shows}
use Rattle.guest_machine.specs.declared.machine.Machine.{Machine}
use Rattle.checkpoints.specs.Entries.{entry_of, below, ranges_of, IsClean}
use Rattle.checkpoints.specs.FirstUses.{uses_word}
use Rattle.checkpoints.specs.Places.{places_of, AreCopies}
use Rattle.checkpoints.specs.Trails.{machines_of, meter_of, last_held, table_of, loaded_of, first_use, spacing_of}
use Rattle.checkpoints.proofs.FirstSteps.{first-at}
use Rattle.checkpoints.proofs.WordSteps.{placed-word}
use Rattle.checkpoints.proofs.PlaceSteps.{some-places}
use Rattle.checkpoints.proofs.TrailSteps.{right-for-copies, right-for-more, right-for-same}
use Rattle.checkpoints.proofs.trail.Trail.extend_by.Goals as goal

-- a place more
pushed-length : (old all new : List Machine) (m : Machine) → AreCopies old all → new ≡ all ++ m ∷ []
    → length new ≡ length old + 1
pushed-length old all new m are e = ap length e ∙ length-append all (m ∷ []) ∙ ap (λ n. n + 1) are.count

pub returns-clause-right : goal.returns-clause-right
unfolding machines_of last_held table_of loaded_of first_use spacing_of
returns-clause-right c start h =
    let old = c.args.self.now in
    let ms = places_of old.held in
    let setup = c.args.setup.now in
    let marks = c.args.marks.now in
    let from = c.last_held-from.result in
    let last : from ≡ last_held old = c.last_held-from.ensures in
    let some : 0 < length ms = some-places old.held in
    let within : length ms - 1 < length ms = omega arith in
    let shown = c.requires.copy c.args.copy _ (subst (λ n. Shows (slice_index_or ms (length ms - 1) c.args.copy)
    (pre start setup marks n)) (sym last) (h.held (length ms - 1) c.args.copy within)) in
    let P : ℕ → Type 0 = λ k. Shows c.in_ok-machine.machine (pre start setup marks (k + spacing_of old)) in
    let pushed = c.in_ok-push.ensures.more in
    right-for-more old _ pushed.0 c.in_ok-machine.machine start setup marks pushed.1 pushed.2
    c.in_ok-machine.ensures.ranges refl
    (subst P last (c.in_ok-machine.ensures.shows start shown))
    (λ addr word f.
    let entry = entry_of c.run_entering.new.uses (addr / 4) in
    let first = c.in_ok-machine.ensures.first start shown addr word
    (first-at (uses_word start setup marks addr) (last_held old) from (entry_of old.uses (addr / 4)) (sym last)
    f) in
    first-at (uses_word start setup marks addr) (from + spacing_of old) (last_held old + spacing_of old) entry
    (ap (λ k. k + spacing_of old) last)
    first)
    h

pub returns-clause-clean : goal.returns-clause-clean
unfolding machines_of last_held table_of spacing_of
returns-clause-clean c =
    let old = c.args.self.now in
    let from = c.last_held-from.result in
    let pushed = c.in_ok-push.ensures.more in
    let some = some-places old.held in
    let last : from ≡ old.spacing * (length (places_of old.held) - 1) = c.last_held-from.ensures in
    let size : length (places_of c.push.new.self) ≡ length (places_of old.held) + 1 =
    pushed-length (places_of old.held) pushed.0 _ c.in_ok-machine.machine pushed.1 pushed.2 in
    let count : length (places_of old.held) ≡ length (places_of c.push.new.self) - 1 = omega (arith, size) in
    let there : from + old.spacing ≡ old.spacing * (length (places_of c.push.new.self) - 1) =
    ap (λ k. k + old.spacing) last ∙ next-of old.spacing (length (places_of old.held)) some
    ∙ ap (λ k. old.spacing * k) count in
    subst (IsClean c.run_entering.new.uses) there c.in_ok-machine.ensures.clean

pub overflow_add-from : goal.overflow_add-from
unfolding last_held spacing_of machines_of
overflow_add-from c =
    let old = c.args.self.now in
    let count = length (places_of old.held) in
    omega (
      arith,
      c.last_held-from.ensures,
      c.requires.room,
      next old.spacing count,
      next-of old.spacing count (some-places old.held),
      old.apart,
    )

pub returns-in_err-machine-clause-right : goal.returns-in_err-machine-clause-right
unfolding machines_of table_of loaded_of spacing_of
returns-in_err-machine-clause-right c start h =
    let old = c.args.self.now in
    let last : c.last_held-from.result ≡ last_held old = c.last_held-from.ensures in
    right-for-same old _ start c.args.setup.now c.args.marks.now refl c.in_err-machine.ensures.ranges refl
    (λ addr word.
    let small = word.small in
    let P : ℕ → Type 0 = λ n. below n (entry_of c.run_entering.new.uses (addr / 4))
    ≡ below n (entry_of old.uses (addr / 4)) in
    subst P last (c.in_err-machine.ensures.kept (addr / 4) (omega arith) (placed-word (ranges_of old.uses) addr word)))
    h

pub returns-in_err-push-clause-right : goal.returns-in_err-push-clause-right
unfolding machines_of table_of loaded_of spacing_of
returns-in_err-push-clause-right c start h =
    let old = c.args.self.now in
    let last : c.last_held-from.result ≡ last_held old = c.last_held-from.ensures in
    right-for-copies old _ start c.args.setup.now c.args.marks.now c.in_err-push.ensures.same
    c.in_ok-machine.ensures.ranges refl
    (λ addr word.
    let small = word.small in
    let P : ℕ → Type 0 = λ n. below n (entry_of c.run_entering.new.uses (addr / 4))
    ≡ below n (entry_of old.uses (addr / 4)) in
    subst P last (c.in_ok-machine.ensures.kept (addr / 4) (omega arith) (placed-word (ranges_of old.uses) addr word)))
    h

pub run_entering-requires-clause-clean : goal.run_entering-requires-clause-clean
unfolding table_of
run_entering-requires-clause-clean c =
    subst (IsClean c.args.self.now.uses) (sym c.last_held-from.ensures) c.requires.clean

pub invariant_of-self : goal.invariant_of-self
invariant_of-self c = record {
  within = c.args.self.now.within;
  metered = c.run_entering.ensures.metered;
  apart = c.args.self.now.apart;
  small = c.args.self.now.small;
  whole = c.args.self.now.whole;
}

pub invariant_of-self-2 : goal.invariant_of-self-2
unfolding machines_of spacing_of
invariant_of-self-2 c =
    let old = c.args.self.now in
    record {
      within = le_trans
          (up old.spacing (length (places_of c.push.new.self)) (length (places_of old.held) + 1) c.push.ensures.few)
          c.requires.room;
      metered = c.run_entering.ensures.metered;
      apart = old.apart;
      small = old.small;
      whole = old.whole;
    }

-- as many steps as lie between two held machines
made : (s old new from : ℕ) → new ≡ min (old + (from + s - from)) 18446744073709551615
    → new ≡ min (old + s) 18446744073709551615
made s old new from h = omega arith

pub returns-clause-meter : goal.returns-clause-meter
unfolding meter_of spacing_of
returns-clause-meter c =
    made c.args.self.now.spacing c.args.self.now.meter c.run_entering.new.meter c.last_held-from.result
    c.in_ok-machine.ensures.meter

pub returns-clause-more : goal.returns-clause-more
unfolding machines_of
returns-clause-more c =
    let pushed = c.in_ok-push.ensures.more in
    pushed-length (places_of c.args.self.now.held) pushed.0 _ c.in_ok-machine.machine pushed.1 pushed.2
