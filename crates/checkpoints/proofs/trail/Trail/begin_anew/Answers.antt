use Rattle.std.proofs.Common.{◌≡◌, ℕ, ◌<◌, ◌-◌, ◌*◌, ◌∙◌, List, [], ◌∷◌, refl, ap, sym, arith, length, take, inl}
use Rattle.std.proofs.Common.{subst}
use Rattle.std.proofs.Math.Nat.{mul-zero, mul-one}
use Rattle.checkpoints.proofs.SpacingSteps.{up}
use Rattle.std.proofs.Math.ListN.{set}
use Rattle.guest_machine.specs.State.{State}
use Rattle.guest_machine.specs.Run.{poked, pre}
use Rattle.guest_machine.specs.Shows.{Shows}
use Rattle.guest_machine.specs.declared.machine.Machine.{Machine}
use Rattle.checkpoints.specs.FirstUses.{uses_word}
use Rattle.checkpoints.specs.FirstEffects.{IsBelowFirst}
use Rattle.checkpoints.specs.Trails.{machines_of, last_held, first_use, table_of, spacing_of}
use Rattle.checkpoints.proofs.HeldSteps.{one-held, held-at}
use Rattle.checkpoints.proofs.FirstSteps.{first-of-none}
use Rattle.checkpoints.proofs.EffectSteps.{keeps-cut}
use Rattle.checkpoints.proofs.TrailSteps.{some-held, keeps-same, each-written}
use Rattle.checkpoints.proofs.PlaceSteps.{some-places}
use Rattle.checkpoints.proofs.trail.Trail.begin_anew.Goals as goal

pub at-requires : goal.at-requires
at-requires c = some-places c.args.self.now.held

-- one machine is left, the new one
alone : (ms : List Machine) (m : Machine) → 0 < length ms → set (take 1 ms) 0 m ≡ m ∷ []
alone [] m l = absurd (omega arith)
alone (x ∷ xs) m l = refl

one-left : (ms left : List Machine) → left ≡ take 1 ms → 0 < length ms → length left ≡ 1
one-left [] left e l = absurd (omega arith)
one-left (x ∷ xs) left e l = ap length e

pub returns-clause-right : goal.returns-clause-right
unfolding machines_of last_held first_use table_of poked pre spacing_of
returns-clause-right c one other l h =
    let old = c.args.self.now in
    let new = c.put_first.new.self in
    let start = c.in_ok-begun.begun in
    let only = c.put_first.ensures.machines ∙ ap (λ ms. set ms 0 start) c.keep.ensures.machines
    ∙ alone (machines_of old) start (some-held old) in
    let was : Shows c.at.result.now one.start =
    held-at old.spacing (machines_of old) c.at.result.now 0 0 one.start one.setup
    one.marks h.held c.at.ensures (some-held old) (sym (mul-zero old.spacing)) in
    let shows : Shows start other.start = (let P : State → Type 0 = λ s. Shows start s in subst P (sym l.start)
    (c.in_ok-begun.ensures _ was)) in
    record {
      nothing_read = ap (λ (s : State). s.position) l.start ∙ h.nothing_read;
      nothing_ended = ap (λ (s : State). s.end_seen) l.start ∙ h.nothing_ended;
      nothing_called = ap (λ (s : State). s.heap_calls) l.start ∙ h.nothing_called;
      held = one-held new.spacing start (machines_of new) other.start other.setup other.marks only shows;
      uses =
          λ addr word. first-of-none (uses_word other.start other.setup other.marks addr) _ _
          (ap (λ (ms : List Machine). new.spacing * (length ms - 1)) only ∙ mul-zero new.spacing);
    }

pub returns-clause-followed : goal.returns-clause-followed
unfolding machines_of
returns-clause-followed c =
    let old = c.args.self.now in
    let new = c.put_first.new.self in
    let start = c.in_ok-begun.begun in
    let set-up = c.put_first.ensures.machines ∙ ap (λ ms. set ms 0 start) c.keep.ensures.machines in
    let size = ap length (set-up ∙ alone (machines_of old) start (some-held old)) in
    each-written old new new 1 c.at.result.now start c.args.addr c.args.code set-up (omega arith) c.at.ensures
    c.in_ok-begun.ensures (λ d. refl) (λ i up l. absurd (omega (arith, size))) (omega arith)

pub returns-clause-kept : goal.returns-clause-kept
unfolding machines_of spacing_of
returns-clause-kept c start setup marks h =
    let old = c.args.self.now in
    let left = c.keep.new.self in
    let new = c.put_first.new.self in
    let made = c.in_ok-begun.begun in
    let P : ℕ → Type 0 = λ k. 0 < k in
    let kept = keeps-cut P old left 1 c.keep.ensures.machines c.keep.ensures.spacing (omega arith)
    (λ i later l hidden. hidden (old.spacing * i) (omega arith)
    (omega (arith, old.apart, mul-one old.spacing, up old.spacing 1 i later)))
    (λ j l shown. omega (arith, l, shown, mul-zero old.spacing)) in
    let size = ap length (c.put_first.ensures.machines ∙ ap (λ ms. set ms 0 made) c.keep.ensures.machines
    ∙ alone (machines_of old) made (some-held old)) in
    let before : length (machines_of left) ≡ 1 = one-left (machines_of old) (machines_of left) c.keep.ensures.machines
    (some-held old) in
    inl (
      keeps-same (IsBelowFirst P) old left new (size ∙ sym before) c.put_first.ensures.spacing kept,
      c.put_first.ensures.short
          ∙ c.keep.ensures.short,
    )
