-- A trail of a scenario's run: the codes that an edit writes are among its ranges, and asking it for a machine leaves
-- it right.
use Rattle.std.proofs.Common.{◌≡◌, ℕ, ◌+◌, ◌≤◌, ◌<◌, Bool, true, List, ap, sym, ◌∙◌, arith, inl, inr, nat_le}
use Rattle.std.proofs.Common.{refl, zero, suc}
use Rattle.std.proofs.Math.Path.{transport}
use Rattle.std.specs.Prelude.{◌^◌, ◌%◌, ◌&&◌, is_some}
use Rattle.std.proofs.lemmas.Bool.Decides.{nat_tests}
use Rattle.error_events.proofs.SameKeys.{left-true, right-true}
use Rattle.guest_elf.specs.Images.{loaded_at}
use Rattle.guest_elf.specs.declared.image.Image.{Image}
use Rattle.guest_machine.specs.Run.{post}
use Rattle.guest_machine.specs.Shows.{Shows}
use Rattle.guest_machine.specs.State.{State}
use Rattle.guest_machine.specs.declared.machine.Machine.{Machine}
use Rattle.guest_machine.specs.declared.setup.Setup.{Setup}
use Rattle.run_values.specs.declared.alteration.Alteration.{Alteration}
use Rattle.checkpoints.specs.Edits.{IsRightForRun}
use Rattle.checkpoints.specs.Effects.{WritesWithin}
use Rattle.checkpoints.specs.Trails.{IsRightFor, LoadsAs, loaded_of}
use Rattle.checkpoints.specs.Words.{is_among, IsCodeIn}
use Rattle.checkpoints.specs.declared.effect.Effect.{Effect}
use Rattle.checkpoints.specs.declared.effect.Effect.TheVariants.{Patch as PatchAt, Anew}
use Rattle.checkpoints.specs.declared.trail.Trail.{Trail}
use Rattle.guest_elf.specs.Images.{has_room, is_half_word, is_loaded, is_word, profile_of}
use Rattle.guest_elf.specs.Profiles.{is_aligned}
use Rattle.instructions.specs.Codes.{len_of}
use Rattle.instructions.specs.declared.code.Code.{Code}
use Rattle.instructions.specs.declared.code.Code.TheVariants.{Half, Word}
use Rattle.scenario.specs.Edits.{is_code, WritesLoaded}
use Rattle.scenario.specs.Scenario.{Scenario, chosen_state, first_state, run_of}

-- a loaded word of an image is in the ranges of its trail, and so is a loaded half
plain : (addr i n : ℕ) → nat_le (addr + n) (2 ^ 32) ≡ true → i < n → (addr + i) % 2 ^ 32 ≡ addr + i
plain addr i n h l = let whole : addr + n ≤ 2 ^ 32 = grind (arith, nat_tests) in omega arith

there : (trail : Trail) (image : Image) (addr i n : ℕ) → LoadsAs trail image → nat_le (addr + n) (2 ^ 32) ≡ true
    → i < n → is_loaded image addr i ≡ true → is_among (loaded_of trail) (addr + i) ≡ true
there trail image addr i n loads whole l h =
    loads (addr + i) ∙ ap (λ a. is_some (loaded_at image a)) (sym (plain addr i n whole l)) ∙ h

pub word-in : (trail : Trail) (image : Image) (addr : ℕ) → LoadsAs trail image → is_word image addr ≡ true
    → IsCodeIn (loaded_of trail) addr 4
unfolding is_word
word-in trail image addr loads is = record {
  sized = inr refl;
  whole = grind (arith, nat_tests);
  loaded = each;
}
  where
    whole : nat_le (addr + 4) (2 ^ 32) ≡ true
    whole = right-true (is_aligned (profile_of image).isa addr) _ (left-true (has_room image addr 4) _ is)

    all : (is_loaded image addr 0 && (is_loaded image addr 1 && (is_loaded image addr 2 && is_loaded image addr 3)))
        ≡ true
    all = right-true (has_room image addr 4) _ is

    one : (is_loaded image addr 1 && (is_loaded image addr 2 && is_loaded image addr 3)) ≡ true
    one = right-true (is_loaded image addr 0) _ all

    two : (is_loaded image addr 2 && is_loaded image addr 3) ≡ true
    two = right-true (is_loaded image addr 1) _ one

    each : (i : ℕ) → i < 4 → is_among (loaded_of trail) (addr + i) ≡ true
    each zero l = there trail image addr 0 4 loads whole l (left-true (is_loaded image addr 0) _ all)
    each (suc zero) l = there trail image addr 1 4 loads whole l (left-true (is_loaded image addr 1) _ one)
    each (suc (suc zero)) l = there trail image addr 2 4 loads whole l (left-true (is_loaded image addr 2) _ two)
    each (suc (suc (suc zero))) l =
        there trail image addr 3 4 loads whole l (right-true (is_loaded image addr 2) _ two)
    each (suc (suc (suc (suc i)))) l = absurd (omega arith)

pub half-in : (trail : Trail) (image : Image) (addr : ℕ) → LoadsAs trail image → is_half_word image addr ≡ true
    → IsCodeIn (loaded_of trail) addr 2
unfolding is_half_word
half-in trail image addr loads is = record {
  sized = inl refl;
  whole = grind (arith, nat_tests);
  loaded = each;
}
  where
    whole : nat_le (addr + 2) (2 ^ 32) ≡ true
    whole = right-true (is_aligned (profile_of image).isa addr) _ (left-true (has_room image addr 2) _ is)

    both : (is_loaded image addr 0 && is_loaded image addr 1) ≡ true
    both = right-true (has_room image addr 2) _ is

    each : (i : ℕ) → i < 2 → is_among (loaded_of trail) (addr + i) ≡ true
    each zero l = there trail image addr 0 2 loads whole l (left-true (is_loaded image addr 0) _ both)
    each (suc zero) l = there trail image addr 1 2 loads whole l (right-true (is_loaded image addr 0) _ both)
    each (suc (suc i)) l = absurd (omega arith)

-- and so is a loaded code of either length
pub code-in : (trail : Trail) (image : Image) (addr : ℕ) (code : Code) → LoadsAs trail image
    → is_code image addr (len_of code) ≡ true → IsCodeIn (loaded_of trail) addr (len_of code)
code-in trail image addr (Word word) loads is = word-in trail image addr loads is
code-in trail image addr (Half half) loads is = half-in trail image addr loads is

pub within : (trail : Trail) (image : Image) (effect : Effect) → LoadsAs trail image → WritesLoaded image effect
    → WritesWithin (loaded_of trail) effect
within trail image (PatchAt addr code) loads h = code-in trail image addr code loads h
within trail image (Anew addr code) loads h = code-in trail image addr code loads h
within trail image _ loads h = tt

-- a trail that a report moved on is right for the same run
pub moved : (sc : Scenario) (setup : Setup) (marks : List Alteration) (old new : Trail) → setup ≡ sc.setup
    → marks ≡ sc.marks
    → ((start : State) → IsRightFor old start setup marks → IsRightFor new start setup marks)
    → IsRightForRun old (run_of sc) → IsRightForRun new (run_of sc)
moved sc setup marks old new given marked right h =
    transport (λ i. IsRightFor new (first_state sc) (given i) (marked i))
    (right (first_state sc) (transport (λ i. IsRightFor old (first_state sc) (sym given i) (sym marked i)) h))

-- what a trail that is right for a run says of it, for the run of a scenario
pub told : (sc : Scenario) (setup : Setup) (marks : List Alteration) (step : ℕ) (old : Trail) (P : State → Setup
    → List Alteration
    → ℕ → Type 0)
    → setup ≡ sc.setup → marks ≡ sc.marks → step ≡ sc.step
    → ((start : State) → IsRightFor old start setup marks → P start setup marks step)
    → IsRightForRun old (run_of sc) → P (first_state sc) sc.setup sc.marks sc.step
told sc setup marks step old P given marked chosen tells h =
    transport (λ i. P (first_state sc) (given i) (marked i) (chosen i))
    (tells (first_state sc) (transport (λ i. IsRightFor old (first_state sc) (sym given i) (sym marked i)) h))

-- the machine that a trail has at the chosen step
pub shown : (sc : Scenario) (setup : Setup) (marks : List Alteration) (step : ℕ) (old : Trail) (machine : Machine)
    → setup ≡ sc.setup → marks ≡ sc.marks → step ≡ sc.step
    → ((start : State) → IsRightFor old start setup marks → Shows machine (post start setup marks step))
    → IsRightForRun old (run_of sc) → Shows machine (chosen_state sc)
unfolding chosen_state
shown sc setup marks step old machine =
    told sc setup marks step old (λ start setup marks step. Shows machine (post start setup marks step))
