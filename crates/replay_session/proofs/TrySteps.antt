-- What edits that give the input bytes leave, and what is known of a run to which such an edit leads.
use Rattle.std.proofs.Common.{◌≡◌, ◌≤◌, ℕ, arith, Bool, true, false, List, length, refl, sym, cond, nat_lt}
use Rattle.std.proofs.Math.Path.{transport}
use Rattle.checkpoints.specs.Effects.{IsOfSetup, LeadsTo, Run}
use Rattle.checkpoints.specs.declared.effect.Effect.{Effect}
use Rattle.checkpoints.specs.declared.effect.Effect.TheVariants.{Nowhere, End}
use Rattle.checkpoints.specs.declared.effect.Effect.TheVariants.{Input as InputFrom}
use Rattle.commands.specs.declared.edit.Edit.{Edit}
use Rattle.commands.specs.declared.edit.Edit.TheVariants.{Input, Append, Cut, Overwrite, Give, Patch, PatchHalf, Mark}
use Rattle.commands.specs.declared.edit.Edit.TheVariants.{Unmark, Switch, Add, Callers, Redzone, Volume, Show}
use Rattle.guest_machine.specs.declared.setup.Setup.{Setup}
use Rattle.run_values.specs.declared.alteration.Alteration.{Alteration}
use Rattle.scenario.specs.Edits.{alike, input_effect, row, with_input}
use Rattle.scenario.specs.Scenario.{Scenario, first_state, limit_of, run_of}
use Rattle.replay_session.specs.Trying.{GivesInput}

-- where another input shows, only the setup changes
by-tests : (a b : Bool) (n : ℕ) → IsOfSetup (cond a (InputFrom n) (cond b End Nowhere))
by-tests true b n = tt
by-tests false true n = tt
by-tests false false n = tt

of-input : (old new : List ℕ) → IsOfSetup (input_effect old new)
unfolding input_effect
of-input old new = by-tests (nat_lt (alike old new) (length old)) (nat_lt (length old) (length new)) (alike old new)

pub of-setup : (sc : Scenario) (edit : Edit) → GivesInput edit → IsOfSetup (row sc edit).effect
of-setup sc (Overwrite offset bytes) gives = of-input sc.setup.input _
of-setup sc (Give bytes) gives = of-input sc.setup.input bytes
of-setup sc _ gives = absurd gives

-- the input of before, given again
pub as-before : (sc : Scenario) (edit : Edit) → GivesInput edit → with_input (row sc edit).after sc.setup.input ≡ sc
as-before sc (Overwrite offset bytes) gives = refl
as-before sc (Give bytes) gives = refl
as-before sc _ gives = absurd gives

-- no edit chooses another step
pub same-step : (sc : Scenario) (edit : Edit) → (row sc edit).after.step ≡ sc.step
same-step sc (Input offset byte) = refl
same-step sc (Append byte) = refl
same-step sc Cut = refl
same-step sc (Overwrite offset bytes) = refl
same-step sc (Give bytes) = refl
same-step sc (Patch addr word) = refl
same-step sc (PatchHalf addr half) = refl
same-step sc (Mark mark) = refl
same-step sc (Unmark index) = refl
same-step sc (Switch index on) = refl
same-step sc (Add rule) = refl
same-step sc (Callers n) = refl
same-step sc (Redzone n) = refl
same-step sc (Volume n) = refl
same-step sc (Show kinds) = refl

-- an edit leaves the greatest step, too
same-limit : (sc : Scenario) (edit : Edit) → (row sc edit).after.limit ≡ sc.limit
same-limit sc (Input offset byte) = refl
same-limit sc (Append byte) = refl
same-limit sc Cut = refl
same-limit sc (Overwrite offset bytes) = refl
same-limit sc (Give bytes) = refl
same-limit sc (Patch addr word) = refl
same-limit sc (PatchHalf addr half) = refl
same-limit sc (Mark mark) = refl
same-limit sc (Unmark index) = refl
same-limit sc (Switch index on) = refl
same-limit sc (Add rule) = refl
same-limit sc (Callers n) = refl
same-limit sc (Redzone n) = refl
same-limit sc (Volume n) = refl
same-limit sc (Show kinds) = refl

pub stays-near : (sc : Scenario) (edit : Edit) → sc.step ≤ limit_of sc
    → (row sc edit).after.step ≤ limit_of (row sc edit).after
stays-near sc edit near = omega (arith, near, same-step sc edit, same-limit sc edit)

-- what holds of each run that an effect leads to holds of a scenario's run
pub led : (effect : Effect) (one : Run) (sc : Scenario) (setup : Setup) (marks : List Alteration) (step : ℕ)
    (P : Setup → List Alteration → ℕ → Type 0)
    → setup ≡ sc.setup → marks ≡ sc.marks → step ≡ sc.step
    → (LeadsTo effect one (record { start = first_state sc; setup = setup; marks = marks }) → P setup marks step)
    → LeadsTo effect one (run_of sc) → P sc.setup sc.marks sc.step
led effect one sc setup marks step P given marked chosen holds leads =
    transport (λ i. P (given i) (marked i) (chosen i))
    (holds (transport
    (λ i. LeadsTo effect one (record { start = first_state sc; setup = sym given i; marks = sym marked i })) leads))
