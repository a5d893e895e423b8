-- What each part of a line does to the turn of a session.
use Rattle.std.proofs.Common.{◌≡◌, ℕ, ◌-◌, true, false, refl, ap, sym, ◌∙◌, Result, Ok, Err, List, length, take}
use Rattle.std.proofs.Math.Path.{transport}
use Rattle.std.proofs.lemmas.Bool.{false≢true}
use Rattle.std.specs.Prelude.{OnErr, OnOk, is_err, is_some}
use Rattle.guest_elf.specs.Images.{loaded_at}
use Rattle.guest_elf.specs.declared.image.Image.{Image}
use Rattle.checkpoints.specs.Edits.{IsRightForLed, IsRightForRun}
use Rattle.checkpoints.specs.Effects.{IsWrite, LeadsTo}
use Rattle.checkpoints.specs.Trails.{LoadsAs, loaded_of}
use Rattle.checkpoints.specs.Words.{is_among}
use Rattle.checkpoints.specs.declared.effect.Effect.{Effect}
use Rattle.checkpoints.specs.declared.trail.Trail.{Trail}
use Rattle.scenario.specs.Edits.{Follows, IsTaken, input_effect, overwritten, row}
use Rattle.scenario.specs.Scenario.{Scenario, run_of}
use Rattle.commands.specs.declared.edit.Edit.{Edit as AnEdit}
use Rattle.commands.specs.declared.edit.Edit.TheVariants.{Input, Append, Cut, Patch, Mark, Unmark, Switch, Add, Callers}
use Rattle.commands.specs.declared.edit.Edit.TheVariants.{PatchHalf, Redzone, Volume, Show, Overwrite, Give}
use Rattle.instructions.specs.declared.code.Code.TheVariants.{Half, Word}
use Rattle.scenario.proofs.EditLaws.{cut-appended, image_kept}
use Rattle.scenario.proofs.InputSteps.{of-input}

-- ---- edits

-- the trail goes over to the run of the edited scenario
pub followed : Follows → (sc after : Scenario) (edit : AnEdit) (effect : Effect) (old new : Trail) → IsTaken sc edit
    → effect ≡ (row sc edit).effect → after ≡ (row sc edit).after
    → IsRightForLed effect old new → IsRightForRun old (run_of sc) → IsRightForRun new (run_of after)
followed law sc after edit effect old new taken is left led right =
    let leads : LeadsTo effect (run_of sc) (run_of after) = transport
    (λ i. LeadsTo (sym is i) (run_of sc) (run_of (sym left i))) (law sc edit taken) in
    led (run_of sc) (run_of after) leads right

pub loads-followed : (sc after : Scenario) (edit : AnEdit) (old new : Trail) → after ≡ (row sc edit).after
    → loaded_of new ≡ loaded_of old → LoadsAs old sc.image → LoadsAs new after.image
loads-followed sc after edit old new left same loads a =
    ap (λ ranges. is_among ranges a) same ∙ loads a
    ∙ ap (λ (image : Image). is_some (loaded_at image a))
    (sym (ap (λ (s : Scenario). s.image) left ∙ image_kept sc edit))

-- what holds of a result that is no error
pub no-error : {T E P : Type 0} (r : Result T E) → is_err r ≡ false → OnOk r P → P
no-error (Ok x) h p = p
no-error (Err e) h p = absurd (false≢true (sym h))

-- and of one that is
pub an-error : {T E P : Type 0} (r : Result T E) → is_err r ≡ true → OnErr r P → P
an-error (Ok x) h p = absurd (false≢true h)
an-error (Err e) h p = p

-- another input writes no code
writes-nothing : (old new : List ℕ) → IsWrite (input_effect old new) → ⊥
writes-nothing = of-input (λ effect. IsWrite effect → ⊥) (λ h. h) (λ h. h) (λ n h. h)

-- a word that is written and removed again leaves the turn
pub word-dropped : (sc : Scenario) (edit : AnEdit) → IsWrite (row sc edit).effect
    → record (row sc edit).after { words = take (length (row sc edit).after.words - 1) (row sc edit).after.words } ≡ sc
word-dropped sc (Patch addr word) h =
    ap (λ ws. record sc { words = ws }) (cut-appended sc.words (record { addr = addr; code = Word word }))
word-dropped sc (PatchHalf addr half) h =
    ap (λ ws. record sc { words = ws }) (cut-appended sc.words (record { addr = addr; code = Half half }))
word-dropped sc (Input offset byte) h = absurd h
word-dropped sc (Append byte) h = absurd h
word-dropped sc (Overwrite offset bytes) h =
    absurd (writes-nothing sc.setup.input (overwritten sc.setup.input offset bytes) h)
word-dropped sc (Give bytes) h = absurd (writes-nothing sc.setup.input bytes h)
word-dropped sc Cut h = absurd h
word-dropped sc (Mark mark) h = absurd h
word-dropped sc (Unmark i) h = absurd h
word-dropped sc (Switch i on) h = absurd h
word-dropped sc (Add rule) h = absurd h
word-dropped sc (Callers n) h = absurd h
word-dropped sc (Redzone n) h = absurd h
word-dropped sc (Volume n) h = absurd h
word-dropped sc (Show kinds) h = absurd h

-- an edit that writes a code needs memory
pub writes-need : (sc : Scenario) (edit : AnEdit) → IsWrite (row sc edit).effect → (row sc edit).may_fail ≡ true
writes-need sc (Patch addr word) h = refl
writes-need sc (PatchHalf addr half) h = refl
writes-need sc (Input offset byte) h = absurd h
writes-need sc (Append byte) h = refl
writes-need sc (Overwrite offset bytes) h = refl
writes-need sc (Give bytes) h = refl
writes-need sc Cut h = absurd h
writes-need sc (Mark mark) h = refl
writes-need sc (Unmark i) h = absurd h
writes-need sc (Switch i on) h = absurd h
writes-need sc (Add rule) h = refl
writes-need sc (Callers n) h = absurd h
writes-need sc (Redzone n) h = absurd h
writes-need sc (Volume n) h = absurd h
writes-need sc (Show kinds) h = absurd h
