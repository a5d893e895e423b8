-- What a sweep begins with: where no word is written into a scenario, its run begins with the start of its program.
use Rattle.std.proofs.Common.{◌≡◌, List, [], ap, sym, ◌∙◌, subst}
use Rattle.guest_elf.specs.declared.image.Image.{Image}
use Rattle.guest_machine.specs.Run.{start_state}
use Rattle.guest_machine.specs.Shows.{Shows}
use Rattle.guest_machine.specs.declared.machine.Machine.{Machine}
use Rattle.guest_machine.specs.declared.setup.Setup.{Setup}
use Rattle.run_values.specs.declared.alteration.Alteration.{Alteration}
use Rattle.checkpoints.specs.Edits.{IsRightForRun}
use Rattle.checkpoints.specs.Trails.{IsRightFor, LoadsAs}
use Rattle.checkpoints.specs.declared.trail.Trail.{Trail}
use Rattle.scenario.specs.Scenario.{Scenario, first_state, run_of, with_words}

module _ (image : Image) (sc : Scenario) (is : image ≡ sc.image) (unedited : sc.words ≡ []) where
  begins : start_state image ≡ first_state sc
  unfolding first_state
  begins = ap start_state is ∙ ap (with_words (start_state sc.image)) (sym unedited)

  pub begins-right : (trail : Trail) → ((setup : Setup) (marks : List Alteration)
      → IsRightFor trail (start_state image) setup marks) → IsRightForRun trail (run_of sc)
  begins-right trail right = subst (λ s. IsRightFor trail s sc.setup sc.marks) begins (right sc.setup sc.marks)

  pub begins-shown : (machine : Machine) → Shows machine (start_state image) → Shows machine (first_state sc)
  begins-shown machine = subst (Shows machine) begins

  pub begins-loaded : (trail : Trail) → LoadsAs trail image → LoadsAs trail sc.image
  begins-loaded trail = subst (LoadsAs trail) is
