use Rattle.std.proofs.Common.{◌≡◌, ◌∙◌, ℕ, List, Option, Some, ap, arith, refl, subst₂}
use Rattle.std.specs.List.{find}
use Rattle.error_events.specs.Groups.{grouped}
use Rattle.error_events.specs.Shown.{groups_of}
use Rattle.error_events.specs.declared.event.Group.{Group}
use Rattle.guest_elf.specs.declared.profile.Isa.{Isa}
use Rattle.guest_machine.specs.Run.{post}
use Rattle.guest_machine.specs.State.{State}
use Rattle.guest_machine.specs.declared.setup.Setup.{Setup}
use Rattle.guest_machine.proofs.IsaLaw.{keeps-isa}
use Rattle.run_values.specs.declared.alteration.Alteration.{Alteration}
use Rattle.checkpoints.proofs.RunSteps.{post-isa}
use Rattle.clean_reports.specs.Uses.{is_use}
use Rattle.clean_reports.specs.Verdicts.{IsFirstInTheWay, NoneInTheWay}
use Rattle.clean_reports.proofs.HeapRuns.{post-begin}
use Rattle.clean_reports.proofs.Verdicts.{certified, found-use, no-use, some-use}
use Rattle.clean_reports.proofs.certifying.certify.Goals as goal

-- none is in the way of the run, if none is with the instruction set of a step's machine
clear : (start : State) (setup : Setup) (marks : List Alteration) (step : ℕ) (isa : Isa) (heap : ℕ)
    → isa ≡ (post start setup marks step).core.isa → heap ≡ (post start setup marks step).core.blocks.begin
    → NoneInTheWay isa heap marks → NoneInTheWay start.core.isa start.core.blocks.begin marks
clear start setup marks step isa heap same at none =
    subst₂ (λ isa heap. NoneInTheWay isa heap marks) (same ∙ post-isa keeps-isa start setup marks step)
    (at ∙ post-begin start setup marks step) none

pub returns-in_default-first_use-clause-verdict : goal.returns-in_default-first_use-clause-verdict
returns-in_default-first_use-clause-verdict c = λ start right none. (
  clear start c.args.setup.now c.args.marks.now c.args.step c.isa.result c.heap_begin.result
      (c.isa.ensures _ (c.in_ok-machine.ensures.shows start right))
      (c.heap_begin.ensures _ (c.in_ok-machine.ensures.shows start right)) c.in_default.ensures.none,
  no-use (groups_of c.groups.result.now) _ (c.groups.ensures _ (c.in_ok-machine.ensures.shows start right))
      c.in_default-first_use.ensures,
  c.has_ended.ensures _ (c.in_ok-machine.ensures.shows start right),
)

pub returns-in_default-first_use-clause-certified : goal.returns-in_default-first_use-clause-certified
returns-in_default-first_use-clause-certified c = λ ended is image start right begins bytes.
    certified image start c.args.setup.now c.args.marks.now c.args.step begins bytes
    (clear start c.args.setup.now c.args.marks.now c.args.step c.isa.result c.heap_begin.result
    (c.isa.ensures _ (c.in_ok-machine.ensures.shows start right))
    (c.heap_begin.ensures _ (c.in_ok-machine.ensures.shows start right)) c.in_default.ensures.none)
    (no-use (groups_of c.groups.result.now) _ (c.groups.ensures _ (c.in_ok-machine.ensures.shows start right))
    c.in_default-first_use.ensures)

pub returns-in_err-first_use_step-clause-right : goal.returns-in_err-first_use_step-clause-right
returns-in_err-first_use_step-clause-right c =
    λ start right. c.first_use_step.ensures.right start (c.at_altered.ensures.right start right)

pub returns-clause-verdict : goal.returns-clause-verdict
returns-clause-verdict c = λ start right none.
    let group = c.in-Some-first_use.group in
    let es = (post start c.args.setup.now c.args.marks.now c.args.step).events in
    let is : ◌≡◌ {A = Option Group} (Some group) (find (λ g. is_use g.kind) (grouped es)) =
    c.in-Some-first_use.ensures
    ∙ ap (find (λ g. is_use g.kind)) (c.groups.ensures _ (c.in_ok-machine.ensures.shows start right)) in
    let some = some-use es group is in
    let there = c.at_altered.ensures.right start right in
    let below = c.in_ok-first_use_step.ensures.below start there none some in (
      clear start c.args.setup.now c.args.marks.now c.args.step c.isa.result c.heap_begin.result
          (c.isa.ensures _ (c.in_ok-machine.ensures.shows start right))
          (c.heap_begin.ensures _ (c.in_ok-machine.ensures.shows start right)) c.in_default.ensures.none,
      found-use start c.args.setup.now c.args.marks.now c.args.step c.in_ok-first_use_step.field-0 group is
          (omega (arith, below)) (c.in_ok-first_use_step.ensures.raises start there none some) _ refl refl refl,
    )

pub returns-in-Some-clause-verdict : goal.returns-in-Some-clause-verdict
returns-in-Some-clause-verdict c = λ start right none.
    subst₂ (λ (isa : Isa) (heap : ℕ). IsFirstInTheWay isa heap c.args.marks.now c.in-Some.index c.in-Some.mark)
    (c.isa.ensures _ (c.in_ok-machine.ensures.shows start right)
    ∙ post-isa keeps-isa start c.args.setup.now c.args.marks.now c.args.step)
    (c.heap_begin.ensures _ (c.in_ok-machine.ensures.shows start right)
    ∙ post-begin start c.args.setup.now c.args.marks.now c.args.step) c.in-Some.ensures.some

pub returns-clause-right : goal.returns-clause-right
returns-clause-right c =
    λ start right. c.first_use_step.ensures.right start (c.at_altered.ensures.right start right)
