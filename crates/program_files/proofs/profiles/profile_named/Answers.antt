use Rattle.std.proofs.Common.{◌≡◌, ◌∙◌, ◌&&◌, not, if◌then◌else◌, Bool, true, false, IsSome, List, None}
use Rattle.std.proofs.Common.{Option, Some}
use Rattle.std.proofs.Common.{ap₂, refl, subst, sym, ℕ}
use Rattle.std.proofs.lemmas.Bool.{true≢false}
use Rattle.memory_map.specs.Regions.{are_regions, first_fault, is_heap_begin, is_stack_region, overlap}
use Rattle.memory_map.specs.declared.regions.Regions.{Regions}
use Rattle.memory_map.specs.declared.regions.RegionsFault.TheVariants.{Heap, Stack, Meet}
use Rattle.memory_map.specs.declared.regions.StackRegion.{StackRegion}
use denote.Ref.{Bor}
use Rattle.command_line.specs.Isas.{isa_named}
use Rattle.command_line.specs.declared.order.ProfileArgs.{ProfileArgs}
use Rattle.exit_status.proofs.EndSteps.{same-error}
use Rattle.exit_status.specs.declared.ends.End.{End}
use Rattle.exit_status.specs.declared.ends.End.TheVariants.{BadMostMoved, BadMostOutput}
use Rattle.program_files.specs.Profiles.{NoProfile, fault_in, heap_in, moved_in, output_in, stack_in}
use Rattle.program_files.proofs.profiles.profile_named.Goals as goal

-- regions that are sound have no fault
sound-regions : (heap begin end : ℕ) → are_regions heap begin end ≡ true → first_fault heap begin end ≡ None
unfolding first_fault
sound-regions heap begin end sound = go (is_heap_begin heap) (is_stack_region begin end) (overlap heap begin end) sound
  where
    go : (h s m : Bool) → h && (s && not m) ≡ true
        → (if not h then Some Heap else if not s then Some Stack else if m then Some Meet else None) ≡ None
    go true true false is = refl
    go true true true is = absurd (true≢false (sym is))
    go true false m is = absurd (true≢false (sym is))
    go false s m is = absurd (true≢false (sym is))

no-fault : (words : ProfileArgs) (regions : Regions) (heap : ℕ) (stack : StackRegion) → regions.heap ≡ heap
    → regions.stack ≡ stack → heap ≡ heap_in words.heap.now → stack ≡ stack_in words.stack.now
    → fault_in words ≡ None
no-fault words regions heap stack at bounds is are =
    ap₂ (λ h (s : StackRegion). first_fault h s.begin s.end) (sym is ∙ sym at) (sym are ∙ sym bounds)
    ∙ sound-regions regions.heap regions.stack.begin regions.stack.end regions.sound

bad-moved : (words : ProfileArgs) (end : End)
    → (text : Bor (List ℕ)) × (words.most_moved ≡ Some text) × (moved_in words.most_moved ≡ None)
    × (end ≡ BadMostMoved text)
    → IsSome (isa_named words.isa.now) → fault_in words ≡ None → NoProfile words end
bad-moved words end (text, given, none, is) isa fine = subst (NoProfile words) (sym is) (given, isa, fine, none)

bad-output : (words : ProfileArgs) (end : End)
    → (text : Bor (List ℕ)) × (words.most_output ≡ Some text) × (output_in words.most_output ≡ None)
    × (end ≡ BadMostOutput text)
    → IsSome (isa_named words.isa.now) → fault_in words ≡ None → IsSome (moved_in words.most_moved)
    → NoProfile words end
bad-output words end (text, given, none, is) isa fine moved =
    subst (NoProfile words) (sym is) (given, isa, fine, moved, none)

pub returns-in_err-most_moved-clause-err : goal.returns-in_err-most_moved-clause-err
returns-in_err-most_moved-clause-err c =
    let isa : IsSome (isa_named c.args.words.isa.now) = subst IsSome c.in-Some.ensures refl in
    let fine =
    no-fault c.args.words c.in-Ok.regions _ _ c.in-Ok.ensures.heap c.in-Ok.ensures.stack c.heap_in.ensures
    c.stack_in.ensures in
    same-error c.from_residual.result c.in_err-most_moved.field-0.0 (NoProfile c.args.words) c.from_residual.ensures.1
    (bad-moved c.args.words c.in_err-most_moved.field-0.0 c.in_err-most_moved.ensures.err isa fine)

pub returns-in_err-most_output-clause-err : goal.returns-in_err-most_output-clause-err
returns-in_err-most_output-clause-err c =
    let isa : IsSome (isa_named c.args.words.isa.now) = subst IsSome c.in-Some.ensures refl in
    let fine =
    no-fault c.args.words c.in-Ok.regions _ _ c.in-Ok.ensures.heap c.in-Ok.ensures.stack c.heap_in.ensures
    c.stack_in.ensures in
    let moved : IsSome (moved_in c.args.words.most_moved) = subst IsSome (sym c.in_ok-most_moved.ensures.ok) refl in
    same-error c.from_residual-in_err-most_output.result c.in_err-most_output.field-0.0 (NoProfile c.args.words)
    c.from_residual-in_err-most_output.ensures.1
    (bad-output c.args.words c.in_err-most_output.field-0.0 c.in_err-most_output.ensures.err isa fine moved)
