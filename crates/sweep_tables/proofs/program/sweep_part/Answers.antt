use Rattle.std.proofs.Common.{◌≡◌, ◌-◌, inl, ap, ap₂, refl, sym, ◌∙◌, subst}
use Rattle.std.proofs.KnownBytes.{Appends-nil}
use Rattle.exit_status.specs.Ends.{end_of}
use Rattle.sweep_plans.specs.Planned.{first_place, part_from, part_to}
use Rattle.sweep_tables.specs.Swept.{case_with}
use Rattle.sweep_tables.specs.Swept.{Writes}
use Rattle.sweep_tables.proofs.SidesSteps.{fits-plan}
use Rattle.sweep_tables.proofs.program.sweep_part.Goals as goal

pub returns-in_default : goal.returns-in_default
returns-in_default g c = inl (Appends-nil (g.W.Write.contents c.args.writer.now))

pub returns : goal.returns
returns g c =
    let plan = c.args.swept.plan.now in
    let part = c.args.swept.part in
    let old = g.W.Write.contents c.args.writer.now in
    let later = g.W.Write.contents c.write_behind.new.writer in
    let case = case_with c.args.material.file.now c.args.material.text.now c.args.material.image
    c.args.material.input.items c.args.material.suppressions.items
    c.args.swept.words.now c.args.swept.named part plan in
    let from : part_from plan part ≡ c.first_place-from.result = sym (c.first_place-from.ensures
    ∙ ap (λ places. first_place places (part.index - 1) part.count) c.places-places.ensures.number) in
    let to : part_to plan part ≡ c.first_place-to.result = sym (c.first_place-to.ensures
    ∙ ap (λ places. first_place places part.index part.count) c.places-places.ensures.number) in
    let met = c.in-Ok.ensures.met in
    subst (λ n. Writes case n old later (end_of c.write_behind.result)) (ap₂ (λ b a. b - a) (sym to) (sym from))
    (c.write_behind.ensures case met.0 refl from c.in-Ok.ensures.scenario c.in-Ok.ensures.output (record {
      range = c.in-Ok.ensures.range;
      fits = fits-plan c.args.swept.words.now.with_sides plan c.args.material.image;
      covered = c.in-Ok.ensures.covered;
    }) met.1
    (c.deref.ensures.value ∙ met.2))
