use Rattle.std.proofs.Common.{◌≡◌, ◌||◌, ◌<◌, ◌∙◌, ap, sym, All, true, false, rules, subst}
use Rattle.std.proofs.lemmas.List.Sorted.{All-permutation, IsNonDecreasingBy-from_sort_by_key}
use Rattle.std.specs.List.{list_any}
use Rattle.std.specs.List.Sorted.{IsNonDecreasingBy}
use Rattle.guest_elf.proofs.Meeting.{two_meet_moved}
use Rattle.guest_elf.proofs.Splitting.{loads_some}
use Rattle.guest_elf.specs.File.{any_two_meet, has_overlap, loads_of, meets_region}
use Rattle.guest_elf.specs.declared.program.ProgramHeader.{ProgramHeader}
use Rattle.guest_elf.proofs.overlaps.has_overlap.Goals as goal

pub returns-then-any_in_region : goal.returns-then-any_in_region
unfolding has_overlap
returns-then-any_in_region c =
    let file = c.args.file.now in
    let regions = c.args.regions in
    let meets : list_any (meets_region regions) (loads_of regions file) ≡ true =
    sym (ap (list_any (meets_region regions)) c.requires.listed) ∙ cc in
    sym (ap (λ b. b || any_two_meet (loads_of regions file)) meets)

pub any_two_meet-requires-clause-ascending : goal.any_two_meet-requires-clause-ascending
any_two_meet-requires-clause-ascending c =
    subst (IsNonDecreasingBy (λ (h : ProgramHeader). h.vaddr)) (sym c.deref.ensures.value)
    (IsNonDecreasingBy-from_sort_by_key (λ (h : ProgramHeader). h.vaddr) _ c.sort_unstable_by_key.ensures.sorted
    (λ a r q k. search rules))

pub any_two_meet-requires-clause-some_bytes : goal.any_two_meet-requires-clause-some_bytes
any_two_meet-requires-clause-some_bytes c =
    let file = c.args.file.now in
    let P = λ (h : ProgramHeader). 0 < h.memsz in
    let some = loads_some c.args.regions file c.requires.good.good in
    let copied : c.in_ok-sorted.sorted.items ≡ c.args.loads.now = search rules in
    subst (All P) (sym c.deref.ensures.value)
    (All-permutation P _ _ c.sort_unstable_by_key.ensures.permutation
    (subst (All P) (sym (copied ∙ c.requires.listed)) some))

pub returns : goal.returns
unfolding has_overlap
returns c =
    let file = c.args.file.now in
    let regions = c.args.regions in
    let apart : list_any (meets_region regions) (loads_of regions file) ≡ false =
    sym (ap (list_any (meets_region regions)) c.requires.listed) ∙ cc in
    let copied : c.in_ok-sorted.sorted.items ≡ c.args.loads.now = search rules in
    c.any_two_meet.ensures ∙ ap any_two_meet c.deref.ensures.value
    ∙ two_meet_moved _ _ c.sort_unstable_by_key.ensures.permutation ∙ ap any_two_meet (copied ∙ c.requires.listed)
    ∙ sym (ap (λ b. b || any_two_meet (loads_of regions file)) apart)
