use Rattle.std.proofs.Common.{◌≡◌, ◌∙◌, ap, sym, ℕ, List, map, IfNone, None, Option, length, subst}
use Rattle.std.specs.List.{list_any}
use Rattle.std.specs.Option.{option_or}
use Rattle.memory_map.specs.declared.regions.Regions.{Regions}
use Rattle.guest_elf.specs.File.{content_in, contents_in, early_refusal, first_loaded, late_refusal, loaded_in}
use Rattle.guest_elf.specs.File.{is_bad_segment, refusal, HasSegments}
use Rattle.guest_elf.specs.declared.fault.ElfFault.{ElfFault}
use Rattle.guest_elf.specs.Images.{loaded_at}
use Rattle.guest_elf.specs.Segments.{content_of, loaded}
use Rattle.guest_elf.specs.declared.program.ProgramHeader.{ProgramHeader}
use Rattle.guest_elf.specs.declared.segment.Segment.{Segment}
use Rattle.guest_elf.proofs.Splitting.{loads_good}
use Rattle.guest_elf.proofs.reading.read_for.Goals as goal

not_refused : (regions : Regions) (file : List ℕ) → early_refusal file ≡ None → late_refusal regions file ≡ None
    → refusal regions file ≡ None
unfolding refusal
not_refused regions file early late = ap (λ o. option_or o (late_refusal regions file)) early ∙ late

pub segments_of-requires : goal.segments_of-requires
segments_of-requires c =
    ap (list_any (is_bad_segment (length c.args.file.now))) (c.deref-2.ensures.value ∙ c.in_ok-loads.ensures)
    ∙ loads_good c.args.profile.regions c.args.file.now (subst (λ (fault : Option ElfFault).
    IfNone fault (HasSegments c.args.file.now)) c.in_default.is c.early_refusal.ensures.segments).good

pub returns-clause-image : goal.returns-clause-image
unfolding contents_in loaded_in loaded_at
returns-clause-image c = record {
  accepted =
      not_refused c.args.profile.regions c.args.file.now (sym c.early_refusal.ensures.value ∙ c.in_default.is)
      (sym c.in_ok-fault.ensures.value ∙ c.in_default-2.is);
  segments =
      ap (λ (segments : List Segment). map content_of segments) c.new.ensures.segments
      ∙ c.in_ok-segments.ensures.contents
      ∙ ap (map (content_in c.args.file.now)) (c.deref-2.ensures.value ∙ c.in_ok-loads.ensures);
  loads = λ address.
      ap (λ (segments : List Segment). loaded segments address) c.new.ensures.segments
      ∙ c.in_ok-segments.ensures.loads address
      ∙ ap (λ (headers : List ProgramHeader). first_loaded c.args.file.now headers address)
      (c.deref-2.ensures.value ∙ c.in_ok-loads.ensures);
  entry = c.new.ensures.entry ∙ c.word_at.ensures;
  names = λ address. c.new.ensures.names address ∙ c.in_ok-names.ensures.names address;
  hooks = c.new.ensures.hooks ∙ c.in_ok-names.ensures.hooks;
  read_for = c.new.ensures.profile;
}
