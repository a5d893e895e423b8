-- Each address is loaded where a segment has it.
use Rattle.std.proofs.Common.{◌∙◌, ap, List}
use Rattle.std.specs.Prelude.{is_some}
use Rattle.guest_elf.specs.Images.{loaded_at, segments_of}
use Rattle.guest_elf.specs.Segments.{loaded}
use Rattle.guest_elf.specs.declared.segment.Segment.{Segment}
use Rattle.guest_elf.proofs.Loading.{any_loaded}
use Rattle.guest_elf.proofs.image.Image.segments.Goals as goal

pub returns-clause-loads : goal.returns-clause-loads
unfolding loaded_at segments_of
returns-clause-loads c address =
    any_loaded c.as_slice.result.now address
    ∙ ap (λ (segments : List Segment). is_some (loaded segments address)) c.as_slice.ensures.value
