use Rattle.std.proofs.Common.{◌∙◌, ap, List}
use Rattle.std.specs.Prelude.{is_some}
use Rattle.guest_elf.specs.Images.{loaded_at, segments_of}
use Rattle.guest_elf.specs.Segments.{loaded}
use Rattle.guest_elf.specs.declared.segment.Segment.{Segment}
use Rattle.guest_elf.proofs.Loading.{any_loaded}
use Rattle.guest_elf.proofs.image.Image.is_loaded.Goals as goal

pub returns : goal.returns
unfolding loaded_at segments_of
returns c =
    let has = c.has_any.ensures in
    has ∙ any_loaded c.deref.result.now c.args.addr
    ∙ ap (λ (segments : List Segment). is_some (loaded segments c.args.addr)) c.deref.ensures.value
