use Rattle.std.proofs.Common.{◌<◌, ◌∙◌, ap, sym, arith, true, false, length}
use Rattle.std.specs.List.{list_any}
use Rattle.guest_elf.specs.File.{header_count, is_bad_segment}
use Rattle.guest_elf.proofs.Steps.{any_cons, loadable_end, loadable_skip_at, loadable_start, loadable_take_at}
use Rattle.guest_elf.proofs.segments.has_bad_load.Goals as goal
use Rattle.guest_elf.proofs.segments.has_bad_load.Goals.{else-is_load-via-then-is_load+else-is_bad_segment}
use Rattle.guest_elf.proofs.segments.has_bad_load.Goals.{else-is_load-via-else-is_load}

pub loop-index-init : goal.loop-index-init
loop-index-init c = ap (list_any (is_bad_segment (length c.args.file.now))) (loadable_start c.args.file.now)

pub returns-then-is_bad_segment : goal.returns-then-is_bad_segment
returns-then-is_bad_segment c =
    let taken = loadable_take_at c.args.file.now c.loop-index.index c.header_at-header.result c.header_at-header.ensures
    (omega arith) (cc) in
    sym (any_cons (is_bad_segment (length c.args.file.now)) _ _ _ true taken (cc)) ∙ c.loop-index.invariant

pub loop-index-preserved : goal.loop-index-preserved
loop-index-preserved c =
    let listed : c.loop-index.index < header_count c.args.file.now = omega arith in
    elim c.else-is_load.branch [
      | else-is_load-via-then-is_load+else-is_bad_segment w ↦
          let taken = loadable_take_at c.args.file.now c.loop-index.index c.header_at-header.result
          c.header_at-header.ensures listed (cc) in
          sym (any_cons (is_bad_segment (length c.args.file.now)) _ _ _ false taken (cc)) ∙ c.loop-index.invariant
      | else-is_load-via-else-is_load w ↦
          let skipped = loadable_skip_at c.args.file.now c.loop-index.index c.header_at-header.result
          c.header_at-header.ensures listed (cc) in
          sym (ap (list_any (is_bad_segment (length c.args.file.now))) skipped) ∙ c.loop-index.invariant
    ]

pub returns : goal.returns
returns c =
    sym (ap (list_any (is_bad_segment (length c.args.file.now)))
    (loadable_end c.args.file.now c.loop-index.index (omega arith))) ∙ c.loop-index.invariant
