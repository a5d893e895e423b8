use Rattle.std.proofs.Common.{◌≡◌, ◌<◌, ◌∙◌, ◌+◌, ◌++◌, append-nil, append_assoc, ap, sym, arith}
use Rattle.std.specs.List.{flat_map}
use Rattle.guest_elf.proofs.Steps.{loadable_after, loadable_end, loadable_skip_at, loadable_start, loadable_take_at}
use Rattle.guest_elf.specs.File.{header_count, pieces_of}
use Rattle.guest_elf.proofs.pieces.loads_of.Goals as goal
use Rattle.guest_elf.proofs.pieces.loads_of.Goals.{then-is_load+in_ok-push_pieces, else-is_load}

pub loop-index-init : goal.loop-index-init
loop-index-init c =
    let pieces = pieces_of c.args.regions.stack in
    ap (λ loads. loads ++ flat_map pieces (loadable_after c.args.file.now 0)) c.new-loads.ensures.items
    ∙ ap (flat_map pieces) (loadable_start c.args.file.now)

pub loop-index-preserved : goal.loop-index-preserved
loop-index-preserved c =
    let file = c.args.file.now in
    let pieces = pieces_of c.args.regions.stack in
    let listed : c.loop-index.index < header_count file = omega arith in
    elim c.if-is_load.branch [
      | then-is_load+in_ok-push_pieces w ↦
          let taken = loadable_take_at file c.loop-index.index c.header_at-header.result c.header_at-header.ensures
          listed (cc) in
          let pushed : c.if-is_load.loads.items ≡ c.loop-index.loads.items ++ pieces c.header_at-header.result =
          cc (w.in_ok-push_pieces.ensures) in
          ap (λ loads. loads ++ flat_map pieces (loadable_after file (c.loop-index.index + 1))) pushed
          ∙ append_assoc c.loop-index.loads.items (pieces c.header_at-header.result)
          (flat_map pieces (loadable_after file (c.loop-index.index + 1)))
          ∙ ap (λ left. c.loop-index.loads.items ++ flat_map pieces left) (sym taken) ∙ c.loop-index.invariant
      | else-is_load w ↦
          let skipped = loadable_skip_at file c.loop-index.index c.header_at-header.result c.header_at-header.ensures
          listed (cc) in
          let kept : c.if-is_load.loads.items ≡ c.loop-index.loads.items = cc in
          ap (λ loads. loads ++ flat_map pieces (loadable_after file (c.loop-index.index + 1))) kept
          ∙ ap (λ left. c.loop-index.loads.items ++ flat_map pieces left) (sym skipped) ∙ c.loop-index.invariant
    ]

pub returns : goal.returns
returns c =
    let pieces = pieces_of c.args.regions.stack in
    sym (append-nil c.loop-index.loads.items)
    ∙ ap (λ left. c.loop-index.loads.items ++ flat_map pieces left)
    (sym (loadable_end c.args.file.now c.loop-index.index (omega arith)))
    ∙ c.loop-index.invariant
