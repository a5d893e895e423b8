use Rattle.std.proofs.Common.{◌∙◌, ◌+◌, arith, sym, ap, drop}
use Rattle.guest_elf.proofs.Meeting.{begins_early, early_found, early_next, early_none, two_meet_by_order}
use Rattle.guest_elf.specs.declared.program.ProgramHeader.{ProgramHeader}
use Rattle.guest_elf.proofs.overlaps.any_two_meet.Goals as goal

-- the value past the end
abbrev no_header : ProgramHeader
no_header = record { kind = 0; offset = 0; vaddr = 0; filesz = 0; memsz = 0 }

pub returns-then-from-end : goal.returns-then-from-end
returns-then-from-end c =
    let headers = c.args.headers.now in
    sym (early_found headers c.loop-header.header-index c.loop-header.end no_header (omega arith) (omega arith))
    ∙ c.loop-header.invariant ∙ two_meet_by_order headers c.requires.ascending c.requires.some_bytes

pub loop-header-preserved : goal.loop-header-preserved
loop-header-preserved c =
    let headers = c.args.headers.now in
    ap (λ end. begins_early end (drop (c.loop-header.header-index + 1) headers)) c.end-end.ensures
    ∙ sym (early_next headers c.loop-header.header-index c.loop-header.end no_header (omega arith) (omega arith))
    ∙ c.loop-header.invariant

pub returns : goal.returns
returns c =
    let headers = c.args.headers.now in
    sym (early_none headers c.loop-header.header-index c.loop-header.end (omega arith))
    ∙ c.loop-header.invariant ∙ two_meet_by_order headers c.requires.ascending c.requires.some_bytes
