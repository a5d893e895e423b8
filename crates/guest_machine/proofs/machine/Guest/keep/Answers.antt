use Rattle.std.proofs.Common.{◌≡◌, ◌∙◌, ap, sym, arith}
use Rattle.guest_elf.specs.Profiles.{is_short}
use Rattle.instructions.specs.Codes.{len_of, row_of_code}
use Rattle.guest_machine.specs.Errors.{fetch_undef}
use Rattle.guest_machine.specs.Exec.{Takes}
use Rattle.guest_machine.specs.Shows.{bytes_of, core_of}
use Rattle.guest_machine.proofs.Fetching.{at_code, keep_half, keep_word}
use Rattle.guest_machine.proofs.machine.Guest.keep.Goals as goal

pub keep_word-requires : goal.keep_word-requires
keep_word-requires c =
    let core = core_of c.args.self.now in
    let bytes = bytes_of c.args.self.now in
    let none : c.args.undef ≡ 0 = omega (arith, c.if-undef-ne0.false) in
    keep_word core bytes c.in-Word.word c.args.instruction (c.requires.taken ∙ ap Takes c.in-Word.is)
    (ap row_of_code (sym c.in-Word.is) ∙ c.requires.row)
    (ap (λ code. fetch_undef core (len_of code)) (sym c.in-Word.is) ∙ sym c.requires.undef ∙ none)
    (sym c.if-not-is_short.ensures)

pub keep_half-requires-clause-aligned : goal.keep_half-requires-clause-aligned
keep_half-requires-clause-aligned c =
    at_code (core_of c.args.self.now) (bytes_of c.args.self.now) c.args.code c.requires.taken

pub keep_half-requires-clause-there : goal.keep_half-requires-clause-there
keep_half-requires-clause-there c =
    let core = core_of c.args.self.now in
    let bytes = bytes_of c.args.self.now in
    let none : c.args.undef ≡ 0 = omega (arith, c.if-undef-ne0.false) in
    keep_half core bytes c.in-Half.half c.args.instruction (c.requires.taken ∙ ap Takes c.in-Half.is)
    (ap row_of_code (sym c.in-Half.is) ∙ c.requires.row)
    (ap (λ code. fetch_undef core (len_of code)) (sym c.in-Half.is) ∙ sym c.requires.undef ∙ none)
    (ap is_short (sym c.from.ensures) ∙ sym c.if-is_short.ensures)
