use Rattle.std.proofs.Common.{◌∙◌, false, ap, subst, sym}
use Rattle.shadow_memory.specs.Shadows.{HasDefined}
use Rattle.definedness.specs.declared.Bits.{Bits}
use Rattle.instructions.specs.Widths.{width_len}
use Rattle.guest_machine.specs.Registers.{known}
use Rattle.guest_machine.specs.Effects.{Effect, next_of, results_in}
use Rattle.guest_machine.specs.Exec.{no_intake, nothing}
use Rattle.guest_machine.specs.Shows.{bytes_of, core_of}
use Rattle.guest_machine.specs.Doing.{Does}
use Rattle.guest_machine.proofs.AtOnce.{load-at-once}
use Rattle.guest_machine.proofs.machine.Guest.load_of.Goals as goal

pub returns : goal.returns
returns c =
    let core = core_of c.args.self.now in
    let bytes = bytes_of c.args.self.now in
    let width = c.args.width in
    let has = subst (λ a. HasDefined bytes core.shadow a (width_len width) c.in-Some.value) c.target.ensures
    c.in-Some.ensures.has in
    let same = ap (results_in core (next_of core c.args.len) c.args.rd) (c.known.ensures ∙ ap known c.extended.ensures)
    ∙ load-at-once core (next_of core c.args.len) bytes width c.args.signed c.args.rd c.args.rs1 c.args.imm
    c.in-Some.value
    (ap (λ (b : Bits). b.undef) (sym c.read_register.ensures) ∙ c.if-read_register-eq0.true) has in
    subst (λ (e : Effect). Does c.args.self.now c.result_in.new.self e nothing false no_intake) same c.result_in.ensures
