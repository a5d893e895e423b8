use Rattle.std.proofs.Common.{◌≡◌, ◌∙◌, None, false, ap, subst, sym}
use Rattle.shadow_memory.specs.Shadows.{first_inaccessible}
use Rattle.definedness.specs.declared.Bits.{Bits}
use Rattle.instructions.specs.Widths.{width_len}
use Rattle.guest_machine.specs.Effects.{Effect, next_of}
use Rattle.guest_machine.specs.Exec.{accessed, no_intake, writing}
use Rattle.guest_machine.specs.Spans.{span_at}
use Rattle.guest_machine.specs.Shows.{core_of}
use Rattle.guest_machine.specs.Doing.{Does, stored_at}
use Rattle.guest_machine.proofs.AtOnce.{store-at-once}
use Rattle.guest_machine.proofs.machine.Guest.store_of.Goals as goal

pub returns-then-store_at_once : goal.returns-then-store_at_once
returns-then-store_at_once c =
    let core = core_of c.args.self.now in
    let n = width_len c.args.width in
    let done = c.if-store_at_once.true in
    let same = ap (stored_at core (next_of core c.args.len) _ n) c.read_register-then-read_register-eq0.ensures
    ∙ store-at-once core (next_of core c.args.len) c.args.width c.args.rs1 c.args.rs2 c.args.imm
    (ap (λ (b : Bits). b.undef) (sym c.read_register.ensures) ∙ c.if-read_register-eq0.true)
    (subst (λ a. first_inaccessible core.shadow a n ≡ None) c.target.ensures (c.store_at_once.ensures.bad done)) in
    let does = subst (λ a. Does c.args.self.now c.store_at_once.new.self
    (stored_at core (next_of core c.args.len) a n c.read_register-then-read_register-eq0.result)
    (writing (span_at a n)) false
    no_intake)
    c.target.ensures (c.store_at_once.ensures.done done) in
    subst (λ (e : Effect). Does c.args.self.now c.store_at_once.new.self e
    (writing (accessed core c.args.rs1 c.args.imm c.args.width)) false no_intake) same does
