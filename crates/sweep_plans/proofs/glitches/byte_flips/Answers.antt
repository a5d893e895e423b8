use Rattle.std.proofs.Common.{◌≡◌, ℕ, ◌+◌, ◌-◌, ◌*◌, ◌%◌, ◌<◌, ◌++◌, ◌∷◌, [], refl, ap, ap₂, sym, ◌∙◌, arith}
use Rattle.std.proofs.lemmas.Grind.{one_shifted}
use Rattle.sweep_plans.specs.declared.change.Change.{Change}
use Rattle.sweep_plans.specs.declared.change.Change.TheVariants.{Once}
use Rattle.sweep_plans.specs.declared.change.Glitch.TheVariants.{Turn}
use Rattle.sweep_plans.proofs.GlitchSteps.{all-byte-flips, byte-flip-next, byte_flips_to, no-byte-flips}
use Rattle.sweep_plans.proofs.glitches.byte_flips.Goals as goal

pub loop-bit-init : goal.loop-bit-init
loop-bit-init c = c.new-changes.ensures.items ∙ sym (no-byte-flips c.args.step c.args.addr)

pub loop-bit-preserved : goal.loop-bit-preserved
loop-bit-preserved c =
    let bit = c.loop-bit.bit in
    let addr = c.args.addr in
    let small : 8 * (addr % 4) + bit < 32 = omega arith in
    let shifted = (one_shifted (8 * (addr % 4) + bit) 4294967295 refl small).0 in
    c.in_ok-push.ensures.items
    ∙ ap₂ (λ xs mask. xs ++ Once c.args.step (Turn (addr - addr % 4) mask) ∷ []) c.loop-bit.invariant shifted
    ∙ sym (byte-flip-next c.args.step addr bit)

pub returns : goal.returns
returns c =
    let all : c.loop-bit.bit ≡ 8 = omega arith in
    c.loop-bit.invariant ∙ ap (byte_flips_to c.args.step c.args.addr) all ∙ all-byte-flips c.args.step c.args.addr
