use Rattle.std.proofs.Common.{rules, ◌≡◌, ℕ, arith, subst}
use Rattle.leak_search.specs.Gathering.{Gains, RegisterBelow, listed}
use Rattle.leak_search.proofs.GatherSteps.{registers_step, registers_begin}
use Rattle.leak_search.proofs.gathering.gather_registers.Goals as goal

pub loop-number-init : goal.loop-number-init
loop-number-init c = registers_begin (listed c.args.registers.now) c.args.blocks.now _

pub loop-number-preserved : goal.loop-number-preserved
loop-number-preserved c =
    registers_step (listed c.args.registers.now) c.args.blocks.now c.loop-number.number _ _ _
    (search rules) c.loop-number.invariant c.in_ok-add_register.ensures

pub returns : goal.returns
returns c =
    let end : c.loop-number.number ≡ 32 = search (rules, arith) in
    subst (λ (n : ℕ). Gains (RegisterBelow (listed c.args.registers.now) c.args.blocks.now n) c.args.roots.now.items
    c.loop-number.roots.items) end c.loop-number.invariant
