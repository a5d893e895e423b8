use Rattle.std.proofs.Common.{rules, arith, ◌<◌, length, ◌∙◌, ap, ℕ}
use Rattle.guest_machine.specs.Registers.{register}
use Rattle.leak_search.proofs.RegisterSteps.{listed_step}
use Rattle.leak_search.proofs.searching.registers_of.Goals as goal

pub loop-number-preserved : goal.loop-number-preserved
loop-number-preserved c =
    let in_range = c.loop-number-test.true in
    let len = c.loop-number.invariant.len in
    let within : c.loop-number.number < length c.loop-number.registers = omega arith in
    record {
      len = search rules;
      same = λ s shows r less.
          listed_step c.loop-number.registers c.loop-number.number c.register.result (register s.core) within
          (c.register.ensures s shows ∙ ap (λ (n : ℕ). register s.core n) c.new.ensures)
          (c.loop-number.invariant.same s shows) r less;
    }
