use Rattle.std.proofs.Common.{ℕ, ◌<◌, ◌∙◌, arith, length, length-set, true}
use Rattle.guest_elf.specs.declared.hook.Hook.{Hook}
use Rattle.guest_elf.specs.declared.hook.Hook.TheVariants.{Malloc}
use Rattle.guest_machine.proofs.HookSteps.{marked_more}
use Rattle.guest_machine.proofs.hooks.sieve_of.Goals as goal

-- the value past the end
abbrev no_hook : ℕ × Hook
no_hook = (0, Malloc)

pub loop-start-preserved : goal.loop-start-preserved
loop-start-preserved c =
    let sieve = c.loop-start.sieve in
    let slot = c.slot_of.result in
    let within : slot < length sieve = omega (arith, c.slot_of.ensures.within, c.loop-start.invariant.len) in
    record {
      len = length-set sieve slot true ∙ c.loop-start.invariant.len;
      marked =
          marked_more sieve c.args.entries.now c.loop-start.start-index slot no_hook within c.loop-start-test.true
          c.slot_of.ensures.value c.loop-start.invariant.marked;
    }
