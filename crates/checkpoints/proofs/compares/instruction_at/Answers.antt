use Rattle.std.proofs.Common.{◌∙◌, ap, option_and_then, sym}
use Rattle.guest_elf.specs.Hooks.{hook_at}
use Rattle.instructions.specs.Codes.{row_of_code}
use Rattle.checkpoints.proofs.CompareSteps.{by-code, by-name}
use Rattle.checkpoints.proofs.compares.instruction_at.Goals as goal

pub returns-in-Some : goal.returns-in-Some
returns-in-Some c s h =
    ap (option_and_then row_of_code) (sym (by-name s c.args.setup.now _
    (ap (hook_at c.args.setup.now.hooks) (sym (c.pc.ensures s h)) ∙ sym c.in-Some.ensures)))

pub returns-in-None : goal.returns-in-None
returns-in-None c s h =
    c.instruction.ensures s h
    ∙ ap (option_and_then row_of_code) (sym (by-code s c.args.setup.now
    (ap (hook_at c.args.setup.now.hooks) (sym (c.pc.ensures s h)) ∙ sym c.in-None.ensures)))
