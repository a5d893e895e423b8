use Rattle.std.proofs.Common.{◌∙◌, ap}
use Rattle.guest_elf.proofs.Hooked.{named_at_front}
use Rattle.guest_elf.specs.Hooks.{hook_named}
use Rattle.guest_elf.proofs.hook.hook_from.Goals as goal

pub returns : goal.returns
returns c =
    c.hook_named.ensures ∙ ap hook_named c.name_from.ensures
    ∙ named_at_front c.args.strings.now c.args.start c.min-from.result c.min.result c.min-from.ensures c.min.ensures
