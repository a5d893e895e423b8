use Rattle.std.proofs.lemmas.Result.{IfOk-weaker}
use Rattle.guest_elf.proofs.Hooked.{hooks_in_order}
use Rattle.guest_elf.proofs.image.Image.hooks.Goals as goal

pub returns-clause-sorted : goal.returns-clause-sorted
returns-clause-sorted c =
    IfOk-weaker c.hooks.result _ _ (λ hooks same. hooks_in_order c.args.self.now.names.strings.now
    c.args.self.now.names.symbols.items hooks.items same) c.hooks.ensures
