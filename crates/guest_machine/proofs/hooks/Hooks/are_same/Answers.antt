use Rattle.std.proofs.Common.{ℕ, ◌==◌, ◌&&◌, ◌≡◌, ap₂, ap, sym, ◌∙◌, rules}
use Rattle.std.proofs.lemmas.Bool.Decides.{Decides-and, Decides-eqb, Decides-like}
use Rattle.std.proofs.lemmas.Slice.Eq.{slice_eq-Decides}
use Rattle.std.specs.Bool.{Decides}
use Rattle.guest_elf.specs.declared.hook.Hook.{Hook}
use Rattle.guest_elf.specs.contracts.hook.HookPartialEq as same
use Rattle.guest_machine.proofs.hooks.Hooks.are_same.Goals as goal

Decides-hook : (a b : Hook) → Decides (same.TheImpl.ghosts.eq a b) (a ≡ b)
Decides-hook a b = search rules

Decides-entry : (a b : ℕ × Hook) → Decides ((a.0 == b.0) && same.TheImpl.ghosts.eq a.1 b.1) (a ≡ b)
Decides-entry a b =
    Decides-like ((a.0 == b.0) && same.TheImpl.ghosts.eq a.1 b.1)
    (λ h. ap₂ (λ addr (hook : Hook). (addr, hook)) h.0 h.1)
    (λ e. (ap (λ (x : ℕ × Hook). x.0) e, ap (λ (x : ℕ × Hook). x.1) e))
    (Decides-and (a.0 == b.0) (same.TheImpl.ghosts.eq a.1 b.1) (Decides-eqb a.0 b.0) (Decides-hook a.1 b.1))

pub returns : goal.returns
returns c equal =
    let entries = slice_eq-Decides Decides-entry c.self.inside.entries.items c.others.inside.entries.items _ in
    let same = entries c.eq.ensures in
    sym c.self.view_is ∙ same.0 equal ∙ c.others.view_is
