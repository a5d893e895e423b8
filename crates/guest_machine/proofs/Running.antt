-- A run without marks: another step, and the steps once it is halted.
use Rattle.std.proofs.Common.{◌≡◌, ℕ, zero, suc, ◌+◌, ◌-◌, ◌≤◌, false, [], ap, refl, sym, ◌∙◌, subst, arith}
use Rattle.guest_machine.specs.State.{State}
use Rattle.guest_machine.specs.Exec.{exec, is_running}
use Rattle.guest_machine.specs.Run.{pre, after_marks}
use Rattle.guest_machine.specs.Shows.{core_of, Holds}
use Rattle.guest_machine.specs.declared.machine.Guest.{Guest}
use Rattle.guest_machine.specs.declared.setup.Setup.{Setup}
use Rattle.guest_machine.proofs.Halted.{stays-halted}

pub none-yet : (s : State) (setup : Setup) → pre s setup [] 0 ≡ s
unfolding pre
none-yet s setup = refl

pub one-more : (s : State) (setup : Setup) (n : ℕ) → pre s setup [] (suc n) ≡ exec (pre s setup [] n) setup
unfolding pre after_marks
one-more s setup n = refl

pub stays-for : (s : State) (setup : Setup) (n d : ℕ) → is_running (pre s setup [] n).core.status ≡ false
    → pre s setup [] (n + d) ≡ pre s setup [] n
stays-for s setup n zero h = ap (pre s setup []) (omega arith)
stays-for s setup n (suc d) h =
    let next : n + suc d ≡ suc (n + d) = omega arith in
    ap (pre s setup []) next ∙ one-more s setup (n + d) ∙ ap (λ t. exec t setup) (stays-for s setup n d h)
    ∙ (stays-halted setup (pre s setup [] n) h).0

-- a machine at the start
pub begins : (g : Guest) (s : State) (setup : Setup) → Holds g s → Holds g (pre s setup [] 0)
begins g s setup h = subst (Holds g) (sym (none-yet s setup)) h

-- and one step on
pub goes-on : (g : Guest) (s : State) (setup : Setup) (n : ℕ) → Holds g (exec (pre s setup [] n) setup)
    → Holds g (pre s setup [] (n + 1))
goes-on g s setup n h =
    let next : n + 1 ≡ suc n = omega arith in
    subst (Holds g) (sym (ap (pre s setup []) next ∙ one-more s setup n)) h

-- and at the end, where it is halted before
pub rests : (g : Guest) (s : State) (setup : Setup) (n steps : ℕ) → n ≤ steps → is_running (core_of g).status ≡ false
    → Holds g (pre s setup [] n) → Holds g (pre s setup [] steps)
rests g s setup n steps within halted h =
    let all : steps ≡ n + (steps - n) = omega (arith, within) in
    let now : is_running (pre s setup [] n).core.status ≡ false =
    ap (λ core. is_running core.status) (sym h.core) ∙ halted in
    subst (Holds g) (sym (ap (pre s setup []) all ∙ stays-for s setup n (steps - n) now)) h
