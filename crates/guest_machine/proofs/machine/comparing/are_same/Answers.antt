use Rattle.std.proofs.Common.{◌≡◌, ◌==◌, ◌&&◌, ℕ, ap, ap₂}
use Rattle.std.proofs.lemmas.Bool.Decides.{Decides-and, Decides-eqb, Decides-like}
use Rattle.std.proofs.lemmas.Slice.Eq.{slice_eq-Decides}
use Rattle.std.specs.Bool.{Decides}
use Rattle.definedness.specs.declared.Bits.{Bits}
use Rattle.guest_machine.proofs.machine.comparing.are_same.Goals as goal

-- two registers are compared by value and undefined bits
Decides-bits : (a b : Bits) → Decides ((a.value == b.value) && (a.undef == b.undef)) (a ≡ b)
Decides-bits a b =
    let bits : ℕ → ℕ → Bits = λ value undef. record { value = value; undef = undef } in
    Decides-like ((a.value == b.value) && (a.undef == b.undef)) (λ h. ap₂ bits h.0 h.1)
    (λ e. (ap (λ (x : Bits). x.value) e, ap (λ (x : Bits). x.undef) e))
    (Decides-and (a.value == b.value) (a.undef == b.undef) (Decides-eqb a.value b.value) (Decides-eqb a.undef b.undef))

pub returns : goal.returns
returns c equal = (slice_eq-Decides Decides-bits _ _ _ c.eq.ensures).0 equal
