-- Registers put into a list, one after another.
use Rattle.std.proofs.Common.{◌≡◌, ℕ, ◌+◌, ◌<◌, inl, inr, List, length, set, arith, sym, ◌∙◌, ap}
use Rattle.std.proofs.lemmas.Bool.{cases_eq}
use Rattle.std.proofs.lemmas.List.{get_or-set_same, get_or-set_other}
use Rattle.definedness.specs.declared.Bits.{Bits}
use Rattle.leak_search.specs.Gathering.{listed}

pub listed_step : (registers : List Bits) (n : ℕ) (register : Bits) (wanted : ℕ → Bits) → n < length registers
    → register ≡ wanted n
    → ((r : ℕ) → r < n → listed registers r ≡ wanted r) → (r : ℕ) → r < n + 1
    → listed (set registers n register) r ≡ wanted r
listed_step registers n register wanted within same before r less =
    let none : Bits = record { value = 0; undef = 0 } in
    elim (cases_eq r n) [
      | inl e ↦ ap (λ x. listed (set registers n register) x) e ∙ get_or-set_same registers n register none within
          ∙ same ∙ ap wanted (sym e)
      | inr ne ↦ get_or-set_other registers n r register none ne ∙ before r (omega arith)
    ]
