-- Registers that have the same in two sets, and those that were written.
use Rattle.std.proofs.Common.{◌≡◌, ℕ, suc, ◌⊎◌, inl, inr, Bool, true, false, List, [], ◌∷◌, Some, refl, ap}
use Rattle.std.proofs.Common.{sym, cond, ◌∙◌, arith}
use Rattle.std.specs.List.{All}
use Rattle.std.specs.Map.{lookup}
use Rattle.std.specs.Option.{unwrap_or}
use Rattle.std.specs.Ordering.{is_eq, nat_cmp}
use Rattle.std.specs.BTreeMap.{BTreeMap, get}
use Rattle.std.specs.declared.cmp.Ordering.{Ordering}
use Rattle.std.specs.declared.cmp.Ordering.TheVariants.{Less, Equal, Greater}
use Rattle.std.proofs.lemmas.List.Elements.{All-weaker}
use Rattle.std.proofs.lemmas.Map.Lookups.{exact_unsigned}
use Rattle.definedness.specs.declared.Bits.{Bits}
use Rattle.control_registers.specs.Registers.{no_registers}
use Rattle.control_registers.specs.Comparing.{HasSameOrZero}
use Rattle.control_registers.specs.Written.{mapped}

-- the entries' register of a number
abbrev in_entries : List (ℕ × Bits) → ℕ → Bits
in_entries es n = unwrap_or (lookup (λ k. is_eq (nat_cmp n k)) es) (no_registers n)

-- with an entry before them, which may be the register's
abbrev with_head : ℕ × Bits → List (ℕ × Bits) → ℕ → Bool → Bits
with_head e es n is = unwrap_or (cond is (Some e.1) (lookup (λ k. is_eq (nat_cmp n k)) es)) (no_registers n)

equal : (o : Ordering) → is_eq o ≡ true → o ≡ Equal
equal Less is = cc
equal Equal is = refl
equal Greater is = cc

entries_same : (f : ℕ → Bits) (n : ℕ) (es : List (ℕ × Bits)) → All (λ e. f e.0 ≡ e.1) es
    → (in_entries es n ≡ f n) ⊎ (in_entries es n ≡ no_registers n)
entries_same f n [] all = inr refl
entries_same f n (e ∷ es) all = go (is_eq (nat_cmp n e.0)) refl
    (entries_same f n es (λ k d inside. all (suc k) d (omega arith))) where
      go : (is : Bool) → is_eq (nat_cmp n e.0) ≡ is → (in_entries es n ≡ f n) ⊎ (in_entries es n ≡ no_registers n)
          → (with_head e es n is ≡ f n) ⊎ (with_head e es n is ≡ no_registers n)
      go true is later = inl (sym (ap f (exact_unsigned n e.0 (equal (nat_cmp n e.0) is)) ∙ all 0 e (omega arith)))
      go false is later = later

-- what holds of each entry of a map holds of each register
pub map_same : (f : ℕ → Bits) (map : BTreeMap ℕ Bits) → All (λ e. f e.0 ≡ e.1) map.entries
    → HasSameOrZero (mapped map) f
map_same f map all n = entries_same f n map.entries all

-- each entry is what the register has
pub same_map : (f : ℕ → Bits) (map : BTreeMap ℕ Bits) → All (λ e. get nat_cmp map e.0 ≡ Some e.1) map.entries
    → mapped map ≡ f
    → All (λ e. f e.0 ≡ e.1) map.entries
same_map f map found same =
    All-weaker (λ e. get nat_cmp map e.0 ≡ Some e.1) (λ e. f e.0 ≡ e.1)
    (λ e is. sym (ap (λ g. g e.0) same) ∙ ap (λ o. unwrap_or o (no_registers e.0)) is) map.entries found

-- two sets that each have what the other has, or 0
pub both_same : (f g : ℕ → Bits) → HasSameOrZero f g → HasSameOrZero g f → f ≡ g
both_same f g there back = λ i n. go n (there n) (back n) i where
  go : (n : ℕ) → (f n ≡ g n) ⊎ (f n ≡ no_registers n) → (g n ≡ f n) ⊎ (g n ≡ no_registers n) → f n ≡ g n
  go n (inl same) other = same
  go n (inr zero) (inl same) = sym same
  go n (inr zero) (inr also) = zero ∙ sym also
