-- Pieces appended one after another.
use Rattle.std.proofs.Common.{◌≡◌, ℕ, ◌+◌, ◌<◌, List, [], ◌∷◌, ◌++◌, ap, ap₂, sym, ◌∙◌, append_assoc, append-nil, codes}
use Rattle.std.proofs.Common.{get_or, length, take, min, Some, arith}
use Rattle.std.specs.Prelude.{slice_get, sum_by}
use Rattle.std.proofs.lemmas.List.{take_more}
use Rattle.std.proofs.lemmas.List.Sums.{sum_by-append}
use Rattle.std.proofs.lemmas.Option.{slice_get-get_or}
use Rattle.std.proofs.lemmas.List.Concat.{flat_map-append}
use Rattle.std.specs.List.{flat_map}
use Rattle.std.specs.Fmt.{decimal}
use Rattle.report_lines.specs.Text.{address_text, newline}
use Rattle.call_stacks.specs.declared.block.Block.{Block}
use Rattle.error_events.specs.Parameters.{parameter_text}
use Rattle.error_events.specs.declared.parameter.Parameter.{Parameter}
use Rattle.error_events.specs.declared.kind.ParameterFault.{ParameterFault}
use Rattle.error_events.specs.declared.event.Group.{Group}
use Rattle.report_lines.specs.Lines.{fault_text, param_text, state_text}
use Rattle.report_lines.specs.Lines.{near_back, error_sum, shown_summary, hidden_summary}
use Rattle.report_lines.specs.declared.lines.ErrorSum.{ErrorSum}
use Rattle.error_events.specs.Groups.{most}

-- a piece after others
pub joined : {X : Type 0} (o p q a b : List X) → p ≡ o ++ a → q ≡ p ++ b → q ≡ o ++ (a ++ b)
joined o p q a b d e = e ∙ ap (λ x. x ++ b) d ∙ append_assoc o a b

-- the items up to one, and that one
pub next_taken : {X : Type 0} (xs : List X) (i : ℕ) (d x : X) → i < length xs → x ≡ get_or xs i d
    → take i xs ++ x ∷ [] ≡ take (i + 1) xs
next_taken xs i d x within is = ap (λ y. take i xs ++ y ∷ []) is ∙ sym (take_more xs i d within)

-- what another item adds after what those before it made, if it adds anything
module _ {X Y : Type 0} (f : List X → List Y) (xs : List X) (i : ℕ) (d x : X) (o p q : List Y) (within : i < length xs)
    (is : x ≡ get_or xs i d) (before : p ≡ o ++ f (take i xs)) where
  pub joined_more : (a : List Y) → f (take i xs ++ x ∷ []) ≡ f (take i xs) ++ a → q ≡ p ++ a
      → q ≡ o ++ f (take (i + 1) xs)
  joined_more a more e =
      joined o p q (f (take i xs)) a before e ∙ ap (λ y. o ++ y) (sym more ∙ ap f (next_taken xs i d x within is))

  pub joined_same : f (take i xs ++ x ∷ []) ≡ f (take i xs) → q ≡ p → q ≡ o ++ f (take (i + 1) xs)
  joined_same same e = e ∙ before ∙ ap (λ y. o ++ y) (sym same ∙ ap f (next_taken xs i d x within is))

pub flat_joined : {X Y : Type 0} (g : X → List Y) (xs : List X) (i : ℕ) (x : X) (o p q : List Y) → i < length xs
    → x ≡ get_or xs i x → p ≡ o ++ flat_map g (take i xs) → q ≡ p ++ g x
    → q ≡ o ++ flat_map g (take (i + 1) xs)
flat_joined g xs i x o p q within is before e =
    joined_more (flat_map g) xs i x x o p q within is before (g x) (flat_map-append g (take i xs) (x ∷ [])
    ∙ ap (λ y. flat_map g (take i xs) ++ y) (append-nil (g x))) e

pub running_joined : (o p q r : List ℕ) (pc : ℕ) → p ≡ o ++ codes "state running " → q ≡ p ++ address_text pc
    → r ≡ q ++ newline → r ≡ o ++ (codes "state running " ++ address_text pc ++ newline)
running_joined o p q r pc d e f =
    joined o q r (codes "state running " ++ address_text pc) newline
    (joined o p q (codes "state running ") (address_text pc) d e) f

pub param_joined : (o p q r t u : List ℕ) (parameter : Parameter) (fault : ParameterFault)
    → t ≡ parameter_text parameter → u ≡ fault_text fault
    → p ≡ o ++ codes "Syscall param " → q ≡ p ++ t → r ≡ q ++ u → r ≡ o ++ param_text parameter fault
unfolding param_text
param_joined o p q r t u parameter fault named said d e f =
    let front = codes "Syscall param " ++ t in
    joined o q r front u (joined o p q (codes "Syscall param ") t d e) f
    ∙ ap₂ (λ x y. o ++ (codes "Syscall param " ++ x ++ y)) named said

pub near_back_joined : (o p q r s t : List ℕ) (block : Block) → t ≡ state_text block.freed
    → p ≡ o ++ codes " a block of size " → q ≡ p ++ decimal block.size
    → r ≡ q ++ t → s ≡ r ++ newline → s ≡ o ++ near_back block
unfolding near_back
near_back_joined o p q r s t block said d e f g =
    let front = codes " a block of size " ++ decimal block.size in
    joined o r s (front ++ t) newline (joined o q r front t
    (joined o p q (codes " a block of size ") (decimal block.size) d e) f) g
    ∙ ap (λ x. o ++ (front ++ x ++ newline)) said

-- the item at a place, and the items up to it and with it
pub got : {X : Type 0} (xs : List X) (i : ℕ) → i < length xs
    → (x : X) × (slice_get xs i ≡ Some x) × (take (i + 1) xs ≡ take i xs ++ x ∷ [])
got [] i within = absurd (omega arith)
got (x ∷ xs) i within =
    (get_or (x ∷ xs) i x, slice_get-get_or (x ∷ xs) i x within, take_more (x ∷ xs) i x within)

-- what the item at a place adds, of which is known what it adds if it is there
pub flat_got : {X Y : Type 0} (g : X → List Y) (xs : List X) (i : ℕ) (o p q : List Y) → i < length xs
    → p ≡ o ++ flat_map g (take i xs) → ((x : X) → slice_get xs i ≡ Some x → q ≡ p ++ g x)
    → q ≡ o ++ flat_map g (take (i + 1) xs)
flat_got g xs i o p q within before more =
    let at = got xs i within in
    joined o p q (flat_map g (take i xs)) (g at.0) before (more at.0 at.1)
    ∙ ap (λ y. o ++ y)
    (sym (ap (flat_map g) at.2 ∙ flat_map-append g (take i xs) (at.0 ∷ [])
    ∙ ap (λ y. flat_map g (take i xs) ++ y) (append-nil (g at.0))))

-- sums that stop
sum-still : (a b m : ℕ) → min (min a m + b) m ≡ min (a + (0 + b)) m
sum-still a b m = omega arith

pub sum_got : (gs : List Group) (i total new : ℕ) → i < length gs
    → total ≡ min (sum_by (λ g. g.count) (take i gs)) most
    → ((g : Group) → slice_get gs i ≡ Some g → new ≡ min (total + g.count) most)
    → new ≡ min (sum_by (λ g. g.count) (take (i + 1) gs)) most
sum_got gs i total new within before more =
    let at = got gs i within in
    let count : Group → ℕ = λ g. g.count in
    more at.0 at.1 ∙ ap (λ n. min (n + count at.0) most) before
    ∙ sum-still (sum_by count (take i gs)) (count at.0) most
    ∙ ap (λ n. min n most) (sym (ap (sum_by count) at.2 ∙ sum_by-append count (take i gs) (at.0 ∷ [])))

pub shown_joined : (o p q r s t : List ℕ) (sum : ErrorSum) (groups : List Group) → sum ≡ error_sum groups
    → p ≡ o ++ codes "ERROR SUMMARY: " → q ≡ p ++ decimal sum.errors
    → r ≡ q ++ codes " errors from " → s ≡ r ++ decimal sum.groups → t ≡ s ++ codes " contexts"
    → t ≡ o ++ shown_summary groups
unfolding shown_summary
shown_joined o p q r s t sum groups is d e f g h =
    let a = codes "ERROR SUMMARY: " ++ decimal sum.errors in
    let b = a ++ codes " errors from " in
    let c = b ++ decimal sum.groups in
    joined o s t c (codes " contexts") (joined o r s b (decimal sum.groups)
    (joined o q r a (codes " errors from ") (joined o p q (codes "ERROR SUMMARY: ") (decimal sum.errors) d e) f) g) h
    ∙ ap (λ (x : ErrorSum). o ++ (codes "ERROR SUMMARY: " ++ decimal x.errors ++ codes " errors from "
    ++ decimal x.groups ++ codes " contexts")) is

pub hidden_joined : (o p q r s t u : List ℕ) (sum : ErrorSum) (groups : List Group) → sum ≡ error_sum groups
    → p ≡ o ++ codes " (suppressed: " → q ≡ p ++ decimal sum.errors
    → r ≡ q ++ codes " from " → s ≡ r ++ decimal sum.groups → t ≡ s ++ codes ")" → u ≡ t ++ newline
    → u ≡ o ++ hidden_summary groups
unfolding hidden_summary
hidden_joined o p q r s t u sum groups is d e f g h k =
    let a = codes " (suppressed: " ++ decimal sum.errors in
    let b = a ++ codes " from " in
    let c = b ++ decimal sum.groups in
    joined o t u (c ++ codes ")") newline (joined o s t c (codes ")") (joined o r s b (decimal sum.groups)
    (joined o q r a (codes " from ") (joined o p q (codes " (suppressed: ") (decimal sum.errors) d e) f) g) h) k
    ∙ ap (λ (x : ErrorSum). o ++ (codes " (suppressed: " ++ decimal x.errors ++ codes " from " ++ decimal x.groups
    ++ codes ")" ++ newline)) is

-- a number that is another
pub numbered : (o p : List ℕ) (n m : ℕ) → n ≡ m → p ≡ o ++ decimal n → p ≡ o ++ decimal m
numbered o p n m e h = h ∙ ap (λ k. o ++ decimal k) e
