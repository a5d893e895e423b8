-- The bytes of a range, part by part.
use Rattle.std.proofs.Common.{◌≡◌, ◌∙◌, ℕ, zero, suc, ◌+◌, ◌-◌, ◌<◌, ◌≤◌, ◌==◌, Bool, true, false, not, cond, List, []}
use Rattle.std.proofs.Common.{◌∷◌, ◌++◌, length, take, append-nil, append_assoc, length-append, Option, None, Some}
use Rattle.std.proofs.Common.{refl, ap, ap₂}
use Rattle.std.proofs.Common.{sym, subst, arith, add-zero, nat_lt}
use Rattle.std.proofs.KnownBytes.{Appends-nil, Appends-trans}
use Rattle.std.proofs.lemmas.Bool.Decides.{nat_tests}
use Rattle.std.proofs.lemmas.List.{take-append-le}
use Rattle.std.proofs.lemmas.List.FromFn.{map-range_with_len_more}
use Rattle.std.specs.Io.KnownBytes.{Appends}
use Rattle.guest_machine.specs.Calls.{bytes_taken}
use Rattle.guest_machine.specs.Streams.{bytes_over}
use Rattle.run_values.specs.declared.span.Span.{Span}
use Rattle.shadow_memory.specs.Ranges.{above, window}
use Rattle.test_runs.specs.Executions.{open_after, part_to, GivesTo, Held}
use Rattle.test_runs.proofs.RunParts.{no-part, open-append, open-none}
use Rattle.test_runs.proofs.Steps.{in-window, take-past}

abbrev pub span : ℕ → ℕ → Span
span start len = record { start = start; len = len }

-- ---- bytes by offset

one-more : (f : ℕ → ℕ) (n : ℕ) → bytes_taken f (suc n) ≡ bytes_taken f n ++ f n ∷ []
one-more f n =
    let next : suc n ≡ n + 1 = omega arith in
    ap (bytes_taken f) next ∙ map-range_with_len_more f 0 n n (omega arith)

alike : (f g : ℕ → ℕ) (n : ℕ) → ((i : ℕ) → i < n → f i ≡ g i) → bytes_taken f n ≡ bytes_taken g n
alike f g zero same = refl
alike f g (suc n) same =
    one-more f n ∙ ap₂ (λ (xs : List ℕ) b. xs ++ b ∷ []) (alike f g n (λ i less. same i (omega arith)))
    (same n (omega arith))
    ∙ sym (one-more g n)

joined : (f : ℕ → ℕ) (n m : ℕ) → bytes_taken f (n + m) ≡ bytes_taken f n ++ bytes_taken (λ i. f (n + i)) m
joined f n zero = ap (bytes_taken f) (add-zero n) ∙ sym (append-nil (bytes_taken f n))
joined f n (suc m) =
    let next : n + suc m ≡ suc (n + m) = omega arith in
    ap (bytes_taken f) next ∙ one-more f (n + m) ∙ ap (λ xs. xs ++ f (n + m) ∷ []) (joined f n m)
    ∙ append_assoc (bytes_taken f n) (bytes_taken (λ i. f (n + i)) m) (f (n + m) ∷ [])
    ∙ ap (λ xs. bytes_taken f n ++ xs) (sym (one-more (λ i. f (n + i)) m))

-- ---- a range

over : (f : ℕ → ℕ) (start len : ℕ) → bytes_over f (Some (span start len)) ≡ bytes_taken (λ i. f (above start i)) len
unfolding bytes_over
over f start len =
    alike (window f start len) (λ i. f (above start i)) len (λ i less. in-window f start len i less)

further : (start n i : ℕ) → above (above start n) i ≡ above start (n + i)
further start n i = omega arith

-- a range and the one that follows it
pub over-two : (f : ℕ → ℕ) (start n m : ℕ) → bytes_over f (Some (span start (n + m)))
    ≡ bytes_over f (Some (span start n)) ++ bytes_over f (Some (span (above start n) m))
over-two f start n m =
    over f start (n + m) ∙ joined (λ i. f (above start i)) n m
    ∙ ap₂ (λ (xs ys : List ℕ). xs ++ ys) (sym (over f start n))
    (alike (λ i. f (above start (n + i))) (λ i. f (above (above start n) i)) m
    (λ i less. ap f (sym (further start n i)))
    ∙ sym (over f (above start n) m))

pub over-none : (f : ℕ → ℕ) (start : ℕ) → bytes_over f (Some (span start 0)) ≡ []
over-none f start = over f start 0

-- one part more was written
pub part-more : (f : ℕ → ℕ) (start n m : ℕ) (a b c : Option (List ℕ))
    → Appends a b (bytes_over f (Some (span start n)))
    → Appends b c (bytes_over f (Some (span (above start n) m)))
    → Appends a c (bytes_over f (Some (span start (n + m))))
part-more f start n m a b c one two =
    subst (Appends a c) (sym (over-two f start n m)) (Appends-trans a b c _ _ one two)

-- or a front of it
pub part-cut : (f : ℕ → ℕ) (start n m len sent : ℕ) (a b c : Option (List ℕ)) → n + m ≤ len
    → Appends a b (bytes_over f (Some (span start n)))
    → sent ≤ length (bytes_over f (Some (span (above start n) m)))
    → Appends b c (take sent (bytes_over f (Some (span (above start n) m))))
    → (cut : ℕ) × Appends a c (take cut (bytes_over f (Some (span start len))))
part-cut f start n m len sent a b c within one few two =
    let first = bytes_over f (Some (span start n)) in
    let part = bytes_over f (Some (span (above start n) m)) in
    let rest = bytes_over f (Some (span (above start (n + m)) (len - (n + m)))) in
    let all : (n + m) + (len - (n + m)) ≡ len = omega (arith, within) in
    let whole : bytes_over f (Some (span start len)) ≡ first ++ (part ++ rest) =
    ap (λ k. bytes_over f (Some (span start k))) (sym all) ∙ over-two f start (n + m) (len - (n + m))
    ∙ ap (λ xs. xs ++ rest) (over-two f start n m) ∙ append_assoc first part rest in (
      length first + sent,
      subst (Appends a c)
          (sym (ap (take (length first + sent)) whole ∙ take-past first (part ++ rest) sent
          ∙ ap (λ xs. first ++ xs) (take-append-le sent part rest few)))
          (Appends-trans a b c first (take sent part) one two),
    )

-- ---- where it goes

pub none-to : (f : ℕ → ℕ) (range : Option Span) (named d : ℕ) → range ≡ None
    → part_to named d (bytes_over f range) ≡ []
unfolding bytes_over
none-to f range named d none =
    ap (λ range. part_to named d (bytes_over f range)) none ∙ no-part (named == d)

pub gives-nothing : (f : ℕ → ℕ) (range : Option Span) (named : ℕ) (held : Held) → range ≡ None
    → GivesTo named held held (bytes_over f range)
gives-nothing f range named held none = (
  subst (Appends held.out held.out) (sym (none-to f range named 1 none)) (Appends-nil held.out),
  subst (Appends held.err held.err) (sym (none-to f range named 2 none)) (Appends-nil held.err),
)

pub open-nothing : (f : ℕ → ℕ) (range : Option Span) (named : ℕ) (was : Bool) → range ≡ None
    → was ≡ open_after was (part_to named 2 (bytes_over f range))
open-nothing f range named was none =
    sym (ap (open_after was) (none-to f range named 2 none) ∙ open-none was)

-- ---- a line that is open

-- after some bytes the last one says so
pub open-last : (f : ℕ → ℕ) (start len : ℕ) (was : Bool) → 0 < len
    → open_after was (bytes_over f (Some (span start len))) ≡ not (f (above start (len - 1)) == 10)
unfolding open_after
open-last f start zero was some = absurd (omega (arith, some))
open-last f start (suc n) was some =
    let last : suc n - 1 ≡ n = omega arith in
    ap (open_after was) (over f start (suc n) ∙ one-more (λ i. f (above start i)) n)
    ∙ open-append (bytes_taken (λ i. f (above start i)) n) (f (above start n) ∷ []) was
    ∙ ap (λ i. not (f (above start i) == 10)) (sym last)

no-match : (named d : ℕ) → (named ≡ d → ⊥) → (named == d) ≡ false
no-match named d apart = grind (arith, nat_tests, apart)

-- another descriptor leaves it
pub open-other : (named : ℕ) (piece : List ℕ) (was : Bool) → (named ≡ 2 → ⊥)
    → open_after was (part_to named 2 piece) ≡ was
open-other named piece was apart =
    ap (λ b. open_after was (cond b piece [])) (no-match named 2 apart) ∙ open-none was

-- no bytes leave it
pub open-short : (f : ℕ → ℕ) (start len named : ℕ) (was : Bool) → len ≡ 0
    → open_after was (part_to named 2 (bytes_over f (Some (span start len)))) ≡ was
open-short f start len named was none =
    ap (λ n. open_after was (part_to named 2 (bytes_over f (Some (span start n))))) none
    ∙ ap (λ piece. open_after was (part_to named 2 piece)) (over-none f start)
    ∙ ap (open_after was) (no-part (named == 2)) ∙ open-none was
