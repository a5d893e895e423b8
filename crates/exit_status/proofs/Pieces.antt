-- A line that is written piece by piece.
use Rattle.std.proofs.Common.{◌≡◌, ◌∙◌, ◌+◌, ◌++◌, ℕ, List, [], ◌∷◌, Option, length, take, arith, sym, subst, ap}
use Rattle.std.proofs.Common.{◌<◌, append-nil, drop, get_or, take_all, zero-add}
use Rattle.std.proofs.lemmas.List.{drop_more, take-append-drop, take_more}
use Rattle.std.proofs.lemmas.Grind.{flat_map-append}
use Rattle.std.specs.List.{flat_map}
use Rattle.exit_status.specs.ExecEnds.{call_line}
use Rattle.unknown_calls.specs.declared.UnknownCall.{UnknownCall}
use Rattle.std.proofs.Math.Nat.{suc-add}
use Rattle.std.proofs.KnownBytes.{Appends-trans}
use Rattle.std.proofs.lemmas.List.{length-append, take-append-le}
use Rattle.std.specs.Io.KnownBytes.{Appends}
use Rattle.exit_status.specs.Ends.{AppendsFront, line_with}

taken : (xs ys : List ℕ) (n : ℕ) → take (length xs + n) (xs ++ ys) ≡ xs ++ take n ys
taken [] ys n = ap (λ k. take k ys) (zero-add n)
taken (x ∷ xs) ys n = ap (λ k. take k (x ∷ xs ++ ys)) (suc-add (length xs) n) ∙ ap (λ zs. x ∷ zs) (taken xs ys n)

-- a front of the first piece, or the first piece and a front of the next
pub front-first : (a b : Option (List ℕ)) (xs ys : List ℕ) → AppendsFront a b xs → AppendsFront a b (xs ++ ys)
front-first a b xs ys (n, fits, sent) =
    (n, omega (arith, length-append xs ys), subst (Appends a b) (sym (take-append-le n xs ys fits)) sent)

pub front-next : (a b c : Option (List ℕ)) (xs ys : List ℕ) → Appends a b xs → AppendsFront b c ys
    → AppendsFront a c (xs ++ ys)
front-next a b c xs ys first (n, fits, sent) = (
  length xs + n,
  omega (arith, length-append xs ys),
  subst (Appends a c) (sym (taken xs ys n))
      (Appends-trans a b c xs (take n ys) first sent),
)

-- a line whose end is given in another way
pub line-front : (a b : Option (List ℕ)) (word rest text lines : List ℕ) → rest ≡ text → line_with word text ≡ lines
    → AppendsFront a b (line_with word rest) → AppendsFront a b lines
line-front a b word rest text lines same is wrote =
    subst (AppendsFront a b) (ap (line_with word) same ∙ is) wrote

pub line-whole : (P : Type 0) (a b : Option (List ℕ)) (word rest text lines : List ℕ) → rest ≡ text
    → line_with word text ≡ lines → (P → Appends a b (line_with word rest)) → P → Appends a b lines
line-whole P a b word rest text lines same is wrote p =
    subst (Appends a b) (ap (line_with word) same ∙ is) (wrote p)

-- all of it is a front
pub front-whole : (a b : Option (List ℕ)) (xs : List ℕ) → Appends a b xs → AppendsFront a b xs
front-whole a b xs wrote =
    (length xs, omega arith, subst (Appends a b) (sym (take_all (length xs) xs (omega arith))) wrote)

-- pieces that are given in another way
pub pieces-are : (number first gap times other word rest : List ℕ) → number ≡ first → times ≡ other → word ≡ rest
    → number ++ gap ++ line_with times word ≡ first ++ gap ++ line_with other rest
pieces-are number first gap times other word rest a b c = λ i. a i ++ gap ++ line_with (b i) (c i)

pub named-are : (word first name gap second other : List ℕ) → first ≡ name → second ≡ other
    → word ++ first ++ line_with gap second ≡ word ++ name ++ line_with gap other
named-are word first name gap second other a b = λ i. word ++ a i ++ line_with gap (b i)

-- ---- calls

lines-to : (calls : List UnknownCall) (i : ℕ) (d : UnknownCall) → i < length calls
    → flat_map call_line calls
    ≡ flat_map call_line (take i calls) ++ (call_line (get_or calls i d) ++ flat_map call_line (drop (i + 1) calls))
lines-to calls i d less =
    ap (flat_map call_line) (sym (take-append-drop i calls))
    ∙ flat_map-append call_line (take i calls) (drop i calls)
    ∙ ap (λ xs. flat_map call_line (take i calls) ++ flat_map call_line xs) (drop_more calls i d less)

-- a front of the line of one that follows others
pub calls-front : (a b c : Option (List ℕ)) (calls : List UnknownCall) (i : ℕ) (d : UnknownCall) → i < length calls
    → Appends a b (flat_map call_line (take i calls)) → AppendsFront b c (call_line (get_or calls i d))
    → AppendsFront a c (flat_map call_line calls)
calls-front a b c calls i d less one two =
    subst (AppendsFront a c) (sym (lines-to calls i d less))
    (front-next a b c _ _ one (front-first b c _ (flat_map call_line (drop (i + 1) calls)) two))

pub calls-more : (a b c : Option (List ℕ)) (calls : List UnknownCall) (i : ℕ) (d : UnknownCall) → i < length calls
    → Appends a b (flat_map call_line (take i calls)) → Appends b c (call_line (get_or calls i d))
    → Appends a c (flat_map call_line (take (i + 1) calls))
calls-more a b c calls i d less one two =
    subst (Appends a c)
    (sym (ap (flat_map call_line) (take_more calls i d less)
    ∙ flat_map-append call_line (take i calls) (get_or calls i d ∷ [])
    ∙ ap (λ xs. flat_map call_line (take i calls) ++ xs) (append-nil (call_line (get_or calls i d)))))
    (Appends-trans a b c _ _ one two)
