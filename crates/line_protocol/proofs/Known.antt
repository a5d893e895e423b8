-- Known bytes that grow.
use Rattle.std.proofs.Common.{Result, Ok, Err, IfErr, IsErrAnd, ◌≡◌, ℕ, List, [], ◌++◌, Option, None, Some, ◌∙◌, refl}
use Rattle.std.proofs.Common.{ap, sym}
use Rattle.std.proofs.Common.{append_assoc, arith, ◌+◌, ◌-◌, ◌<◌, ◌≤◌, length, take, drop, length-drop, subst}
use Rattle.std.proofs.Math.Seq.{take-add, take-length}
use Rattle.std.specs.Io.KnownBytes.{Appends, Consumes, Keeps}
use Rattle.std.specs.Result.{OnErr}

pub appends-then : (a b c : Option (List ℕ)) (p q : List ℕ) → Appends a b p → Appends b c q → Appends a c (p ++ q)
appends-then None b c p q f g = tt
appends-then (Some x) None c p q f g = absurd f
appends-then (Some x) (Some y) None p q f g = absurd g
appends-then (Some x) (Some y) (Some z) p q f g = g ∙ ap (λ w. w ++ q) f ∙ append_assoc x p q

pub consumes-then : (a b c : Option (List ℕ)) (p q : List ℕ) → Consumes a b p → Consumes b c q → Consumes a c (p ++ q)
consumes-then None b c p q f g = tt
consumes-then (Some x) None c p q f g = absurd f
consumes-then (Some x) (Some y) None p q f g = absurd g
consumes-then (Some x) (Some y) (Some z) p q f g = f ∙ ap (λ w. p ++ w) g ∙ sym (append_assoc p q z)

-- `&xs[at..]`
pub from-on : (at : ℕ) (xs : List ℕ) → take (length xs - at) (drop at xs) ≡ drop at xs
from-on at xs = rw (← length-drop at xs) (take-length (drop at xs))

-- a step of a loop that writes what is left
pub sent-step : (a b c : Option (List ℕ)) (at n : ℕ) (xs : List ℕ) → at < length xs
    → n ≤ length (take (length xs - at) (drop at xs))
    → Appends a b (take at xs)
    → Appends b c (take n (take (length xs - at) (drop at xs))) → (at + n ≤ length xs) × Appends a c (take (at + n) xs)
sent-step a b c at n xs inside bound so more =
    let bound' : n ≤ length (drop at xs) = subst (λ ys. n ≤ length ys) (from-on at xs) bound in
    let d = length-drop at xs in
    (omega arith, rw take-add (appends-then a b c _ _ so (subst (λ ys. Appends b c (take n ys)) (from-on at xs) more)))

pub consumes-keeps : (a b c : Option (List ℕ)) (p : List ℕ) → Consumes a b p → Keeps b c → Consumes a c p
consumes-keeps None b c p f k = tt
consumes-keeps (Some x) None c p f k = absurd f
consumes-keeps (Some x) (Some y) None p f k = absurd k
consumes-keeps (Some x) (Some y) (Some z) p f k = f ∙ ap (λ w. p ++ w) (sym k)

pub consumes-nothing : (a b : Option (List ℕ)) (n : ℕ) (buf : List ℕ) → n ≡ 0 → Consumes a b (take n buf)
    → Consumes a b []
consumes-nothing a b n buf zero f = subst (λ m. Consumes a b (take m buf)) zero f

-- all of the bytes
pub sent-all : (a b : Option (List ℕ)) (n : ℕ) (xs : List ℕ) → n ≡ length xs → Appends a b (take n xs) → Appends a b xs
sent-all a b n xs e h = subst (λ ys. Appends a b ys) (ap (λ m. take m xs) e ∙ take-length xs) h

pub consumes-none : (a : Option (List ℕ)) → Consumes a a []
consumes-none None = tt
consumes-none (Some x) = refl

pub appends-keeps : (a b c : Option (List ℕ)) (p : List ℕ) → Appends a b p → Keeps b c → Appends a c p
appends-keeps None b c p f k = tt
appends-keeps (Some x) None c p f k = absurd f
appends-keeps (Some x) (Some y) None p f k = absurd k
appends-keeps (Some x) (Some y) (Some z) p f k = k ∙ f

-- what holds for any result holds for a fault
pub at_refusal : {T E P : Type 0} (r : Result T E) → P → OnErr r P
at_refusal (Ok x) p = tt
at_refusal (Err e) p = p

-- what holds of the error that was passed on
pub at_error : {T E : Type 0} (r : Result T E) (error : E) (P : E → Type 0) → IsErrAnd r (λ e. e ≡ error) → P error
    → IfErr r P
at_error (Ok x) error P is holds = tt
at_error (Err e) error P is holds = subst P (sym is) holds
