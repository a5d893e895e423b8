-- Errors and groups of one kind and one trace.
use Rattle.std.proofs.Common.{◌≡◌, ℕ, ◌==◌, List, [], ◌∷◌, Option, Some, None, Bool, true, false, ◌&&◌, ◌||◌}
use Rattle.std.proofs.Common.{if◌then◌else◌, refl, ap, ap₂, sym, subst, ◌∙◌, arith}
use Rattle.std.specs.Str.{bytes_eq}
use Rattle.std.proofs.lemmas.Bool.Decides.{nat_tests}
use Rattle.std.proofs.lemmas.Slice.Eq.{bytes_eq-Decides}
use Rattle.error_events.specs.Groups.{same_key, same_kind, same_trace, same_fault}
use Rattle.error_events.specs.Parameters.{parameter_text}
use Rattle.error_events.specs.declared.event.Event.{Event}
use Rattle.error_events.specs.declared.kind.Kind.{Kind}
use Rattle.error_events.specs.declared.kind.Kind.TheVariants.{Read, Write, Value, Cond, Param, Free, Jump}
use Rattle.error_events.specs.declared.kind.ParameterFault.{ParameterFault}
use Rattle.error_events.specs.declared.kind.ParameterFault.TheVariants.{Contains, Uninit, Unaddressable}
use Rattle.error_events.specs.declared.parameter.Parameter.{Parameter}
use Rattle.error_events.specs.declared.parameter.Parameter.TheVariants.{SyscallNumber, ReadFd, ReadBuffer, ReadCount}
use Rattle.error_events.specs.declared.parameter.Parameter.TheVariants.{WriteFd, WriteBuffer, WriteCount, ExitStatus}
use Rattle.error_events.specs.declared.parameter.Parameter.TheVariants.{ExitGroupStatus, MallocSize, FreePointer}
use Rattle.error_events.specs.declared.parameter.Parameter.TheVariants.{CallocMembers, CallocSize, ReallocPointer}
use Rattle.error_events.specs.declared.parameter.Parameter.TheVariants.{ReallocSize}

pub left-true : (a b : Bool) → (a && b) ≡ true → a ≡ true
left-true true b h = refl
left-true false b h = h

pub right-true : (a b : Bool) → (a && b) ≡ true → b ≡ true
right-true true b h = h
right-true false b h = cc

pub or-false-left : (a b : Bool) → (a || b) ≡ false → a ≡ false
or-false-left true b h = h
or-false-left false b h = refl

pub or-false-right : (a b : Bool) → (a || b) ≡ false → b ≡ false
or-false-right true b h = cc
or-false-right false b h = h

pub both-true : (a b : Bool) → a ≡ true → b ≡ true → (a && b) ≡ true
both-true a b g h = rw (g, h) refl

-- two tests that hold in the same cases
pub one-answer : (a b : Bool) → (a ≡ true → b ≡ true) → (b ≡ true → a ≡ true) → a ≡ b
one-answer true b f g = sym (f refl)
one-answer false true f g = g refl
one-answer false false f g = refl

fault-same : (f g : ParameterFault) → same_fault f g ≡ true → f ≡ g
fault-same Contains Contains h = refl
fault-same Uninit Uninit h = refl
fault-same Unaddressable Unaddressable h = refl
fault-same _ _ h = cc

fault-refl : (f : ParameterFault) → same_fault f f ≡ true
fault-refl Contains = refl
fault-refl Uninit = refl
fault-refl Unaddressable = refl

number-same : (a b : ℕ) → (a == b) ≡ true → a ≡ b
number-same a b h = grind (arith, nat_tests)

number-refl : (a : ℕ) → (a == a) ≡ true
number-refl a = grind (arith, nat_tests)

parameters : List Parameter
parameters =
    SyscallNumber ∷ ReadFd ∷ ReadBuffer ∷ ReadCount ∷ WriteFd
    ∷ WriteBuffer ∷ WriteCount ∷ ExitStatus ∷ ExitGroupStatus ∷ MallocSize
    ∷ FreePointer ∷ CallocMembers ∷ CallocSize ∷ ReallocPointer ∷ ReallocSize ∷ []

-- the first of some parameters that has a text
named_by : List ℕ → List Parameter → Option Parameter
named_by text [] = None
named_by text (p ∷ ps) = if bytes_eq text (parameter_text p) then Some p else named_by text ps

-- parameters have texts of their own
named : (p : Parameter) → named_by (parameter_text p) parameters ≡ Some p
unfolding named_by parameters
named SyscallNumber = refl
named ReadFd = refl
named ReadBuffer = refl
named ReadCount = refl
named WriteFd = refl
named WriteBuffer = refl
named WriteCount = refl
named ExitStatus = refl
named ExitGroupStatus = refl
named MallocSize = refl
named FreePointer = refl
named CallocMembers = refl
named CallocSize = refl
named ReallocPointer = refl
named ReallocSize = refl

parameter-same : (p q : Parameter) → bytes_eq (parameter_text p) (parameter_text q) ≡ true → p ≡ q
parameter-same p q h =
    let texts : parameter_text p ≡ parameter_text q = (bytes_eq-Decides (parameter_text p) (parameter_text q)).0 h in
    let both : Some p ≡ Some q = sym (named p) ∙ ap (λ text. named_by text parameters) texts ∙ named q in
    cc

parameter-refl : (p : Parameter) → bytes_eq (parameter_text p) (parameter_text p) ≡ true
parameter-refl p = (bytes_eq-Decides (parameter_text p) (parameter_text p)).1 refl

pub kind-same : (k l : Kind) → same_kind k l ≡ true → k ≡ l
kind-same (Read m) (Read n) h = ap Read (number-same m n h)
kind-same (Write m) (Write n) h = ap Write (number-same m n h)
kind-same Value Value h = refl
kind-same Cond Cond h = refl
kind-same (Param p f) (Param q g) h =
    ap₂ Param (parameter-same p q (left-true _ (same_fault f g) h))
    (fault-same f g (right-true (bytes_eq (parameter_text p) (parameter_text q)) _ h))
kind-same Free Free h = refl
kind-same Jump Jump h = refl
kind-same _ _ h = cc

pub kind-refl : (k : Kind) → same_kind k k ≡ true
kind-refl (Read n) = number-refl n
kind-refl (Write n) = number-refl n
kind-refl Value = refl
kind-refl Cond = refl
kind-refl (Param p f) = both-true _ _ (parameter-refl p) (fault-refl f)
kind-refl Free = refl
kind-refl Jump = refl

pub trace-same : (xs ys : List ℕ) → same_trace xs ys ≡ true → xs ≡ ys
trace-same xs ys = (bytes_eq-Decides xs ys).0

pub trace-refl : (ts : List ℕ) → same_trace ts ts ≡ true
trace-refl ts = (bytes_eq-Decides ts ts).1 refl

-- one kind and one trace
pub record Same (k l : Kind) (s t : List ℕ) : Type 0 where
  pub kind : k ≡ l
  pub trace : s ≡ t

pub same-parts : (k l : Kind) (s t : List ℕ) → (same_kind k l && same_trace s t) ≡ true → Same k l s t
same-parts k l s t h = record {
  kind = kind-same k l (left-true _ (same_trace s t) h);
  trace = trace-same s t (right-true (same_kind k l) _ h);
}

pub same-from : (k l : Kind) (s t : List ℕ) → Same k l s t → (same_kind k l && same_trace s t) ≡ true
same-from k l s t h = both-true _ _
    (let P : Kind → Type 0 = λ x. same_kind k x ≡ true in subst P h.kind (kind-refl k))
    (let P : List ℕ → Type 0 = λ x. same_trace s x ≡ true in subst P h.trace (trace-refl s))

pub same-symm : (k l : Kind) (s t : List ℕ) → (same_kind k l && same_trace s t) ≡ (same_kind l k && same_trace t s)
same-symm k l s t = one-answer _ _
    (λ h. let e = same-parts k l s t h in same-from l k t s (record { kind = sym e.kind; trace = sym e.trace }))
    (λ h. let e = same-parts l k t s h in same-from k l s t (record { kind = sym e.kind; trace = sym e.trace }))

pub key-refl : (e : Event) → same_key e e ≡ true
unfolding same_key
key-refl e = same-from e.kind e.kind e.trace e.trace (record { kind = refl; trace = refl })

-- two errors that have the key of a third
pub key-joined : (f e x : Event) → same_key f x ≡ true → same_key e x ≡ true → same_key f e ≡ true
unfolding same_key
key-joined f e x p q =
    let g = same-parts f.kind x.kind f.trace x.trace p in let h = same-parts e.kind x.kind e.trace x.trace q in
    same-from f.kind e.kind f.trace e.trace (record { kind = g.kind ∙ sym h.kind; trace = g.trace ∙ sym h.trace })
