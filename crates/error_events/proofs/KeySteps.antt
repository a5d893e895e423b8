-- Keys: `==` of two keys says that they have one kind and one trace.
use Rattle.std.proofs.Common.{◌≡◌, ℕ, zero, suc, ◌-◌, List, [], ◌∷◌, ◌++◌, Bool, true, false, ◌&&◌, ◌==◌, nat_eq, refl}
use Rattle.std.proofs.Common.{ap, ap₂, sym, ◌∙◌, arith, length, replicate}
use Rattle.std.specs.Str.{bytes_eq}
use Rattle.std.specs.Cmp.Lexicographic.{pointwise}
use Rattle.std.proofs.lemmas.Bool.Decides.{nat_tests}
use Rattle.error_events.specs.Groups.{same_kind, same_trace, same_fault}
use Rattle.error_events.specs.Parameters.{parameter_text}
use Rattle.error_events.specs.declared.event.Key.{Key}
use Rattle.error_events.specs.declared.kind.Kind.{Kind}
use Rattle.error_events.specs.declared.kind.Kind.TheVariants.{Read, Write, Value, Cond, Param, Free, Jump}
use Rattle.error_events.specs.declared.kind.ParameterFault.{ParameterFault}
use Rattle.error_events.specs.declared.kind.ParameterFault.TheVariants.{Contains, Uninit, Unaddressable}
use Rattle.error_events.specs.declared.parameter.Parameter.{Parameter}
use Rattle.error_events.specs.declared.parameter.Parameter.TheVariants.{SyscallNumber, ReadFd, ReadBuffer, ReadCount}
use Rattle.error_events.specs.declared.parameter.Parameter.TheVariants.{WriteFd, WriteBuffer, WriteCount, ExitStatus}
use Rattle.error_events.specs.declared.parameter.Parameter.TheVariants.{ExitGroupStatus, MallocSize, FreePointer}
use Rattle.error_events.specs.declared.parameter.Parameter.TheVariants.{CallocMembers, CallocSize, ReallocPointer}
use Rattle.error_events.specs.declared.parameter.Parameter.TheVariants.{ReallocSize}
use Rattle.error_events.specs.contracts.event.KeyPartialEq.TheImpl.{ghosts}
use Rattle.error_events.proofs.SameKeys.{same-symm}
use Rattle.error_events.specs.contracts.kind.KindPartialEq.TheImpl.{ghosts as of_kinds}
use Rattle.error_events.specs.contracts.kind.ParameterFaultPartialEq.TheImpl.{ghosts as of_faults}
use Rattle.error_events.specs.contracts.parameter.ParameterPartialEq.TheImpl.{ghosts as of_parameters}

fault-eq : (a b : ParameterFault) → of_faults.eq a b ≡ same_fault a b
fault-eq Contains Contains = refl
fault-eq Uninit Uninit = refl
fault-eq Unaddressable Unaddressable = refl
fault-eq _ _ = refl

-- parameters have texts of their own
parameter-eq : (a b : Parameter) → of_parameters.eq a b ≡ bytes_eq (parameter_text a) (parameter_text b)
parameter-eq SyscallNumber SyscallNumber = refl
parameter-eq ReadFd ReadFd = refl
parameter-eq ReadBuffer ReadBuffer = refl
parameter-eq ReadCount ReadCount = refl
parameter-eq WriteFd WriteFd = refl
parameter-eq WriteBuffer WriteBuffer = refl
parameter-eq WriteCount WriteCount = refl
parameter-eq ExitStatus ExitStatus = refl
parameter-eq ExitGroupStatus ExitGroupStatus = refl
parameter-eq MallocSize MallocSize = refl
parameter-eq FreePointer FreePointer = refl
parameter-eq CallocMembers CallocMembers = refl
parameter-eq CallocSize CallocSize = refl
parameter-eq ReallocPointer ReallocPointer = refl
parameter-eq ReallocSize ReallocSize = refl
parameter-eq _ _ = refl

kind-eq : (a b : Kind) → of_kinds.eq a b ≡ same_kind a b
kind-eq (Read m) (Read n) = refl
kind-eq (Write m) (Write n) = refl
kind-eq Value Value = refl
kind-eq Cond Cond = refl
kind-eq (Param p f) (Param q g) = ap₂ (λ x y. x && y) (parameter-eq p q) (fault-eq f g)
kind-eq Free Free = refl
kind-eq Jump Jump = refl
kind-eq _ _ = refl

-- `==` of two lists of zeros
zeros-eq : (n : ℕ) → pointwise nat_eq (replicate n 0) (replicate n 0) ≡ true
zeros-eq zero = refl
zeros-eq (suc n) = zeros-eq n

and-false : (a : Bool) → (a && false) ≡ false
and-false true = refl
and-false false = refl

and-assoc : (a b c : Bool) → ((a && b) && c) ≡ (a && (b && c))
and-assoc true b c = refl
and-assoc false b c = refl

suc-eq : (m n : ℕ) → (suc m == suc n) ≡ (m == n)
suc-eq m n = grind (arith, nat_tests)

zero-suc : (n : ℕ) → (0 == suc n) ≡ false
zero-suc n = grind (arith, nat_tests)

suc-zero : (n : ℕ) → (suc n == 0) ≡ false
suc-zero n = grind (arith, nat_tests)

-- lists that are filled up with zeros are the same where they were
pub filled-eq : (xs ys : List ℕ) (m n : ℕ) → (length xs ≡ length ys → m ≡ n)
    → (pointwise nat_eq (xs ++ replicate m 0) (ys ++ replicate n 0) && (length xs == length ys))
    ≡ pointwise nat_eq xs ys
filled-eq [] [] m n h =
    ap (λ k. pointwise nat_eq (replicate m 0) (replicate k 0) && true) (sym (h refl)) ∙ ap (λ b. b && true) (zeros-eq m)
filled-eq [] (y ∷ ys) m n h =
    ap (λ b. pointwise nat_eq (replicate m 0) (y ∷ (ys ++ replicate n 0)) && b) (zero-suc (length ys)) ∙ and-false _
filled-eq (x ∷ xs) [] m n h =
    ap (λ b. pointwise nat_eq (x ∷ (xs ++ replicate m 0)) (replicate n 0) && b) (suc-zero (length xs)) ∙ and-false _
filled-eq (x ∷ xs) (y ∷ ys) m n h =
    and-assoc (nat_eq x y) (pointwise nat_eq (xs ++ replicate m 0) (ys ++ replicate n 0))
    (suc (length xs) == suc (length ys))
    ∙ ap (λ b. nat_eq x y && (pointwise nat_eq (xs ++ replicate m 0) (ys ++ replicate n 0) && b))
    (suc-eq (length xs) (length ys))
    ∙ ap (λ b. nat_eq x y && b) (filled-eq xs ys m n (λ e. h (ap suc e)))

-- `==` of keys
pub key-eq : (a b : Key) → ghosts.eq a b ≡ (same_kind a.kind b.kind && same_trace a.trace b.trace)
key-eq a b = ap₂ (λ x y. x && y) (kind-eq a.kind b.kind) (filled-eq a.trace b.trace _ _ (λ e. ap (λ n. 24 - n) e))

pub key-flips : (a b : Key) → ghosts.eq a b ≡ ghosts.eq b a
key-flips a b = key-eq a b ∙ same-symm a.kind b.kind a.trace b.trace ∙ sym (key-eq b a)
