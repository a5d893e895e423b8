-- What a sweep reads: its input from standard input, and its suppressions.
use Rattle.std.proofs.Common.{◌≡◌, ℕ, ◌+◌, ◌<◌, ◌≤◌, List, Option, Some, None, IfSome, length, take, refl, ap, sym}
use Rattle.std.proofs.Common.{arith, subst, Result, Ok, Err, IfOk, IfErr, IsErrAnd}
use Rattle.program_files.specs.Files.{Giving, NoRules, longest_text}
use Rattle.program_files.specs.Opened.{end_of_input}
use Rattle.program_files.specs.Files.{HasText, NoRulesIn, NoStream, NoText}
use Rattle.program_files.specs.declared.files.ReadFault.{ReadFault}
use Rattle.program_files.specs.declared.files.ReadFault.TheVariants as Fault
use Rattle.exit_status.specs.declared.ends.End.{End}
use Rattle.exit_status.specs.declared.ends.End.TheVariants.{Suppressions}
use Rattle.suppressions.specs.Texts.{faults, IsLeast}
use Rattle.suppressions.specs.declared.fault.SuppFault.{SuppFault}
use Rattle.suppressions.specs.declared.fault.SuppFault.TheVariants as Supp
use Rattle.program_files.proofs.Fronts.{long, whole}

-- what holds of the bytes of a read holds of them where they are passed on
pub read-over : {T E F : Type 0} (read : Result T E) (result : Result T F) (Q : E → F → Type 0) (P : T → Type 0)
    → IfOk read (λ x. result ≡ Ok x) → IfErr read (λ e. IsErrAnd result (Q e)) → IfOk read P → IfOk result P
read-over (Ok x) (Ok y) Q P ok err h = let same : y ≡ x = cc in subst P (sym same) h
read-over (Ok x) (Err f) Q P ok err h = tt
read-over (Err e) (Ok y) Q P ok err h = absurd err
read-over (Err e) (Err f) Q P ok err h = tt

-- either fault may be that of standard input
pub no-stream : (left : Option (List ℕ)) (fault : ReadFault) → NoStream left (end_of_input fault)
no-stream left Fault.NoMemory = tt
no-stream left Fault.Unreadable = tt

-- all of it, or more than the limit
pub whole-stream : (limit : ℕ) (left : Option (List ℕ)) (front : List ℕ)
    → IfSome left (λ bytes. front ≡ take (limit + 1) bytes) → length front ≤ limit
    → IfSome left (λ bytes. front ≡ bytes)
whole-stream limit None front is fits = tt
whole-stream limit (Some bytes) front is fits = whole limit bytes front is fits

pub long-stream : (limit : ℕ) (left : Option (List ℕ)) (front : List ℕ)
    → IfSome left (λ bytes. front ≡ take (limit + 1) bytes) → limit < length front
    → IfSome left (λ bytes. limit < length bytes)
long-stream limit None front is more = tt
long-stream limit (Some bytes) front is more = long limit bytes front is more

-- a text of suppressions isn't too long
pub short-text : (gives : Giving) (named : Option (List ℕ)) (text : List ℕ) → HasText gives named text
    → length text ≤ longest_text
short-text gives None text none = let empty : length text ≡ 0 = ap length none in omega arith
short-text gives (Some path) text (gave, fits) = fits

-- a text of suppressions that is rejected
pub refused-rules : (text : List ℕ) (fault : SuppFault)
    → ((line : ℕ) → fault ≡ Supp.BadSuppression line → IsLeast line (faults text)) → NoRulesIn text (Suppressions fault)
refused-rules text Supp.Memory least = tt
refused-rules text (Supp.BadSuppression line) least = least line refl

-- if there is no text, there are no rules
pub no-text : (gives : Giving) (named : Option (List ℕ)) (path : List ℕ) (end : End) → named ≡ Some path
    → NoText gives (Some path) end → NoRules gives named end
no-text gives named path end is h = subst (λ (option : Option (List ℕ)). NoRules gives option end) (sym is) (told end h)
  where
    told : (end : End) → NoText gives (Some path) end → NoRules gives (Some path) end
    told (Suppressions (Supp.BadSuppression line)) h = absurd h
    told (Suppressions Supp.Memory) h = absurd h
    told end h = h
