-- The step that a command line gives, and the error that is passed on.
use Rattle.std.proofs.Common.{◌≡◌, ◌∙◌, ℕ, List, Option, Some, None, Result, Ok, Err, IfErr, IfSome, IsErrAnd}
use Rattle.std.proofs.Common.{IsSomeAnd, refl, subst, sym}
use Rattle.std.specs.Str.Parse.{digits_value, without_leading_plus, ParsesUnsigned, ExplainsUnsignedError}
use Rattle.std.specs.Str.Parse.{HasUnsignedDigitsIfOk}
use Rattle.std.specs.declared.num.ParseIntError.{ParseIntError}
use Rattle.clap.proofs.WalkLemmas.{one_text-rows}
use Rattle.clap.specs.Words.{FailsBy, HasKind, Kinds, ReadsOne, Row, Text, one_of, one_text, rows_of}
use Rattle.clap.specs.declared.error.Error.{Error}
use Rattle.clap.specs.declared.parser.matches.Found.{Found}
use Rattle.command_line.specs.Orders.{IsNumberOf, IsOrderOf}
use Rattle.command_line.specs.declared.order.Order.{Order}

-- what `u32::from_str` says
abbrev from_text : List ℕ → Result ℕ ParseIntError → Type 0
from_text text result =
    ParsesUnsigned 32 10 text result × ExplainsUnsignedError 10 text result × HasUnsignedDigitsIfOk text result

read : (found : Option Text) (result : Option ℕ) → (found ≡ None → result ≡ None)
    → ((t : List ℕ) → found ≡ Some t → ReadsOne from_text t result)
    → IfSome result (λ n. IsSomeAnd found (λ text. n ≡ digits_value 10 (without_leading_plus text)))
read found None none reads = tt
read None (Some n) none reads = let missing : Some n ≡ None = none refl in cc
read (Some t) (Some n) none reads = (reads t refl).0.1

pub is-number : (f : Found) (name : Text) (result : Option ℕ) → (one_text f name ≡ None → result ≡ None)
    → ((t : List ℕ) → one_text f name ≡ Some t → ReadsOne from_text t result)
    → IfSome result (IsNumberOf name (rows_of f))
is-number f name result none reads =
    read (one_of name (rows_of f)) result (λ e. none (one_text-rows f name ∙ e))
    (λ t e. reads t (one_text-rows f name ∙ e))

-- what holds of the error that was passed on
pub same-error : {T E : Type 0} (result : Result T E) (error : E) (P : E → Type 0) → IsErrAnd result (λ e. e ≡ error)
    → P error → IfErr result P
same-error (Ok x) error P is holds = tt
same-error (Err e) error P is holds = subst P (sym is) holds

-- an error that is passed on is of a kind that it was of, and nothing else is
pub same-fails : {T : Type 0} (kinds other : Kinds) (result : Result T Error) (error : Error)
    → IsErrAnd result (λ e. e ≡ error) → other ≡ kinds
    → HasKind other error → FailsBy kinds result
same-fails kinds other (Ok x) error is same has = absurd is
same-fails kinds other (Err e) error is same has =
    subst (λ (k : Kinds). HasKind k e) same (subst (λ (x : Error). HasKind other x) (sym is) has)

-- the order of what was found is that of the words
pub found-order : (found entered : Option (Text × List Row)) (order : Order) → found ≡ entered
    → IsSomeAnd found (λ f. IsOrderOf f.0 f.1 order)
    → IsSomeAnd entered (λ f. IsOrderOf f.0 f.1 order)
found-order found entered order is has =
    subst (λ (o : Option (Text × List Row)). IsSomeAnd o (λ f. IsOrderOf f.0 f.1 order)) is has
