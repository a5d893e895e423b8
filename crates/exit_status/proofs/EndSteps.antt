-- The end, or another error, that a call passes on.
use Rattle.std.proofs.Common.{◌≡◌, Result, Ok, Err, IfErr, IsErrAnd, sym, subst}
use Rattle.exit_status.specs.Ends.{end_of}
use Rattle.exit_status.specs.declared.ends.End.{End}

-- the end that was passed on
pub passed-on : {T : Type 0} (result : Result T End) (end : End) → IsErrAnd result (λ e. e ≡ end) → end_of result ≡ end
passed-on (Ok x) end is = absurd is
passed-on (Err e) end is = is

-- what holds of the error that was passed on
pub same-error : {T E : Type 0} (result : Result T E) (error : E) (P : E → Type 0) → IsErrAnd result (λ e. e ≡ error)
    → P error → IfErr result P
same-error (Ok x) error P is holds = tt
same-error (Err e) error P is holds = subst P (sym is) holds
