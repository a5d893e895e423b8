use Rattle.std.proofs.Common.{sym, ◌∙◌, ap, arith, inl, inr, Ok, rules}
use Rattle.commands.specs.declared.edit.Edit.TheVariants.{Overwrite}
use Rattle.look_lines.proofs.Digits.{overwrite-made, overwrite-refused}
use Rattle.look_lines.proofs.inputs.overwrite_of.Goals as goal

pub returns-then-from-hex : goal.returns-then-from-hex
returns-then-from-hex c =
    overwrite-refused c.args.len c.args.hex.now c.in-Some.offset _ (sym c.number.ensures ∙ c.in-Some.is)
    (sym c.is_hex.ensures ∙ c.if-not-is_hex.false) (omega (arith, c.from.ensures, c.if-from-hex.true))

pub returns-in_err-bytes : goal.returns-in_err-bytes
returns-in_err-bytes c =
    overwrite-made c.args.len c.args.hex.now c.in-Some.offset _ (sym c.number.ensures ∙ c.in-Some.is)
    c.from_residual.result (sym c.is_hex.ensures ∙ c.if-not-is_hex.false)
    (omega (arith, c.from.ensures, c.if-from-hex.false)) (inr (search rules))

pub returns : goal.returns
returns c =
    overwrite-made c.args.len c.args.hex.now c.in-Some.offset _ (sym c.number.ensures ∙ c.in-Some.is) _
    (sym c.is_hex.ensures ∙ c.if-not-is_hex.false) (omega (arith, c.from.ensures, c.if-from-hex.false))
    (inl (ap (λ bytes. Ok (Overwrite c.in-Some.offset bytes)) c.in_ok-bytes.ensures))
