use Rattle.std.proofs.Common.{sym, ◌∙◌, ap, inl, inr, Ok, rules}
use Rattle.commands.specs.declared.edit.Edit.TheVariants.{Give}
use Rattle.look_lines.proofs.Digits.{give-made, give-refused}
use Rattle.look_lines.proofs.inputs.give_of.Goals as goal

pub returns-then-hex-gt-LONGEST_INPUT : goal.returns-then-hex-gt-LONGEST_INPUT
returns-then-hex-gt-LONGEST_INPUT c =
    give-refused c.args.len c.args.hex.now (sym c.is_hex.ensures ∙ c.if-not-is_hex.false) c.if-hex-gt-LONGEST_INPUT.true

pub returns-in_err-bytes : goal.returns-in_err-bytes
returns-in_err-bytes c =
    give-made c.args.len c.args.hex.now c.from_residual.result (sym c.is_hex.ensures ∙ c.if-not-is_hex.false)
    c.if-hex-gt-LONGEST_INPUT.false (inr (search rules))

pub returns : goal.returns
returns c =
    give-made c.args.len c.args.hex.now _ (sym c.is_hex.ensures ∙ c.if-not-is_hex.false)
    c.if-hex-gt-LONGEST_INPUT.false (inl (ap (λ bytes. Ok (Give bytes)) c.in_ok-bytes.ensures))
