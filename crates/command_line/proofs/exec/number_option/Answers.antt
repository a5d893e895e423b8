use Rattle.std.proofs.Common.{rules, arith, ◌≡◌, ◌∙◌, ◌≤◌, ◌||◌, if◌then◌else◌, ℕ, ℤ, Bool, true, false, cond, ap, ap₂}
use Rattle.std.proofs.Common.{refl, pos, Some}
use Rattle.std.proofs.Common.{le-ltb, ltb-false}
use Rattle.std.proofs.lemmas.Int.{to_z_pos}
use Rattle.std.specs.Int.{cast_signed, cast_unsigned, int_max, int_min, w64}
use Rattle.std.specs.Prelude.{ltb}
use Rattle.clap.specs.Words.{NarrowsTo, signed_between}
use Rattle.clap.specs.declared.builder.ValueParser.{ValueParser}
use Rattle.clap.specs.declared.builder.ValueParser.TheVariants.{Signed}
use Rattle.command_line.proofs.exec.number_option.Goals as goal

least-is : (least : ℕ) → int_max (pos 0) (pos least) ≡ pos least
least-is least = ap (λ (t : Bool). cond t (pos 0) (pos least)) (le-ltb least 0 (omega arith))

most-is : (limit most : ℕ) → most ≤ limit → int_min (pos limit) (pos most) ≡ pos most
most-is limit most h = by (ltb most limit) refl
  where
    by : (t : Bool) → ltb most limit ≡ t → cond t (pos most) (pos limit) ≡ pos most
    by true e = refl
    by false e = let over : limit ≤ most = ltb-false most limit e in ap pos (omega arith)

between-is : (least most : ℕ) → least ≤ 9223372036854775807
    → signed_between (pos least) (pos most) ≡ Signed (pos least) (pos most)
between-is least most h =
    ap (λ (t : Bool). if t || false then Signed (pos 1) (pos 0) else Signed (pos least) (pos most))
    (le-ltb 9223372036854775807 least h)

-- the parser of a number of 32 bits, narrowed to the numbers from `least` to `most`
narrowed-is : (least most : ℕ) (from to : ℤ) (narrowed : ValueParser) → least ≤ 9223372036854775807
    → most ≤ 4294967295 → from ≡ pos least → to ≡ pos most
    → NarrowsTo (Signed (pos 0) (pos 4294967295)) (Some from) (Some to) narrowed
    → narrowed ≡ Signed (pos least) (pos most)
narrowed-is least most from to narrowed low high from_is to_is narrows =
    narrows
    ∙ ap₂ (λ (a b : ℤ). signed_between (int_max (pos 0) a) (int_min (pos 4294967295) b)) from_is to_is
    ∙ ap₂ signed_between (least-is least) (most-is 4294967295 most high)
    ∙ between-is least most low

-- a number of 32 bits as one of 64 bits with a sign, which a bound of a range is
abbrev bound : ℤ → ℤ
bound z = cast_signed w64 (cast_unsigned w64 z)

bound-is : (n : ℕ) (z : ℤ) → n ≤ 4294967295 → z ≡ pos n → bound z ≡ pos n
bound-is n z h e = ap bound e ∙ to_z_pos w64 n (omega arith)

pub returns-clause-rule : goal.returns-clause-rule
returns-clause-rule c =
    let least = c.args.least in
    let most = c.args.most in
    let from = bound c.from.result in
    let to = bound c.from-2.result in
    let narrows : NarrowsTo (Signed (pos 0) (pos 4294967295)) (Some from) (Some to) c.range.result =
    rw (c.value_parser.ensures, c.new-numbers.ensures.start, c.new-numbers.ensures.end) at c.range.ensures in
    let given = c.value_parser-2.ensures.given in
    let parser_is : c.value_parser-2.result.value_parser ≡ Some (Signed (pos least) (pos most)) = given.1
    ∙ ap Some (given.2
    ∙ narrowed-is least most from to c.range.result (omega arith) (omega arith)
    (bound-is least c.from.result (omega arith) c.from.ensures)
    (bound-is most c.from-2.result (omega arith) c.from-2.ensures) narrows) in
    search (rules, parser_is)
