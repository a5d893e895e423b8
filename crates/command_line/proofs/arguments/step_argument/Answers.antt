use Rattle.std.proofs.Common.{rules, ◌≡◌, ◌∙◌, ap, pos, Some}
use Rattle.clap.specs.Words.{NarrowsTo}
use Rattle.clap.specs.declared.builder.ValueParser.TheVariants.{Signed}
use Rattle.command_line.proofs.arguments.step_argument.Goals as goal

pub returns-clause-rule : goal.returns-clause-rule
returns-clause-rule c =
    let narrowed : NarrowsTo (Signed (pos 0) (pos 4294967295)) (Some (pos 0)) (Some (pos 4194304)) c.range.result =
    rw (c.value_parser.ensures, c.new.ensures.start, c.new.ensures.end, c.from.ensures) at c.range.ensures in
    let given = c.value_parser-2.ensures.given in
    let parser_is : c.value_parser-2.result.value_parser ≡ Some (Signed (pos 0) (pos 4194304)) = given.1
    ∙ ap Some (given.2 ∙ narrowed) in
    search (rules, parser_is)
