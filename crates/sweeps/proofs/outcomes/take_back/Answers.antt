use Rattle.sweeps.proofs.ChangeSteps.{put-back-byte, put-back-half, put-back-step, put-back-word}
use Rattle.sweeps.proofs.outcomes.take_back.Goals as goal

pub returns-in-Byte : goal.returns-in-Byte
returns-in-Byte c sc change stands at left =
    put-back-byte c.edits_go_back.ensures sc c.args.scenario.now c.edit-cannot_fail.new.self c.in-Byte.offset
    c.in-Byte.byte c.args.standing change
    c.edit-cannot_fail.result c.in-Byte.is stands at left
    c.edit-cannot_fail.ensures.ok
    c.edit-cannot_fail.ensures.err

pub returns-in-Word : goal.returns-in-Word
returns-in-Word c sc change stands at left =
    put-back-word sc c.args.scenario.now c.drop_word.new.self c.in-Word.addr c.in-Word.word c.args.standing change
    c.in-Word.is at left c.drop_word.ensures

pub returns-in-Half : goal.returns-in-Half
returns-in-Half c sc change stands at left =
    put-back-half sc c.args.scenario.now c.drop_word-in-Half.new.self c.in-Half.addr c.in-Half.half c.args.standing
    change c.in-Half.is at left c.drop_word-in-Half.ensures

pub returns-in-Step : goal.returns-in-Step
returns-in-Step c sc change stands at left =
    put-back-step sc c.args.scenario.now c.unmark.new.scenario c.in-Step.step c.in-Step.pc c.in-Step.is_half
    c.args.standing change c.in-Step.is at left c.unmark.ensures
