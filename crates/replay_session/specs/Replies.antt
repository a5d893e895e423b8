-- The text that is written for a line, and for one line after another.
use Rattle.std.specs.Prelude.{ℕ, ◌≡◌, ◌⊎◌, ◌++◌, List, [], ◌∷◌, Bool, false, Result, Ok, Err, IsOkAnd, codes, decimal}
use Rattle.std.specs.Prelude.{nat_le}
use Rattle.line_protocol.specs.Answers.{AnswersBy, Relation}
use Rattle.commands.specs.Faults.{number_of}
use Rattle.scenario.specs.Scenario.{Scenario, IsReportOf}
use Rattle.replay_session.specs.Turns.{Turn, accepted, applied_as, passed, most_lines}
use Rattle.replay_session.specs.Session.{TakesMemory}
use Rattle.replay_session.specs.Stages.{Stage}
use Rattle.replay_session.specs.Work.{LineMoves, MayShorten}
use Rattle.commands.specs.declared.command.Command.{Command}
use Rattle.commands.specs.declared.command.Command.TheVariants.{Report, Worked}
use Rattle.commands.specs.declared.fault.Fault.{Fault}
use Rattle.commands.specs.declared.fault.Fault.TheVariants.{Memory}
use Rattle.replay_session.specs.declared.reply.Reply.{Reply}
use Rattle.replay_session.specs.declared.reply.Reply.TheVariants.{Done, Work, Report as Reported}

-- the reply to a line that is done
abbrev pub done_line : List ℕ
done_line = codes "ok\n"

-- a number after a word, on a line of its own
abbrev pub number_line : List ℕ → ℕ → List ℕ
number_line word n = word ++ decimal n ++ 10 ∷ []

-- the number of steps executed
abbrev pub worked_line : ℕ → List ℕ
worked_line n = number_line (codes "worked ") n

-- the reply to a line that is rejected
abbrev pub refused_line : Fault → List ℕ
refused_line fault = number_line (codes "refused ") (number_of fault)

-- the text of the reply to a line, after this number of executed steps
abbrev pub IsReplyTo : Scenario → ℕ → Result Command Fault → List ℕ → Type 0
IsReplyTo sc made (Ok Report) text = IsReportOf sc text
IsReplyTo sc made (Ok Worked) text = text ≡ worked_line made
IsReplyTo sc made (Ok _) text = text ≡ done_line
IsReplyTo sc made (Err fault) text = text ≡ refused_line fault

-- the reply to a line that is accepted as a command, or rejected, and what is left after it, after this number of
-- executed steps: as the scenario says, or memory ran out where it may, and the line only counts
abbrev pub Says : Turn → ℕ → Result Command Fault → List ℕ → Turn → Type 0
Says turn made outcome text after =
    (IsReplyTo turn.scenario made outcome text × (after ≡ applied_as turn outcome))
    ⊎ (IsOkAnd outcome (TakesMemory turn.scenario) × (text ≡ refused_line Memory)
    × (after ≡ passed turn turn.scenario))

-- a reply isn't `refused 1`
abbrev pub HadMemory : List ℕ → Type 0
HadMemory text = text ≡ refused_line Memory → ⊥

-- the line moves the work as it asks, unless it was answered `refused 1` or the trail is short after it
abbrev pub Moves : Stage → Result Command Fault → List ℕ → Stage → Type 0
Moves old outcome text new =
    HadMemory text → new.short ≡ false → LineMoves old.turn.scenario outcome old.work new.work

-- what a line is accepted as, its reply and the stage after it, whose work is the number that `worked` prints
abbrev pub RepliesAs : Stage → Result Command Fault → List ℕ → Stage → Type 0
RepliesAs old outcome text new =
    Says old.turn new.work.made outcome text new.turn
    × Moves old outcome text new
    × MayShorten old.turn.scenario outcome old.short new.short

-- one line of a session, its reply and the stage after it
abbrev pub Replies : Stage → List ℕ → List ℕ → Stage → Type 0
Replies old line text new = RepliesAs old (accepted old.turn line) text new

-- is the limit of lines reached?
abbrev pub is_over : Turn → Bool
is_over turn = nat_le most_lines turn.lines

-- one reply for each line, up to the first that is rejected because there were too many; the next line meets the stage
-- after it
abbrev pub Answers : Stage → Relation
Answers = AnswersBy Replies (λ stage. is_over stage.turn)

-- how a reply is written that isn't a report
abbrev pub short_text : Result Reply Fault → List ℕ
short_text (Ok Done) = done_line
short_text (Ok (Work n)) = worked_line n
short_text (Ok Reported) = []
short_text (Err fault) = refused_line fault

-- how a reply is written, if these bytes are the report
abbrev pub text_of : Result Reply Fault → List ℕ → List ℕ
text_of (Ok Reported) report = report
text_of outcome report = short_text outcome
