-- The reply to a line of a session that may also be looked at, and whose machine may be altered at a step.
use Rattle.std.specs.Prelude.{◌≡◌, ◌⊎◌, ◌&&◌, ℕ, min, nat_eq, nat_le, Bool, not, if◌then◌else◌, List, MatchBool}
use Rattle.std.specs.Prelude.{Option, Result, Ok, Err, codes, length, take}
use Rattle.std.specs.List.{starts_with}
use Rattle.checkpoints.specs.Searches.{IsNext, IsLast}
use Rattle.checkpoints.specs.Work.{ReportMoves, Work, reached}
use Rattle.checkpoints.specs.declared.sides.Sides.{Sides as SidesOf}
use Rattle.line_protocol.specs.Answers.{AnswersBy}
use Rattle.line_protocol.specs.Lines.{longest_line}
use Rattle.replay_session.specs.Replies.{RepliesAs, is_over, refused_line}
use Rattle.replay_session.specs.Stages.{Stage, stage_of}
use Rattle.replay_session.specs.Session.{Finds, happened_of, IsSidesOf, IsVerdictOf, turn_of}
use Rattle.replay_session.specs.Texts.{last_text}
use Rattle.replay_session.specs.Turns.{Turn, accepted_as}
use Rattle.replay_session.specs.declared.session.Session.{Session}
use Rattle.run_values.specs.declared.alteration.Alteration.{Alteration}
use Rattle.scenario.specs.Scenario.{Scenario, chosen_state, limit_of}
use Rattle.commands.specs.Commands.{parsed}
use Rattle.commands.specs.declared.command.Command.{Command}
use Rattle.commands.specs.declared.command.Command.TheVariants.{Edit}
use Rattle.commands.specs.declared.edit.Edit.{Edit as AnEdit}
use Rattle.commands.specs.declared.edit.Edit.TheVariants.{Mark}
use Rattle.commands.specs.declared.fault.Fault.{Fault}
use Rattle.commands.specs.declared.fault.Fault.TheVariants.{Memory}
use Rattle.look_lines.specs.Alterations.{alteration_asked, alters}
use Rattle.look_lines.specs.Controls.{controls_text}
use Rattle.look_lines.specs.Inputs.{edit_asked, gives}
use Rattle.look_lines.specs.Lists.{calls_text, ListsBlocks, most_happened, stack_text}
use Rattle.look_lines.specs.Looks.{asked}
use Rattle.look_lines.specs.Texts.{input_text, memory_text, output_text, registers_text, sides_text, step_text}
use Rattle.look_lines.specs.declared.look.Look.{Look}
use Rattle.look_lines.specs.declared.look.Look.TheVariants.{Registers, Controls, Memory, Output, Sides, Input, Next}
use Rattle.look_lines.specs.declared.look.Look.TheVariants.{Last, Certify, Stack, Blocks, Calls}
use Rattle.looks.specs.declared.viewer.Viewer.{Viewer}

-- does a line look? One that is too long doesn't, and none does once the limit of lines is reached
unfoldable pub looks : Turn → List ℕ → Bool
looks turn line = starts_with nat_eq line (codes "look ") && not (is_over turn) && nat_le (length line) longest_line

-- a text is the reply to a look at the chosen step of one run from step zero: on its state; on what the run has done
-- with each instruction of a range; on which step from it on is the first, or before it the last, that does what is
-- sought; the verdict on the run up to it; or what happens in steps before it
abbrev pub Tells : Scenario → Look → List ℕ → Type 0
Tells sc Registers text = text ≡ registers_text (chosen_state sc)
Tells sc Controls text = text ≡ controls_text (chosen_state sc)
Tells sc (Memory range) text = text ≡ memory_text (chosen_state sc) range
Tells sc (Output range) text = text ≡ output_text (chosen_state sc) range
Tells sc (Sides range) text = (table : List SidesOf) × IsSidesOf sc range table × (text ≡ sides_text table)
Tells sc Input text = text ≡ input_text (chosen_state sc) (length sc.setup.input)
Tells sc (Next search) text =
    (found : Option ℕ) × IsNext (Finds sc search.sought) sc.step search.bound found × (text ≡ step_text found)
Tells sc (Last search) text =
    (found : Option ℕ) × IsLast (Finds sc search.sought) search.bound sc.step found × (text ≡ step_text found)
Tells sc Certify text = IsVerdictOf sc text
Tells sc Stack text = text ≡ stack_text (chosen_state sc)
Tells sc (Blocks from) text = ListsBlocks (chosen_state sc).core.blocks from text
Tells sc (Calls stretch) text = text ≡ calls_text (take most_happened (happened_of sc stretch.from stretch.end))

-- how a look at a step moves the work: as a report there does. A verdict executes further steps to find the first use.
-- A look at sides moves none, and one at what happens in steps moves it as a report at the end of those steps does
abbrev pub LookMoves : Look → ℕ → Work → Work → Type 0
LookMoves Certify n old new = (new.last ≡ reached old.apart old.last n) × (new.apart ≡ old.apart)
LookMoves (Sides range) n old new = new ≡ old
LookMoves (Calls stretch) n old new = ReportMoves (min stretch.end n) old new
LookMoves look n old new = ReportMoves n old new

-- a look changes neither the turn nor whether the trail is short
pub record Leaves (old new : Stage) : Type 0 where
  pub turn : new.turn ≡ old.turn
  pub short : new.short ≡ old.short

-- the reply to a look: its text, and how the work is moved; or memory ran out
abbrev pub Told : Stage → Look → List ℕ → Stage → Type 0
Told old look text new =
    (Tells old.turn.scenario look text × LookMoves look old.turn.scenario.step old.work new.work)
    ⊎ (text ≡ refused_line Memory)

-- the reply to a line that looks, or that would but is rejected
abbrev pub Looked : Stage → Result Look Fault → List ℕ → Stage → Type 0
Looked old (Ok look) text new = Told old look text new × Leaves old new
Looked old (Err fault) text new = (text ≡ refused_line fault) × (new ≡ old)

-- the reply of a session to a line that is read so
abbrev pub RepliesRead : Session → List ℕ → Result Command Fault → List ℕ → Session → Type 0
RepliesRead old line read text new = RepliesAs (stage_of old) (accepted_as (turn_of old) line read) text (stage_of new)

-- the command of a line that alters: an edit that appends its alteration to the list of marks
abbrev pub marking : Result Alteration Fault → Result Command Fault
marking (Ok alteration) = Ok (Edit (Mark alteration))
marking (Err fault) = Err fault

-- the command of a line that gives the input bytes: its edit
abbrev pub giving : Result AnEdit Fault → Result Command Fault
giving (Ok edit) = Ok (Edit edit)
giving (Err fault) = Err fault

-- the command as which any line is read that doesn't look: one that alters, one that gives the input bytes, or one of a
-- session
unfoldable pub read_as : ℕ → List ℕ → Result Command Fault
read_as limit line =
    if alters line then marking (alteration_asked limit line)
    else if gives line then giving (edit_asked line)
    else parsed line

-- the reply to a line that looks is this, and to any other the one of a session to what it is read as
abbrev pub Views : Stage → List ℕ → List ℕ → Stage → Type 0
Views old line text new =
    MatchBool (looks old.turn line) (Looked old (asked (limit_of old.turn.scenario) line) text new)
    (RepliesAs old (accepted_as old.turn line (read_as (limit_of old.turn.scenario) line)) text new)

-- the replies to one line after another, up to the first that is rejected because there were too many
abbrev pub ViewsLines : Stage → List (List ℕ) → List (List ℕ) → Type 0
ViewsLines = AnswersBy Views (λ stage. is_over stage.turn)

-- the text of a viewer's last reply
unfoldable pub reply_of : Viewer → List ℕ
reply_of viewer = if viewer.is_shown then viewer.shown.items else last_text viewer.texts
