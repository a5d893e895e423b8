-- The reply to a line of a session whose run can be looked at and tried with other input bytes.
use Rattle.std.specs.Prelude.{◌≡◌, ◌⊎◌, ◌&&◌, ◌==◌, ℕ, nat_le, Bool, not, if◌then◌else◌, List, [], ◌∷◌, ◌++◌, MatchBool}
use Rattle.std.specs.Prelude.{Option, Some, None, Result, Ok, Err, codes, false, true, length, take}
use Rattle.std.specs.Fmt.{decimal}
use Rattle.std.specs.Str.{bytes_eq}
use Rattle.checkpoints.specs.Compares.{compares_between}
use Rattle.checkpoints.specs.Forks.{IsLastUnshown}
use Rattle.checkpoints.specs.Work.{ForkMoves}
use Rattle.checkpoints.specs.declared.compares.Compare.{Compare}
use Rattle.checkpoints.specs.declared.sides.Sides.{Sides}
use Rattle.commands.specs.declared.edit.Edit.{Edit}
use Rattle.commands.specs.declared.fault.Fault.{Fault}
use Rattle.commands.specs.declared.fault.Fault.TheVariants.{BadCommand, Memory}
use Rattle.line_protocol.specs.Answers.{AnswersBy}
use Rattle.line_protocol.specs.Lines.{longest_line}
use Rattle.look_lines.specs.Inputs.{ReadsFor, begins_with, edit_tried}
use Rattle.looks.specs.Views.{Leaves, Views, giving, looks}
use Rattle.replay_session.specs.Replies.{RepliesAs, is_over, refused_line}
use Rattle.replay_session.specs.Session.{IsSidesOf}
use Rattle.replay_session.specs.Stages.{Stage}
use Rattle.replay_session.specs.Turns.{Turn, accepted_as}
use Rattle.report_lines.specs.Text.{address_text, newline}
use Rattle.run_values.specs.declared.span.Span.{Span}
use Rattle.scenario.specs.Edits.{row}
use Rattle.scenario.specs.Scenario.{Scenario, IsOutlineOf, first_state, run_of}
use Rattle.texts.specs.Tallied.{is_met, number_of, with_text}
use Rattle.tries.specs.Merging.{IsMerged, agains_of, news_of}
use Rattle.look_lines.specs.Ranges.{range_of}
use Rattle.tries.specs.Plans.{attempts_of, edit_of, plan_asked, try_line}
use Rattle.tries.specs.declared.plans.Attempt.{Attempt}
use Rattle.tries.specs.declared.plans.BytePlan.{BytePlan}

-- what the lines so far have left: the session's stage, the range of which sides are told, what the runs of tries have
-- done there, their outcomes, and the edit of the last try, if the lines after it only try, ask for compares or look
pub record TriesStage : Type 0 where
  pub session : Stage
  pub range : Span
  pub seen : List Sides
  pub told : List (List ℕ × ℕ)
  pub last : Option Edit

-- that of a session without a try
abbrev pub untried : Stage → TriesStage
untried session = record {
  session = session;
  range = range_of session.turn.scenario.image;
  seen = [];
  told = [];
  last = None;
}

-- is a line begun by a word answered? One that is too long isn't, and none is once the limit of lines is reached
unfoldable pub asks : List ℕ → Turn → List ℕ → Bool
asks word turn line = begins_with word line && not (is_over turn) && nat_le (length line) longest_line

-- does a line try an input, or a plan of inputs, or ask in which compares its run differs?
abbrev pub tries : Turn → List ℕ → Bool
tries = asks (codes "try")

abbrev pub plans : Turn → List ℕ → Bool
plans = asks (codes "tries")

abbrev pub differs : Turn → List ℕ → Bool
differs = asks (codes "differs")

-- `tried NUMBER new SIDES again SIDES`
unfoldable pub tried_line : ℕ → ℕ → ℕ → List ℕ
tried_line number sides again =
    codes "tried " ++ decimal number ++ codes " new " ++ decimal sides ++ codes " again " ++ decimal again ++ newline

-- `outcome NUMBER`, and the outcome's lines
unfoldable pub outcome_text : ℕ → List ℕ → List ℕ
outcome_text number outcome = codes "outcome " ++ decimal number ++ newline ++ outcome

-- the reply to a try: its outcome, if no try before had it, and then the outcome's number and how many sides are new
unfoldable pub tried_text : Bool → ℕ → List ℕ → ℕ → ℕ → List ℕ
tried_text met number outcome sides again =
    (if met then [] else outcome_text number outcome) ++ tried_line number sides again

-- what the runs of tries have done, their outcomes, and the text of a reply so far
pub record Gathered : Type 0 where
  pub seen : List Sides
  pub told : List (List ℕ × ℕ)
  pub text : List ℕ

abbrev pub gathered : TriesStage → List ℕ → Gathered
gathered stage text = record { seen = stage.seen; told = stage.told; text = text }

-- what is told of a try: by whether its outcome was met, its number, the outcome, and how many sides are new
abbrev pub Wording : Type 0
Wording = Bool → ℕ → List ℕ → ℕ → ℕ → List ℕ

-- an edit of a scenario was tried: the outcome and the sides are those of one run from step zero of the edited scenario
pub record TriedAs (sc : Scenario) (range : Span) (wording : Wording) (edit : Edit) (old new : Gathered) : Type 0 where
  pub outcome : List ℕ
  pub run : List Sides
  pub is_outcome : IsOutlineOf false (row sc edit).after outcome
  pub is_run : IsSidesOf (row sc edit).after range run
  pub tells : new.text
      ≡ old.text ++ wording (is_met old.told outcome) (number_of old.told outcome) outcome (news_of old.seen run)
      (agains_of old.seen run)
  pub told : new.told ≡ with_text old.told outcome
  pub seen : IsMerged old.seen run new.seen

-- a try leaves the session's turn and whether the trail is short, and the range
pub record LeavesBase (old new : TriesStage) : Type 0 where
  pub session : Leaves old.session new.session
  pub range : new.range ≡ old.range

-- how a try moves the work: as a fork of the session's own run, up to the chosen step, does. The steps of the run that
-- is tried aren't counted
abbrev pub TryMoves : Stage → Stage → Type 0
TryMoves old new = ForkMoves old.turn.scenario.step old.work new.work

-- an edit was tried, and is that of the last try
pub record Tried (old : TriesStage) (edit : Edit) (text : List ℕ) (new : TriesStage) : Type 0 where
  pub tried : TriedAs old.session.turn.scenario old.range tried_text edit (gathered old []) (gathered new text)
  pub last : new.last ≡ Some edit
  pub work : TryMoves old.session new.session

-- `STEP PC A B A' B'`: the step of a compare, its address, its operands, and those of the other run
unfoldable pub differ_line : Compare → Compare → List ℕ
differ_line own other =
    decimal own.step ++ codes " " ++ address_text own.pc ++ codes " " ++ address_text own.left ++ codes " "
    ++ address_text own.right ++ codes " " ++ address_text other.left ++ codes " " ++ address_text other.right
    ++ newline

-- do two compares have the same operands?
abbrev pub have_same : Compare → Compare → Bool
have_same own other = own.left == other.left && own.right == other.right

-- the line of two compares, if their operands differ
abbrev pub pair_lines : Compare → Compare → List ℕ
pair_lines own other = if have_same own other then [] else differ_line own other

-- a line for each pair of compares whose operands differ, up to the first pair at different addresses
unfoldable pub differ_lines : List Compare → List Compare → List ℕ
differ_lines [] others = []
differ_lines (own ∷ owns) [] = []
differ_lines (own ∷ owns) (other ∷ others) =
    if own.pc == other.pc then pair_lines own other ++ differ_lines owns others else []

-- how many compares of a run are looked at
abbrev pub most_compares : ℕ
most_compares = 65536

-- the compares of a scenario's run from a step on
abbrev pub compares_from : ℕ → Scenario → List Compare
compares_from from sc =
    take most_compares (compares_between (first_state sc) sc.setup sc.marks from sc.step)

-- what tries have left stays as it is
pub record Keeps (old new : TriesStage) : Type 0 where
  pub told : new.told ≡ old.told
  pub seen : new.seen ≡ old.seen
  pub last : new.last ≡ old.last

-- the compares of two runs were told, from the last step at which an edit doesn't show
pub record Differ (old : TriesStage) (edit : Edit) (text : List ℕ) (new : TriesStage) : Type 0 where
  pub from : ℕ
  pub is_last : IsLastUnshown (row old.session.turn.scenario edit).effect (run_of old.session.turn.scenario)
      old.session.turn.scenario.step from
  pub tells : text
      ≡ differ_lines (compares_from from old.session.turn.scenario)
      (compares_from from (row old.session.turn.scenario edit).after) ++ codes "end\n"
  pub keeps : Keeps old new
  pub work : TryMoves old.session new.session

-- or nothing was tried, and the line is rejected
pub record Refused (old : TriesStage) (fault : Fault) (text : List ℕ) (new : TriesStage) : Type 0 where
  pub replies : text ≡ refused_line fault
  pub keeps : Keeps old new

-- and nothing was executed
abbrev pub Rejected : TriesStage → Fault → List ℕ → TriesStage → Type 0
Rejected old fault text new = Refused old fault text new × (new.session.work ≡ old.session.work)

-- what a line tells of an edit
abbrev pub Telling : Type 1
Telling = TriesStage → Edit → List ℕ → TriesStage → Type 0

-- the reply to a line that asks so of an input: it is told of an edit that isn't rejected, or memory ran out
abbrev pub ToldAs : Telling → TriesStage → Result Edit Fault → List ℕ → TriesStage → Type 0
ToldAs Tells old (Ok edit) text new = Tells old edit text new ⊎ Refused old Memory text new
ToldAs Tells old (Err fault) text new = Rejected old fault text new

-- as what such a line is read: why it is rejected comes first, then why its edit is, then that memory ran out for its
-- bytes
abbrev pub TellsLine : Telling → TriesStage → List ℕ → List ℕ → TriesStage → Type 0
TellsLine Tells old line text new =
    LeavesBase old new
    × ((read : Result Edit Fault)
    × ReadsFor (length old.session.turn.scenario.setup.input) (edit_tried line) read
    × ToldAs Tells old read text new)

-- what is told of a try of a plan: nothing, unless its outcome or sides are new; and else the line that tries the edit
-- comes first
unfoldable pub planned_text : Attempt → Wording
planned_text attempt met number outcome sides again =
    if met && (sides == 0 && again == 0) then [] else try_line attempt ++ tried_text met number outcome sides again

-- edits of a scenario were tried, one after another
abbrev pub TriedAll : Scenario → Span → List Attempt → Gathered → Gathered → Type 0
TriedAll sc range [] old new = new ≡ old
TriedAll sc range (attempt ∷ attempts) old new =
    (mid : Gathered) × TriedAs sc range (planned_text attempt) (edit_of attempt) old mid
    × TriedAll sc range attempts mid new

-- these are the first of some edits
abbrev pub AreFirstOf : List Attempt → List Attempt → Type 0
AreFirstOf done attempts = (rest : List Attempt) × (attempts ≡ done ++ rest)

-- were all edits tried? If not, the first of them were, until memory ran out
abbrev pub Covers : Bool → List Attempt → List Attempt → Type 0
Covers true attempts done = done ≡ attempts
Covers false attempts done = AreFirstOf done attempts

-- the last line of a reply to a plan says so
abbrev pub last_line : Bool → List ℕ
last_line true = codes "end\n"
last_line false = refused_line Memory

-- edits were tried, all or as many as memory allowed
pub record TriedUpTo (all : Bool) (sc : Scenario) (range : Span) (attempts : List Attempt) (old new : Gathered)
    : Type 0 where
  pub done : List Attempt
  pub covers : Covers all attempts done
  pub tried : TriedAll sc range done old new

-- how the tries of a plan move the work: all together as one try does, and none not at all
abbrev pub PlanMoves : List Attempt → Stage → Stage → Type 0
PlanMoves [] old new = new.work ≡ old.work
PlanMoves (attempt ∷ attempts) old new = TryMoves old new

-- a plan's edits were tried, and then there is no last try. The work is told of unless memory ran out
pub record Planned (old : TriesStage) (plan : BytePlan) (text : List ℕ) (new : TriesStage) : Type 0 where
  pub all : Bool
  pub told : List ℕ
  pub tried : TriedUpTo all old.session.turn.scenario old.range
      (attempts_of plan old.session.turn.scenario.setup.input) (gathered old []) (gathered new told)
  pub replies : text ≡ told ++ last_line all
  pub last : new.last ≡ None
  pub work : all ≡ true
      → PlanMoves (attempts_of plan old.session.turn.scenario.setup.input) old.session new.session

-- the reply to a line that tries a plan, unless it is rejected
abbrev pub PlannedAs : TriesStage → Result BytePlan Fault → List ℕ → TriesStage → Type 0
PlannedAs old (Ok plan) text new = Planned old plan text new
PlannedAs old (Err fault) text new = Rejected old fault text new

abbrev pub PlansLine : TriesStage → List ℕ → List ℕ → TriesStage → Type 0
PlansLine old line text new =
    LeavesBase old new × PlannedAs old (plan_asked (length old.session.turn.scenario.setup.input) line) text new

-- does a line make the input of the last try the session's?
unfoldable pub takes : List ℕ → Bool
takes line = bytes_eq line (codes "take")

-- such a line is read as the edit of the last try, if there is one
abbrev pub taken : Option Edit → Result Edit Fault
taken None = Err BadCommand
taken (Some edit) = Ok edit

-- it is answered as a session answers that edit, and any other line as in a session that can be looked at
abbrev pub Passes : TriesStage → List ℕ → List ℕ → Stage → Type 0
Passes old line text new =
    MatchBool (takes line)
    (RepliesAs old.session (accepted_as old.session.turn line (giving (taken old.last))) text new)
    (Views old.session line text new)

-- the edit of the last try is forgotten, unless the line looks
abbrev pub last_after : TriesStage → List ℕ → Option Edit
last_after old line = if looks old.session.turn line then old.last else None

-- what these lines leave
pub record Others (old : TriesStage) (line text : List ℕ) (new : TriesStage) : Type 0 where
  pub passes : Passes old line text new.session
  pub range : new.range ≡ old.range
  pub seen : new.seen ≡ old.seen
  pub told : new.told ≡ old.told
  pub last : new.last ≡ last_after old line

abbrev pub Tries : TriesStage → List ℕ → List ℕ → TriesStage → Type 0
Tries old line text new =
    MatchBool (tries old.session.turn line) (TellsLine Tried old line text new)
    (MatchBool (plans old.session.turn line) (PlansLine old line text new)
    (MatchBool (differs old.session.turn line) (TellsLine Differ old line text new) (Others old line text new)))

-- the replies to one line after another, up to the first that is rejected because there were too many
abbrev pub TriesLines : TriesStage → List (List ℕ) → List (List ℕ) → Type 0
TriesLines = AnswersBy Tries (λ stage. is_over stage.session.turn)
