-- How many steps lines cost, by the list of lines only: where machines are held when a line is given, and from which of
-- them a report continues. No trail is in it.
use Rattle.std.specs.Prelude.{◌≡◌, ℕ, ◌+◌, ◌-◌, ◌%◌, ◌<◌, ◌≤◌, ◌⊎◌, ◌↔◌, false, List, [], ◌∷◌, ◌++◌, Result, Ok}
use Rattle.std.specs.Prelude.{length, min}
use Rattle.std.specs.List.{All}
use Rattle.checkpoints.specs.FirstEffects.{IsBelowFirst}
use Rattle.checkpoints.specs.Work.{Work}
use Rattle.replay_session.specs.Turns.{Turn, accepted, applied}
use Rattle.replay_session.specs.Replies.{Answers, HadMemory, Replies, worked_line}
use Rattle.replay_session.specs.Stages.{Stage, fresh_apart}
use Rattle.replay_session.specs.Work.{ShowsAt, LineMoves, no_work}
use Rattle.commands.specs.declared.fault.Fault.{Fault}
use Rattle.commands.specs.declared.command.Command.{Command}
use Rattle.commands.specs.declared.command.Command.TheVariants.{Report, Worked}

-- a line that was given, and the turn that it met
pub record Given : Type 0 where
  pub turn : Turn
  pub line : List ℕ

abbrev pub outcome_of : Given → Result Command Fault
outcome_of given = accepted given.turn given.line

-- lines from a turn on, each with what those before it leave
abbrev pub given_from : Turn → List (List ℕ) → List Given
given_from turn [] = []
given_from turn (line ∷ lines) = record { turn = turn; line = line } ∷ given_from (applied turn line) lines

-- a line is a report at step h or later
abbrev pub Reaches : ℕ → Given → Type 0
Reaches h given = (outcome_of given ≡ Ok Report) × (h ≤ given.turn.scenario.step)

-- a line is no edit with a first effect at or below h
abbrev pub Spares : ℕ → Given → Type 0
Spares h given =
    (command : Command) → outcome_of given ≡ Ok command → IsBelowFirst (ShowsAt given.turn.scenario command) h

-- some report was at step h or later, and no edit since has a first effect at or below h
abbrev pub IsKept : List Given → ℕ → Type 0
IsKept [] h = ⊥
IsKept (line ∷ later) h = (Reaches h line × All (Spares h) later) ⊎ IsKept later h

-- a machine is held at a step after these lines: at 0, and at each multiple of their distance that was
-- reached and kept
abbrev pub IsHeldAfter : ℕ → List Given → ℕ → Type 0
IsHeldAfter s lines h = (h % s ≡ 0) × ((h ≡ 0) ⊎ IsKept lines h)

-- the last of these steps that isn't above n
abbrev pub IsLastHeld : ℕ → List Given → ℕ → ℕ → Type 0
IsLastHeld s lines n h = IsHeldAfter s lines h × (h ≤ n) × ((k : ℕ) → IsHeldAfter s lines k → k ≤ n → k ≤ h)

-- the number of steps that an outcome adds after some lines: for a report at step n, those from the last held step that
-- isn't above n, and for all else none
abbrev pub Adds : ℕ → List Given → Turn → Result Command Fault → ℕ → Type 0
Adds s past turn (Ok Report) steps =
    (h : ℕ) × IsLastHeld s past turn.scenario.step h × (steps ≡ turn.scenario.step - h)
Adds s past turn outcome steps = steps ≡ 0

-- the number of steps that lines add, one after another, after those before them
abbrev pub AddUp : ℕ → List Given → List Given → ℕ → Type 0
AddUp s past [] steps = steps ≡ 0
AddUp s past (given ∷ later) steps =
    (first rest : ℕ) × Adds s past given.turn (outcome_of given) first × AddUp s (past ++ given ∷ []) later rest
    × (steps ≡ first + rest)

-- lines move the work, one after another
abbrev pub LinesMove : Turn → List (List ℕ) → Work → Work → Type 0
LinesMove turn [] old new = new ≡ old
LinesMove turn (line ∷ lines) old new =
    (next : Work) × LineMoves turn.scenario (accepted turn line) old next × LinesMove (applied turn line) lines next new

-- the law of held machines: after any lines, they are held up to the last step that the work has, at each step that the
-- list of lines says and at no other
abbrev pub HeldByLines : Type 0
HeldByLines = (s : ℕ) (turn : Turn) (lines : List (List ℕ)) (work : Work) → 0 < s
    → LinesMove turn lines (no_work s) work
    → (h : ℕ) → h % s ≡ 0 → (h ≤ work.last) ↔ IsHeldAfter s (given_from turn lines) h

-- the law of work: the steps executed are those that the list of lines says, and it says one number
abbrev pub MadeByLines : Type 0
MadeByLines = (s : ℕ) (turn : Turn) (lines : List (List ℕ)) (work : Work) → 0 < s
    → LinesMove turn lines (no_work s) work
    → (steps : ℕ) × AddUp s [] (given_from turn lines) steps × (work.made ≡ min steps 18446744073709551615)

abbrev pub WorkIsOne : Type 0
WorkIsOne = (s : ℕ) (past lines : List Given) (m n : ℕ) → AddUp s past lines m → AddUp s past lines n → m ≡ n

-- lines were answered one after another, from a stage to a stage
abbrev pub Leads : Stage → List (List ℕ) → List (List ℕ) → Stage → Type 0
Leads old [] replies new = (replies ≡ []) × (new ≡ old)
Leads old (line ∷ lines) [] new = ⊥
Leads old (line ∷ lines) (reply ∷ replies) new =
    (next : Stage) × Replies old line reply next × Leads next lines replies new

-- answers lead from stage to stage, where there is one for each line
abbrev pub AnswersLead : Type 0
AnswersLead =
    (old : Stage) (lines replies : List (List ℕ)) → Answers old lines replies → length replies ≡ length lines
    → (new : Stage) × Leads old lines replies new

-- the law of `worked`: after lines of which none was answered `refused 1`, and if the trail isn't short, it prints the
-- steps that the list of lines says
abbrev pub TellsWork : Type 0
TellsWork = (s : ℕ) (turn : Turn) (lines replies : List (List ℕ)) (stage next : Stage) (line text : List ℕ)
    → 0 < s → Leads (fresh_apart s turn) lines replies stage → All HadMemory replies → stage.short ≡ false
    → accepted stage.turn line ≡ Ok Worked → Replies stage line text next
    → (steps : ℕ) × AddUp s [] (given_from turn lines) steps × (text ≡ worked_line (min steps 18446744073709551615))
