-- Lines that are too long are all answered alike: a lemma for the server of lines, which keeps a front of such a line.
use Rattle.std.proofs.Common.{◌≡◌, ◌<◌, ℕ, List, Bool, true, false, Some, refl, subst, Result, length, nat_le, lt-ltb}
use Rattle.std.proofs.Common.{if◌then◌else◌}
use Rattle.line_protocol.specs.Lines.{longest_line}
use Rattle.replay_session.specs.Replies.{Replies, RepliesAs}
use Rattle.replay_session.specs.Stages.{Stage}
use Rattle.replay_session.specs.Turns.{Turn, accepted_as, if_command, line_refusal, most_lines, unless_refused}
use Rattle.commands.specs.Commands.{parsed}
use Rattle.commands.specs.declared.command.Command.{Command}
use Rattle.commands.specs.declared.fault.Fault.{Fault}
use Rattle.commands.specs.declared.fault.Fault.TheVariants.{LineTooLong, TooManyCommands}

-- a line that is rejected before it is read is rejected alike, in whatever way it would be read
unread : (over : Bool) (a b : Result Command Fault)
    → unless_refused (if over then Some TooManyCommands else Some LineTooLong) a
    ≡ unless_refused (if over then Some TooManyCommands else Some LineTooLong) b
unread true a b = refl
unread false a b = refl

pub accepted-alike : (turn : Turn) (a b : List ℕ) (read-a read-b : Result Command Fault) → longest_line < length a
    → longest_line < length b
    → accepted_as turn a read-a ≡ accepted_as turn b read-b
unfolding line_refusal
accepted-alike turn a b read-a read-b f g =
    rw (lt-ltb longest_line (length a) f, lt-ltb longest_line (length b) g)
    (unread (nat_le most_lines turn.lines) (if_command turn.scenario read-a) (if_command turn.scenario read-b))

pub long_alike : (old new : Stage) (a b text : List ℕ) → longest_line < length a → longest_line < length b
    → Replies old a text new
    → Replies old b text new
long_alike old new a b text f g =
    subst (λ (outcome : Result Command Fault). RepliesAs old outcome text new)
    (accepted-alike old.turn a b (parsed a) (parsed b) f g)
