-- What was written for the bytes that were read: what a server of lines says for any replies, for those of a session.
use Rattle.std.specs.Prelude.{ℕ, List, Option}
use Rattle.line_protocol.specs.Served.{ServedAll as ServedAllBy, ServedRead as ServedReadBy}
use Rattle.line_protocol.specs.Served.{StoppedBy as StoppedByFault}
use Rattle.line_protocol.specs.declared.fault.ServeFault.{ServeFault}
use Rattle.replay_session.specs.Replies.{Answers}
use Rattle.replay_session.specs.Stages.{Stage}

-- the replies to the lines of all bytes that a reader had, if it says which, were written, and nothing else
abbrev pub ServedAll : Stage → Option (List ℕ) → Option (List ℕ) → Option (List ℕ) → Type 0
ServedAll stage = ServedAllBy (Answers stage)

-- the same for the bytes that were read
abbrev pub ServedRead : Stage → Option (List ℕ) → Option (List ℕ) → Option (List ℕ) → Option (List ℕ) → Type 0
ServedRead stage = ServedReadBy (Answers stage)

-- some bytes were read, and what a fault says about them holds
abbrev pub StoppedBy : ServeFault → Stage → Option (List ℕ) → Option (List ℕ) → Option (List ℕ) → Option (List ℕ)
    → Type 0
StoppedBy fault stage = StoppedByFault fault (Answers stage)
