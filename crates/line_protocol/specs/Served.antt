-- What was written for the bytes that were read, over any relation between lines and their replies.
use Rattle.std.specs.Prelude.{ℕ, ◌≡◌, ◌+◌, ◌-◌, ◌^◌, ◌≤◌, ◌==◌, ◌⊎◌, List, [], ◌∷◌, ◌++◌, Option, IfSome, length, take}
use Rattle.std.specs.Prelude.{min}
use Rattle.std.specs.Prelude.{if◌then◌else◌}
use Rattle.std.specs.Io.KnownBytes.{Appends, Consumes, IsAtEnd}
use Rattle.std.specs.Str.Lines.{lines}
use Rattle.line_protocol.specs.Answers.{Relation, joined}
use Rattle.line_protocol.specs.Lines.{closed_lines}
use Rattle.line_protocol.specs.declared.fault.ServeFault.{ServeFault}
use Rattle.line_protocol.specs.declared.fault.ServeFault.TheVariants.{ReadFailed, WriteFailed, NoMemory, Endless}

-- a count from 0 to the greatest u64, where it stops
abbrev pub standing : ℕ → ℕ
standing n = min n (2 ^ 64 - 1)

-- the replies to the lines of some bytes were written, and nothing else
abbrev pub Served : Relation → List ℕ → Option (List ℕ) → Option (List ℕ) → Type 0
Served AreReplies input held-old held-new =
    (replies : List (List ℕ)) × AreReplies (lines input) replies × Appends held-old held-new (joined replies)

-- the same for all bytes that a reader had, if it says which
abbrev pub ServedAll : Relation → Option (List ℕ) → Option (List ℕ) → Option (List ℕ) → Type 0
ServedAll AreReplies left held-old held-new = IfSome left (λ input. Served AreReplies input held-old held-new)

-- the same for the bytes that were read
abbrev pub ServedRead : Relation → Option (List ℕ) → Option (List ℕ) → Option (List ℕ) → Option (List ℕ) → Type 0
ServedRead AreReplies left-old left-new held-old held-new =
    (seen : List ℕ) × Consumes left-old left-new seen × Served AreReplies seen held-old held-new

-- the whole replies to all lines whose newline was read were written, with this number of replies and of bytes
pub record WholeReplies (AreReplies : Relation) (seen : List ℕ) (held-old held-new : Option (List ℕ))
    (count bytes : ℕ) : Type 0 where
  pub replies : List (List ℕ)
  pub answers : AreReplies (closed_lines seen) replies
  pub appended : Appends held-old held-new (joined replies)
  pub count_is : count ≡ standing (length replies)
  pub bytes_is : bytes ≡ standing (length (joined replies))

-- whole replies to the first lines were written, and a front of the reply to the next, with this number of whole
-- replies and of bytes
pub record CutReplies (AreReplies : Relation) (lines : List (List ℕ)) (held-old held-new : Option (List ℕ))
    (count bytes : ℕ) : Type 0 where
  pub whole : List (List ℕ)
  pub next : List ℕ
  pub sent : ℕ
  pub within : sent ≤ length next
  pub answers : AreReplies (take (length whole + 1) lines) (whole ++ next ∷ [])
  pub appended : Appends held-old held-new (joined whole ++ take sent next)
  pub count_is : count ≡ standing (length whole + (if sent == length next then 1 else 0))
  pub bytes_is : bytes ≡ standing (length (joined whole) + sent)

-- what each fault says about the bytes that were read and those that are left: bytes after the last newline are a line
-- only at the end
abbrev pub StopsBy : ServeFault → Relation → List ℕ → Option (List ℕ) → Option (List ℕ) → Option (List ℕ) → Type 0
StopsBy (ReadFailed count bytes) AreReplies seen left held-old held-new =
    WholeReplies AreReplies seen held-old held-new count bytes
StopsBy (Endless count bytes) AreReplies seen left held-old held-new =
    WholeReplies AreReplies seen held-old held-new count bytes
StopsBy (WriteFailed count bytes) AreReplies seen left held-old held-new =
    CutReplies AreReplies (closed_lines seen) held-old held-new count bytes
    ⊎ (IsAtEnd left × CutReplies AreReplies (lines seen) held-old held-new count bytes)
StopsBy (NoMemory count bytes) AreReplies seen left held-old held-new =
    (seen ≡ []) × WholeReplies AreReplies seen held-old held-new count bytes

-- some bytes were read, and what a fault says about them holds
abbrev pub StoppedBy : ServeFault → Relation → Option (List ℕ) → Option (List ℕ) → Option (List ℕ) → Option (List ℕ)
    → Type 0
StoppedBy fault AreReplies left-old left-new held-old held-new =
    (seen : List ℕ) × Consumes left-old left-new seen × StopsBy fault AreReplies seen left-new held-old held-new
