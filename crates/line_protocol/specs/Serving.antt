-- The effect of serving bytes, between two reads.
use Rattle.std.specs.Prelude.{ℕ, ◌≡◌, ◌+◌, ◌^◌, ◌<◌, ◌≤◌, ◌==◌, ◌⊎◌, List, [], ◌∷◌, ◌++◌, Bool, true, false, Option}
use Rattle.std.specs.Prelude.{length, take}
use Rattle.std.specs.Prelude.{if◌then◌else◌}
use Rattle.std.specs.Io.KnownBytes.{Appends, Consumes, IsAtEnd}
use Rattle.line_protocol.specs.Answers.{Relation, joined}
use Rattle.line_protocol.specs.Lines.{lines_by}
use Rattle.line_protocol.specs.Served.{standing}
use Rattle.line_protocol.specs.declared.fault.ServeFault.{ServeFault}
use Rattle.line_protocol.specs.declared.fault.ServeFault.TheVariants.{Endless, ReadFailed, WriteFailed}
use Rattle.line_protocol.specs.declared.serving.answer.Written.{Written}
use Rattle.line_protocol.specs.declared.serving.server.Server.{Server}

-- a reply was written
pub record Answered (old new : Written) (held-old held-new : Option (List ℕ)) (reply : List ℕ) : Type 0 where
  pub appended : Appends held-old held-new reply
  pub replies : new.replies ≡ standing (old.replies + 1)
  pub bytes : new.bytes ≡ standing (old.bytes + length reply)

-- a front of a reply was written
pub record Cut (old new : Written) (held-old held-new : Option (List ℕ)) (reply : List ℕ) : Type 0 where
  pub sent : ℕ
  pub within : sent ≤ length reply
  pub appended : Appends held-old held-new (take sent reply)
  pub replies : new.replies ≡ standing (old.replies + (if sent == length reply then 1 else 0))
  pub bytes : new.bytes ≡ standing (old.bytes + sent)

-- the bytes are served, and more may come: replies were written, followed by those to the first lines of what comes.
-- The replies from the first of these bytes on, and those after the bytes, are two relations
pub record Fed (from after : Relation) (old new : Server) (held-old held-new : Option (List ℕ)) (bytes : List ℕ) : Type
    0 where
  pub done : List (List ℕ)
  pub appended : Appends held-old held-new (joined done)
  pub replies : standing new.written.replies ≡ standing (old.written.replies + length done)
  pub written : standing new.written.bytes ≡ standing (old.written.bytes + length (joined done))
  pub goes : (last : Bool) (more : List ℕ) (n all : ℕ) (rs : List (List ℕ)) → all ≡ n + length done
      → after (take n (lines_by last new.kept.items more)) rs
      → from (take all (lines_by last old.kept.items (bytes ++ more))) (done ++ rs)

-- the limit of lines was reached: whatever comes, these are all the replies
pub record Over (from : Relation) (old : Server) (held-old held-new : Option (List ℕ)) (bytes : List ℕ) : Type 0 where
  pub done : List (List ℕ)
  pub appended : Appends held-old held-new (joined done)
  pub answers : (last : Bool) (more : List ℕ) → from (lines_by last old.kept.items (bytes ++ more)) done

-- a write failed: whole replies to the first of the lines were written, and a front of the reply to the next
pub record Broken (from : Relation) (old new : Server) (held-old held-new : Option (List ℕ))
    (lines : List (List ℕ)) : Type 0 where
  pub done : List (List ℕ)
  pub last : List ℕ
  pub sent : ℕ
  pub within : sent ≤ length last
  pub appended : Appends held-old held-new (joined done ++ take sent last)
  pub replies : standing new.written.replies
      ≡ standing (old.written.replies + length done + (if sent == length last then 1 else 0))
  pub written : standing new.written.bytes ≡ standing (old.written.bytes + length (joined done) + sent)
  pub answers : from (take (length done + 1) lines) (done ++ last ∷ [])

-- the bytes end here: these are all the replies
pub record Ended (from : Relation) (old : Server) (held-old held-new : Option (List ℕ)) : Type 0 where
  pub done : List (List ℕ)
  pub appended : Appends held-old held-new (joined done)
  pub answers : from (lines_by true old.kept.items []) done

-- nothing was served yet
abbrev pub IsFresh : Server → Type 0
IsFresh server = (server.kept.items ≡ []) × (server.written.replies ≡ 0) × (server.written.bytes ≡ 0)

-- some bytes were read, for which something holds
abbrev pub Reads : Option (List ℕ) → Option (List ℕ) → (List ℕ → Type 0) → Type 0
Reads left-old left-new P = (seen : List ℕ) × Consumes left-old left-new seen × P seen

-- it has ended with the bytes that were read: the limit of lines was reached, or there are no bytes since there are no
-- more
abbrev pub Ends : Relation → Server → Option (List ℕ) → Option (List ℕ) → Option (List ℕ) → List ℕ → Type 0
Ends from old left held-old held-new seen =
    Over from old held-old held-new seen ⊎ ((seen ≡ []) × IsAtEnd left × Ended from old held-old held-new)

-- these are the numbers of replies and of bytes that were written
abbrev pub Counts : Written → ℕ → ℕ → Type 0
Counts written replies bytes =
    (replies ≡ written.replies) × (bytes ≡ written.bytes) × (replies < 2 ^ 64) × (bytes < 2 ^ 64)

-- a fault says that a write failed, and what was written
abbrev pub IsWriteFailure : Written → ServeFault → Type 0
IsWriteFailure written (WriteFailed replies bytes) = Counts written replies bytes
IsWriteFailure written fault = ⊥

-- a fault says that no end was found, and what was written
abbrev pub IsEndlessFault : Written → ServeFault → Type 0
IsEndlessFault written (Endless replies bytes) = Counts written replies bytes
IsEndlessFault written fault = ⊥

-- a read failed, or a write did: of the reply to a line whose newline was read, or to the last line at the end
abbrev pub Halts : ServeFault → Relation → Relation → Server → Server → Option (List ℕ) → Option (List ℕ)
    → Option (List ℕ) → List ℕ
    → Type 0
Halts (ReadFailed replies bytes) from after old new left held-old held-new seen =
    Counts new.written replies bytes × Fed from after old new held-old held-new seen
Halts (WriteFailed replies bytes) from after old new left held-old held-new seen =
    Counts new.written replies bytes
    × (Broken from old new held-old held-new (lines_by false old.kept.items seen)
    ⊎ ((seen ≡ []) × IsAtEnd left × Broken from old new held-old held-new (lines_by true old.kept.items [])))
Halts fault from after old new left held-old held-new seen = ⊥
