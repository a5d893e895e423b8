-- Borrowed notes, and groups with borrowed parts.
use denote.Ref.{Bor}
use Rattle.std.specs.Prelude.{ℕ}
use Rattle.error_events.specs.declared.event.Key.{Key}
use Rattle.error_events.specs.declared.event.Note.{Note}
use Rattle.error_events.specs.declared.event.Group.{Group}
use Rattle.error_events.specs.declared.lent.NoteRef.{NoteRef}
use Rattle.error_events.specs.declared.lent.NoteRef.TheVariants.{Plain, Kept}

abbrev pub lent_note : NoteRef → Note
lent_note (Plain note) = note.now
lent_note (Kept note) = note.now

-- the group of a key, with a note and a count
abbrev pub group_with : Key → Note → ℕ → Group
group_with key note count = record { kind = key.kind; trace = key.trace; count = count; note = note }

abbrev pub lent_group : Bor Key × Bor Note × ℕ → Group
lent_group g = group_with g.0.now g.1.now g.2
