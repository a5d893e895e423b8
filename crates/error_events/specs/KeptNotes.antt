-- The note that a map keeps in a smaller form.
use Rattle.error_events.specs.declared.event.Note.{Note}
use Rattle.error_events.specs.declared.event.Note.TheVariants.{Absent as NoAddress, Near as NearBlock}
use Rattle.error_events.specs.declared.event.Note.TheVariants.{Stack as InStack, Elsewhere as InNoRegion}
use Rattle.error_events.specs.declared.kept_note.Form.{Form}
use Rattle.error_events.specs.declared.kept_note.Form.TheVariants.{Absent, Near, Stack, Elsewhere}

abbrev pub note_in : Form → Note
note_in Absent = NoAddress
note_in (Near address near) = NearBlock address near.value
note_in (Stack address) = InStack address
note_in (Elsewhere address) = InNoRegion address
