-- The lines that give the input bytes.
use Rattle.std.specs.Prelude.{◌≡◌, ◌⊎◌, ℕ, ◌+◌, ◌*◌, ◌%◌, ◌==◌, ◌&&◌, nat_lt, Bool, false, if◌then◌else◌, List, []}
use Rattle.std.specs.Prelude.{◌∷◌, length, Option, Some, None, Result, Ok, Err, codes}
use Rattle.std.specs.Char.{digit_value}
use Rattle.std.specs.List.{list_all}
use Rattle.std.specs.Str.{bytes_eq}
use Rattle.scenario.specs.Edits.{give_refusal, overwrite_refusal}
use Rattle.commands.specs.Commands.{fields, number}
use Rattle.commands.specs.Faults.{fault_of}
use Rattle.commands.specs.declared.edit.Edit.{Edit}
use Rattle.commands.specs.declared.edit.Edit.TheVariants.{Overwrite, Give}
use Rattle.commands.specs.declared.fault.Fault.{Fault}
use Rattle.commands.specs.declared.fault.Fault.TheVariants.{BadCommand, Memory}
use Rattle.commands.specs.declared.refusal.Refusal.{Refusal}

-- is the first word of a line this one?
abbrev pub is_first : List ℕ → List (List ℕ) → Bool
is_first word [] = false
is_first word (first ∷ more) = bytes_eq first word

abbrev pub begins_with : List ℕ → List ℕ → Bool
begins_with word line = is_first word (fields line)

-- does a line give the input bytes? Its first word says so
unfoldable pub gives : List ℕ → Bool
gives line = begins_with (codes "bytes") line

-- does a field write bytes, at least one: hexadecimal digits in either case, two a byte?
unfoldable pub is_hex : List ℕ → Bool
is_hex field =
    nat_lt 0 (length field) && (length field % 2 == 0 && list_all (λ c. nat_lt (digit_value c) 16) field)

-- the bytes that digits write, of each byte the high digit first
unfoldable pub bytes_of : List ℕ → List ℕ
bytes_of (high ∷ low ∷ more) = (16 * digit_value high + digit_value low) ∷ bytes_of more
bytes_of _ = []

-- `A HEX`
abbrev pub overwrite_with : Option ℕ → List ℕ → Result Edit Fault
overwrite_with None hex = Err BadCommand
overwrite_with (Some offset) hex = if is_hex hex then Ok (Overwrite offset (bytes_of hex)) else Err BadCommand

-- `is HEX`
abbrev pub give_of : List ℕ → Result Edit Fault
give_of hex = if is_hex hex then Ok (Give (bytes_of hex)) else Err BadCommand

-- the edit of the fields after `bytes`; `is` with nothing after it gives an empty input
unfoldable pub edit_of : List (List ℕ) → Result Edit Fault
edit_of (place ∷ []) = if bytes_eq place (codes "is") then Ok (Give []) else Err BadCommand
edit_of (place ∷ hex ∷ []) = if bytes_eq place (codes "is") then give_of hex else overwrite_with (number place) hex
edit_of _ = Err BadCommand

abbrev pub edit_among : List (List ℕ) → Result Edit Fault
edit_among [] = Err BadCommand
edit_among (word ∷ more) = edit_of more

-- the edit that a line asks for, or why it asks for none
unfoldable pub edit_asked : List ℕ → Result Edit Fault
edit_asked line = edit_among (fields line)

-- the edit of the fields after the word of a line that tries an input: the whole input, which is empty without a field,
-- or `A HEX`
unfoldable pub tried_of : List (List ℕ) → Result Edit Fault
tried_of [] = Ok (Give [])
tried_of (hex ∷ []) = give_of hex
tried_of (place ∷ hex ∷ []) = overwrite_with (number place) hex
tried_of _ = Err BadCommand

abbrev pub tried_among : List (List ℕ) → Result Edit Fault
tried_among [] = Err BadCommand
tried_among (word ∷ more) = tried_of more

-- the edit that a line tries, or why it tries none
unfoldable pub edit_tried : List ℕ → Result Edit Fault
edit_tried line = tried_among (fields line)

-- an edit as it is read: why it is rejected, if it is; otherwise the edit, or memory ran out for its bytes
abbrev pub Makes : Option Refusal → Edit → Result Edit Fault → Type 0
Makes (Some refusal) edit result = result ≡ Err (fault_of refusal)
Makes None edit result = (result ≡ Ok edit) ⊎ (result ≡ Err Memory)

-- a line is read as it asks, for an input of this length: why the line is rejected comes first, then why the edit is
abbrev pub ReadsFor : ℕ → Result Edit Fault → Result Edit Fault → Type 0
ReadsFor len (Err fault) result = result ≡ Err fault
ReadsFor len (Ok (Overwrite offset bytes)) result =
    Makes (overwrite_refusal len offset bytes) (Overwrite offset bytes) result
ReadsFor len (Ok (Give bytes)) result = Makes (give_refusal bytes) (Give bytes) result
ReadsFor len (Ok _) result = ⊥
