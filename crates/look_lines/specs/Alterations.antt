-- The lines that alter the machine just before a step.
use Rattle.std.specs.Prelude.{ℕ, ◌==◌, ◌||◌, nat_eq, nat_lt, Bool, false, if◌then◌else◌, List, [], ◌∷◌, Option, Some}
use Rattle.std.specs.Prelude.{None, option_map, Result, Ok, Err, codes, drop}
use Rattle.std.specs.List.{starts_with}
use Rattle.std.specs.Str.{bytes_eq}
use Rattle.instructions.specs.declared.width.Width.{Width}
use Rattle.instructions.specs.declared.width.Width.TheVariants.{Byte, Half, Word}
use Rattle.run_values.specs.declared.alteration.Act.{Act}
use Rattle.run_values.specs.declared.alteration.Act.TheVariants.{Set, Flip, Jump, FlipPc, Write, Turn, Skip}
use Rattle.run_values.specs.declared.alteration.Alteration.{Alteration}
use Rattle.commands.specs.Commands.{fields, number}
use Rattle.commands.specs.declared.fault.Fault.{Fault}
use Rattle.commands.specs.declared.fault.Fault.TheVariants.{BadCommand, BadRange, StepLimit}

-- does a word begin a line that alters?
abbrev pub is_altering : List ℕ → Bool
is_altering word =
    bytes_eq word (codes "set") || (bytes_eq word (codes "flip")
    || (bytes_eq word (codes "write") || bytes_eq word (codes "skip")))

abbrev pub alters_among : List (List ℕ) → Bool
alters_among [] = false
alters_among (word ∷ more) = is_altering word

-- does a line alter? Its first word says so
unfoldable pub alters : List ℕ → Bool
alters line = alters_among (fields line)

-- the register of a number, if there is one
abbrev pub register_numbered : Option ℕ → Option ℕ
register_numbered None = None
register_numbered (Some n) = if nat_lt n 32 then Some n else None

-- a register by its name: `x` and its number, which doesn't begin with 0
unfoldable pub register_of : List ℕ → Option ℕ
register_of field =
    if starts_with nat_eq field (codes "x0") then None
    else if starts_with nat_eq field (codes "x") then register_numbered (number (drop 1 field))
    else None

-- `REGISTER VALUE UNDEF`
abbrev pub set_with : Option ℕ → Option ℕ → Option ℕ → Option Act
set_with (Some register) (Some value) (Some undef) = Some (Set register value undef)
set_with (Some register) (Some value) None = None
set_with (Some register) None undef = None
set_with None value undef = None

-- `pc VALUE`, or `REGISTER VALUE`: no bit is undefined
unfoldable pub set_to : List ℕ → List ℕ → Option Act
set_to place value =
    if bytes_eq place (codes "pc") then option_map (λ target. Jump target) (number value)
    else set_with (register_of place) (number value) (Some 0)

-- the fields after `set STEP`
unfoldable pub set_of : List (List ℕ) → Option Act
set_of (place ∷ value ∷ []) = set_to place value
set_of (place ∷ value ∷ undef ∷ []) = set_with (register_of place) (number value) (number undef)
set_of _ = None

-- `REGISTER MASK`, or `ADDR MASK`
abbrev pub flip_with : Option ℕ → Option ℕ → ℕ → Option Act
flip_with (Some register) addr mask = Some (Flip register mask)
flip_with None (Some addr) mask = Some (Turn addr mask)
flip_with None None mask = None

-- these, or `pc MASK`
unfoldable pub flip_at : List ℕ → Option ℕ → Option Act
flip_at place None = None
flip_at place (Some mask) =
    if bytes_eq place (codes "pc") then Some (FlipPc mask) else flip_with (register_of place) (number place) mask

-- the fields after `flip STEP`
unfoldable pub flip_of : List (List ℕ) → Option Act
flip_of (place ∷ mask ∷ []) = flip_at place (number mask)
flip_of _ = None

-- the width of an access to this number of bytes, if there is one
unfoldable pub width_of : ℕ → Option Width
width_of len =
    if len == 1 then Some Byte
    else if len == 2 then Some Half
    else if len == 4 then Some Word
    else None

-- a write, or why it is rejected, once its step isn't: no access has its width
abbrev pub write_by : ℕ → Option Width → ℕ → Result Act Fault
write_by addr (Some width) value = Ok (Write addr width value)
write_by addr None value = Err BadRange

-- `ADDR LEN VALUE`
abbrev pub write_with : Option ℕ → Option ℕ → Option ℕ → Option (Result Act Fault)
write_with (Some addr) (Some len) (Some value) = Some (write_by addr (width_of len) value)
write_with (Some addr) (Some len) None = None
write_with (Some addr) None value = None
write_with None len value = None

-- the fields after `write STEP`
unfoldable pub write_of : List (List ℕ) → Option (Result Act Fault)
write_of (addr ∷ len ∷ value ∷ []) = write_with (number addr) (number len) (number value)
write_of _ = None

-- no field after `skip STEP`
unfoldable pub skip_of : List (List ℕ) → Option Act
skip_of [] = Some Skip
skip_of (field ∷ more) = None

-- what a line asks for, by its first word and the fields after STEP; nothing, if one of these has another form
unfoldable pub act_of : List ℕ → List (List ℕ) → Option (Result Act Fault)
act_of word more =
    if bytes_eq word (codes "set") then option_map (λ act. Ok act) (set_of more)
    else if bytes_eq word (codes "flip") then option_map (λ act. Ok act) (flip_of more)
    else if bytes_eq word (codes "write") then write_of more
    else if bytes_eq word (codes "skip") then option_map (λ act. Ok act) (skip_of more)
    else None

abbrev pub at_step : ℕ → Result Act Fault → Result Alteration Fault
at_step step (Ok act) = Ok (record { step = step; act = act })
at_step step (Err fault) = Err fault

-- it is judged in stages: the form of its fields, its step, which may be the greatest at most, and then what it asks
-- for
abbrev pub judged : ℕ → Option ℕ → Option (Result Act Fault) → Result Alteration Fault
judged limit (Some step) (Some act) = if nat_lt limit step then Err StepLimit else at_step step act
judged limit (Some step) None = Err BadCommand
judged limit None act = Err BadCommand

abbrev pub alteration_among : ℕ → List (List ℕ) → Result Alteration Fault
alteration_among limit (word ∷ step ∷ more) = judged limit (number step) (act_of word more)
alteration_among limit _ = Err BadCommand

-- the alteration that a line asks for, or why it is rejected
unfoldable pub alteration_asked : ℕ → List ℕ → Result Alteration Fault
alteration_asked limit line = alteration_among limit (fields line)
