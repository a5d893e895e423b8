-- The edits that the arguments of a sweep ask for.
use Rattle.std.specs.Prelude.{◌≡◌, ℕ, ◌&&◌, ◌||◌, nat_lt, nat_le, ◌==◌, true, false, if◌then◌else◌, List, [], ◌∷◌, ◌++◌}
use Rattle.std.specs.Prelude.{codes, length, Option, Some, None, is_some}
use Rattle.std.specs.List.{list_any}
use Rattle.std.specs.Str.{bytes_eq}
use Rattle.commands.specs.Commands.{number}
use Rattle.texts.specs.Parts.{parts}
use Rattle.exit_status.specs.declared.ends.End.{End}
use Rattle.exit_status.specs.declared.ends.End.TheVariants.{BadText}
use Rattle.exit_status.specs.declared.ends.SweepOption.{SweepOption}
use Rattle.sweep_plans.specs.declared.plan.ByteValues.{ByteValues}
use Rattle.sweep_plans.specs.declared.plan.ByteValues.TheVariants.{All, Flips as FlippedBytes, Edges}
use Rattle.sweep_plans.specs.declared.plan.ByteValues.TheVariants.{Listed as ListedBytes}
use Rattle.sweep_plans.specs.declared.plan.WordValues.{WordValues}
use Rattle.sweep_plans.specs.declared.plan.WordValues.TheVariants.{Flips as FlippedWords, Skip as NoOps}
use Rattle.sweep_plans.specs.declared.plan.WordValues.TheVariants.{Listed as ListedWords}
use Rattle.sweep_plans.specs.declared.request.Range.{Range}
use Rattle.sweep_plans.specs.declared.request.Part.{Part}

-- one place, and those from one to another
abbrev pub only : Option ℕ → Option Range
only (Some a) = Some (record { first = a; last = Some a })
only None = None

abbrev pub between : ℕ → Option ℕ → Option Range
between a (Some b) = if nat_lt b a then None else Some (record { first = a; last = Some b })
between a None = None

-- what follows the two dots; nothing, if all from a place on are meant
abbrev pub up_to : Option ℕ → List ℕ → Option Range
up_to (Some a) end = if length end == 0 then Some (record { first = a; last = None }) else between a (number end)
up_to None end = None

-- `A`, `A..` and `A..B`, as parts between dots
unfoldable pub range_in : List (List ℕ) → Option Range
range_in (a ∷ []) = only (number a)
range_in (a ∷ gap ∷ b ∷ []) = if length gap == 0 then up_to (number a) b else None
range_in _ = None

abbrev pub range_of : List ℕ → Option Range
range_of text = range_in (parts 46 text)

-- a list with another number, if that is small enough and not in the list yet
abbrev pub joined_by : ℕ → List ℕ → Option ℕ → Option (List ℕ)
joined_by most list None = None
joined_by most list (Some n) = if nat_lt most n || list_any (λ m. m == n) list then None else Some (list ++ n ∷ [])

-- the numbers of the parts, appended to those of a list
unfoldable pub listed_from : ℕ → Option (List ℕ) → List (List ℕ) → Option (List ℕ)
listed_from most None parts = None
listed_from most (Some list) [] = Some list
listed_from most (Some list) (part ∷ parts) = listed_from most (joined_by most list (number part)) parts

-- numbers between commas, none twice, and none above another number
abbrev pub list_of : ℕ → List ℕ → Option (List ℕ)
list_of most text = listed_from most (Some []) (parts 44 text)

-- part I of N, from 1 on
abbrev pub most_parts : ℕ
most_parts = 1000000

abbrev pub part_by : Option ℕ → Option ℕ → Option Part
part_by (Some i) (Some n) =
    if nat_le 1 i && (nat_le i n && nat_le n most_parts) then Some (record { index = i; count = n }) else None
part_by _ _ = None

unfoldable pub part_in : List (List ℕ) → Option Part
part_in (i ∷ n ∷ []) = part_by (number i) (number n)
part_in _ = None

abbrev pub part_of : List ℕ → Option Part
part_of text = part_in (parts 47 text)

-- the values that a text names, and a text that names none
abbrev pub NamesByteValues : List ℕ → ByteValues → Type 0
NamesByteValues text All = bytes_eq text (codes "all") ≡ true
NamesByteValues text FlippedBytes = bytes_eq text (codes "flips") ≡ true
NamesByteValues text Edges = bytes_eq text (codes "edges") ≡ true
NamesByteValues text (ListedBytes list) = list_of 255 text ≡ Some list.items

pub record NamesNoByteValues (text : List ℕ) : Type 0 where
  pub all : bytes_eq text (codes "all") ≡ false
  pub flips : bytes_eq text (codes "flips") ≡ false
  pub edges : bytes_eq text (codes "edges") ≡ false
  pub list : list_of 255 text ≡ None

abbrev pub NamesWordValues : List ℕ → WordValues → Type 0
NamesWordValues text FlippedWords = bytes_eq text (codes "flips") ≡ true
NamesWordValues text NoOps = bytes_eq text (codes "skip") ≡ true
NamesWordValues text (ListedWords list) = list_of 4294967295 text ≡ Some list.items

pub record NamesNoWordValues (text : List ℕ) : Type 0 where
  pub flips : bytes_eq text (codes "flips") ≡ false
  pub skip : bytes_eq text (codes "skip") ≡ false
  pub list : list_of 4294967295 text ≡ None

-- for words, a range must have an end
abbrev pub closed : Option Range → Option Range
closed (Some range) = if is_some range.last then Some range else None
closed None = None

abbrev pub closed_range_of : List ℕ → Option Range
closed_range_of text = closed (range_of text)

-- a range that may be named, as its text is read
abbrev pub NamesRange : (List ℕ → Option Range) → Option (List ℕ) → Option Range → Type 0
NamesRange reading None range = range ≡ None
NamesRange reading (Some text) range = (reading text ≡ range) × (is_some range ≡ true)

-- the sweep ends because of the text of an option
abbrev pub NamesText : SweepOption → List ℕ → End → Type 0
NamesText option text (BadText named given) = (named ≡ option) × (given.now ≡ text)
NamesText option text end = ⊥

-- a text that is no range is how the sweep ends
abbrev pub IsBadRange : SweepOption → (List ℕ → Option Range) → Option (List ℕ) → End → Type 0
IsBadRange option reading None end = ⊥
IsBadRange option reading (Some text) end = (reading text ≡ None) × NamesText option text end
