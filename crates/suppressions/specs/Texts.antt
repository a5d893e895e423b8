-- A suppression text: blocks, and the lines outside of them (Valgrind user manual, section 2.5).
use Rattle.std.specs.Prelude.{◌≡◌, ◌≤◌, ℕ, Bool, true, IsTrue, false, List, [], ◌∷◌, Option, Some, None, if◌then◌else◌}
use Rattle.std.specs.Prelude.{All, Contains}
use Rattle.std.specs.List.{flat_map}
use Rattle.suppressions.specs.Lines.{Line, lines_of, opens, closes}
use Rattle.suppressions.specs.Rules.{Rule}
use Rattle.suppressions.specs.Blocks.{block, KeepsSome}

-- a block's lines, up to the next line `}`
abbrev pub body : List Line → List Line
body [] = []
body (line ∷ lines) = if closes line then [] else line ∷ body lines

-- the number of that line, if there is one
abbrev pub closing : List Line → Option ℕ
closing [] = None
closing (line ∷ lines) = if closes line then Some line.number else closing lines

-- the lines after it
abbrev pub after_block : List Line → List Line
after_block [] = []
after_block (line ∷ lines) = if closes line then lines else after_block lines

-- the parts of a text: a line outside of a block, by its number; or a block, by the number of its `{`, its lines and
-- the number of its `}`, if it has one
pub data Part : Type 0 where
  stray : ℕ → Part
  block_of : ℕ → List Line → Option ℕ → Part

-- the parts of the lines from here on, outside a block or inside one, whose lines belong to the part that it is
unfoldable pub text_parts : Bool → List Line → List Part
text_parts inside [] = []
text_parts false (line ∷ lines) =
    if opens line then block_of line.number (body lines) (closing lines) ∷ text_parts true lines
    else stray line.number ∷ text_parts false lines
text_parts true (line ∷ lines) = text_parts (if closes line then false else true) lines

-- the lines at fault in a part; in a block without `}` it is the `{`, and any others are later lines
abbrev pub part_faults : Part → List ℕ
part_faults (stray number) = number ∷ []
part_faults (block_of number lines None) = number ∷ []
part_faults (block_of number lines (Some close)) = (block lines close).faults

-- the suppression of a part that is a block
abbrev pub part_rules : Part → List Rule
part_rules (stray number) = []
part_rules (block_of number lines None) = []
part_rules (block_of number lines (Some close)) = (block lines close).rule ∷ []

abbrev pub faults_in : List Line → List ℕ
faults_in lines = flat_map part_faults (text_parts false lines)

abbrev pub rules_in : List Line → List Rule
rules_in lines = flat_map part_rules (text_parts false lines)

-- the numbers of the lines of a text that are at fault
unfoldable pub faults : List ℕ → List ℕ
faults text = faults_in (lines_of text)

-- the suppressions of a text, which count if it has no fault
unfoldable pub rules : List ℕ → List Rule
rules text = rules_in (lines_of text)

-- the least of some numbers
abbrev pub IsLeast : ℕ → List ℕ → Type 0
IsLeast n ns = Contains ns n × All (λ m. n ≤ m) ns

-- something of the first part of the lines is kept: it is a block with an end
abbrev pub KeepsFirst : List Line → Type 0
KeepsFirst [] = ⊥
KeepsFirst (line ∷ lines) =
    (close : ℕ) × IsTrue (opens line) × (closing lines ≡ Some close) × KeepsSome (block (body lines) close)

-- a text of which something is kept before its first fault
unfoldable pub NeedsMemory : List ℕ → Type 0
NeedsMemory text = KeepsFirst (lines_of text)
