-- The table of a sweep: for each edit a row with the number of its outcome, and before the first row with a number the
-- outcome itself.
use Rattle.std.specs.Prelude.{ℕ, ◌+◌, Bool, if◌then◌else◌, List, [], ◌∷◌, ◌++◌, codes, length, map}
use Rattle.std.specs.Fmt.{decimal}
use Rattle.report_lines.specs.Text.{address_text, hex_digit, newline}
use Rattle.texts.specs.Tallied.{counts_of, is_met, number_of, with_text}
use Rattle.texts.specs.declared.tallies.Found.{Found}
use Rattle.sweeps.specs.Outcomes.{Met, standing, steps_of, tallied}
use Rattle.sweep_plans.specs.declared.change.Change.{Change}
use Rattle.sweep_plans.specs.declared.change.Change.TheVariants.{Byte, Word, Half, Once, Twice}
use Rattle.sweep_plans.specs.declared.change.Glitch.{Glitch}
use Rattle.sweep_plans.specs.declared.change.Glitch.TheVariants.{Skip, Flip, FlipPc, Set, Turn}

-- the line that has a glitch happen at a step, of a session whose run can be looked at: `skip STEP`,
-- `flip STEP xR MASK`, `flip STEP pc MASK`, `set STEP xR VALUE` or `flip STEP ADDR MASK`
unfoldable pub glitch_text : ℕ → Glitch → List ℕ
glitch_text step Skip = codes "skip " ++ decimal step
glitch_text step (Flip r mask) =
    codes "flip " ++ decimal step ++ codes " x" ++ decimal r ++ codes " " ++ address_text mask
glitch_text step (FlipPc mask) = codes "flip " ++ decimal step ++ codes " pc " ++ address_text mask
glitch_text step (Set r value) =
    codes "set " ++ decimal step ++ codes " x" ++ decimal r ++ codes " " ++ address_text value
glitch_text step (Turn addr mask) =
    codes "flip " ++ decimal step ++ codes " " ++ address_text addr ++ codes " " ++ address_text mask

-- an instruction of 16 bits: `0x` and four hexadecimal digits
unfoldable pub half_text : ℕ → List ℕ
half_text half = codes "0x" ++ map (hex_digit half) (3 ∷ 2 ∷ 1 ∷ 0 ∷ [])

-- a change, as the line of a session that applies it, `input OFFSET BYTE`, `patch ADDR WORD` or `patch16 ADDR HALF`; or
-- as one or two lines of a session whose run can be looked at
unfoldable pub change_text : Change → List ℕ
change_text (Byte offset byte) = codes "input " ++ decimal offset ++ codes " " ++ decimal byte
change_text (Word addr word) = codes "patch " ++ address_text addr ++ codes " " ++ address_text word
change_text (Half addr half) = codes "patch16 " ++ address_text addr ++ codes " " ++ half_text half
change_text (Once step glitch) = glitch_text step glitch
change_text (Twice step glitch later other) = glitch_text step glitch ++ codes "; " ++ glitch_text later other

-- the row of a change whose outcome has a number
unfoldable pub change_row : Change → ℕ → List ℕ
change_row change number = change_text change ++ codes " " ++ decimal number ++ newline

-- the lines of an outcome
unfoldable pub outcome_lines : ℕ → List ℕ → List ℕ
outcome_lines number outcome = codes "outcome " ++ decimal number ++ newline ++ outcome

-- the unedited run's outcome, which has number 0
unfoldable pub first_lines : List ℕ → List ℕ
first_lines first = outcome_lines 0 first ++ codes "unedited 0\n"

-- the text for another change: by the number of its outcome, and whether that was met before
abbrev pub text_with : Bool → ℕ → Change → List ℕ → List ℕ
text_with is_met number change outcome =
    (if is_met then [] else outcome_lines number outcome) ++ change_row change number

abbrev pub found_text : Found → Change → List ℕ → List ℕ
found_text found change outcome = text_with found.is_met found.number change outcome

unfoldable pub met_text : List (List ℕ × ℕ) → Change → List ℕ → List ℕ
met_text entries change outcome = text_with (is_met entries outcome) (number_of entries outcome) change outcome

-- and for some, after others
unfoldable pub rows_after : List (List ℕ × ℕ) → List Met → List ℕ
rows_after entries [] = []
rows_after entries (m ∷ ms) = met_text entries m.change m.outcome ++ rows_after (with_text entries m.outcome) ms

-- `tally NUMBER COUNT` of each outcome, from a number on
unfoldable pub tally_line : ℕ → ℕ → List ℕ
tally_line number count = codes "tally " ++ decimal number ++ codes " " ++ decimal count ++ newline

unfoldable pub tally_lines : ℕ → List ℕ → List ℕ
tally_lines number [] = []
tally_lines number (count ∷ counts) = tally_line number count ++ tally_lines (number + 1) counts

-- `end EDITS OUTCOMES STEPS`
unfoldable pub end_line : ℕ → ℕ → ℕ → List ℕ
end_line edits outcomes steps =
    codes "end " ++ decimal edits ++ codes " " ++ decimal outcomes ++ codes " " ++ decimal steps ++ newline

-- the end of a table with these lines before its last one, and this number of edits that need this number of steps
unfoldable pub total_lines : List (List ℕ × ℕ) → List ℕ → ℕ → ℕ → List ℕ
total_lines entries lines edits steps =
    tally_lines 0 (counts_of entries) ++ lines ++ end_line edits (length entries) steps

-- the rows of a table, and a whole one without its head, with these lines before its last one
unfoldable pub rows_text : List ℕ → List Met → List ℕ
rows_text first met = first_lines first ++ rows_after ((first, 0) ∷ []) met

unfoldable pub table_text : List ℕ → List Met → List ℕ → List ℕ
table_text first met lines =
    rows_text first met ++ total_lines (tallied first met) lines (standing (length met)) (standing (steps_of met))
