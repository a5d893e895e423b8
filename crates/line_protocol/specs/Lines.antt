-- Lines of bytes.
use Rattle.std.specs.Prelude.{ℕ, ◌≡◌, ◌⊎◌, ◌≤◌, ◌+◌, ◌==◌, ◌&&◌, List, [], ◌∷◌, ◌++◌, Bool, not, length, map}
use Rattle.std.specs.Prelude.{if◌then◌else◌}
use Rattle.std.specs.List.{slice_split}
use Rattle.std.specs.Str.Lines.{strip_carriage_return}

abbrev pub all_but_last : {A : Type 0} → List A → List A
all_but_last [] = []
all_but_last (x ∷ []) = []
all_but_last (x ∷ y ∷ more) = x ∷ all_but_last (y ∷ more)

-- the lines whose newline is there
abbrev pub closed_lines : List ℕ → List (List ℕ)
closed_lines bytes = map strip_carriage_return (all_but_last (slice_split (λ b. b == 10) bytes))

-- the lines of bytes; a front of the first line is there already; is a last line without a newline a line?
abbrev pub lines_by : Bool → List ℕ → List ℕ → List (List ℕ)
lines_by last front [] = if last && not (length front == 0) then front ∷ [] else []
lines_by last front (b ∷ bytes) =
    if b == 10 then strip_carriage_return front ∷ lines_by last [] bytes else lines_by last (front ++ b ∷ []) bytes

-- the greatest number of bytes of a line that is distinguished from others: all longer ones are answered alike
abbrev pub longest_line : ℕ
longest_line = 4096

-- the number of bytes of a line that are kept: more than the longest line and a carriage return
abbrev pub most_kept : ℕ
most_kept = longest_line + 2

-- another byte of a line is kept, unless enough of the line is
abbrev pub KeepsByte : List ℕ → List ℕ → ℕ → Type 0
KeepsByte old new byte = (new ≡ old ++ byte ∷ []) ⊎ ((most_kept ≤ length old) × (new ≡ old))
