-- Counted texts, in order of first occurrence.
use Rattle.std.specs.Prelude.{ℕ, ◌+◌, Bool, if◌then◌else◌, List, [], ◌∷◌, length, map, min, position, unwrap_or}
use Rattle.std.specs.List.{list_any}
use Rattle.std.specs.Str.{bytes_eq}
use Rattle.std.specs.declared.vec.Vec.{Vec}
use Rattle.texts.specs.declared.tallies.Tallies.{Tallies}

-- the entries of a map, each with the bytes of its text
abbrev pub keyed : {Z : Type 0} → List (Vec ℕ Z × ℕ) → List (List ℕ × ℕ)
keyed entries = map (λ e. (e.0.items, e.1)) entries

-- the texts with their counts
unfoldable pub entries_of : Tallies → List (List ℕ × ℕ)
entries_of tallies = keyed tallies.texts.entries

-- only the counts
abbrev pub counts_of : List (List ℕ × ℕ) → List ℕ
counts_of entries = map (λ e. e.1) entries

-- a count with 1 added; it stops at the greatest 64-bit number
abbrev pub next_count : ℕ → ℕ
next_count count = min (count + 1) 18446744073709551615

-- a text is counted where it was met before, or begins a new last entry
unfoldable pub with_text : List (List ℕ × ℕ) → List ℕ → List (List ℕ × ℕ)
with_text [] text = (text, 1) ∷ []
with_text (e ∷ es) text = if bytes_eq text e.0 then (e.0, next_count e.1) ∷ es else e ∷ with_text es text

-- was a text met?
abbrev pub is_met : List (List ℕ × ℕ) → List ℕ → Bool
is_met entries text = list_any (λ e. bytes_eq text e.0) entries

-- the number of a text: its place among the entries, or the next number
abbrev pub number_of : List (List ℕ × ℕ) → List ℕ → ℕ
number_of entries text = unwrap_or (position (λ e. bytes_eq text e.0) entries) (length entries)
