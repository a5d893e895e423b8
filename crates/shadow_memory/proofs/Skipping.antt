-- Pages that aren't kept: all their bytes are inaccessible zeros.
use Rattle.std.proofs.Common.{◌≡◌, ℕ, true, List, length, map, ap, ◌+◌, ◌*◌, ◌/◌, ◌<◌, ◌≤◌, inl, inr, arith}
use Rattle.std.proofs.lemmas.Bool.{cases_lt}
use Rattle.std.proofs.lemmas.List.{get_or_past, length-map}
use Rattle.shadow_memory.specs.Cells.{shadow_in}
use Rattle.shadow_memory.specs.Marks.{blank}
use Rattle.shadow_memory.specs.TopDirectories.{cells_on, top_directory_of}
use Rattle.shadow_memory.specs.Shadows.{is_bad, HoldNoWord}
use Rattle.shadow_memory.specs.Values.{HoldNoneInRange}
use Rattle.shadow_memory.specs.declared.cells.Cell.{Cell}
use Rattle.shadow_memory.specs.declared.cells.RangeKind.TheVariants.{NoAccess}
use Rattle.shadow_memory.specs.declared.top_directories.TopDirectory.{TopDirectory}
use Rattle.shadow_memory.proofs.Ranging.{bad-first, bad-holds-none}

-- a top directory past the last
pub no-shelf : (tops : List TopDirectory) (number at : ℕ) → length tops ≤ number
    → top_directory_of tops number at ≡ blank NoAccess
no-shelf tops number at past =
    ap (λ (f : ℕ → Cell). f at)
    (get_or_past (map cells_on tops) number (λ k. blank NoAccess) (omega (arith, length-map tops cells_on)))

module _ (cells : ℕ → Cell) (addr page next from : ℕ) (near : from ≤ 4096) (blanks : (a : ℕ) → page ≤ a / 4096
    → a / 4096 < next → cells a ≡ blank NoAccess) where
  bad-there : (a : ℕ) → 4096 * page + from ≤ a → a < 4096 * next + 0 → is_bad true (shadow_in (cells a)) ≡ true
  bad-there a start below =
      ap (λ (cell : Cell). is_bad true (shadow_in cell)) (blanks a (omega arith) (omega arith))

  -- no word is passed over with them
  pub pages-hold-no-word : HoldNoWord (λ a. shadow_in (cells a)) addr (4096 * page + from)
      → HoldNoWord (λ a. shadow_in (cells a)) addr (4096 * next + 0)
  pages-hold-no-word before a above below aligned = elim (cases_lt a (4096 * page + from)) [
    | inl early ↦ before a above early aligned
    | inr late ↦ bad-first (is_bad true (shadow_in (cells a))) _ _ _ (bad-there a late below)
  ]

  pub pages-hold-none : (low high : ℕ)
      → HoldNoneInRange (λ a. (cells a).byte) (λ a. shadow_in (cells a)) low high addr (4096 * page + from)
      → HoldNoneInRange (λ a. (cells a).byte) (λ a. shadow_in (cells a)) low high addr (4096 * next + 0)
  pages-hold-none low high before a above below aligned = elim (cases_lt a (4096 * page + from)) [
    | inl early ↦ before a above early aligned
    | inr late ↦
        bad-holds-none (λ b. (cells b).byte) (λ b. shadow_in (cells b)) low high a (bad-there a late below)
  ]
