-- How the side of one step is entered in a table of sides.
use Rattle.std.specs.Prelude.{◌≡◌, ◌⊎◌, ℕ, ◌+◌, ◌*◌, ◌<◌, ◌==◌, ◌&&◌, ◌||◌, Bool, true, false, not, List, length}
use Rattle.std.specs.Prelude.{Option, Some, None, slice_index_or}
use Rattle.checkpoints.specs.Sides.{Side, has_again, has_side}
use Rattle.checkpoints.specs.declared.sides.Sides.{Sides}

-- how far places may be apart
abbrev pub IsApart : ℕ → Type 0
IsApart apart = (apart ≡ 2) ⊎ (apart ≡ 4)

-- what a run has done once it also goes on, or elsewhere
abbrev pub with_side : Sides → Bool → Sides
with_side sides on = record {
  on = sides.on || on;
  away = sides.away || not on;
  on_again = sides.on_again || (sides.on && on);
  away_again = sides.away_again || (sides.away && not on);
}

-- does a run that goes on, or doesn't, have this side?
abbrev pub same_way : Bool → Bool → Bool
same_way true on = on
same_way false on = not on

-- is a step's side this one?
abbrev pub is_side : Option Side → ℕ → Bool → Bool
is_side None addr on = false
is_side (Some side) addr on = side.addr == addr && same_way side.on on

-- each row of a table says after the step what it said, and that side; and that it was had again, if the row said so
-- before
pub record Enters (first apart : ℕ) (side : Option Side) (old new : List Sides) : Type 0 where
  pub rows : length new ≡ length old
  pub tells : (i : ℕ) (on : Bool) (d : Sides) → i < length old
      → has_side (slice_index_or new i d) on
      ≡ (has_side (slice_index_or old i d) on || is_side side (first + apart * i) on)
  pub again : (i : ℕ) (on : Bool) (d : Sides) → i < length old
      → has_again (slice_index_or new i d) on
      ≡ (has_again (slice_index_or old i d) on
      || (has_side (slice_index_or old i d) on && is_side side (first + apart * i) on))
