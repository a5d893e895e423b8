-- The machines at the places of a trail, of which the last may stand for several.
use Rattle.std.specs.Prelude.{◌≡◌, ℕ, ◌<◌, List, [], ◌∷◌, ◌++◌, length, replicate, slice_index_or}
use Rattle.guest_machine.specs.Shows.{Shows}
use Rattle.guest_machine.specs.State.{State}
use Rattle.guest_machine.specs.declared.machine.Machine.{Machine}
use Rattle.checkpoints.specs.declared.held.Held.{Held}

-- the last machine of a list, this number of times
abbrev pub last_repeated : List Machine → ℕ → List Machine
last_repeated [] n = []
last_repeated (m ∷ []) n = replicate n m
last_repeated (m ∷ x ∷ rest) n = last_repeated (x ∷ rest) n

-- the machine at each place: the last one is that of some places more
unfoldable pub places_of : Held → List Machine
places_of held = held.machines.items ++ last_repeated held.machines.items held.more

-- the number of places that have a machine of their own; the last of them shares it with the places after it
unfoldable pub own_places : Held → ℕ
own_places held = length held.machines.items

-- as many machines, each of which shows what the one at its place showed
pub record AreCopies (old new : List Machine) : Type 0 where
  pub count : length new ≡ length old
  pub copies : (i : ℕ) (d : Machine) (s : State) → i < length old → Shows (slice_index_or old i d) s
      → Shows (slice_index_or new i d) s
