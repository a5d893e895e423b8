-- What is known of a byte besides its value: whether it may be accessed (Memcheck manual, section 4.5.2, valid
-- addresses), and which of its bits are undefined (section 4.5.1, valid values).
use Rattle.std.specs.Prelude.{ℕ, Bool, true, false, Option, Some, None, if◌then◌else◌, not, ◌&&◌, ◌||◌, ◌==◌, ◌+◌, ◌%◌}
use Rattle.std.specs.Prelude.{◌<◌, ◌≤◌, ◌≡◌}
use Rattle.shadow_memory.specs.Ranges.{above, changed_in, first_from, byte_of, little_word, window}
use Rattle.shadow_memory.specs.declared.cells.Bad.{Bad}
use Rattle.shadow_memory.specs.declared.cells.RangeKind.{RangeKind}
use Rattle.shadow_memory.specs.declared.cells.RangeKind.TheVariants.{NoAccess, Undefined, Defined}

pub record Shadow : Type 0 where
  pub accessible : Bool
  pub undef : ℕ

-- the shadow of bytes of a kind
abbrev pub shadow_of : RangeKind → Shadow
shadow_of NoAccess = record { accessible = false; undef = 0 }
shadow_of Undefined = record { accessible = true; undef = 255 }
shadow_of Defined = record { accessible = true; undef = 0 }

-- the undefined bits that a load takes: an inaccessible byte is loaded as defined
abbrev pub loaded_undef : Shadow → ℕ
loaded_undef s = if s.accessible then s.undef else 0

-- a byte stored with undefined bits: an inaccessible one stays inaccessible
abbrev pub stored_shadow : ℕ → Shadow → Shadow
stored_shadow undef s = if s.accessible then record { accessible = true; undef = undef } else s

-- the shadows, with a range that gets a kind
unfoldable pub made_so : (ℕ → Shadow) → ℕ → ℕ → RangeKind → ℕ → Shadow
made_so shadows start n kind = changed_in shadows start n (λ i s. shadow_of kind)

-- the shadows, with the undefined bits of a number stored at n bytes
unfoldable pub stored_undef : (ℕ → Shadow) → ℕ → ℕ → ℕ → ℕ → Shadow
stored_undef shadows start n undef = changed_in shadows start n (λ i s. stored_shadow (byte_of undef i) s)

-- an offset's address
abbrev pub address_at : ℕ → Option ℕ → Option ℕ
address_at start None = None
address_at start (Some i) = Some (above start i)

-- the address of the first inaccessible one of n bytes
unfoldable pub first_inaccessible : (ℕ → Shadow) → ℕ → ℕ → Option ℕ
first_inaccessible shadows start n = address_at start (first_from (λ i. not (shadows (above start i)).accessible) 0 n)

-- n bytes from an address on may be accessed, and are those of a number with no undefined bit
pub record HasDefined (bytes : ℕ → ℕ) (shadows : ℕ → Shadow) (addr n number : ℕ) : Type 0 where
  pub value : little_word (window bytes addr n) ≡ number
  pub undef : little_word (window (λ a. loaded_undef (shadows a)) addr n) ≡ 0
  pub bad : first_inaccessible shadows addr n ≡ None

-- the shadows, with those of n bytes copied, each as it is loaded
unfoldable pub copied_undef : (ℕ → Shadow) → ℕ → ℕ → ℕ → ℕ → Shadow
copied_undef shadows from to n =
    changed_in shadows to n (λ i s. stored_shadow (loaded_undef (shadows (above from i))) s)

-- is a byte inaccessible or, if asked, does it have an undefined bit?
abbrev pub is_bad : Bool → Shadow → Bool
is_bad need_defined s = not s.accessible || (need_defined && not (s.undef == 0))

-- the result for the bad byte at an offset
abbrev pub bad_at : (ℕ → Shadow) → ℕ → Option ℕ → Option Bad
bad_at shadows start None = None
bad_at shadows start (Some i) =
    Some (record { addr = above start i; accessible = (shadows (above start i)).accessible })

-- the first bad one of n bytes
unfoldable pub first_bad : (ℕ → Shadow) → ℕ → ℕ → Bool → Option Bad
first_bad shadows start n need_defined =
    bad_at shadows start (first_from (λ i. is_bad need_defined (shadows (above start i))) 0 n)

-- are four bytes all accessible and defined?
abbrev pub holds_word : (ℕ → Shadow) → ℕ → Bool
holds_word shadows a =
    not (is_bad true (shadows a)) && not (is_bad true (shadows (a + 1))) && not (is_bad true (shadows (a + 2)))
    && not (is_bad true (shadows (a + 3)))

-- no multiple of 4 from one address up to, but not including, another has four accessible and defined bytes
abbrev pub HoldNoWord : (ℕ → Shadow) → ℕ → ℕ → Type 0
HoldNoWord shadows from to = (a : ℕ) → from ≤ a → a < to → a % 4 ≡ 0 → holds_word shadows a ≡ false

-- the least multiple of 4, at or above an address, that has such bytes
pub record IsNextWord (shadows : ℕ → Shadow) (from word : ℕ) : Type 0 where
  pub above : from ≤ word
  pub aligned : word % 4 ≡ 0
  pub holds : holds_word shadows word ≡ true
  pub least : HoldNoWord shadows from word
