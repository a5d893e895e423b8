-- Functions of a place in a memory or in a part of it: their changes from one place up to another, and where two agree.
use Rattle.std.specs.Prelude.{ℕ, Bool, ◌+◌, ◌-◌, ◌&&◌, ◌≡◌, ◌<◌, nat_le, nat_lt, if◌then◌else◌}

-- is a number from one up to, but not including, another?
abbrev pub is_between : ℕ → ℕ → ℕ → Bool
is_between from to a = nat_le from a && nat_lt a to

-- a function changed at n places from one on, none of which wrap
abbrev pub changed_from : {X : Type 0} → (ℕ → X) → ℕ → ℕ → (ℕ → X → X) → ℕ → X
changed_from f start n change = λ a. if is_between start (start + n) a then change (a - start) (f a) else f a

-- the number of bytes of a page
abbrev pub page_len : ℕ
page_len = 4096

-- two functions agree at each place of a page
abbrev pub AgreeInPage : {X : Type 0} → (ℕ → X) → (ℕ → X) → Type 0
AgreeInPage f g = (at : ℕ) → at < page_len → f at ≡ g at

-- and at each place of the 1,024 pages of a directory
abbrev pub AgreeInDirectory : {X : Type 0} → (ℕ → X) → (ℕ → X) → Type 0
AgreeInDirectory f g = (at : ℕ) → at < 4194304 → f at ≡ g at

-- and everywhere
abbrev pub Agree : {X : Type 0} → (ℕ → X) → (ℕ → X) → Type 0
Agree f g = (at : ℕ) → f at ≡ g at
