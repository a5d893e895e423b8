-- Ranges of addresses. There are 2^32 addresses, and the one after the last is 0
-- (RISC-V Unprivileged ISA 20191213, section 1.4: the address space is circular).
use Rattle.std.specs.Prelude.{ℕ, zero, suc, Bool, Option, Some, None, ◌+◌, ◌-◌, ◌*◌, ◌/◌, ◌%◌, ◌^◌, ◌&&◌, nat_lt}
use Rattle.std.specs.Prelude.{nat_le, if◌then◌else◌}

-- the address i above another
abbrev pub above : ℕ → ℕ → ℕ
above start i = (start + i) % 2 ^ 32

-- the distance of an address above another
abbrev pub offset : ℕ → ℕ → ℕ
offset start a = if nat_le start a then a - start else a + 2 ^ 32 - start

-- is an address among the n from start on?
abbrev pub is_in : ℕ → ℕ → ℕ → Bool
is_in start n a = nat_lt a (2 ^ 32) && nat_lt (offset start a) n

-- a function of the address, changed at the n addresses from start on, each by its offset and by what was there
unfoldable pub changed_in : {X : Type 0} → (ℕ → X) → ℕ → ℕ → (ℕ → X → X) → ℕ → X
changed_in f start n change = λ a. if is_in start n a then change (offset start a) (f a) else f a

-- what a function gives at the first n addresses from start on, by their offsets; 0 from n on
unfoldable pub window : (ℕ → ℕ) → ℕ → ℕ → ℕ → ℕ
window f start n i = if nat_lt i n then f (above start i) else 0

-- the first offset that passes a test, among n from i on
unfoldable pub first_from : (ℕ → Bool) → ℕ → ℕ → Option ℕ
first_from p i zero = None
first_from p i (suc n) = if p i then Some i else first_from p (suc i) n

-- the number of four bytes, the lowest first (section 1.5: little-endian)
unfoldable pub little_word : (ℕ → ℕ) → ℕ
little_word byte = byte 0 + 256 * byte 1 + 65536 * byte 2 + 16777216 * byte 3

-- byte i of a number, from the low end
unfoldable pub byte_of : ℕ → ℕ → ℕ
byte_of number i = number / 256 ^ i % 256

-- bytes, with n of them written from start on, by their offsets
unfoldable pub written : (ℕ → ℕ) → ℕ → ℕ → (ℕ → ℕ) → ℕ → ℕ
written f start n made = changed_in f start n (λ i b. made i)

-- bytes, with n of them copied from one address on to another on
unfoldable pub copied : (ℕ → ℕ) → ℕ → ℕ → ℕ → ℕ → ℕ
copied f from to n = written f to n (λ i. f (above from i))
