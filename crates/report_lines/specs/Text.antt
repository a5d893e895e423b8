-- The pieces of a report's lines, as bytes.
use Rattle.std.specs.Prelude.{ℕ, ◌/◌, ◌%◌, ◌^◌, ◌&&◌, nat_le, if◌then◌else◌, List, [], ◌∷◌, ◌++◌, map, codes}
use Rattle.std.specs.Fmt.{digit_glyph}
use Rattle.std.specs.Prelude.{false}

-- the digit of a number at 16^k, in lower case
abbrev pub hex_digit : ℕ → ℕ → ℕ
hex_digit n k = digit_glyph false (n / 16 ^ k % 16)

-- an address: `0x` and eight hexadecimal digits
unfoldable pub address_text : ℕ → List ℕ
address_text a = codes "0x" ++ map (hex_digit a) (7 ∷ 6 ∷ 5 ∷ 4 ∷ 3 ∷ 2 ∷ 1 ∷ 0 ∷ [])

-- a byte: two hexadecimal digits
unfoldable pub byte_text : ℕ → List ℕ
byte_text b = map (hex_digit b) (1 ∷ 0 ∷ [])

-- a byte of a name: `?` for one that is no printable ASCII character, or is a space
abbrev pub shown_byte : ℕ → ℕ
shown_byte b = if nat_le 0x21 b && nat_le b 0x7E then b else 0x3F

-- a name, each byte as it is shown
unfoldable pub shown_name : List ℕ → List ℕ
shown_name name = map shown_byte name

-- the end of a line
abbrev pub newline : List ℕ
newline = 10 ∷ []
