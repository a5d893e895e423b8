-- The fields of a 32-bit instruction word, and the immediates in them.
-- Source: RISC-V Unprivileged ISA 20191213, sections 2.2 (formats) and 2.3 (immediates).
use Rattle.std.specs.Prelude.{ℕ, ◌+◌, ◌-◌, ◌*◌, ◌/◌, ◌%◌, ◌^◌}

-- the number in the bits high..low of the word
abbrev pub field : ℕ → ℕ → ℕ → ℕ
field word high low = word / 2 ^ low % 2 ^ (high + 1 - low)

-- the number of the destination register
abbrev pub rd : ℕ → ℕ
rd word = field word 11 7

-- the number of the first source register
abbrev pub rs1 : ℕ → ℕ
rs1 word = field word 19 15

-- the number of the second source register
abbrev pub rs2 : ℕ → ℕ
rs2 word = field word 24 20

-- the amount of a shift by an immediate (section 2.4)
abbrev pub shift_amount : ℕ → ℕ
shift_amount word = field word 24 20

-- bits 31..place of an immediate, each a copy of bit 31 of the word
abbrev pub sign_from : ℕ → ℕ → ℕ
sign_from place word = field word 31 31 * (2 ^ 32 - 2 ^ place)

-- the I-immediate: bits 30..20 of the word as bits 10..0
abbrev pub imm_i : ℕ → ℕ
imm_i word = sign_from 11 word + field word 30 20

-- the S-immediate: bits 30..25 of the word as bits 10..5, and 11..7 as 4..0
abbrev pub imm_s : ℕ → ℕ
imm_s word = sign_from 11 word + field word 30 25 * 2 ^ 5 + field word 11 7

-- the B-immediate: bit 7 of the word as bit 11, bits 30..25 as 10..5, 11..8 as 4..1, and bit 0 is 0
abbrev pub imm_b : ℕ → ℕ
imm_b word = sign_from 12 word + field word 7 7 * 2 ^ 11 + field word 30 25 * 2 ^ 5 + field word 11 8 * 2 ^ 1

-- the U-immediate: bits 31..12 of the word in their places, and bits 11..0 are 0
abbrev pub imm_u : ℕ → ℕ
imm_u word = field word 31 12 * 2 ^ 12

-- the J-immediate: bits 19..12 of the word in their places, bit 20 as bit 11, bits 30..21 as 10..1, and bit 0 is 0
abbrev pub imm_j : ℕ → ℕ
imm_j word = sign_from 20 word + field word 19 12 * 2 ^ 12 + field word 20 20 * 2 ^ 11 + field word 30 21 * 2 ^ 1
