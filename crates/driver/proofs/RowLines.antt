-- The line of a sweep's row, as a session reads it.
use Rattle.std.proofs.Common.{◌≡◌, ℕ, ◌^◌, ◌<◌, ◌≤◌, nat_eq, nat_le, List, [], ◌∷◌, ◌++◌, false, Some, refl, ap, ◌∙◌}
use Rattle.std.proofs.Common.{length, length-append, arith, codes, decimal, bytes_eq, lt-ltb, le-ltb}
use Rattle.std.specs.List.{starts_with}
use Rattle.std.specs.Str.Parse.{AllDigits}
use Rattle.std.proofs.lemmas.Bool.Decides.{nat_tests}
use Rattle.report_lines.specs.Text.{address_text}
use Rattle.commands.specs.Commands.{command_of, fields, has_empty, input_of, input_with, number, parsed, patch_of}
use Rattle.commands.specs.Commands.{patch_half_of, patch_half_with, patch_with, replace_of, taken}
use Rattle.replay_session.specs.Turns.{Turn, accepted, after, if_command, line_refusal, most_lines}
use Rattle.line_protocol.specs.Lines.{longest_line}
use Rattle.sweeps.specs.Tables.{change_text, half_text}
use Rattle.sweep_plans.specs.declared.change.Change.TheVariants.{Byte, Word, Half}
use Rattle.driver.specs.Laws.{RowsAreLines}
use Rattle.driver.proofs.Decimals.{decimal_digits, decimal_plain, decimal_short, decimal_some, not_word}
use Rattle.driver.proofs.Decimals.{number_of_decimal}
use Rattle.driver.proofs.Hexadecimals.{address_length, address_plain, half_length, half_plain, number_of_address}
use Rattle.driver.proofs.Hexadecimals.{number_of_half}
use Rattle.driver.proofs.LineFields.{none_empty, spaced, three_fields}

-- a line with no empty field that adds no suppression is the command of its fields
by_fields : (line word : List ℕ) (more : List (List ℕ)) → fields line ≡ word ∷ more → has_empty (word ∷ more) ≡ false
    → starts_with nat_eq line (codes "supp add ") ≡ false
    → parsed line ≡ command_of word more
unfolding parsed
by_fields line word more are full other = rw (are, full, other)

-- `input`, `patch` and `patch16` with two numbers
input_command : (a b : List ℕ) (offset byte : ℕ) → AllDigits 10 a → number a ≡ Some offset → number b ≡ Some byte
    → byte < 256
    → command_of (codes "input") (a ∷ b ∷ []) ≡ taken (input_with (Some offset) (Some byte))
unfolding command_of input_of replace_of
input_command a b offset byte digits first second small =
    let no_append : bytes_eq a (codes "append") ≡ false = not_word 97 _ a (omega arith) digits in
    let no_cut : bytes_eq a (codes "cut") ≡ false = not_word 99 _ a (omega arith) digits in
    rw (no_append, no_cut, first, second, lt-ltb byte 256 small)

patch_command : (a b : List ℕ) (addr word : ℕ) → number a ≡ Some addr → number b ≡ Some word
    → command_of (codes "patch") (a ∷ b ∷ []) ≡ taken (patch_with (Some addr) (Some word))
unfolding command_of patch_of
patch_command a b addr word first second = rw (first, second)

patch_half_command : (a b : List ℕ) (addr half : ℕ) → number a ≡ Some addr → number b ≡ Some half → half < 65536
    → command_of (codes "patch16") (a ∷ b ∷ []) ≡ taken (patch_half_with (Some addr) (Some half))
unfolding command_of patch_half_of
patch_half_command a b addr half first second small = rw (first, second, lt-ltb half 65536 small)

-- the line of a change of a byte, of a word, and of a half: its command, and that it isn't too long
module _ (offset byte : ℕ) (fits : offset < 2 ^ 32) (small : byte < 256) where
  byte_text : change_text (Byte offset byte) ≡ codes "input" ++ 32 ∷ (decimal offset ++ 32 ∷ decimal byte)
  unfolding change_text
  byte_text = spaced (codes "input") (decimal offset) (decimal byte)

  byte_parsed : parsed (change_text (Byte offset byte)) ≡ taken (input_with (Some offset) (Some byte))
  byte_parsed =
      let a = decimal offset in
      let b = decimal byte in
      let below : byte < 2 ^ 32 = omega arith in
      let word : AllDigits 36 (codes "input") = (
        omega arith,
        (omega arith, (omega arith, (omega arith, (omega arith, tt)))),
      ) in
      ap parsed byte_text ∙ by_fields _ (codes "input") (a ∷ b ∷ [])
      (three_fields (codes "input") a b word (decimal_plain offset fits) (decimal_plain byte below))
      (none_empty (codes "input") a b (omega arith) (decimal_some offset fits) (decimal_some byte below)) refl
      ∙ input_command a b offset byte (decimal_digits offset fits) (number_of_decimal offset fits)
      (number_of_decimal byte below) small

  byte_short : length (change_text (Byte offset byte)) ≤ longest_line
  byte_short =
      omega (
        arith,
        ap length byte_text,
        length-append (decimal offset) (32 ∷ decimal byte),
        decimal_short offset fits,
        decimal_short byte (omega arith),
      )

module _ (addr word : ℕ) (fits : addr < 2 ^ 32) (small : word < 2 ^ 32) where
  word_text : change_text (Word addr word) ≡ codes "patch" ++ 32 ∷ (address_text addr ++ 32 ∷ address_text word)
  unfolding change_text
  word_text = spaced (codes "patch") (address_text addr) (address_text word)

  word_parsed : parsed (change_text (Word addr word)) ≡ taken (patch_with (Some addr) (Some word))
  word_parsed =
      let a = address_text addr in
      let b = address_text word in
      let name : AllDigits 36 (codes "patch") = (
        omega arith,
        (omega arith, (omega arith, (omega arith, (omega arith, tt)))),
      ) in
      ap parsed word_text ∙ by_fields _ (codes "patch") (a ∷ b ∷ [])
      (three_fields (codes "patch") a b name (address_plain addr fits) (address_plain word small))
      (none_empty (codes "patch") a b (omega arith) (omega (arith, address_length addr fits))
      (omega (arith, address_length word small))) refl
      ∙ patch_command a b addr word (number_of_address addr fits) (number_of_address word small)

  word_short : length (change_text (Word addr word)) ≤ longest_line
  word_short =
      omega (
        arith,
        ap length word_text,
        length-append (address_text addr) (32 ∷ address_text word),
        address_length addr fits,
        address_length word small,
      )

module _ (addr half : ℕ) (fits : addr < 2 ^ 32) (small : half < 2 ^ 16) where
  half_row : change_text (Half addr half) ≡ codes "patch16" ++ 32 ∷ (address_text addr ++ 32 ∷ half_text half)
  unfolding change_text
  half_row = spaced (codes "patch16") (address_text addr) (half_text half)

  half_parsed : parsed (change_text (Half addr half)) ≡ taken (patch_half_with (Some addr) (Some half))
  half_parsed =
      let a = address_text addr in
      let b = half_text half in
      let name : AllDigits 36 (codes "patch16") = (
        omega arith,
        (omega arith, (omega arith, (omega arith, (omega arith, (omega arith, (omega arith, tt)))))),
      ) in
      ap parsed half_row ∙ by_fields _ (codes "patch16") (a ∷ b ∷ [])
      (three_fields (codes "patch16") a b name (address_plain addr fits) (half_plain half small))
      (none_empty (codes "patch16") a b (omega arith) (omega (arith, address_length addr fits))
      (omega (arith, half_length half small))) refl
      ∙ patch_half_command a b addr half (number_of_address addr fits) (number_of_half half small) (omega arith)

  half_short : length (change_text (Half addr half)) ≤ longest_line
  half_short =
      omega (
        arith,
        ap length half_row,
        length-append (address_text addr) (32 ∷ half_text half),
        address_length addr fits,
        half_length half small,
      )

-- a line that isn't too long is judged by its command, while lines are answered
judged : (turn : Turn) (line : List ℕ) → turn.lines < most_lines → length line ≤ longest_line
    → accepted turn line ≡ if_command turn.scenario (parsed line)
unfolding line_refusal
judged turn line few short =
    let answered : nat_le most_lines turn.lines ≡ false = grind (arith, nat_tests) in
    rw (answered, le-ltb longest_line (length line) short)

pub rows_are_lines : RowsAreLines
rows_are_lines turn (Byte offset byte) few small free =
    let read = judged turn _ few (byte_short offset byte small.0 small.1)
    ∙ ap (if_command turn.scenario) (byte_parsed offset byte small.0 small.1) ∙ rw free in
    (read, ap (after turn.scenario) read)
rows_are_lines turn (Word addr word) few small free =
    let read = judged turn _ few (word_short addr word small.0 small.1)
    ∙ ap (if_command turn.scenario) (word_parsed addr word small.0 small.1) ∙ rw free in
    (read, ap (after turn.scenario) read)
rows_are_lines turn (Half addr half) few small free =
    let read = judged turn _ few (half_short addr half small.0 small.1)
    ∙ ap (if_command turn.scenario) (half_parsed addr half small.0 small.1) ∙ rw free in
    (read, ap (after turn.scenario) read)
rows_are_lines turn _ few small free = absurd small
