-- The line of a fault, as a session reads it whose run can be looked at.
use Rattle.std.proofs.Common.{◌≡◌, ℕ, ◌+◌, ◌^◌, ◌<◌, ◌≤◌, ◌==◌, nat_eq, nat_le, nat_lt, Bool, List, [], ◌∷◌, ◌++◌}
use Rattle.std.proofs.Common.{true, false, Option, Some, None, Ok, refl, ap, sym, ◌∙◌, subst, if◌then◌else◌, get_or}
use Rattle.std.proofs.Common.{append_assoc, length, length-append, arith, codes, decimal, bytes_eq, lt-ltb, le-ltb}
use Rattle.std.specs.List.{starts_with}
use Rattle.std.specs.Str.Parse.{AllDigits}
use Rattle.std.proofs.lemmas.Bool.{ltb-false}
use Rattle.std.proofs.lemmas.Bool.Decides.{nat_tests}
use Rattle.std.proofs.lemmas.Fmt.{first_decimal}
use Rattle.std.proofs.lemmas.List.Splits.{slice_split_at, slice_split_none}
use Rattle.report_lines.specs.Text.{address_text}
use Rattle.commands.specs.Commands.{fields}
use Rattle.commands.specs.declared.command.Command.TheVariants.{Edit}
use Rattle.line_protocol.specs.Lines.{longest_line}
use Rattle.look_lines.specs.Alterations.{act_of, alteration_asked, alters, alters_among, flip_at, flip_of, register_of}
use Rattle.look_lines.specs.Alterations.{set_of, set_to, skip_of}
use Rattle.looks.specs.Views.{looks, read_as}
use Rattle.replay_session.specs.Turns.{Turn, accepted_as, after, counted, line_refusal, most_lines}
use Rattle.run_values.specs.declared.alteration.Act.{Act}
use Rattle.run_values.specs.declared.alteration.Act.TheVariants as Acts
use Rattle.scenario.specs.Edits.{IsTaken, mark_refusal, row}
use Rattle.scenario.specs.Scenario.{Scenario, limit_of}
use Rattle.commands.specs.declared.refusal.Refusal.{Refusal}
use Rattle.commands.specs.declared.refusal.Refusal.TheVariants.{StepLimit}
use Rattle.sweep_plans.specs.Changes.{act_of as glitch_act, glitch_edit}
use Rattle.sweep_plans.specs.declared.change.Glitch.{Glitch}
use Rattle.sweep_plans.specs.declared.change.Glitch.TheVariants.{Skip, Flip, FlipPc, Set, Turn as TurnBits}
use Rattle.sweeps.specs.Tables.{glitch_text}
use Rattle.driver.specs.Laws.{FaultsAreLines, FitsLine, PairsAreLines, given}
use Rattle.driver.proofs.Decimals.{decimal_plain, decimal_short, number_of_decimal}
use Rattle.driver.proofs.Hexadecimals.{address_length, address_plain, number_of_address}
use Rattle.driver.proofs.Numerals.{no_space}

-- ---- fields

last_field : (a : List ℕ) → AllDigits 36 a → fields a ≡ a ∷ []
last_field a d = slice_split_none (λ (c : ℕ). c == 32) a (no_space a d)

next_field : (a rest : List ℕ) (more : List (List ℕ)) → AllDigits 36 a → fields rest ≡ more
    → fields (a ++ 32 ∷ rest) ≡ a ∷ more
next_field a rest more d there =
    slice_split_at (λ (c : ℕ). c == 32) a 32 rest (no_space a d) refl ∙ ap (λ (parts : List (List ℕ)). a ∷ parts) there

-- a line piece by piece
spaced_four : (word at front place value : List ℕ)
    → (word ++ 32 ∷ []) ++ at ++ (32 ∷ front) ++ place ++ 32 ∷ [] ++ value
    ≡ word ++ 32 ∷ (at ++ 32 ∷ ((front ++ place) ++ 32 ∷ value))
spaced_four word at front place value = simp append_assoc

spaced_pc : (word at place value : List ℕ) → (word ++ 32 ∷ []) ++ at ++ (32 ∷ (place ++ 32 ∷ [])) ++ value
    ≡ word ++ 32 ∷ (at ++ 32 ∷ (place ++ 32 ∷ value))
spaced_pc word at place value = simp append_assoc

-- ---- registers

not_zero_first : (ds : List ℕ) → 48 < get_or ds 0 0 → starts_with nat_eq (120 ∷ ds) (codes "x0") ≡ false
not_zero_first [] h = refl
not_zero_first (c ∷ cs) h = let other : nat_eq 48 c ≡ false = grind (arith, nat_tests, h) in rw other

abbrev register_text : ℕ → List ℕ
register_text r = 120 ∷ decimal r

register_read : (r : ℕ) → 1 ≤ r → r < 32 → register_of (register_text r) ≡ Some r
unfolding register_of
register_read r some small =
    rw (
      not_zero_first (decimal r) (first_decimal r (omega arith) (omega arith)),
      number_of_decimal r (omega arith),
      lt-ltb r 32 small,
    )

register_plain : (r : ℕ) → r < 32 → AllDigits 36 (register_text r)
register_plain r small = (omega arith, decimal_plain r (omega arith))

no_register : (addr : ℕ) → register_of (address_text addr) ≡ None
unfolding register_of address_text
no_register addr = refl

no_pc : (addr : ℕ) → bytes_eq (address_text addr) (codes "pc") ≡ false
unfolding address_text
no_pc addr = refl

-- ---- what the fields ask for

flip_register : (r mask : ℕ) → 1 ≤ r → r < 32 → mask < 2 ^ 32
    → act_of (codes "flip") (register_text r ∷ address_text mask ∷ []) ≡ Some (Ok (Acts.Flip r mask))
unfolding act_of flip_of flip_at
flip_register r mask some small fits = rw (number_of_address mask fits, register_read r some small)

flip_pc : (mask : ℕ) → mask < 2 ^ 32
    → act_of (codes "flip") (codes "pc" ∷ address_text mask ∷ []) ≡ Some (Ok (Acts.FlipPc mask))
unfolding act_of flip_of flip_at
flip_pc mask fits = rw (number_of_address mask fits)

turn_word : (addr mask : ℕ) → addr < 2 ^ 32 → mask < 2 ^ 32
    → act_of (codes "flip") (address_text addr ∷ address_text mask ∷ []) ≡ Some (Ok (Acts.Turn addr mask))
unfolding act_of flip_of flip_at
turn_word addr mask fits small =
    rw (number_of_address mask small, no_pc addr, no_register addr, number_of_address addr fits)

set_register : (r value : ℕ) → 1 ≤ r → r < 32 → value < 2 ^ 32
    → act_of (codes "set") (register_text r ∷ address_text value ∷ []) ≡ Some (Ok (Acts.Set r value 0))
unfolding act_of set_of set_to
set_register r value some small fits = rw (number_of_address value fits, register_read r some small)

skip_it : act_of (codes "skip") [] ≡ Some (Ok Acts.Skip)
unfolding act_of skip_of
skip_it = refl

-- ---- a line

-- a line of the session begins with this word and this step, and its other fields ask for an act
record Asks (line : List ℕ) (step : ℕ) (act : Act) : Type 0 where
  first : ℕ
  rest : List ℕ
  begins : line ≡ first ∷ rest
  other : nat_eq 108 first ≡ false
  alters_it : alters line ≡ true
  asked : (limit : ℕ) → step ≤ limit → alteration_asked limit line ≡ Ok (record { step = step; act = act })
  short : length line ≤ longest_line

-- from its fields
asks : (line word : List ℕ) (more : List (List ℕ)) (step first : ℕ) (rest : List ℕ) (act : Act) → line ≡ first ∷ rest
    → nat_eq 108 first ≡ false
    → fields line ≡ word ∷ decimal step ∷ more → alters_among (word ∷ decimal step ∷ more) ≡ true
    → act_of word more ≡ Some (Ok act)
    → step < 2 ^ 32
    → length line ≤ longest_line → Asks line step act
unfolding alters alteration_asked
asks line word more step first rest act begins other are altering act-is fits short = record {
  first = first;
  rest = rest;
  begins = begins;
  other = other;
  alters_it = ap alters_among are ∙ altering;
  asked = λ limit near. rw (are, number_of_decimal step fits, act-is, le-ltb limit step near);
  short = short;
}

module _ (step : ℕ) (fits : step < 2 ^ 32) where
  flip_plain : AllDigits 36 (codes "flip")
  flip_plain = (omega arith, (omega arith, (omega arith, (omega arith, tt))))

  set_plain : AllDigits 36 (codes "set")
  set_plain = (omega arith, (omega arith, (omega arith, tt)))

  skip_plain : AllDigits 36 (codes "skip")
  skip_plain = (omega arith, (omega arith, (omega arith, (omega arith, tt))))

  pc_plain : AllDigits 36 (codes "pc")
  pc_plain = (omega arith, (omega arith, tt))

  -- `WORD STEP PLACE VALUE`
  four_fields : (word place value : List ℕ) → AllDigits 36 word → AllDigits 36 place → AllDigits 36 value
      → fields (word ++ 32 ∷ (decimal step ++ 32 ∷ (place ++ 32 ∷ value))) ≡ word ∷ decimal step ∷ place ∷ value ∷ []
  four_fields word place value w p v =
      next_field word (decimal step ++ 32 ∷ (place ++ 32 ∷ value)) (decimal step ∷ place ∷ value ∷ []) w
      (next_field (decimal step) (place ++ 32 ∷ value) (place ∷ value ∷ []) (decimal_plain step fits)
      (next_field place value (value ∷ []) p (last_field value v)))

  -- its length
  four_short : (word place value : List ℕ) → length word ≤ 4 → length place ≤ 11 → length value ≤ 10
      → length (word ++ 32 ∷ (decimal step ++ 32 ∷ (place ++ 32 ∷ value))) ≤ longest_line
  four_short word place value w p v =
      omega (
        arith,
        length-append word (32 ∷ (decimal step ++ 32 ∷ (place ++ 32 ∷ value))),
        length-append (decimal step) (32 ∷ (place ++ 32 ∷ value)),
        length-append place (32 ∷ value),
        decimal_short step fits,
        w,
        p,
        v,
      )

  skip_asks : Asks (glitch_text step Skip) step Acts.Skip
  unfolding glitch_text
  skip_asks =
      asks (codes "skip" ++ 32 ∷ decimal step) (codes "skip") [] step 115 _ Acts.Skip refl refl
      (next_field (codes "skip") (decimal step) (decimal step ∷ []) skip_plain
      (last_field (decimal step) (decimal_plain step fits))) refl skip_it fits
      (omega (arith, decimal_short step fits))

  flip_asks : (r mask : ℕ) → 1 ≤ r → r < 32 → mask < 2 ^ 32
      → Asks (glitch_text step (Flip r mask)) step (Acts.Flip r mask)
  unfolding glitch_text
  flip_asks r mask some small low =
      let text : glitch_text step (Flip r mask)
      ≡ codes "flip" ++ 32 ∷ (decimal step ++ 32 ∷ (register_text r ++ 32 ∷ address_text mask))
      = spaced_four (codes "flip") (decimal step) (120 ∷ []) (decimal r) (address_text mask) in
      subst (λ (line : List ℕ). Asks line step (Acts.Flip r mask)) (sym text)
      (asks (codes "flip" ++ 32 ∷ (decimal step ++ 32 ∷ (register_text r ++ 32 ∷ address_text mask))) (codes "flip")
      (register_text r ∷ address_text mask ∷ []) step 102 _ (Acts.Flip r mask) refl refl
      (four_fields (codes "flip") (register_text r) (address_text mask) flip_plain (register_plain r small)
      (address_plain mask low)) refl (flip_register r mask some small low) fits
      (four_short (codes "flip") (register_text r) (address_text mask) (omega arith)
      (omega (arith, decimal_short r (omega arith))) (omega (arith, address_length mask low))))

  flip_pc_asks : (mask : ℕ) → mask < 2 ^ 32 → Asks (glitch_text step (FlipPc mask)) step (Acts.FlipPc mask)
  unfolding glitch_text
  flip_pc_asks mask low =
      let text : glitch_text step (FlipPc mask)
      ≡ codes "flip" ++ 32 ∷ (decimal step ++ 32 ∷ (codes "pc" ++ 32 ∷ address_text mask))
      = spaced_pc (codes "flip") (decimal step) (codes "pc") (address_text mask) in
      subst (λ (line : List ℕ). Asks line step (Acts.FlipPc mask)) (sym text)
      (asks (codes "flip" ++ 32 ∷ (decimal step ++ 32 ∷ (codes "pc" ++ 32 ∷ address_text mask))) (codes "flip")
      (codes "pc" ∷ address_text mask ∷ []) step 102 _ (Acts.FlipPc mask) refl refl
      (four_fields (codes "flip") (codes "pc") (address_text mask) flip_plain pc_plain (address_plain mask low)) refl
      (flip_pc mask low) fits
      (four_short (codes "flip") (codes "pc") (address_text mask) (omega arith) (omega arith)
      (omega (arith, address_length mask low))))

  set_asks : (r value : ℕ) → 1 ≤ r → r < 32 → value < 2 ^ 32
      → Asks (glitch_text step (Set r value)) step (Acts.Set r value 0)
  unfolding glitch_text
  set_asks r value some small low =
      let text : glitch_text step (Set r value)
      ≡ codes "set" ++ 32 ∷ (decimal step ++ 32 ∷ (register_text r ++ 32 ∷ address_text value))
      = spaced_four (codes "set") (decimal step) (120 ∷ []) (decimal r) (address_text value) in
      subst (λ (line : List ℕ). Asks line step (Acts.Set r value 0)) (sym text)
      (asks (codes "set" ++ 32 ∷ (decimal step ++ 32 ∷ (register_text r ++ 32 ∷ address_text value))) (codes "set")
      (register_text r ∷ address_text value ∷ []) step 115 _ (Acts.Set r value 0) refl refl
      (four_fields (codes "set") (register_text r) (address_text value) set_plain (register_plain r small)
      (address_plain value low)) refl (set_register r value some small low) fits
      (four_short (codes "set") (register_text r) (address_text value) (omega arith)
      (omega (arith, decimal_short r (omega arith))) (omega (arith, address_length value low))))

  turn_asks : (addr mask : ℕ) → addr < 2 ^ 32 → mask < 2 ^ 32
      → Asks (glitch_text step (TurnBits addr mask)) step (Acts.Turn addr mask)
  unfolding glitch_text
  turn_asks addr mask high low =
      let text : glitch_text step (TurnBits addr mask)
      ≡ codes "flip" ++ 32 ∷ (decimal step ++ 32 ∷ (address_text addr ++ 32 ∷ address_text mask))
      = spaced_four (codes "flip") (decimal step) [] (address_text addr) (address_text mask) in
      subst (λ (line : List ℕ). Asks line step (Acts.Turn addr mask)) (sym text)
      (asks (codes "flip" ++ 32 ∷ (decimal step ++ 32 ∷ (address_text addr ++ 32 ∷ address_text mask))) (codes "flip")
      (address_text addr ∷ address_text mask ∷ []) step 102 _ (Acts.Turn addr mask) refl refl
      (four_fields (codes "flip") (address_text addr) (address_text mask) flip_plain (address_plain addr high)
      (address_plain mask low)) refl (turn_word addr mask high low) fits
      (four_short (codes "flip") (address_text addr) (address_text mask) (omega arith)
      (omega (arith, address_length addr high)) (omega (arith, address_length mask low))))

  glitch_asks : (glitch : Glitch) → FitsLine glitch → Asks (glitch_text step glitch) step (glitch_act glitch)
  glitch_asks Skip small = skip_asks
  glitch_asks (Flip r mask) small = flip_asks r mask small.0 small.1 small.2
  glitch_asks (FlipPc mask) small = flip_pc_asks mask small
  glitch_asks (Set r value) small = set_asks r value small.0 small.1 small.2
  glitch_asks (TurnBits addr mask) small = turn_asks addr mask small.0 small.1

-- ---- a session

-- an edit that isn't rejected has a step within the limit
first_test : (b : Bool) (rest : Option Refusal) → (if b then Some StepLimit else rest) ≡ None → b ≡ false
first_test true rest h = cc
first_test false rest h = refl

step_near : (sc : Scenario) (step : ℕ) (glitch : Glitch) → IsTaken sc (glitch_edit step glitch) → step ≤ limit_of sc
unfolding mark_refusal
step_near sc step glitch free = ltb-false (limit_of sc) step (first_test (nat_lt (limit_of sc) step) _ free)

not_look : (turn : Turn) (line rest : List ℕ) (first : ℕ) → line ≡ first ∷ rest → nat_eq 108 first ≡ false
    → looks turn line ≡ false
unfolding looks
not_look turn line rest first begins other = rw (begins, other)

-- a line that alters and isn't too long is judged by its edit, while lines are answered
taken_as : (turn : Turn) (line : List ℕ) (step : ℕ) (glitch : Glitch) → turn.lines < most_lines
    → Asks line step (glitch_act glitch) → IsTaken turn.scenario (glitch_edit step glitch)
    → accepted_as turn line (read_as (limit_of turn.scenario) line) ≡ Ok (Edit (glitch_edit step glitch))
unfolding line_refusal read_as
taken_as turn line step glitch few asks free =
    let answered : nat_le most_lines turn.lines ≡ false = grind (arith, nat_tests) in
    rw (
      answered,
      le-ltb longest_line (length line) asks.short,
      asks.alters_it,
      asks.asked (limit_of turn.scenario) (step_near turn.scenario step glitch free),
      free,
    )

pub faults_are_lines : FaultsAreLines
faults_are_lines turn step glitch few small free =
    let near = step_near turn.scenario step glitch free in
    let asks = glitch_asks step (omega (arith, near)) glitch small in
    let line = glitch_text step glitch in
    let read = taken_as turn line step glitch few asks free in
    (not_look turn line asks.rest asks.first asks.begins asks.other, read, ap (after turn.scenario) read)

-- one line more
counted_once : (lines : ℕ) → lines + 1 < most_lines → counted lines < most_lines
counted_once lines few =
    let answered : nat_le most_lines lines ≡ false = grind (arith, nat_tests) in
    subst (λ b. (if b then lines else lines + 1) < most_lines) (sym answered) few

pub pairs_are_lines : PairsAreLines
pairs_are_lines turn step later glitch other few small fits free next =
    let one = faults_are_lines turn step glitch (omega (arith, few)) small free in
    let turned = given turn (glitch_text step glitch) in
    let two = faults_are_lines turned later other (counted_once turn.lines few) fits
    (subst (λ (sc : Scenario). IsTaken sc (glitch_edit later other)) (sym one.2) next) in
    two.2 ∙ ap (λ (sc : Scenario). (row sc (glitch_edit later other)).after) one.2
