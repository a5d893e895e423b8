-- The bytes that digits write, and how a line that gives them is read.
use Rattle.std.proofs.Common.{◌≡◌, ℕ, zero, suc, ◌+◌, ◌*◌, ◌/◌, ◌<◌, ◌≤◌, nat_lt, Bool, true, false, cond, List, []}
use Rattle.std.proofs.Common.{◌∷◌, ◌++◌, length, drop, get_or, Option, Some, Result, Ok, Err, refl, ap, sym}
use Rattle.std.proofs.Common.{◌∙◌, subst, arith, append_assoc, append-nil}
use Rattle.std.specs.Prelude.{◌⊎◌}
use Rattle.std.specs.Char.{digit_value}
use Rattle.std.specs.List.{list_all}
use Rattle.std.proofs.lemmas.Bool.{and_parts, lt-ltb, le-ltb, ltb-true}
use Rattle.std.proofs.lemmas.List.{drop_more, length-drop}
use Rattle.scenario.specs.Edits.{refused_if}
use Rattle.scenario.specs.Limits.{longest_input}
use Rattle.commands.specs.Faults.{fault_of}
use Rattle.commands.specs.declared.edit.Edit.{Edit}
use Rattle.commands.specs.declared.edit.Edit.TheVariants.{Overwrite, Give}
use Rattle.commands.specs.declared.fault.Fault.{Fault}
use Rattle.commands.specs.declared.fault.Fault.TheVariants.{BadCommand, InputTooLarge, Memory, OutsideInput}
use Rattle.commands.specs.declared.refusal.Refusal.{Refusal}
use Rattle.commands.specs.declared.refusal.Refusal.TheVariants as Refused
use Rattle.look_lines.specs.Inputs.{bytes_of, give_of, is_hex, Makes, overwrite_with, ReadsFor}

-- ---- digit after digit

-- the byte of the next two
pub bytes-next : (xs : List ℕ) (at : ℕ) → at + 1 < length xs
    → bytes_of (drop at xs)
    ≡ (16 * digit_value (get_or xs at 0) + digit_value (get_or xs (at + 1) 0)) ∷ bytes_of (drop (at + 2) xs)
unfolding bytes_of
bytes-next xs at l =
    let two : at + 1 + 1 ≡ at + 2 = omega arith in
    ap bytes_of (drop_more xs at 0 (omega arith)
    ∙ ap (λ more. get_or xs at 0 ∷ more) (drop_more xs (at + 1) 0 l
    ∙ ap (λ n. get_or xs (at + 1) 0 ∷ drop n xs) two))

pub bytes-more : (xs made next : List ℕ) (at byte : ℕ) → at + 1 < length xs
    → byte ≡ 16 * digit_value (get_or xs at 0) + digit_value (get_or xs (at + 1) 0) → next ≡ made ++ byte ∷ []
    → bytes_of xs ≡ made ++ bytes_of (drop at xs) → bytes_of xs ≡ next ++ bytes_of (drop (at + 2) xs)
bytes-more xs made next at byte l b n e =
    e ∙ ap (λ more. made ++ more) (bytes-next xs at l ∙ ap (λ c. c ∷ bytes_of (drop (at + 2) xs)) (sym b))
    ∙ sym (append_assoc made (byte ∷ []) (bytes_of (drop (at + 2) xs)))
    ∙ ap (λ front. front ++ bytes_of (drop (at + 2) xs)) (sym n)

-- at most one digit is left
short : (xs : List ℕ) → length xs ≤ 1 → bytes_of xs ≡ []
unfolding bytes_of
short [] l = refl
short (x ∷ []) l = refl
short (x ∷ y ∷ xs) l = absurd (omega arith)

pub bytes-end : (xs made : List ℕ) (at : ℕ) → length xs ≤ at + 1 → bytes_of xs ≡ made ++ bytes_of (drop at xs)
    → made ≡ bytes_of xs
bytes-end xs made at l e =
    let left = length-drop at xs in
    sym (e ∙ ap (λ more. made ++ more) (short (drop at xs) (omega arith)) ∙ append-nil made)

each-passes : (p : ℕ → Bool) (xs : List ℕ) (i : ℕ) → list_all p xs ≡ true → i < length xs → p (get_or xs i 0) ≡ true
each-passes p [] i h l = absurd (omega arith)
each-passes p (x ∷ xs) zero h l = (and_parts (p x) (list_all p xs) h).0
each-passes p (x ∷ xs) (suc i) h l = each-passes p xs i (and_parts (p x) (list_all p xs) h).1 (omega arith)

-- each digit is one
pub digit-below : (xs : List ℕ) (i : ℕ) → is_hex xs ≡ true → i < length xs → digit_value (get_or xs i 0) < 16
unfolding is_hex
digit-below xs i h l =
    let even-digits = (and_parts _ _ h).1 in
    let digits = (and_parts _ _ even-digits).1 in
    ltb-true (digit_value (get_or xs i 0)) 16 (each-passes (λ c. nat_lt (digit_value c) 16) xs i digits l)

pub bytes-len : (xs : List ℕ) → length (bytes_of xs) ≡ length xs / 2
unfolding bytes_of
bytes-len [] = refl
bytes-len (x ∷ []) = refl
bytes-len (x ∷ y ∷ xs) = let more = bytes-len xs in omega arith

-- ---- what a line is read as

-- the edit is rejected, or it is made
refused : (b : Bool) (refusal : Refusal) (edit : Edit) → b ≡ true
    → Makes (refused_if b refusal) edit (Err (fault_of refusal))
refused b refusal edit e = subst (λ (t : Bool). Makes (refused_if t refusal) edit (Err (fault_of refusal))) (sym e) refl

made : (b : Bool) (refusal : Refusal) (edit : Edit) (result : Result Edit Fault) → b ≡ false
    → (result ≡ Ok edit) ⊎ (result ≡ Err Memory)
    → Makes (refused_if b refusal) edit result
made b refusal edit result e h = subst (λ (t : Bool). Makes (refused_if t refusal) edit result) (sym e) h

module _ (len : ℕ) (hex : List ℕ) where
  by : (b : Bool) (result : Result Edit Fault) → is_hex hex ≡ b
      → ReadsFor len (cond b (Ok (Give (bytes_of hex))) (Err BadCommand)) result → ReadsFor len (give_of hex) result
  by b result e h =
      subst (λ (t : Bool). ReadsFor len (cond t (Ok (Give (bytes_of hex))) (Err BadCommand)) result) (sym e) h

  pub give-refused : is_hex hex ≡ true → longest_input < length hex / 2 → ReadsFor len (give_of hex) (Err InputTooLarge)
  give-refused e l =
      let size = bytes-len hex in
      by true (Err InputTooLarge) e
      (refused (nat_lt longest_input (length (bytes_of hex))) Refused.InputTooLarge (Give (bytes_of hex))
      (lt-ltb longest_input (length (bytes_of hex)) (omega arith)))

  pub give-made : (result : Result Edit Fault) → is_hex hex ≡ true → length hex / 2 ≤ longest_input
      → (result ≡ Ok (Give (bytes_of hex))) ⊎ (result ≡ Err Memory)
      → ReadsFor len (give_of hex) result
  give-made result e l h =
      let size = bytes-len hex in
      by true result e
      (made (nat_lt longest_input (length (bytes_of hex))) Refused.InputTooLarge (Give (bytes_of hex)) result
      (le-ltb longest_input (length (bytes_of hex)) (omega arith)) h)

  module _ (offset : ℕ) (place : Option ℕ) (is : place ≡ Some offset) where
    at : (b : Bool) (result : Result Edit Fault) → is_hex hex ≡ b
        → ReadsFor len (cond b (Ok (Overwrite offset (bytes_of hex))) (Err BadCommand)) result
        → ReadsFor len (overwrite_with place hex) result
    at b result e h =
        subst (λ (p : Option ℕ). ReadsFor len (overwrite_with p hex) result) (sym is)
        (subst (λ (t : Bool). ReadsFor len (cond t (Ok (Overwrite offset (bytes_of hex))) (Err BadCommand)) result)
        (sym e) h)

    pub overwrite-refused : is_hex hex ≡ true → len < offset + length hex / 2
        → ReadsFor len (overwrite_with place hex) (Err OutsideInput)
    overwrite-refused e l =
        let size = bytes-len hex in
        at true (Err OutsideInput) e
        (refused (nat_lt len (offset + length (bytes_of hex))) Refused.OutsideInput (Overwrite offset (bytes_of hex))
        (lt-ltb len (offset + length (bytes_of hex)) (omega arith)))

    pub overwrite-made : (result : Result Edit Fault) → is_hex hex ≡ true → offset + length hex / 2 ≤ len
        → (result ≡ Ok (Overwrite offset (bytes_of hex))) ⊎ (result ≡ Err Memory)
        → ReadsFor len (overwrite_with place hex) result
    overwrite-made result e l h =
        let size = bytes-len hex in
        at true result e
        (made (nat_lt len (offset + length (bytes_of hex))) Refused.OutsideInput (Overwrite offset (bytes_of hex))
        result (le-ltb len (offset + length (bytes_of hex)) (omega arith)) h)
