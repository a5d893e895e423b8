-- Where the names of a string table end.
use Rattle.std.proofs.Common.{◌≡◌, ◌≢◌, ℕ, ◌+◌, ◌-◌, ◌<◌, ◌≤◌, Some, None, refl, sym, take, cond, position, Bool, true}
use Rattle.std.proofs.Common.{false, not, ◌&&◌, nat_le, nat_lt, List, get_or}
use Rattle.std.proofs.Common.{length, drop, ◌∙◌, ap, arith, length-drop}
use Rattle.std.proofs.lemmas.Bool.Decides.{nat_tests}
use Rattle.std.proofs.lemmas.List.{get_or-drop, get_or_default, take_all}
use Rattle.std.proofs.lemmas.List.Folds.{list_any_at, list_any_none}
use Rattle.std.specs.List.{before_first, list_any, position_or_len}
use Rattle.guest_elf.specs.Sections.{has_bad_name, is_function, is_zero}
use Rattle.guest_elf.specs.declared.symbols.Symbol.{Symbol}

by_order : (start end : ℕ) (b : Bool) → (start < end → b ≡ true) → (end ≤ start → b ≡ false) → b ≡ nat_lt start end
by_order start end b below past = grind (arith, nat_tests)

no_zero : (byte : ℕ) → byte ≢ 0 → is_zero byte ≡ false
no_zero byte other = grind (arith, nat_tests)

-- the last zero byte is directly below `end`: a name has an end exactly if it begins below it
pub ends_below : (strings : List ℕ) (end : ℕ) → end ≤ length strings → (0 < end → get_or strings (end - 1) 0 ≡ 0) →
    ((k : ℕ) → end ≤ k → k < length strings → get_or strings k 0 ≢ 0) →
    (start : ℕ) → list_any is_zero (drop start strings) ≡ nat_lt start end
ends_below strings end within last later start =
    let rest = drop start strings in
    by_order start end (list_any is_zero rest)
    (λ below.
    let same : start + (end - 1 - start) ≡ end - 1 = omega arith in
    list_any_at is_zero rest (end - 1 - start) 0 (omega (arith, length-drop start strings))
    (ap is_zero (get_or-drop start strings (end - 1 - start) 0 ∙ ap (λ i. get_or strings i 0) same
    ∙ last (omega arith))))
    (λ past. list_any_none is_zero rest (λ k d inside.
    let there : start + k < length strings = omega (arith, length-drop start strings) in
    ap is_zero (get_or-drop start strings k d ∙ get_or_default strings (start + k) d 0 there)
    ∙ no_zero (get_or strings (start + k) 0) (later (start + k) (omega arith) there)))

not_below : (start end : ℕ) → not (nat_lt start end) ≡ nat_le end start
not_below start end = grind (arith, nat_tests)

pub bad_name_is : (strings : List ℕ) (end : ℕ)
    → ((start : ℕ) → list_any is_zero (drop start strings) ≡ nat_lt start end) →
    (symbol : Symbol) → has_bad_name strings symbol ≡ (is_function symbol && nat_le end symbol.name)
unfolding has_bad_name
bad_name_is strings end ends symbol =
    ap (λ b. is_function symbol && not b) (ends symbol.name)
    ∙ ap (λ b. is_function symbol && b) (not_below symbol.name end)

place_is : (b : Bool) (n i : ℕ) → cond b (Some n) None ≡ Some i → i ≡ n
place_is true n i e = cc
place_is false n i e = absurd (let impossible : None ≡ Some i = e in cc)

past_place : (b : Bool) (i n : ℕ) → cond b (Some i) None ≡ None → (b ≡ false → n ≤ i) → n ≤ i
past_place true i n e late = absurd (let impossible : Some i ≡ None = e in cc)
past_place false i n e late = late refl

no_place : (i n : ℕ) → cond (nat_lt i n) (Some i) None ≡ None → n ≤ i
no_place i n e = past_place (nat_lt i n) i n e (λ late. grind (arith, nat_tests))

-- the bytes before the first zero byte
pub name_before : (bytes : List ℕ) (end : ℕ) → position is_zero bytes ≡ Some end
    → take end bytes ≡ before_first is_zero bytes
name_before bytes end e = ap (λ n. take n bytes) (place_is _ (position_or_len is_zero bytes) end e)

-- all bytes, where none is zero
pub name_whole : (bytes : List ℕ) → position is_zero bytes ≡ None → bytes ≡ before_first is_zero bytes
name_whole bytes e =
    sym (take_all (position_or_len is_zero bytes) bytes (no_place (position_or_len is_zero bytes) (length bytes) e))
