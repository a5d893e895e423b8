-- The entries of a map of counts, by the bytes of their texts.
use Rattle.std.proofs.Common.{◌≡◌, ℕ, zero, suc, ◌+◌, ◌<◌, Bool, true, false, not, cond, ◌||◌, List, [], ◌∷◌, Some}
use Rattle.std.proofs.Common.{None, unwrap_or, is_some, refl, ap, sym, length, map, nat_eq, nat_lt, position, arith}
use Rattle.std.specs.Prelude.{slice_get}
use Rattle.std.specs.List.{position_or_len}
use Rattle.std.specs.Map.{lookup, keys_of, values_of}
use Rattle.indexmap.specs.Layout.{set_value_at}
use Rattle.std.specs.Str.{bytes_eq}
use Rattle.std.specs.Cmp.Lexicographic.{pointwise}
use Rattle.std.specs.declared.vec.Vec.{Vec}
use Rattle.indexmap.specs.IndexMap.{insert_entry}
use Rattle.texts.specs.Tallied.{keyed, next_count, with_text, is_met, number_of}

module _ {Z : Type 0} where
  pub length-keyed : (entries : List (Vec ℕ Z × ℕ)) → length (keyed entries) ≡ length entries
  length-keyed [] = refl
  length-keyed (e ∷ es) = ap suc (length-keyed es)

  length-keys : (entries : List (Vec ℕ Z × ℕ)) → length (keys_of entries) ≡ length (keyed entries)
  length-keys [] = refl
  length-keys (e ∷ es) = ap suc (length-keys es)

  pub counts_keyed : (entries : List (Vec ℕ Z × ℕ)) → values_of entries ≡ map (λ e. e.1) (keyed entries)
  counts_keyed [] = refl
  counts_keyed (e ∷ es) = ap (λ counts. e.1 ∷ counts) (counts_keyed es)

  module _ (text : List ℕ) where
    -- the place of the text
    abbrev place : List (Vec ℕ Z × ℕ) → ℕ
    place entries = position_or_len (λ e. bytes_eq text e.0) (keyed entries)

    places : (entries : List (Vec ℕ Z × ℕ))
        → position_or_len (λ kept. pointwise nat_eq text kept.items) (keys_of entries) ≡ place entries
    places [] = refl
    places (e ∷ es) = ap (λ n. cond (not (pointwise nat_eq text e.0.items)) (1 + n) 0) (places es)

    pub positions : (entries : List (Vec ℕ Z × ℕ))
        → position (λ kept. pointwise nat_eq text kept.items) (keys_of entries)
        ≡ position (λ e. bytes_eq text e.0) (keyed entries)
    positions entries = λ i. cond (nat_lt (places entries i) (length-keys entries i)) (Some (places entries i)) None

    pub met : (entries : List (Vec ℕ Z × ℕ))
        → is_some (lookup (λ kept. pointwise nat_eq text kept.items) entries) ≡ is_met (keyed entries) text
    met [] = refl
    met (e ∷ es) = go (pointwise nat_eq text e.0.items) (met es)
      where
        go : (b : Bool) → is_some (lookup (λ kept. pointwise nat_eq text kept.items) es) ≡ is_met (keyed es) text
            → is_some (cond b (Some e.1) (lookup (λ kept. pointwise nat_eq text kept.items) es))
            ≡ (b || is_met (keyed es) text)
        go true rest = refl
        go false rest = rest

    -- the text at a place below the end is first there
    first : (entries : List (Vec ℕ Z × ℕ)) (i : ℕ) → i < length entries → i ≡ number_of (keyed entries) text
        → place entries ≡ i
    first entries i within is = go (nat_lt (place entries) (length (keyed entries))) is
      where
        go : (b : Bool) → i ≡ unwrap_or (cond b (Some (place entries)) None) (length (keyed entries))
            → place entries ≡ i
        go true e = sym e
        go false e = absurd (omega (arith, length-keyed entries))

    raised : (entries : List (Vec ℕ Z × ℕ)) (i count : ℕ) → i < length entries → place entries ≡ i
        → slice_get (values_of entries) i ≡ Some count
        → keyed (set_value_at entries i (next_count count)) ≡ with_text (keyed entries) text
    unfolding with_text
    raised [] i count within is there = absurd (omega arith)
    raised (e ∷ es) i count within is there = go (bytes_eq text e.0.items) i within is there (raised es)
      where
        go : (b : Bool) (i : ℕ) → i < suc (length es) → cond (not b) (1 + place es) 0 ≡ i
            → slice_get (e.1 ∷ values_of es) i ≡ Some count
            → ((j n : ℕ) → j < length es → place es ≡ j → slice_get (values_of es) j ≡ Some n
            → keyed (set_value_at es j (next_count n)) ≡ with_text (keyed es) text)
            → keyed (set_value_at (e ∷ es) i (next_count count))
            ≡ cond b ((e.0.items, next_count e.1) ∷ keyed es) ((e.0.items, e.1) ∷ with_text (keyed es) text)
        go true zero within is there rest = ap (λ o. (e.0.items, next_count (unwrap_or o count)) ∷ keyed es) (sym there)
        go true (suc i) within is there rest = absurd (omega arith)
        go false zero within is there rest = absurd (omega arith)
        go false (suc i) within is there rest =
            ap (λ others. (e.0.items, e.1) ∷ others) (rest i count (omega arith) (omega arith) there)

    -- another occurrence of the text at a place
    pub counted_again : (entries : List (Vec ℕ Z × ℕ)) (i count : ℕ) → i < length entries
        → i ≡ number_of (keyed entries) text → slice_get (values_of entries) i ≡ Some count
        → keyed (set_value_at entries i (next_count count)) ≡ with_text (keyed entries) text
    counted_again entries i count within is there = raised entries i count within (first entries i within is) there

  -- a new text
  pub added : (entries : List (Vec ℕ Z × ℕ)) (text : Vec ℕ Z) → is_met (keyed entries) text.items ≡ false
      → keyed (insert_entry (λ x y. pointwise nat_eq x.items y.items) entries text 1)
      ≡ with_text (keyed entries) text.items
  unfolding with_text
  added [] text new = refl
  added (e ∷ es) text new = go (bytes_eq text.items e.0.items) new (added es text)
    where
      go : (b : Bool) → (b || is_met (keyed es) text.items) ≡ false
          → (is_met (keyed es) text.items ≡ false
          → keyed (insert_entry (λ x y. pointwise nat_eq x.items y.items) es text 1) ≡ with_text (keyed es) text.items)
          → keyed (cond b ((e.0, 1) ∷ es) (e ∷ insert_entry (λ x y. pointwise nat_eq x.items y.items) es text 1))
          ≡ cond b ((e.0.items, next_count e.1) ∷ keyed es) ((e.0.items, e.1) ∷ with_text (keyed es) text.items)
      go true new rest = cc
      go false new rest = ap (λ others. (e.0.items, e.1) ∷ others) (rest new)
