use Rattle.std.proofs.Common.{◌≡◌, ◌+◌, ◌-◌, ◌/◌, ◌≤◌, ◌∙◌, ◌++◌, List, [], ◌∷◌, inl, inr, ap, ap₂, refl}
use Rattle.std.proofs.Common.{sym, arith, rules, ℕ, get_or, take, take_all, length, vec_len, max}
use Rattle.std.specs.Prelude.{replicate}
use Rattle.std.proofs.lemmas.Bool.{cases_lt}
use Rattle.std.proofs.lemmas.List.{get_or_append_left, get_or-append_right, take_more}
use Rattle.run_values.specs.declared.span.Span.{Span}
use Rattle.checkpoints.specs.declared.uses.Row.{Row}
use Rattle.checkpoints.specs.Entries.{entry_of}
use Rattle.checkpoints.specs.Words.{words_of, word_end, rows_from, never}
use Rattle.checkpoints.proofs.WordSteps.{no-words, none-in, none-remembered, words-none, words-more}
use Rattle.checkpoints.proofs.Places.{furthest, furthest-more, rows-more}
use Rattle.checkpoints.proofs.uses.FirstUses.over.Goals as goal

-- the first element's default
abbrev nowhere : Span
nowhere = record { start = 0; len = 0 }

pub loop-range-init : goal.loop-range-init
unfolding rows_from furthest
loop-range-init c = record {
  rows = c.new-rows.ensures.items;
  end = refl;
  words = c.new-steps.ensures.len ∙ sym words-none;
  none = λ k. ap (λ xs. get_or xs k never) c.new-steps.ensures.items;
}

-- a longer table has no step either
longer : (old new : List ℕ) (n : ℕ) → new ≡ take n old ++ replicate (n - length old) never → length old ≤ n
    → ((k : ℕ) → get_or old k never ≡ never) → (k : ℕ) → get_or new k never ≡ never
longer old new n e l h k =
    ap (λ xs. get_or xs k never) (e ∙ ap (λ xs. xs ++ replicate (n - length old) never) (take_all n old l))
    ∙ elim (cases_lt k (length old)) [
      | inl early ↦ get_or_append_left old (replicate (n - length old) never) never k early ∙ h k
      | inr late ↦ get_or-append_right old (replicate (n - length old) never) (length old) k never refl late
          ∙ none-in (n - length old) (k - length old)
    ]

pub overflow_add-len : goal.overflow_add-len
overflow_add-len c = omega (arith, c.words_in.ensures.few, c.loop-range.steps.small, c.len-in-loop-range.ensures)

pub loop-range-preserved : goal.loop-range-preserved
loop-range-preserved c =
    let i = c.loop-range.range-index in
    let is = c.deref-range-items.ensures.value in
    let range : Span = get_or c.deref-range-items.result.now i nowhere in
    let done : List Span = take i c.args.ranges.items in
    let inv = c.loop-range.invariant in
    let old = c.loop-range.steps in
    let next : take (i + 1) c.args.ranges.items ≡ done ++ range ∷ [] =
    ap (take (i + 1)) (sym is) ∙ take_more c.deref-range-items.result.now i nowhere c.loop-range-test.true
    ∙ ap (λ xs. take i xs ++ range ∷ []) is in
    let so_far : c.len.result ≡ words_of done = c.len.ensures ∙ inv.words in
    let before : c.len.result ≡ 0 + words_of done = omega arith in
    let end : c.greater-end.result ≡ max (furthest 0 done) (word_end range) = c.greater-end.ensures
    ∙ ap₂ (λ m n. max m n) inv.end c.word_end.ensures in
    let size : vec_len old ≡ length old.items = search rules in
    let count : c.len-in-loop-range.result ≡ vec_len old = c.len-in-loop-range.ensures in
    record {
      rows =
          c.in_ok-push.ensures.items
          ∙ ap (λ (rows : List Row). rows ++ record {
            first = range.start / 4;
            before = c.len.result;
            end = c.greater-end.result;
          } ∷ []) inv.rows
          ∙ ap₂ (λ m n. rows_from 0 0 done ++ record { first = range.start / 4; before = m; end = n } ∷ []) before end
          ∙ sym (rows-more done range 0 0)
          ∙ ap (rows_from 0 0) (sym next);
      end = end ∙ sym (furthest-more done range 0) ∙ ap (furthest 0) (sym next);
      words =
          c.in_ok-resize.ensures.len
          ∙ ap₂ (λ m n. m + n) (count ∙ inv.words) c.words_in.ensures.value
          ∙ sym (words-more done range)
          ∙ ap words_of (sym next);
      none = λ k. longer old.items c.resize.new.self.items (c.len-in-loop-range.result + c.words_in.result)
          (c.in_ok-resize.ensures.items
          ∙ ap (λ m. take (c.len-in-loop-range.result + c.words_in.result) old.items
          ++ replicate (c.len-in-loop-range.result + c.words_in.result - m) never)
          size)
          (omega arith) inv.none k;
    }

pub returns-clause-none : goal.returns-clause-none
unfolding entry_of
returns-clause-none c w = c.loop-range.invariant.none _

pub invariant_of-result : goal.invariant_of-result
invariant_of-result c =
    let inv = c.loop-range.invariant in
    let is = c.deref-range-items.ensures.value in
    let all : take c.loop-range.range-index c.args.ranges.items ≡ c.args.ranges.items =
    take_all c.loop-range.range-index c.args.ranges.items (omega (arith, ap (length {A = Span}) is)) in record {
      sorted = c.requires;
      laid = inv.rows ∙ ap (rows_from 0 0) all;
      enough = inv.words ∙ ap words_of all;
      early = λ k entered. absurd (entered (inv.none k));
      grouped = c.in_ok-resize-2.ensures.len ∙ ap (λ n. n / 64 + 1) c.len-2.ensures;
      bounded = λ k entered. absurd (entered (inv.none k));
      known = none-remembered _ _ 256;
      room = refl;
      words = no-words 256;
    }
