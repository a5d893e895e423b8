-- A part of the output of a run, from one step to the next.
use Rattle.std.proofs.Common.{◌≡◌, ◌⊎◌, inl, inr, ℕ, zero, suc, ◌+◌, ◌-◌, ◌<◌, ◌≤◌, Bool, true, false, cond, min}
use Rattle.std.proofs.Common.{List, [], ◌∷◌, ◌++◌, length, take, drop, append-nil, append_assoc, length-append}
use Rattle.std.proofs.Common.{refl, ap, ap₂, sym, ◌∙◌, arith, nat_lt, add-zero, Option}
use Rattle.std.proofs.Math.ListN.{drop_of_length-le}
use Rattle.std.proofs.lemmas.Bool.{cases_lt}
use Rattle.std.proofs.lemmas.Bool.Decides.{nat_tests}
use Rattle.std.proofs.lemmas.List.FromFn.{length-map-range_with_len, map-range_with_len_more}
use Rattle.std.proofs.lemmas.List.{drop-append-le, take-append-le, take_all, length-drop}
use Rattle.std.specs.Prelude.{fold}
use Rattle.run_values.specs.declared.alteration.Alteration.{Alteration}
use Rattle.run_values.specs.declared.span.Span.{Span}
use Rattle.shadow_memory.specs.Ranges.{above, window}
use Rattle.guest_machine.specs.State.{State}
use Rattle.guest_machine.specs.Calls.{bytes_taken}
use Rattle.guest_machine.specs.Exec.{exec, touched_of}
use Rattle.guest_machine.specs.Alterations.{altered}
use Rattle.guest_machine.specs.Run.{after_marks, marks_at, pre, post}
use Rattle.guest_machine.specs.Streams.{WritesWhatItReads, bytes_over}
use Rattle.guest_machine.specs.declared.setup.Setup.{Setup}
use Rattle.checkpoints.specs.Outputs.{part}
use Rattle.checkpoints.specs.Words.{has_address}
use Rattle.checkpoints.proofs.MarkSteps.{pre-more}

-- ---- a part of a list that grows

-- the part is there already
pub part-full : (range : Span) (xs ys : List ℕ) → range.start + range.len ≤ length xs
    → part range (xs ++ ys) ≡ part range xs
unfolding part
part-full range xs ys l =
    let within : range.start ≤ length xs = omega arith in
    let rest = length-drop range.start xs in
    let enough : range.len ≤ length (drop range.start xs) = omega arith in
    ap (take range.len) (drop-append-le range.start xs ys within)
    ∙ take-append-le range.len (drop range.start xs) ys enough

-- nothing of it is there
pub part-none : (range : Span) (xs : List ℕ) → length xs ≤ range.start → part range xs ≡ []
unfolding part
part-none range xs l =
    ap (take range.len) (drop_of_length-le xs l)
    ∙ take_all range.len [] (omega arith)

part-below : (range : Span) (xs : List ℕ) (x : ℕ) → length xs < range.start
    → part range (xs ++ x ∷ []) ≡ part range xs
part-below range xs x l =
    let long = length-append xs (x ∷ []) in
    part-none range (xs ++ x ∷ []) (omega arith) ∙ sym (part-none range xs (omega arith))

part-in : (range : Span) (xs : List ℕ) (x : ℕ) → range.start ≤ length xs → length xs < range.start + range.len
    → part range (xs ++ x ∷ []) ≡ part range xs ++ x ∷ []
unfolding part
part-in range xs x l h =
    let rest = drop range.start xs in
    let count = length-drop range.start xs in
    let long = length-append rest (x ∷ []) in
    ap (take range.len) (drop-append-le range.start xs (x ∷ []) l)
    ∙ take_all range.len (rest ++ x ∷ []) (omega arith)
    ∙ ap (λ ys. ys ++ x ∷ []) (sym (take_all range.len rest (omega arith)))

-- another element
pub part-more : (range : Span) (xs : List ℕ) (x : ℕ) (b : Bool) → b ≡ has_address range (length xs)
    → part range (xs ++ x ∷ []) ≡ part range xs ++ cond b (x ∷ []) []
part-more range xs x true is =
    let low : range.start ≤ length xs = grind (arith, nat_tests) in
    let high : length xs < range.start + range.len = grind (arith, nat_tests) in
    part-in range xs x low high
part-more range xs x false is = elim (cases_lt (length xs) range.start) [
  | inl low ↦ part-below range xs x low ∙ sym (append-nil (part range xs))
  | inr high ↦ (
      let past : range.start + range.len ≤ length xs = grind (arith, nat_tests) in
      part-full range xs (x ∷ []) past ∙ sym (append-nil (part range xs))
      )
]

no-more : (xs : List ℕ) → length xs ≡ 0 → xs ≡ []
no-more [] h = refl
no-more (x ∷ xs) h = absurd (omega arith)

-- all of a list that is in it is there, or the list has no more
pub part-last : (range : Span) (xs ys more : List ℕ) → ys ≡ xs ++ more
    → min (range.start + range.len) (length ys) ≤ length xs → part range xs ≡ part range ys
part-last range xs ys more is l = elim (cases_lt (length xs) (range.start + range.len)) [
  | inr full ↦ sym (ap (part range) is ∙ part-full range xs more full)
  | inl short ↦ (
      let long = ap length is ∙ length-append xs more in
      let none : more ≡ [] = no-more more (omega arith) in
      ap (part range) (sym (is ∙ ap (λ zs. xs ++ zs) none ∙ append-nil xs))
      )
]

-- ---- the bytes of a piece of memory

pub in-window : (f : ℕ → ℕ) (start n i : ℕ) → i < n → window f start n i ≡ f (above start i)
unfolding window
in-window f start n i less =
    let within : nat_lt i n ≡ true = grind (arith, nat_tests) in
    ap (λ b. cond b (f (above start i)) 0) within

-- another byte of it
pub piece-more : (f : ℕ → ℕ) (range piece : Span) (i byte : ℕ) (b : Bool) (xs old new : List ℕ) → i < piece.len
    → byte ≡ f (above piece.start i) → b ≡ has_address range (length xs + i)
    → old ≡ part range (xs ++ bytes_taken (window f piece.start piece.len) i) → new ≡ old ++ cond b (byte ∷ []) []
    → new ≡ part range (xs ++ bytes_taken (window f piece.start piece.len) (i + 1))
piece-more f range piece i byte b xs old new less is wanted so grew =
    let w = window f piece.start piece.len in
    let begun = bytes_taken w i in
    let here = is ∙ sym (in-window f piece.start piece.len i less) in
    let count = length-append xs begun ∙ ap (λ n. length xs + n) (length-map-range_with_len w 0 i) in
    grew ∙ ap₂ (λ ys (x : ℕ). ys ++ cond b (x ∷ []) []) so here
    ∙ sym (part-more range (xs ++ begun) (w i) b (wanted ∙ ap (has_address range) (sym count)))
    ∙ ap (part range) (append_assoc xs begun (w i ∷ [])
    ∙ ap (λ ys. xs ++ ys) (sym (map-range_with_len_more w 0 i i (omega arith))))

-- ---- the output of a run

-- a step writes a piece, if the output has grown
grown : (xs ys piece : List ℕ) (Same : Type 0) → (ys ≡ xs) ⊎ ((ys ≡ xs ++ piece) × Same) → (length ys ≡ length xs → ⊥)
    → (ys ≡ xs ++ piece) × Same
grown xs ys piece Same (inl same) more = absurd (more (ap length same))
grown xs ys piece Same (inr said) more = said

kept : (xs ys piece : List ℕ) (Same : Type 0) → (ys ≡ xs) ⊎ ((ys ≡ xs ++ piece) × Same) → length ys ≡ length xs
    → ys ≡ xs
kept xs ys piece Same (inl same) h = same
kept xs ys piece Same (inr said) h =
    let long = ap length said.0 ∙ length-append xs piece in
    said.0 ∙ ap (λ zs. xs ++ zs) (no-more piece (omega arith)) ∙ append-nil xs

module _ (law : WritesWhatItReads) (s : State) (setup : Setup) (before after : ℕ) (was : before ≡ length s.output)
    (is : after ≡ length (exec s setup).output) where
  pub said-nothing : after ≡ before → (exec s setup).output ≡ s.output
  said-nothing none = kept s.output (exec s setup).output _ _ (law setup s) (sym is ∙ none ∙ was)

  pub said-piece : (after ≡ before → ⊥) → (reads : Option Span) → reads ≡ (touched_of s setup).reads
      → (bytes : ℕ → ℕ) → bytes ≡ (exec s setup).bytes → (exec s setup).output ≡ s.output ++ bytes_over bytes reads
  said-piece more reads same bytes now =
      let said = grown s.output (exec s setup).output _ _ (law setup s) (λ e. more (is ∙ e ∙ sym was)) in
      said.0 ∙ ap (λ xs. s.output ++ xs) (λ i. bytes_over (sym (now ∙ said.1) i) (sym same i))

-- marks write nothing out
fold-output : (marks : List Alteration) (s : State) → (fold altered s marks).output ≡ s.output
unfolding altered
fold-output [] s = refl
fold-output (m ∷ ms) s = fold-output ms (altered s m)

pub marks-output : (k : ℕ) (marks : List Alteration) (s : State) → (after_marks k marks s).output ≡ s.output
unfolding after_marks
marks-output k marks s = fold-output (marks_at k marks) s

pub post-output : (start : State) (setup : Setup) (marks : List Alteration) (k : ℕ)
    → (post start setup marks k).output ≡ (pre start setup marks k).output
unfolding post
post-output start setup marks k = marks-output k marks (pre start setup marks k)

-- a step only adds to what was written
adds : (xs ys piece : List ℕ) (Same : Type 0) → (ys ≡ xs) ⊎ ((ys ≡ xs ++ piece) × Same)
    → (more : List ℕ) × (ys ≡ xs ++ more)
adds xs ys piece Same (inl same) = ([], same ∙ sym (append-nil xs))
adds xs ys piece Same (inr said) = (piece, said.0)

module _ (law : WritesWhatItReads) (start : State) (setup : Setup) (marks : List Alteration) where
  one-step : (k : ℕ) → (more : List ℕ)
      × ((pre start setup marks (k + 1)).output ≡ (pre start setup marks k).output ++ more)
  one-step k =
      let s = after_marks k marks (pre start setup marks k) in
      let step = adds s.output (exec s setup).output _ _ (law setup s) in (
        step.0,
        ap (λ t. t.output) (pre-more start setup marks k) ∙ step.1
            ∙ ap (λ xs. xs ++ step.0) (marks-output k marks (pre start setup marks k)),
      )

  grows : (k d : ℕ) → (more : List ℕ)
      × ((pre start setup marks (k + d)).output ≡ (pre start setup marks k).output ++ more)
  grows k zero = (
    [],
    ap (λ n. (pre start setup marks n).output) (add-zero k)
        ∙ sym (append-nil (pre start setup marks k).output),
  )
  grows k (suc d) =
      let before = grows k d in
      let step = one-step (k + d) in
      let next : k + suc d ≡ k + d + 1 = omega arith in (
        before.0 ++ step.0,
        ap (λ n. (pre start setup marks n).output) next ∙ step.1 ∙ ap (λ xs. xs ++ step.0) before.1
            ∙ append_assoc (pre start setup marks k).output before.0 step.0,
      )

  -- at a step at which all of a part is written that is written at a later step
  pub part-later : (range : Span) (k to : ℕ) → k ≤ to
      → min (range.start + range.len) (length (pre start setup marks to).output)
      ≤ length (pre start setup marks k).output
      → part range (pre start setup marks k).output ≡ part range (pre start setup marks to).output
  part-later range k to l full =
      let more = grows k (to - k) in
      let end : k + (to - k) ≡ to = omega arith in
      part-last range (pre start setup marks k).output (pre start setup marks to).output more.0
      (ap (λ n. (pre start setup marks n).output) (sym end) ∙ more.1) full

-- nothing is written at the start
pub none-at-start : (start : State) (setup : Setup) (marks : List Alteration) (k n : ℕ) → k ≡ 0 → start.output ≡ []
    → length (pre start setup marks k).output ≤ n
unfolding pre
none-at-start start setup marks k n first empty =
    let none : length (pre start setup marks k).output ≡ 0 =
    ap (λ j. length (pre start setup marks j).output) first ∙ ap length empty in
    omega arith
