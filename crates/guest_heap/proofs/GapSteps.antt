-- The index of gaps, as blocks come and go and searches pass.
use Rattle.std.proofs.Common.{◌≡◌, ℕ, ◌+◌, ◌%◌, ◌<◌, ◌≤◌, ◌⊎◌, inl, inr, max, min, nat_lt, Bool, List, [], true, false}
use Rattle.std.proofs.Common.{cond, zero, suc, replicate, set, ◌||◌, Some, map, slice_get, refl, ap, sym, subst, arith}
use Rattle.std.specs.List.{AllZip}
use Rattle.std.specs.Prelude.{vec_len}
use Rattle.std.specs.declared.alloc.Global.{Global}
use Rattle.std.specs.declared.vec.Vec.{Vec}
use Rattle.std.proofs.lemmas.Bool.{cases_lt}
use Rattle.std.proofs.lemmas.Bool.Decides.{nat_tests}
use Rattle.std.proofs.lemmas.List.Elements.{same_from_all_zip}
use Rattle.guest_heap.specs.Blocks.{Blocks, IsPlace}
use Rattle.guest_heap.specs.States.{AreNoPlaces}
use Rattle.guest_heap.specs.Gaps.{IsFull, AreFullIn, IsGapRow, AreGaps, AreUnknown, SaysNothing, IsPut, IsRaised, Opens}
use Rattle.guest_heap.specs.Gaps.{lies_apart, raised, raised_row}
use Rattle.guest_heap.specs.declared.bounds.Opened.{Opened}
use Rattle.guest_heap.specs.declared.gaps.ranges.Full.{Full}
use Rattle.guest_heap.specs.declared.gaps.row.GapRow.{GapRow}
use Rattle.guest_heap.proofs.Each.{each_mapped, each_set}
use Rattle.guest_heap.proofs.KeptSteps.{some-same}
use Rattle.guest_heap.proofs.NoPlaces.{skipped_too}

-- a part is noted
pub noted_in : (blocks : Blocks) (redzone : ℕ) (whole range : Full) (old new : List Full) → IsPut range old new
    → IsFull blocks redzone range → AreFullIn blocks redzone whole old → AreFullIn blocks redzone whole new
noted_in blocks redzone whole range old new put full hold i f there =
    elim (put i f there) [
      | inl same ↦ (λ q over less. (let P : Full → Type 0 = IsFull blocks redzone in
          subst P (sym same) full q (omega (arith, over)) (omega (arith, less))))
      | inr (inl none) ↦ (λ q over less. absurd (omega (arith, none, less)))
      | inr (inr (j, before)) ↦ hold j f before
    ]

-- nothing is known
pub unknown_gaps : (blocks : Blocks) (redzone : ℕ) (rows : List GapRow) → AreUnknown rows → AreGaps blocks redzone rows
unknown_gaps blocks redzone rows unknown i row there =
    let (size, parts) = unknown i row there in
    record {
      whole = λ q over less place. (let small = place.small in omega (arith, size, small));
      parts =
          (let P : List Full → Type 0 = AreFullIn blocks redzone row.whole in
          subst P (sym parts) (λ i f h. cc));
    }

pub no_gaps : (blocks : Blocks) (redzone : ℕ) (rows : List GapRow) → rows ≡ [] → AreGaps blocks redzone rows
no_gaps blocks redzone rows none = subst (AreGaps blocks redzone) (sym none) (λ i row h. cc)

-- ranges of other blocks that have no more places
pub kept_gaps : (old new : Blocks) (redzone : ℕ) (rows : List GapRow)
    → ((size from to : ℕ) → AreNoPlaces old size redzone from to → AreNoPlaces new size redzone from to)
    → AreGaps old redzone rows → AreGaps new redzone rows
kept_gaps old new redzone rows keeps hold i row there =
    let h = hold i row there in
    record {
      whole = keeps _ _ _ h.whole;
      parts = λ j f at. keeps _ _ _ (h.parts j f at);
    }

-- a range became free --

module _ (old new : Blocks) (o : Opened) (redzone : ℕ) (opens : Opens o redzone old new) where
  -- a range that lies apart stays as it is
  apart_none : (f : Full) (from to : ℕ) → (o.end ≤ from) ⊎ (to ≤ o.first) → AreNoPlaces old f.size redzone from to
      → AreNoPlaces new f.size redzone from to
  apart_none f from to apart none q over less place =
      let comes = opens f.size q place (none q over less) in
      elim apart [
        | inl above ↦ omega (arith, above, over, comes.1)
        | inr below ↦ omega (arith, below, less, comes.0)
      ]

  -- a range is full for the size that it has then
  raised_none : (f : Full) (from to : ℕ) → f.from ≤ from → to ≤ f.until → AreNoPlaces old f.size redzone from to
      → AreNoPlaces new (raised o f).size redzone from to
  raised_none f from to low high none q over less place =
      go (lies_apart o f) (nat_lt o.room (max f.size 1)) refl refl place
    where
      go : (s t : Bool) → lies_apart o f ≡ s → nat_lt o.room (max f.size 1) ≡ t
          → IsPlace new (cond (s || t) f.size (min o.room 16777216 + 1)) redzone q → ⊥
      go true t away is place =
          let apart : (o.end ≤ f.from) ⊎ (f.until ≤ o.first) = grind (arith, nat_tests) in
          apart_none f from to
          (elim apart [ inl a ↦ inl (omega (arith, a, low)) | inr b ↦ inr (omega (arith, b, high)) ]) none q over less
          place
      go false true away is place =
          let small : o.room < max f.size 1 = grind (arith, nat_tests) in
          let fits = (opens f.size q place (none q over less)).2 in
          omega (arith, small, fits)
      go false false away is place =
          let fits : max f.size 1 ≤ o.room = grind (arith, nat_tests) in
          let size : ℕ = min o.room 16777216 + 1 in
          let gone : ¬ (IsPlace old size redzone q) = skipped_too old size f.size redzone from to none (omega (
            arith,
            fits,
            place.small,
          )) q over less in
          omega (arith, (opens size q place gone).2, place.small)

  row_raised : (row : GapRow) → IsGapRow old redzone row → IsGapRow new redzone (raised_row o row)
  row_raised row h =
      go (lies_apart o row.whole) refl
    where
      go : (t : Bool) → lies_apart o row.whole ≡ t
          → IsGapRow new redzone (cond t row (record { whole = raised o row.whole; parts = map (raised o) row.parts }))
      go true is =
          let apart : (o.end ≤ row.whole.from) ⊎ (row.whole.until ≤ o.first) = grind (arith, nat_tests) in
          record {
            whole = apart_none row.whole row.whole.from row.whole.until apart h.whole;
            parts =
                λ i f there. apart_none f (max row.whole.from f.from) (min row.whole.until f.until)
                (elim apart [ inl a ↦ inl (omega (arith, a)) | inr b ↦ inr (omega (arith, b)) ])
                (h.parts i f there);
          }
      go false is = record {
        whole = raised_none row.whole row.whole.from row.whole.until (omega arith) (omega arith) h.whole;
        parts = each_mapped
            (λ f. AreNoPlaces old f.size redzone (max row.whole.from f.from) (min row.whole.until f.until))
            (λ f. AreNoPlaces new f.size redzone (max row.whole.from f.from) (min row.whole.until f.until))
            (raised o) (λ f none. raised_none f _ _ (omega arith) (omega arith) none) row.parts h.parts;
      }

  pub raised_gaps : (rows raised : List GapRow) → IsRaised o rows raised → AreGaps old redzone rows
      → AreGaps new redzone raised
  raised_gaps rows raised (inl is) hold =
      subst (AreGaps new redzone) (sym is)
      (each_mapped (IsGapRow old redzone) (IsGapRow new redzone) (raised_row o) row_raised rows hold)
  raised_gaps rows raised (inr none) hold = no_gaps new redzone raised none

-- a search passes over a full range --

pub passed_full : (blocks : Blocks) (size redzone at next : ℕ) (f : Full) (from until : ℕ)
    → AreNoPlaces blocks f.size redzone from until → f.size ≤ max size 1 → from ≤ at → next % 16 ≡ 0
    → next < until + 16 → AreNoPlaces blocks size redzone at next
passed_full blocks size redzone at next f from until none less_size over even near q above less place =
    elim (cases_lt q until) [
      | inl l ↦
          skipped_too blocks size f.size redzone from until none (omega (arith, less_size)) q
          (omega (arith, over, above)) l place
      | inr g ↦ (let multiple = place.multiple in omega (arith, multiple, even, near, g, less))
    ]

pub passed_part : (blocks : Blocks) (size redzone at next until : ℕ) (row : GapRow) (range : Full)
    → IsGapRow blocks redzone row → (SaysNothing range) ⊎ ((i : ℕ) × (slice_get row.parts i ≡ Some range))
    → until ≡ min range.until row.whole.until → range.size ≤ max size 1 → range.from ≤ at → row.whole.from ≤ at
    → at < until → next % 16 ≡ 0 → next < until + 16 → AreNoPlaces blocks size redzone at next
passed_part blocks size redzone at next until row range hold (inl none) is less_size from over under even near =
    absurd (omega (arith, none, is, under))
passed_part blocks size redzone at next until row range hold (inr (i, there)) is less_size from over under even near =
    passed_full blocks size redzone at next range (max row.whole.from range.from) (min row.whole.until range.until)
    (hold.parts i range there) less_size (omega (arith, from, over)) even (omega (arith, is, near))

-- the rows themselves, or a clone of them
pub own_rows : (rows own : Vec GapRow Global)
    → (own ≡ rows) ⊎ (AllZip (λ row copy. copy ≡ row) rows.items own.items × (vec_len own ≡ vec_len rows))
    → own.items ≡ rows.items
own_rows rows own (inl kept) = ap (λ v. v.items) kept
own_rows rows own (inr copied) =
    same_from_all_zip (λ row copy. copy ≡ row) rows.items own.items copied.0 (λ row copy h. h)

abbrev pub unknown : Full
unknown = record { size = 0; from = 0; until = 0 }

-- one part is known of a row
pub put_in_unknown : (n part : ℕ) (range : Full) → IsPut range [] (set (replicate n unknown) part range)
put_in_unknown n part range i f there =
    let P : Full → Type 0 = λ f. (f ≡ range) ⊎ (SaysNothing f) in
    elim (each_set P (replicate n unknown) part range (nothing n) (inl refl) i f there)
    [ inl same ↦ inl same | inr none ↦ inr (inl none) ]
  where
    nothing : (n i : ℕ) (f : Full) → slice_get (replicate n unknown) i ≡ Some f → (f ≡ range) ⊎ (SaysNothing f)
    nothing zero i f h = cc
    nothing (suc n) zero f h = inr (ap (λ f. f.until) (sym (some-same h)))
    nothing (suc n) (suc i) f h = nothing n i f h
