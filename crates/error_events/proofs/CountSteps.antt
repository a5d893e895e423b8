-- Counts in chunks: the one at a place, one that is raised, and another chunk.
use Rattle.std.proofs.Common.{◌≡◌, ℕ, zero, suc, ◌+◌, ◌*◌, ◌^◌, ◌<◌, ◌≤◌, length, List, [], ◌∷◌, ◌++◌, Some, slice_get}
use Rattle.std.proofs.Common.{slice_set, refl, ap, ap₂, sym, ◌∙◌, arith}
use Rattle.std.proofs.Common.{append_assoc, append-nil, length-append}
use Rattle.std.specs.Prelude.{Result, Ok, Err, OnOk, OnErr, get_or}
use Rattle.std.specs.List.{AllZip}
use Rattle.std.proofs.lemmas.Option.{none-some, slice_get-get_or}
use Rattle.error_events.specs.Counts.{raised_at, in_chunks, AreFull, Chunk}
use Rattle.error_events.specs.CountLists.{counts_of}
use Rattle.error_events.specs.declared.counts.Counts.{Counts}
use Rattle.error_events.proofs.Places.{get-before, get-behind}

full-first : (c : Chunk) (cs : List Chunk) → AreFull (c ∷ cs) → length c.value.items ≡ 256
full-first c cs h = cc

full-rest : (c : Chunk) (cs : List Chunk) → AreFull (c ∷ cs) → AreFull cs
full-rest c cs h = cc

full-both : (c : Chunk) (cs : List Chunk) → length c.value.items ≡ 256 → AreFull cs → AreFull (c ∷ cs)
full-both c cs e h = ap₂ (λ n ns. n ∷ ns) e h

pub full-append : (cs : List Chunk) (c : Chunk) → AreFull cs → length c.value.items ≡ 256 → AreFull (cs ++ c ∷ [])
full-append [] c h e = full-both c [] e refl
full-append (x ∷ xs) c h e = full-both x (xs ++ c ∷ []) (full-first x xs h) (full-append xs c (full-rest x xs h) e)

pub full-set : (cs : List Chunk) (k : ℕ) (c : Chunk) → AreFull cs → length c.value.items ≡ 256
    → AreFull (slice_set cs k c)
full-set [] k c h e = refl
full-set (x ∷ xs) zero c h e = full-both c xs e (full-rest x xs h)
full-set (x ∷ xs) (suc k) c h e =
    full-both x (slice_set xs k c) (full-first x xs h) (full-set xs k c (full-rest x xs h) e)

full-there : (cs : List Chunk) (k : ℕ) (c : Chunk) → AreFull cs → slice_get cs k ≡ Some c → length c.value.items ≡ 256
full-there [] k c h s = absurd (none-some c s)
full-there (x ∷ xs) zero c h s =
    let same : x ≡ c = cc in ap (λ (y : Chunk). length y.value.items) (sym same) ∙ full-first x xs h
full-there (x ∷ xs) (suc k) c h s = full-there xs k c (full-rest x xs h) s

-- the number of counts
pub length-chunks : (cs : List Chunk) → AreFull cs → length (in_chunks cs) ≡ 256 * length cs
unfolding in_chunks
length-chunks [] h = refl
length-chunks (c ∷ cs) h =
    let e = length-append c.value.items (in_chunks cs) in let f = length-chunks cs (full-rest c cs h) in
    let g = full-first c cs h in omega (arith, e, f, g)

pub length-counts : (counts : Counts) → length (counts_of counts) ≡ 256 * length counts.chunks.items
    + length counts.recent.items
unfolding counts_of
length-counts counts =
    let e = length-append (in_chunks counts.chunks.items) counts.recent.items in
    let f = length-chunks counts.chunks.items counts.full in omega (arith, e, f)

-- another chunk
pub chunks-append : (cs : List Chunk) (c : Chunk) → in_chunks (cs ++ c ∷ []) ≡ in_chunks cs ++ c.value.items
unfolding in_chunks
chunks-append [] c = append-nil c.value.items
chunks-append (x ∷ xs) c =
    ap (λ l. x.value.items ++ l) (chunks-append xs c) ∙ sym (append_assoc x.value.items (in_chunks xs) c.value.items)

-- a place in one of two lists, raised
raised-before : (xs ys : List ℕ) (i by : ℕ) → i < length xs → raised_at (xs ++ ys) i by ≡ raised_at xs i by ++ ys
raised-before [] ys i by h = absurd (omega arith)
raised-before (x ∷ xs) ys zero by h = refl
raised-before (x ∷ xs) ys (suc i) by h =
    let less : i < length xs = omega arith in ap (λ l. x ∷ l) (raised-before xs ys i by less)

raised-behind : (xs ys : List ℕ) (i j by : ℕ) → j ≡ length xs + i → raised_at (xs ++ ys) j by ≡ xs ++ raised_at ys i by
raised-behind [] ys i j by e = let same : j ≡ i = omega arith in ap (λ n. raised_at ys n by) same
raised-behind (x ∷ xs) ys i zero by e = absurd (omega arith)
raised-behind (x ∷ xs) ys i (suc j) by e =
    let less : j ≡ length xs + i = omega arith in ap (λ l. x ∷ l) (raised-behind xs ys i j by less)

-- the counts before and after a chunk, which stay when it changes
record Around (cs : List Chunk) (last : List ℕ) (k : ℕ) (c : Chunk) : Type 0 where
  front : List ℕ
  back : List ℕ
  long : length front ≡ 256 * k
  was : in_chunks cs ++ last ≡ front ++ (c.value.items ++ back)
  becomes : (new : Chunk) → in_chunks (slice_set cs k new) ++ last ≡ front ++ (new.value.items ++ back)

around : (cs : List Chunk) (last : List ℕ) (k : ℕ) (c : Chunk) → AreFull cs → slice_get cs k ≡ Some c
    → Around cs last k c
unfolding in_chunks
around [] last k c h s = absurd (none-some c s)
around (x ∷ xs) last zero c h s =
    let same : x ≡ c = cc in
    record {
      front = [];
      back = in_chunks xs ++ last;
      long = refl;
      was =
          append_assoc x.value.items (in_chunks xs) last
          ∙ ap (λ (y : Chunk). y.value.items ++ (in_chunks xs ++ last)) same;
      becomes = λ new. append_assoc new.value.items (in_chunks xs) last;
    }
around (x ∷ xs) last (suc k) c h s =
    let rest = around xs last k c (full-rest x xs h) s in
    let first = full-first x xs h in
    let sum = length-append x.value.items rest.front in
    let more = rest.long in
    record {
      front = x.value.items ++ rest.front;
      back = rest.back;
      long = omega (arith, first, sum, more);
      was =
          append_assoc x.value.items (in_chunks xs) last ∙ ap (λ l. x.value.items ++ l) rest.was
          ∙ sym (append_assoc x.value.items rest.front (c.value.items ++ rest.back));
      becomes =
          λ new. append_assoc x.value.items (in_chunks (slice_set xs k new)) last
          ∙ ap (λ l. x.value.items ++ l) (rest.becomes new)
          ∙ sym (append_assoc x.value.items rest.front (new.value.items ++ rest.back));
    }

module _ (counts : Counts) (k : ℕ) (c d : Chunk) (within : k < length counts.chunks.items)
    (is : c ≡ get_or counts.chunks.items k d) where
  there : slice_get counts.chunks.items k ≡ Some c
  there = slice_get-get_or counts.chunks.items k d within ∙ ap Some (sym is)

  pub long-chunk : length c.value.items ≡ 256
  long-chunk = full-there counts.chunks.items k c counts.full there

  pub get-in-chunk : (i j : ℕ) → i < 256 → j ≡ 256 * k + i → slice_get (counts_of counts) j ≡ slice_get c.value.items i
  unfolding counts_of
  get-in-chunk i j small at =
      let sides = around counts.chunks.items counts.recent.items k c counts.full there in
      let long = sides.long in
      let chunk = long-chunk in
      ap (λ l. slice_get l j) sides.was ∙ get-behind sides.front (c.value.items ++ sides.back) i j (omega (arith, long))
      ∙ get-before c.value.items sides.back i (omega (arith, chunk))

  raised-there : (i j by : ℕ) (new : Chunk) → i < 256 → j ≡ 256 * k + i → new.value.items ≡ raised_at c.value.items i by
      → in_chunks (slice_set counts.chunks.items k new) ++ counts.recent.items ≡ raised_at (counts_of counts) j by
  unfolding counts_of
  raised-there i j by new small at made =
      let sides = around counts.chunks.items counts.recent.items k c counts.full there in
      let long = sides.long in
      let chunk = long-chunk in
      sides.becomes new ∙ ap (λ l. sides.front ++ (l ++ sides.back)) made
      ∙ ap (λ l. sides.front ++ l) (sym (raised-before c.value.items sides.back i by (omega (arith, chunk))))
      ∙ sym (raised-behind sides.front (c.value.items ++ sides.back) i j by (omega (arith, long)))
      ∙ ap (λ l. raised_at l j by) (sym sides.was)

  kept-there : (new : Chunk) → new.value.items ≡ c.value.items
      → in_chunks (slice_set counts.chunks.items k new) ++ counts.recent.items ≡ counts_of counts
  unfolding counts_of
  kept-there new same =
      let sides = around counts.chunks.items counts.recent.items k c counts.full there in
      sides.becomes new ∙ ap (λ l. sides.front ++ (l ++ sides.back)) same ∙ sym sides.was

  pub raised-ok : {A B : Type 0} (r : Result A B) (i j by : ℕ) (new : Chunk) → i < 256 → j ≡ 256 * k + i
      → OnOk r (new.value.items ≡ raised_at c.value.items i by)
      → OnOk r (in_chunks (slice_set counts.chunks.items k new) ++ counts.recent.items
      ≡ raised_at (counts_of counts) j by)
  raised-ok (Ok x) i j by new small at h = raised-there i j by new small at h
  raised-ok (Err x) i j by new small at h = tt

  pub raised-err : {A B : Type 0} (r : Result A B) (new : Chunk) → OnErr r (new.value.items ≡ c.value.items)
      → OnErr r (in_chunks (slice_set counts.chunks.items k new) ++ counts.recent.items ≡ counts_of counts)
  raised-err (Ok x) new h = tt
  raised-err (Err x) new h = kept-there new h

-- a place after the chunks
pub get-recent : (counts : Counts) (i j : ℕ) → j ≡ 256 * length counts.chunks.items + i
    → slice_get (counts_of counts) j ≡ slice_get counts.recent.items i
unfolding counts_of
get-recent counts i j at =
    let n = length-chunks counts.chunks.items counts.full in
    get-behind (in_chunks counts.chunks.items) counts.recent.items i j (omega (arith, n))

pub raised-recent : (counts : Counts) (i j by : ℕ) → j ≡ 256 * length counts.chunks.items + i
    → in_chunks counts.chunks.items ++ raised_at counts.recent.items i by ≡ raised_at (counts_of counts) j by
unfolding counts_of
raised-recent counts i j by at =
    let n = length-chunks counts.chunks.items counts.full in
    sym (raised-behind (in_chunks counts.chunks.items) counts.recent.items i j by (omega (arith, n)))

-- copies of chunks
pub same-chunks : (xs ys : List Chunk) → AllZip (λ p q. q.value ≡ p.value) xs ys → in_chunks ys ≡ in_chunks xs
unfolding in_chunks
same-chunks [] [] h = refl
same-chunks [] (y ∷ ys) h = absurd h
same-chunks (x ∷ xs) [] h = absurd h
same-chunks (x ∷ xs) (y ∷ ys) h = ap₂ (λ l m. l.items ++ m) h.0 (same-chunks xs ys h.1)

pub same-full : (xs ys : List Chunk) → AllZip (λ p q. q.value ≡ p.value) xs ys → AreFull xs → AreFull ys
same-full [] [] h f = refl
same-full [] (y ∷ ys) h f = absurd h
same-full (x ∷ xs) [] h f = absurd h
same-full (x ∷ xs) (y ∷ ys) h f =
    full-both y ys (ap (λ v. length v.items) h.0 ∙ full-first x xs f) (same-full xs ys h.1 (full-rest x xs f))

pub same-few : (R : Chunk → Chunk → Type 0) (n : ℕ) (xs ys : List Chunk) → AllZip R xs ys → length xs ≤ n
    → length ys ≤ n
same-few R n [] [] h f = f
same-few R n [] (y ∷ ys) h f = absurd h
same-few R n (x ∷ xs) [] h f = absurd h
same-few R zero (x ∷ xs) (y ∷ ys) h f = absurd (omega arith)
same-few R (suc n) (x ∷ xs) (y ∷ ys) h f = let rest = same-few R n xs ys h.1 (omega arith) in omega (arith, rest)

-- the counts fit a number of 64 bits
pub counts-fit : (counts : Counts) → length (counts_of counts) < 2 ^ 64
counts-fit counts =
    let e = length-counts counts in let f = counts.few in let g = counts.recent.small in let h = counts.recent.ok in
    omega (arith, e, f, g, h)
