-- What is at the places of a trail, as machines are added, kept and changed.
use Rattle.std.proofs.Common.{◌≡◌, ℕ, zero, suc, ◌+◌, ◌-◌, ◌<◌, ◌≤◌, List, [], ◌∷◌, ◌++◌, refl, ap, sym, ◌∙◌, arith}
use Rattle.std.proofs.Common.{inl, inr, min, take, length, get_or, rules, subst, vec_len}
use Rattle.std.proofs.Math.ListN.{set}
use Rattle.std.proofs.Math.Seq.{take-append-add}
use Rattle.std.proofs.lemmas.Bool.{cases_lt}
use Rattle.std.proofs.lemmas.List.{append-nil, get_or-append_right, get_or_append_left, get_or-replicate}
use Rattle.std.proofs.lemmas.List.{get_or-set_other, get_or-set_same, length-append, length-replicate, length-set}
use Rattle.std.proofs.lemmas.List.{take-append-le, take-replicate}
use Rattle.guest_machine.specs.State.{State}
use Rattle.guest_machine.specs.Shows.{Shows}
use Rattle.guest_machine.specs.declared.machine.Machine.{Machine}
use Rattle.checkpoints.specs.Places.{places_of, own_places, AreCopies, last_repeated}
use Rattle.checkpoints.specs.declared.held.Held.{Held}

-- the machines at the places of some that have their own and of some more
abbrev pub placed : List Machine → ℕ → List Machine
placed ms n = ms ++ last_repeated ms n

repeated-length : (ms : List Machine) (n : ℕ) → 0 < length ms → length (last_repeated ms n) ≡ n
repeated-length [] n some = absurd (omega arith)
repeated-length (m ∷ []) n some = length-replicate n m
repeated-length (m ∷ x ∷ rest) n some = repeated-length (x ∷ rest) n (omega arith)

repeated-at : (ms : List Machine) (n i : ℕ) (d : Machine) → 0 < length ms → i < n
    → get_or (last_repeated ms n) i d ≡ get_or ms (length ms - 1) d
repeated-at [] n i d some low = absurd (omega arith)
repeated-at (m ∷ []) n i d some low = get_or-replicate n i m d low
repeated-at (m ∷ x ∷ rest) n i d some low =
    let back : suc (length (x ∷ rest) - 1) ≡ length (m ∷ x ∷ rest) - 1 = omega arith in
    repeated-at (x ∷ rest) n i d (omega arith) low ∙ ap (λ k. get_or (m ∷ x ∷ rest) k d) back

repeated-none : (ms : List Machine) → last_repeated ms 0 ≡ []
repeated-none [] = refl
repeated-none (m ∷ []) = refl
repeated-none (m ∷ x ∷ rest) = repeated-none (x ∷ rest)

repeated-fewer : (ms : List Machine) (k n : ℕ) → k ≤ n → take k (last_repeated ms n) ≡ last_repeated ms k
repeated-fewer [] zero n few = refl
repeated-fewer [] (suc k) n few = refl
repeated-fewer (m ∷ []) k n few = take-replicate k n m few
repeated-fewer (m ∷ x ∷ rest) k n few = repeated-fewer (x ∷ rest) k n few

pub placed-length : (ms : List Machine) (n : ℕ) → 0 < length ms → length (placed ms n) ≡ length ms + n
placed-length ms n some = length-append ms (last_repeated ms n) ∙ ap (λ k. length ms + k) (repeated-length ms n some)

pub placed-none : (ms : List Machine) → placed ms 0 ≡ ms
placed-none ms = ap (λ xs. ms ++ xs) (repeated-none ms) ∙ append-nil ms

-- the one at a place: its own, or the last one
pub placed-own : (ms : List Machine) (n i : ℕ) (d : Machine) → i < length ms → get_or (placed ms n) i d ≡ get_or ms i d
placed-own ms n i d low = get_or_append_left ms (last_repeated ms n) d i low

pub placed-last : (ms : List Machine) (n i : ℕ) (d : Machine) → 0 < length ms → length ms - 1 ≤ i → i < length ms + n
    → get_or (placed ms n) i d ≡ get_or ms (length ms - 1) d
placed-last ms n i d some up low = elim (cases_lt i (length ms)) [
  | inl own ↦ placed-own ms n i d own ∙ ap (λ k. get_or ms k d) (omega arith)
  | inr more ↦
      get_or-append_right ms (last_repeated ms n) (length ms) i d refl (omega arith)
      ∙ repeated-at ms n (i - length ms) d some (omega arith)
]

pub placed-at : (ms : List Machine) (n i : ℕ) (d : Machine) → 0 < length ms → i < length ms + n
    → get_or (placed ms n) i d ≡ get_or ms (min i (length ms - 1)) d
placed-at ms n i d some low = elim (cases_lt i (length ms)) [
  | inl own ↦ placed-own ms n i d own ∙ ap (λ k. get_or ms k d) (omega arith)
  | inr more ↦ placed-last ms n i d some (omega arith) low ∙ ap (λ k. get_or ms k d) (omega arith)
]

-- how many have their own, and that there is a place
pub machine-count : (held : Held) → vec_len held.machines ≡ length held.machines.items
machine-count held = search rules

pub some-machines : (held : Held) → 0 < length held.machines.items
some-machines held =
    omega (arith, machine-count held, held.begun)

pub some-places : (held : Held) → 0 < length (places_of held)
unfolding places_of
some-places held =
    omega (arith, some-machines held, placed-length held.machines.items held.more (some-machines held))

-- after place 0 there are others only if another machine comes
pub own-first : (held : Held) (i : ℕ) → 0 < i → i < length (places_of held) → 0 < min i (own_places held - 1)
unfolding places_of own_places
own-first held i some low = elim (cases_lt 0 held.more) [
  | inl more ↦ omega (arith, held.apart more, machine-count held)
  | inr none ↦ omega (arith, low, none, placed-length held.machines.items held.more (some-machines held))
]

-- the one at a place is that of the last place with one of its own, if it has none
pub at-own : (held : Held) (i : ℕ) (d : Machine) → i < length (places_of held)
    → get_or (places_of held) i d ≡ get_or (places_of held) (min i (own_places held - 1)) d
unfolding places_of own_places
at-own held i d low =
    let ms = held.machines.items in
    let some = some-machines held in
    let own = min i (length ms - 1) in
    placed-at ms held.more i d some (omega (arith, low, placed-length ms held.more some))
    ∙ sym (placed-own ms held.more own d (omega (arith, some)))

-- fewer places
pub placed-kept : (ms : List Machine) (kept n : ℕ) → length ms ≤ kept → kept ≤ length ms + n
    → take kept (placed ms n) ≡ placed ms (kept - length ms)
placed-kept ms kept n more few =
    let at : length ms + (kept - length ms) ≡ kept = omega arith in
    ap (λ k. take k (placed ms n)) (sym at) ∙ take-append-add ms (last_repeated ms n) (kept - length ms)
    ∙ ap (λ xs. ms ++ xs) (repeated-fewer ms (kept - length ms) n (omega arith))

pub placed-cut : (ms : List Machine) (kept n : ℕ) → kept ≤ length ms
    → take kept (placed ms n) ≡ placed (take kept ms) 0
placed-cut ms kept n few = take-append-le kept ms (last_repeated ms n) few ∙ sym (placed-none (take kept ms))

-- another machine at place 0
pub placed-first : (ms : List Machine) (n : ℕ) (m : Machine) → (0 < n → 1 < length ms) → 0 < length ms
    → placed (set ms 0 m) n ≡ set (placed ms n) 0 m
placed-first [] n m apart some = absurd (omega arith)
placed-first (x ∷ []) zero m apart some = refl
placed-first (x ∷ []) (suc n) m apart some = absurd (let l : 1 < length (x ∷ []) = apart (omega arith) in omega arith)
placed-first (x ∷ y ∷ rest) n m apart some = refl

-- copies
pub same-copies : (ms : List Machine) → AreCopies ms ms
same-copies ms = record { count = refl; copies = λ i d s low h. h }

pub copies-on : (xs ys zs : List Machine) → AreCopies xs ys → AreCopies ys zs → AreCopies xs zs
copies-on xs ys zs one two = record {
  count = two.count ∙ one.count;
  copies = λ i d s low h.
      let here : i < length ys = omega (arith, one.count) in
      two.copies i d s here (one.copies i d s low h);
}

-- a copy of the last one gets the place after it
pub parted : (ms : List Machine) (copy : Machine) (n : ℕ) → 0 < length ms
    → ((d : Machine) (s : State) → Shows (get_or ms (length ms - 1) d) s → Shows copy s)
    → AreCopies (placed ms (n + 1)) (placed (ms ++ copy ∷ []) n)
parted ms copy n some is =
    let all = ms ++ copy ∷ [] in
    let size : length all ≡ length ms + 1 = length-append ms (copy ∷ []) in
    let same : length all + n ≡ length ms + (n + 1) = omega (arith, size) in
    record {
      count = placed-length all n (omega (arith, size)) ∙ same
          ∙ sym (placed-length ms (n + 1) some);
      copies = λ i d s low h.
          let within : i < length ms + (n + 1) = omega (arith, low, placed-length ms (n + 1) some) in
          elim (cases_lt i (length ms)) [
            | inl own ↦ (
                let old = placed-own ms (n + 1) i d own in
                let new = placed-own all n i d (omega (arith, size)) ∙ get_or_append_left ms (copy ∷ []) d i own in
                subst (λ (m : Machine). Shows m s) (old ∙ sym new) h
                )
            | inr more ↦ (
                let old = placed-last ms (n + 1) i d some (omega arith) within in
                let last : length all - 1 ≡ length ms = omega (arith, size) in
                let none : length ms - length ms ≡ 0 = omega arith in
                let new = placed-last all n i d (omega (arith, size)) (omega (arith, size))
                (omega (arith, size, within))
                ∙ ap (λ k. get_or all k d) last
                ∙ get_or-append_right ms (copy ∷ []) (length ms) (length ms) d refl (omega arith)
                ∙ ap (λ k. get_or (copy ∷ []) k d) none in
                subst (λ (m : Machine). Shows m s) (sym new) (is d s (subst (λ (m : Machine). Shows m s) old h))
                )
          ];
    }

-- another machine at a place of one's own
pub put-there : (ms : List Machine) (n place i : ℕ) (m d : Machine) → place < length ms → i < length ms + n
    → min i (length ms - 1) ≡ place → get_or (placed (set ms place m) n) i d ≡ m
put-there ms n place i m d own low here =
    let size : length (set ms place m) ≡ length ms = length-set ms place m in
    let last : min i (length (set ms place m) - 1) ≡ place = ap (λ k. min i (k - 1)) size ∙ here in
    placed-at (set ms place m) n i d (omega (arith, size)) (omega (arith, size))
    ∙ ap (λ k. get_or (set ms place m) k d) last ∙ get_or-set_same ms place m d own

pub put-others : (ms : List Machine) (n place i : ℕ) (m d : Machine) → place < length ms → i < length ms + n
    → (min i (length ms - 1) ≡ place → ⊥) → get_or (placed (set ms place m) n) i d ≡ get_or (placed ms n) i d
put-others ms n place i m d own low other =
    let size : length (set ms place m) ≡ length ms = length-set ms place m in
    let last : min i (length (set ms place m) - 1) ≡ min i (length ms - 1) = ap (λ k. min i (k - 1)) size in
    placed-at (set ms place m) n i d (omega (arith, size)) (omega (arith, size))
    ∙ ap (λ k. get_or (set ms place m) k d) last
    ∙ get_or-set_other ms place (min i (length ms - 1)) m d other
    ∙ sym (placed-at ms n i d (omega arith) low)
