-- A call that is counted.
use Rattle.std.proofs.Common.{◌≡◌, ◌∙◌, ℕ, zero, suc, ◌+◌, ◌-◌, ◌<◌, ◌≤◌, ◌==◌, Bool, true, false, cond, List, [], ◌∷◌}
use Rattle.std.proofs.Common.{◌++◌, ◌^◌, ◌&&◌, nat_le, length, drop, set, get_or, refl, ap, sym, arith}
use Rattle.std.proofs.lemmas.List.{drop_all, drop_more}
use Rattle.std.proofs.lemmas.Bool.{and_from}
use Rattle.std.proofs.lemmas.Bool.Decides.{nat_tests}
use Rattle.unknown_calls.specs.UnknownCalls.{Within, are_within, called, place_in, with_call}
use Rattle.unknown_calls.specs.declared.UnknownCall.{UnknownCall}

no-match : (n m : ℕ) → (n ≡ m → ⊥) → (n == m) ≡ false
no-match n m apart = grind (arith, nat_tests, apart)

match : (n m : ℕ) → n ≡ m → (n == m) ≡ true
match n m same = grind (arith, nat_tests, same)

-- ---- the search

pub place-past : (calls : List UnknownCall) (number place : ℕ) (d : UnknownCall) → place < length calls
    → ((get_or calls place d).number ≡ number → ⊥)
    → place_in (drop place calls) number ≡ suc (place_in (drop (place + 1) calls) number)
unfolding place_in
place-past calls number place d less apart =
    ap (λ xs. place_in xs number) (drop_more calls place d less)
    ∙ ap (λ b. cond b 0 (suc (place_in (drop (place + 1) calls) number)))
    (no-match (get_or calls place d).number number apart)

pub place-here : (calls : List UnknownCall) (number place : ℕ) (d : UnknownCall) → place < length calls
    → (get_or calls place d).number ≡ number → place_in (drop place calls) number ≡ 0
unfolding place_in
place-here calls number place d less same =
    ap (λ xs. place_in xs number) (drop_more calls place d less)
    ∙ ap (λ b. cond b 0 (suc (place_in (drop (place + 1) calls) number)))
    (match (get_or calls place d).number number same)

pub place-end : (calls : List UnknownCall) (number place : ℕ) → length calls ≤ place
    → place_in (drop place calls) number ≡ 0
unfolding place_in
place-end calls number place past =
    ap (λ xs. place_in xs number) (drop_all place calls past)

pub place-within : (calls : List UnknownCall) (number : ℕ) → place_in calls number ≤ length calls
unfolding place_in
place-within [] number = omega arith
place-within (call ∷ calls) number = go (call.number == number) (place-within calls number)
  where
    go : (b : Bool) → place_in calls number ≤ length calls → cond b 0 (suc (place_in calls number)) ≤ suc (length calls)
    go true rest = omega arith
    go false rest = omega (arith, rest)

-- ---- what becomes of the list

abbrev pub bumped : UnknownCall → UnknownCall
bumped call = record call { times = call.times + 1 }

pub found : (calls : List UnknownCall) (number room : ℕ) (d : UnknownCall) → place_in calls number < length calls
    → with_call number calls room
    ≡ set calls (place_in calls number) (bumped (get_or calls (place_in calls number) d))
unfolding place_in with_call
found [] number room d less = absurd (omega (arith, less))
found (call ∷ calls) number room d less =
    go (call.number == number) less (found calls number (room - 1) d)
  where
    go : (b : Bool) → cond b 0 (suc (place_in calls number)) < suc (length calls)
        → (place_in calls number < length calls → with_call number calls (room - 1)
        ≡ set calls (place_in calls number) (bumped (get_or calls (place_in calls number) d)))
        → cond b (bumped call ∷ calls) (call ∷ with_call number calls (room - 1))
        ≡ set (call ∷ calls) (cond b 0 (suc (place_in calls number)))
        (bumped (get_or (call ∷ calls) (cond b 0 (suc (place_in calls number))) d))
    go true less rest = refl
    go false less rest = ap (λ xs. call ∷ xs) (rest (omega (arith, less)))

pub added : (calls : List UnknownCall) (number room : ℕ) → place_in calls number ≡ length calls → length calls < room
    → with_call number calls room ≡ calls ++ called number 1 ∷ []
unfolding place_in with_call
added [] number zero none less = absurd (omega (arith, less))
added [] number (suc room) none less = refl
added (call ∷ calls) number room none less =
    go (call.number == number) none (λ none. added calls number (room - 1) none (omega (arith, less)))
  where
    go : (b : Bool) → cond b 0 (suc (place_in calls number)) ≡ suc (length calls)
        → (place_in calls number ≡ length calls → with_call number calls (room - 1) ≡ calls ++ called number 1 ∷ [])
        → cond b (bumped call ∷ calls) (call ∷ with_call number calls (room - 1))
        ≡ call ∷ calls ++ called number 1 ∷ []
    go true none rest = absurd (omega (arith, none))
    go false none rest = ap (λ xs. call ∷ xs) (rest (omega (arith, none)))

pub full : (calls : List UnknownCall) (number room : ℕ) → place_in calls number ≡ length calls → room ≤ length calls
    → with_call number calls room ≡ calls
unfolding place_in with_call
full [] number zero none most = refl
full [] number (suc room) none most = absurd (omega (arith, most))
full (call ∷ calls) number room none most =
    go (call.number == number) none (λ none. full calls number (room - 1) none (omega (arith, most)))
  where
    go : (b : Bool) → cond b 0 (suc (place_in calls number)) ≡ suc (length calls)
        → (place_in calls number ≡ length calls → with_call number calls (room - 1) ≡ calls)
        → cond b (bumped call ∷ calls) (call ∷ with_call number calls (room - 1)) ≡ call ∷ calls
    go true none rest = absurd (omega (arith, none))
    go false none rest = ap (λ xs. call ∷ xs) (rest (omega (arith, none)))

-- ---- how large the counts are

both : (a b : Bool) → (a && b) ≡ true → (a ≡ true) × (b ≡ true)
both true b h = (refl, h)
both false b h = cc

as-test : (n m : ℕ) → n ≤ m → nat_le n m ≡ true
as-test n m le = grind (arith, nat_tests, le)

of-test : (n m : ℕ) → nat_le n m ≡ true → n ≤ m
of-test n m test = grind (arith, nat_tests, test)

first-within : (n : ℕ) (call : UnknownCall) (calls : List UnknownCall) → Within n (call ∷ calls)
    → (call.times ≤ n) × Within n calls
unfolding are_within
first-within n call calls h =
    let parts = both (nat_le call.times n) (are_within n calls) h in
    (of-test call.times n parts.0, parts.1)

with-first : (n : ℕ) (call : UnknownCall) (calls : List UnknownCall) → call.times ≤ n → Within n calls
    → Within n (call ∷ calls)
unfolding are_within
with-first n call calls le h = and_from (nat_le call.times n) (are_within n calls) (as-test call.times n le) h

pub none-within : (n : ℕ) → Within n []
unfolding are_within
none-within n = refl

pub within-up : (n m : ℕ) → n ≤ m → (calls : List UnknownCall) → Within n calls → Within m calls
within-up n m more [] h = none-within m
within-up n m more (call ∷ calls) h =
    let parts = first-within n call calls h in
    with-first m call calls (omega (arith, parts.0, more)) (within-up n m more calls parts.1)

pub within-more : (n : ℕ) (calls : List UnknownCall) → Within n calls → Within (n + 1) calls
within-more n calls h = within-up n (n + 1) (omega arith) calls h

pub within-after : (n number : ℕ) (calls : List UnknownCall) (room : ℕ) → Within n calls
    → Within (n + 1) (with_call number calls room)
unfolding with_call
within-after n number [] zero h = none-within (n + 1)
within-after n number [] (suc room) h =
    with-first (n + 1) (called number 1) [] (omega arith) (none-within (n + 1))
within-after n number (call ∷ calls) room h =
    let parts = first-within n call calls h in
    go (call.number == number) parts.0 parts.1 (within-after n number calls (room - 1) parts.1)
  where
    go : (b : Bool) → call.times ≤ n → Within n calls → Within (n + 1) (with_call number calls (room - 1))
        → Within (n + 1) (cond b (bumped call ∷ calls) (call ∷ with_call number calls (room - 1)))
    go true few others rest =
        with-first (n + 1) (bumped call) calls (omega (arith, few)) (within-more n calls others)
    go false few others rest =
        with-first (n + 1) call (with_call number calls (room - 1)) (omega (arith, few)) rest

pub within-at : (n : ℕ) (calls : List UnknownCall) (place : ℕ) (d : UnknownCall) → Within n calls
    → place < length calls → (get_or calls place d).times ≤ n
within-at n [] place d h less = absurd (omega (arith, less))
within-at n (call ∷ calls) zero d h less = (first-within n call calls h).0
within-at n (call ∷ calls) (suc place) d h less =
    within-at n calls place d (first-within n call calls h).1 (omega (arith, less))

-- ---- with a place

abbrev pub OfCount : List UnknownCall → ℕ → ℕ → Type 0
OfCount calls number place = place ≡ place_in calls number

pub found-at : (calls : List UnknownCall) (number place : ℕ) (call : UnknownCall) → OfCount calls number place
    → place < length calls → call ≡ get_or calls place call
    → set calls place (bumped call) ≡ with_call number calls 10
found-at calls number place call here less is =
    ap (λ c. set calls place (bumped c)) is
    ∙ ap (λ place. set calls place (bumped (get_or calls place call))) here
    ∙ sym (found calls number 10 call (omega (arith, less, here)))

pub added-at : (calls : List UnknownCall) (number place : ℕ) → OfCount calls number place
    → length calls ≤ place → place < 10 → calls ++ called number 1 ∷ [] ≡ with_call number calls 10
added-at calls number place here past less =
    let within = place-within calls number in
    sym (added calls number 10 (omega (arith, past, here, within)) (omega (arith, less, here, within, past)))

pub full-at : (calls : List UnknownCall) (number place : ℕ) → OfCount calls number place
    → length calls ≤ place → 10 ≤ place → calls ≡ with_call number calls 10
full-at calls number place here past most =
    let within = place-within calls number in
    sym (full calls number 10 (omega (arith, past, here, within)) (omega (arith, most, here, within, past)))

pub times-fit : (calls : List UnknownCall) (place : ℕ) (call : UnknownCall) → Within (2 ^ 32 - 2) calls
    → place < length calls → call ≡ get_or calls place call → call.times + 1 < 2 ^ 32
times-fit calls place call few less is =
    let small = within-at (2 ^ 32 - 2) calls place call few less in
    let same : call.times ≡ (get_or calls place call).times = ap (λ (c : UnknownCall). c.times) is in
    omega (arith, small, same)
