-- One more row of two tables, and rows that say nothing new.
use Rattle.std.proofs.Common.{◌≡◌, ℕ, zero, suc, ◌+◌, ◌&&◌, ◌||◌, Bool, true, false, List}
use Rattle.std.proofs.Common.{ap₂, arith, get_or, refl, subst, sym}
use Rattle.std.proofs.lemmas.Bool.{true≢false}
use Rattle.checkpoints.specs.declared.sides.Sides.{Sides}
use Rattle.tries.specs.Merging.{KnownBelow, adds_none, again_in, either, gained, is_old, new_in, sum_rows, unreached}

pub sum-more : (count : Sides → Sides → ℕ) (seen run : List Sides) (i n m : ℕ) → n ≡ sum_rows count seen run i
    → m ≡ count (get_or seen i unreached) (get_or run i unreached) → n + m ≡ sum_rows count seen run (i + 1)
unfolding sum_rows
sum-more count seen run i n m told now =
    let next : suc i ≡ i + 1 = omega arith in
    subst (λ j. n + m ≡ sum_rows count seen run j) next (ap₂ (λ a b. a + b) told now)

-- ---- rows that say nothing new

left : (a b : Bool) → (a && b) ≡ true → a ≡ true
left true b h = refl
left false b h = absurd (true≢false (sym h))

right : (a b : Bool) → (a && b) ≡ true → b ≡ true
right true b h = h
right false b h = absurd (true≢false (sym h))

same-or : (a b : Bool) → is_old a b ≡ true → (a || b) ≡ a
same-or true b h = refl
same-or false false h = refl
same-or false true h = absurd (true≢false (sym h))

none-gained : (a b : Bool) → is_old a b ≡ true → gained a b ≡ 0
none-gained true true h = refl
none-gained true false h = refl
none-gained false false h = refl
none-gained false true h = absurd (true≢false (sym h))

-- each of the four
record Old (a b : Sides) : Type 0 where
  on : is_old a.on b.on ≡ true
  away : is_old a.away b.away ≡ true
  on_again : is_old a.on_again b.on_again ≡ true
  away_again : is_old a.away_again b.away_again ≡ true

old : (a b : Sides) → adds_none a b ≡ true → Old a b
old a b h =
    let rest = right (is_old a.on b.on) _ h in
    let again = right (is_old a.away b.away) _ rest in
    record {
      on = left (is_old a.on b.on) _ h;
      away = left (is_old a.away b.away) _ rest;
      on_again = left (is_old a.on_again b.on_again) _ again;
      away_again = right (is_old a.on_again b.on_again) _ again;
    }

pub either-known : (a b : Sides) → adds_none a b ≡ true → either a b ≡ a
either-known a b h = let o = old a b h in λ i. record {
  on = same-or a.on b.on o.on i;
  away = same-or a.away b.away o.away i;
  on_again = same-or a.on_again b.on_again o.on_again i;
  away_again = same-or a.away_again b.away_again o.away_again i;
}

pub none-new : (a b : Sides) → adds_none a b ≡ true → new_in a b ≡ 0
none-new a b h = let o = old a b h in
    ap₂ (λ x y. x + y) (none-gained a.on b.on o.on) (none-gained a.away b.away o.away)

pub none-again : (a b : Sides) → adds_none a b ≡ true → again_in a b ≡ 0
none-again a b h = let o = old a b h in
    ap₂ (λ x y. x + y) (none-gained a.on_again b.on_again o.on_again)
    (none-gained a.away_again b.away_again o.away_again)

pub sum-none : (count : Sides → Sides → ℕ) → ((a b : Sides) → adds_none a b ≡ true → count a b ≡ 0)
    → (seen run : List Sides) (n : ℕ) → KnownBelow seen run n → sum_rows count seen run n ≡ 0
unfolding sum_rows
sum-none count none seen run zero known = refl
sum-none count none seen run (suc n) known =
    ap₂ (λ x y. x + y) (sum-none count none seen run n (λ i l. known i (omega arith)))
    (none (get_or seen n unreached) (get_or run n unreached) (known n (omega arith)))
