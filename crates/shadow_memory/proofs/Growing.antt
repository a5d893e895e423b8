-- Ranges that grow at their end, and what a change of cells is to their bytes and to their shadows.
use Rattle.std.proofs.Common.{◌≡◌, ℕ, Bool, true, false, refl, ap, ap₂, sym, ◌∙◌, ◌+◌, ◌-◌, ◌^◌, ◌<◌, ◌≤◌, ◌==◌, inl}
use Rattle.std.proofs.Common.{inr, cond, arith}
use Rattle.std.proofs.Math.Path.{fun_ext}
use Rattle.std.proofs.lemmas.Bool.{cases_Bool, cases_eq}
use Rattle.std.proofs.lemmas.Bool.Decides.{nat_tests}
use Rattle.shadow_memory.specs.Cells.{set_at}
use Rattle.shadow_memory.specs.Places.{changed_from, is_between}
use Rattle.shadow_memory.specs.Ranges.{above, changed_in, is_in, offset, written}

is-inside : (start d n at a : ℕ) → start < 2 ^ 32 → at ≡ above start d → at + n ≤ 2 ^ 32 → d + n ≤ 2 ^ 32
    → is_between at (at + n) a ≡ true → is_in start (d + n) a ≡ true
is-inside start d n at a small at-is page few h = grind (arith, nat_tests)

is-fresh : (start d n at a : ℕ) → start < 2 ^ 32 → at ≡ above start d → at + n ≤ 2 ^ 32 → d + n ≤ 2 ^ 32
    → is_between at (at + n) a ≡ true → is_in start d a ≡ false
is-fresh start d n at a small at-is page few h = grind (arith, nat_tests)

is-near : (n at a : ℕ) → is_between at (at + n) a ≡ true → a - at < n
is-near n at a h = grind (arith, nat_tests)

is-next : (start d n at a : ℕ) → start < 2 ^ 32 → at ≡ above start d → at + n ≤ 2 ^ 32 → d + n ≤ 2 ^ 32
    → is_between at (at + n) a ≡ true → offset start a ≡ d + (a - at)
is-next start d n at a small at-is page few h = grind (arith, nat_tests)

is-address : (start d n at a : ℕ) → at ≡ above start d → at + n ≤ 2 ^ 32 → is_between at (at + n) a ≡ true
    → above start (d + (a - at)) ≡ a
is-address start d n at a at-is page h = grind (arith, nat_tests)

is-outside : (start d n at a : ℕ) → start < 2 ^ 32 → at ≡ above start d → at + n ≤ 2 ^ 32 → d + n ≤ 2 ^ 32
    → is_between at (at + n) a ≡ false → is_in start (d + n) a ≡ is_in start d a
is-outside start d n at a small at-is page few h = grind (arith, nat_tests)

choose-new : {X : Type 0} (b p q : Bool) (x y : X) (part : X → X) (old : X) → b ≡ true → p ≡ false → q ≡ true
    → part old ≡ y → cond b (part (cond p x old)) (cond p x old) ≡ cond q y old
choose-new b p q x y part old e f g h = rw (e, f, g) h

keep-old : {X : Type 0} (b p q : Bool) (z x old : X) → b ≡ false → q ≡ p → cond b z (cond p x old) ≡ cond q x old
keep-old b p q z x old e f = rw (e, f) refl

-- a range of d places grows by n of them, none of which goes round the end
pub range-grows : {X : Type 0} (f : ℕ → X) (start d n at : ℕ) (change part : ℕ → X → X) → start < 2 ^ 32
    → at ≡ above start d → at + n ≤ 2 ^ 32 → d + n ≤ 2 ^ 32
    → ((i : ℕ) → i < n → part i (f (above start (d + i))) ≡ change (d + i) (f (above start (d + i))))
    → changed_from (changed_in f start d change) at n part ≡ changed_in f start (d + n) change
unfolding changed_in
range-grows f start d n at change part small at-is page few is =
    fun_ext (λ a. elim (cases_Bool (is_between at (at + n) a)) [
      | inl h ↦
          let address = is-address start d n at a at-is page h in
          choose-new _ _ _ _ _ (part (a - at)) (f a) h (is-fresh start d n at a small at-is page few h)
          (is-inside start d n at a small at-is page few h)
          (ap (λ b. part (a - at) (f b)) (sym address) ∙ is (a - at) (is-near n at a h)
          ∙ ap₂ (λ i b. change i (f b)) (sym (is-next start d n at a small at-is page few h)) address)
      | inr h ↦ keep-old _ _ _ _ _ (f a) h (is-outside start d n at a small at-is page few h)
    ])

pub range-empty : {X : Type 0} (f : ℕ → X) (start : ℕ) (change : ℕ → X → X) → changed_in f start 0 change ≡ f
unfolding changed_in
range-empty f start change = fun_ext (λ a. grind (arith, nat_tests))

pub choose-through : {X Y : Type 0} (g : X → Y) (b : Bool) (x y : X) (z : Y) → g x ≡ z → g (cond b x y) ≡ cond b z (g y)
choose-through g true x y z h = h
choose-through g false x y z h = refl

range-next-in : (start i : ℕ) → start < 2 ^ 32 → i < 2 ^ 32 → is_in start i (above start i) ≡ false
range-next-in start i small few = grind (arith, nat_tests)

-- the place after a range is as it was
pub range-next : {X : Type 0} (f : ℕ → X) (start i : ℕ) (change : ℕ → X → X) → start < 2 ^ 32 → i < 2 ^ 32
    → changed_in f start i change (above start i) ≡ f (above start i)
unfolding changed_in
range-next f start i change small few = rw (range-next-in start i small few) refl

-- what is seen of changed cells is changed as it is seen
pub range-seen : {X Y : Type 0} (see : X → Y) (f : ℕ → X) (start n : ℕ) (change : ℕ → X → X) (seen : ℕ → Y → Y)
    → ((i : ℕ) (x : X) → see (change i x) ≡ seen i (see x))
    → ◌≡◌ {A = ℕ → Y} (λ a. see (changed_in f start n change a)) (changed_in (λ a. see (f a)) start n seen)
unfolding changed_in
range-seen see f start n change seen is =
    fun_ext (λ a. choose-through see (is_in start n a) _ (f a) _ (is (offset start a) (f a)))

choose-kept : {X : Type 0} (b : Bool) (x y : X) → x ≡ y → cond b x y ≡ y
choose-kept true x y h = h
choose-kept false x y h = refl

-- and stays, where no change shows
pub range-unseen : {X Y : Type 0} (see : X → Y) (f : ℕ → X) (start n : ℕ) (change : ℕ → X → X)
    → ((i : ℕ) (x : X) → see (change i x) ≡ see x)
    → ◌≡◌ {A = ℕ → Y} (λ a. see (changed_in f start n change a)) (λ a. see (f a))
unfolding changed_in
range-unseen see f start n change is =
    fun_ext (λ a. choose-through see (is_in start n a) _ (f a) (see (f a)) (is (offset start a) (f a))
    ∙ choose-kept (is_in start n a) (see (f a)) (see (f a)) refl)

-- one place is a range of one
pub one-place : (at a : ℕ) → is_between at (at + 1) a ≡ (a == at)
one-place at a = elim (cases_eq a at) [
  | inl here ↦ rw here (grind (arith, nat_tests))
  | inr away ↦ grind (arith, nat_tests)
]

-- one place changed is a range of one
pub set-one : {X : Type 0} (f : ℕ → X) (at : ℕ) (x : X) → changed_from f at 1 (λ i y. x) ≡ set_at f at x
set-one f at x = fun_ext (λ a. ap (λ b. cond b x (f a)) (one-place at a))

-- a range of one place whose cell is made from the one there
pub one-more : {X : Type 0} (f now : ℕ → X) (start i : ℕ) (change : ℕ → X → X) (there made : X) → start < 2 ^ 32
    → i < 2 ^ 32
    → now ≡ changed_in f start i change → there ≡ now (above start i) → made ≡ change i there
    → changed_from now (above start i) 1 (λ k y. made) ≡ changed_in f start (i + 1) change
one-more f now start i change there made small few is there-is made-is =
    let fits : above start i + 1 ≤ 2 ^ 32 = omega arith in
    let more : i + 1 ≤ 2 ^ 32 = omega arith in
    ap (λ g. changed_from g (above start i) 1 (λ k y. made)) is
    ∙ range-grows f start i 1 (above start i) change (λ k y. made) small refl fits more (λ k below.
    let here : i + k ≡ i = omega arith in
    made-is ∙ ap (change i) (there-is ∙ ap (λ g. g (above start i)) is ∙ range-next f start i change small few)
    ∙ ap (λ j. change j (f (above start j))) (sym here))

-- and of one whose byte is the next one written
pub byte-more : (f now : ℕ → ℕ) (start i : ℕ) (bytes : ℕ → ℕ) (byte : ℕ) → start < 2 ^ 32 → i < 2 ^ 32
    → now ≡ written f start i bytes → byte ≡ bytes i
    → set_at now (above start i) byte ≡ written f start (i + 1) bytes
unfolding written
byte-more f now start i bytes byte small few is byte-is =
    sym (set-one now (above start i) byte) ∙ one-more f now start i (λ k b. bytes k) (now (above start i)) byte small
    few is refl byte-is

-- the step of a loop that changes a range page by page
pub page-more : {X : Type 0} (f now new : ℕ → X) (start d n at : ℕ) (change part : ℕ → X → X) → start < 2 ^ 32
    → at ≡ above start d → at + n ≤ 2 ^ 32
    → d + n ≤ 2 ^ 32 → now ≡ changed_in f start d change → new ≡ changed_from now at n part
    → ((i : ℕ) → i < n → (x : X) → part i x ≡ change (d + i) x) → new ≡ changed_in f start (d + n) change
page-more f now new start d n at change part small at-is page few is made alike =
    made ∙ ap (λ g. changed_from g at n part) is
    ∙ range-grows f start d n at change part small at-is page few (λ i below. alike i below (f (above start (d + i))))

joined-near : (at d n k : ℕ) → is_between (at + d) (at + d + n) k ≡ true → k - (at + d) < n
joined-near at d n k h = grind (arith, nat_tests)

joined-fresh : (at d n k : ℕ) → is_between (at + d) (at + d + n) k ≡ true → is_between at (at + d) k ≡ false
joined-fresh at d n k h = grind (arith, nat_tests)

joined-inside : (at d n k : ℕ) → is_between (at + d) (at + d + n) k ≡ true → is_between at (at + (d + n)) k ≡ true
joined-inside at d n k h = grind (arith, nat_tests)

joined-place : (at d n k : ℕ) → is_between (at + d) (at + d + n) k ≡ true → d + (k - (at + d)) ≡ k - at
joined-place at d n k h = grind (arith, nat_tests)

joined-outside : (at d n k : ℕ) → is_between (at + d) (at + d + n) k ≡ false
    → is_between at (at + (d + n)) k ≡ is_between at (at + d) k
joined-outside at d n k h = grind (arith, nat_tests)

-- places changed from one on, and then those after them
pub changed-joins : {X : Type 0} (f g h : ℕ → X) (at d n : ℕ) (change part : ℕ → X → X)
    → ((k : ℕ) → g k ≡ changed_from f at d change k)
    → ((k : ℕ) → h k ≡ changed_from g (at + d) n part k) → ((i : ℕ) → i < n → (x : X) → part i x ≡ change (d + i) x)
    → (k : ℕ) → h k ≡ changed_from f at (d + n) change k
changed-joins f g h at d n change part was is alike k =
    is k ∙ ap (λ x. cond (is_between (at + d) (at + d + n) k) (part (k - (at + d)) x) x) (was k)
    ∙ elim (cases_Bool (is_between (at + d) (at + d + n) k)) [
      | inl b ↦
          choose-new _ _ _ _ _ (part (k - (at + d))) (f k) b (joined-fresh at d n k b) (joined-inside at d n k b)
          (alike (k - (at + d)) (joined-near at d n k b) (f k) ∙ ap (λ i. change i (f k)) (joined-place at d n k b))
      | inr b ↦ keep-old _ _ _ _ _ (f k) b (joined-outside at d n k b)
    ]

onward-near : (n at a : ℕ) → is_in at n a ≡ true → offset at a < n
onward-near n at a h = grind (arith, nat_tests)

onward-inside : (start d n at a : ℕ) → start < 2 ^ 32 → at ≡ above start d → d + n ≤ 2 ^ 32 → is_in at n a ≡ true
    → is_in start (d + n) a ≡ true
onward-inside start d n at a small at-is few h = grind (arith, nat_tests)

onward-fresh : (start d n at a : ℕ) → start < 2 ^ 32 → at ≡ above start d → d + n ≤ 2 ^ 32 → is_in at n a ≡ true
    → is_in start d a ≡ false
onward-fresh start d n at a small at-is few h = grind (arith, nat_tests)

onward-next : (start d n at a : ℕ) → start < 2 ^ 32 → at ≡ above start d → d + n ≤ 2 ^ 32 → is_in at n a ≡ true
    → offset start a ≡ d + offset at a
onward-next start d n at a small at-is few h = grind (arith, nat_tests)

onward-address : (start d n at a : ℕ) → start < 2 ^ 32 → at ≡ above start d → is_in at n a ≡ true
    → above start (d + offset at a) ≡ a
onward-address start d n at a small at-is h = grind (arith, nat_tests)

onward-outside : (start d n at a : ℕ) → start < 2 ^ 32 → at ≡ above start d → d + n ≤ 2 ^ 32 → is_in at n a ≡ false
    → is_in start (d + n) a ≡ is_in start d a
onward-outside start d n at a small at-is few h = grind (arith, nat_tests)

-- a range of d places grows by the n after them, which may go round the end
pub range-joins : {X : Type 0} (f now new : ℕ → X) (start d n : ℕ) (change part : ℕ → X → X) → start < 2 ^ 32
    → d + n ≤ 2 ^ 32
    → now ≡ changed_in f start d change → new ≡ changed_in now (above start d) n part
    → ((i : ℕ) → i < n → (x : X) → part i x ≡ change (d + i) x) → new ≡ changed_in f start (d + n) change
unfolding changed_in
range-joins f now new start d n change part small few was is alike =
    let at = above start d in
    is ∙ ap (λ g. changed_in g at n part) was ∙ fun_ext (λ a. elim (cases_Bool (is_in at n a)) [
      | inl h ↦
          choose-new _ _ _ _ _ (part (offset at a)) (f a) h (onward-fresh start d n at a small refl few h)
          (onward-inside start d n at a small refl few h)
          (alike (offset at a) (onward-near n at a h) (f a)
          ∙ ap (λ i. change i (f a)) (sym (onward-next start d n at a small refl few h)))
      | inr h ↦ keep-old _ _ _ _ _ (f a) h (onward-outside start d n at a small refl few h)
    ])

choose-alike : {X : Type 0} (b : Bool) (x y z : X) → (b ≡ true → x ≡ y) → cond b x z ≡ cond b y z
choose-alike true x y z h = h refl
choose-alike false x y z h = refl

-- changes that are alike at each place
pub same-change : {X : Type 0} (f : ℕ → X) (at n : ℕ) (part change : ℕ → X → X)
    → ((i : ℕ) → i < n → (x : X) → part i x ≡ change i x) → changed_from f at n part ≡ changed_from f at n change
same-change f at n part change alike =
    fun_ext (λ a. choose-alike (is_between at (at + n) a) _ _ (f a) (λ h. alike _ (is-near n at a h) (f a)))

pub same-range : {X : Type 0} (f : ℕ → X) (start n : ℕ) (part change : ℕ → X → X)
    → ((i : ℕ) → i < n → (x : X) → part i x ≡ change i x) → changed_in f start n part ≡ changed_in f start n change
unfolding changed_in
same-range f start n part change alike =
    fun_ext (λ a. choose-alike (is_in start n a) _ _ (f a) (λ h. alike _ (onward-near n start a h) (f a)))

-- places that lie before the end are a range
pub one-range : {X : Type 0} (f new : ℕ → X) (at n : ℕ) (change : ℕ → X → X) → at + n ≤ 2 ^ 32 → at < 2 ^ 32
    → new ≡ changed_from f at n change → new ≡ changed_in f at n change
one-range f new at n change inside small made =
    let here : at ≡ above at 0 = omega arith in
    let few : 0 + n ≤ 2 ^ 32 = omega arith in
    let none : 0 + n ≡ n = omega arith in
    page-more f f new at 0 n at change change small here inside few (sym (range-empty f at change)) made
    (λ i below x. let e : i ≡ 0 + i = omega arith in ap (λ j. change j x) e)
    ∙ ap (λ k. changed_in f at k change) none

none-between : (at k : ℕ) → is_between at (at + 0) k ≡ false
none-between at k = grind (arith, nat_tests)

-- no place changes
pub changed-none : {X : Type 0} (f : ℕ → X) (at n : ℕ) (change : ℕ → X → X) → n ≡ 0 → changed_from f at n change ≡ f
changed-none f at n change none =
    fun_ext (λ k. ap (λ m. changed_from f at m change k) none ∙ rw (none-between at k) refl)
