-- The table of what steps do first with each byte.
use Rattle.std.proofs.Common.{◌≡◌, ℕ, zero, suc, ◌+◌, ◌-◌, ◌%◌, ◌^◌, ◌<◌, ◌≤◌, ◌==◌, ◌&&◌, ◌||◌, not, Bool, true, false}
use Rattle.std.proofs.Common.{if◌then◌else◌, [], inl, inr, refl, ap, ap₂, sym, ◌∙◌, subst, arith}
use Rattle.std.proofs.Math.Bool.{or-false}
use Rattle.std.proofs.lemmas.Bool.{cases_eq, ne_eqb, or_parts}
use Rattle.std.proofs.lemmas.Bool.Decides.{nat_tests}
use Rattle.guest_machine.specs.Exec.{exec, is_running, touched_of, touches}
use Rattle.guest_machine.specs.Laws.{StaysHalted}
use Rattle.guest_machine.specs.Run.{after_marks, post}
use Rattle.guest_machine.specs.Spans.{covers}
use Rattle.guest_machine.specs.State.{State}
use Rattle.guest_machine.specs.declared.setup.Setup.{Setup}
use Rattle.guest_machine.specs.declared.setup.Touched.{Touched}
use Rattle.checkpoints.proofs.Halted.{halted-after}
use Rattle.checkpoints.proofs.MarkSteps.{pre-more}
use Rattle.scenario.specs.Scenario.{Scenario, first_state}
use Rattle.shadow_memory.specs.Memories.{bytes_in, shadows_in}
use Rattle.shadow_memory.specs.Cells.{set_at}
use Rattle.shadow_memory.specs.Ranges.{above, changed_in, is_in}
use Rattle.shadow_memory.specs.Shadows.{Shadow, made_so, shadow_of}
use Rattle.shadow_memory.specs.declared.cells.RangeKind.TheVariants.{Defined}
use Rattle.shadow_memory.specs.declared.memory.Memory.{Memory}
use Rattle.sweeps.specs.Accesses.{AreEntered, IsEntered, IsTable, ShowsEntered, entered, kept_as}
use Rattle.sweeps.specs.Memory.{is_read, is_written, touched_in}
use Rattle.sweeps.specs.Standing.{state_before}

-- ---- ranges of bytes

-- the addresses of another byte of a range
pub next-in : (start i a : ℕ) → start < 2 ^ 32 → i < 2 ^ 32 → a < 2 ^ 32
    → is_in start (i + 1) a ≡ (is_in start i a || a == above start i)
next-in start i a s l h = grind (arith, nat_tests)

pub next-out : (start i a : ℕ) → start < 2 ^ 32 → i < 2 ^ 32 → a < 2 ^ 32 → (a == above start i) ≡ true
    → is_in start i a ≡ false
next-out start i a s l h e = grind (arith, nat_tests)

-- another byte is entered
enter-next : (in-range here : Bool) (how old now new : ℕ) → (here ≡ true → in-range ≡ false)
    → now ≡ (if in-range then entered how old else old)
    → new ≡ (if here then entered how now else now) → new ≡ (if in-range || here then entered how old else old)
enter-next true true how old now new apart before after = let isnt = apart refl in cc
enter-next true false how old now new apart before after = after ∙ before
enter-next false true how old now new apart before after = after ∙ ap (entered how) before
enter-next false false how old now new apart before after = after ∙ before

pub entered-next : (how start i : ℕ) (old now new : Memory) → start < 2 ^ 32 → i < 2 ^ 32
    → ((a : ℕ) → a < 2 ^ 32
    → bytes_in now a ≡ (if is_in start i a then entered how (bytes_in old a) else bytes_in old a))
    → IsEntered how (above start i) now new → (a : ℕ) → a < 2 ^ 32
    → bytes_in new a ≡ (if is_in start (i + 1) a then entered how (bytes_in old a) else bytes_in old a)
entered-next how start i old now new s l before after a h =
    enter-next (is_in start i a) (a == above start i) how (bytes_in old a) (bytes_in now a) (bytes_in new a)
    (next-out start i a s l h) (before a h) (after a h)
    ∙ ap (λ b. if b then entered how (bytes_in old a) else bytes_in old a) (sym (next-in start i a s l h))

-- ---- words

-- bytes that were defined stay so if a range is made so, and those of the range are
made-defined : (in-range : Bool) (s : Shadow) → (in-range ≡ false → s ≡ shadow_of Defined)
    → (if in-range then shadow_of Defined else s) ≡ shadow_of Defined
made-defined true s stands = refl
made-defined false s stands = stands refl

in-its-word : (a i : ℕ) → a < 2 ^ 32 → i < 4 → is_in (a - a % 4) 4 (a - a % 4 + i) ≡ true
in-its-word a i l few = grind (arith, nat_tests)

pub shown-next : (addr how : ℕ) (old now new : Memory) → addr < 2 ^ 32 → ShowsEntered old
    → shadows_in now ≡ made_so (shadows_in old) (addr - addr % 4) 4 Defined
    → bytes_in now ≡ bytes_in old → shadows_in new ≡ shadows_in now → bytes_in new ≡ set_at (bytes_in now) addr how
    → ShowsEntered new
unfolding made_so changed_in
shown-next addr how old now new l shown made kept same poked a high entered i few =
    ap (λ f. f (a - a % 4 + i)) (same ∙ made)
    ∙ made-defined (is_in (addr - addr % 4) 4 (a - a % 4 + i)) (shadows_in old (a - a % 4 + i)) there
  where
    there : is_in (addr - addr % 4) 4 (a - a % 4 + i) ≡ false → shadows_in old (a - a % 4 + i) ≡ shadow_of Defined
    there out = elim (cases_eq a addr) [
      | inl here ↦
          let yes : is_in (addr - addr % 4) 4 (a - a % 4 + i) ≡ true
          = subst (λ b. is_in (b - b % 4) 4 (a - a % 4 + i) ≡ true) here (in-its-word a i high few) in
          let isnt = sym yes ∙ out in
          cc
      | inr other ↦
          let was : bytes_in new a ≡ bytes_in old a
          = ap (λ f. f a) poked ∙ ap (λ b. if b then how else bytes_in now a) (ne_eqb a addr other)
          ∙ ap (λ f. f a) kept in
          shown a high (λ zero. entered (was ∙ zero)) i few
    ]

-- ---- steps

-- what a byte is kept as after another step, which may read it and may write it
kept-cases : (r w x y : Bool)
    → (if y then entered 2 (if x then entered 1 (kept_as r w) else kept_as r w)
    else if x then entered 1 (kept_as r w) else kept_as r w)
    ≡ kept_as (r || (x && not w)) (w || y)
unfolding kept_as
kept-cases true true true true = refl
kept-cases true true true false = refl
kept-cases true true false true = refl
kept-cases true true false false = refl
kept-cases true false true true = refl
kept-cases true false true false = refl
kept-cases true false false true = refl
kept-cases true false false false = refl
kept-cases false true true true = refl
kept-cases false true true false = refl
kept-cases false true false true = refl
kept-cases false true false false = refl
kept-cases false false true true = refl
kept-cases false false true false = refl
kept-cases false false false true = refl
kept-cases false false false false = refl

pub table-begin : (sc : Scenario) (first n : ℕ) (table : Memory) → n ≡ 0 → bytes_in table ≡ (λ a. 0)
    → IsTable sc first n table
unfolding is_read is_written kept_as
table-begin sc first n table none blank =
    let kept : (a : ℕ) → bytes_in table a ≡ 0 = λ a. ap (λ f. f a) blank in
    subst (λ k. IsTable sc first k table) (sym none)
    (record { kept = λ a l. kept a; shown = λ a l is i f. absurd (is (kept a)) })

pub table-more : (sc : Scenario) (first n more step : ℕ) (old now new : Memory) (touched : Touched)
    → step ≡ first + n → more ≡ suc n → touched ≡ touched_in sc step
    → IsTable sc first n old → AreEntered 1 touched.reads old now → AreEntered 2 touched.writes now new
    → ShowsEntered new → IsTable sc first more new
unfolding is_read is_written
table-more sc first n more step old now new touched at up same before reads writes shown =
    subst (λ k. IsTable sc first k new) (sym up) (record { kept = kept; shown = shown })
  where
    is : touched ≡ touched_in sc (first + n)
    is = same ∙ ap (touched_in sc) at

    kept : (a : ℕ) → a < 2 ^ 32 → bytes_in new a ≡ kept_as (is_read sc first (suc n) a) (is_written sc first (suc n) a)
    kept a l =
        let x = covers (touched_in sc (first + n)).reads a in
        let y = covers (touched_in sc (first + n)).writes a in
        let was = before.kept a l in
        let mid = reads a l ∙ (λ i. if covers (is i).reads a then entered 1 (was i) else was i) in
        writes a l ∙ (λ i. if covers (is i).writes a then entered 2 (mid i) else mid i)
        ∙ kept-cases (is_read sc first n a) (is_written sc first n a) x y

-- a step that touches nothing changes nothing in the table
module _ (sc : Scenario) (first : ℕ) (table : Memory) where
  abbrev IsQuiet : ℕ → Type 0
  IsQuiet step =
      (a : ℕ) → (covers (touched_in sc step).reads a ≡ false) × (covers (touched_in sc step).writes a ≡ false)

  pub table-quiet : (n : ℕ) → IsQuiet (first + n) → IsTable sc first n table → IsTable sc first (suc n) table
  unfolding is_read is_written
  table-quiet n quiet before = record {
    kept = λ a l.
        let r = is_read sc first n a in
        let w = is_written sc first n a in
        before.kept a l
        ∙ ap₂ kept_as (sym (or-false r)) (sym (or-false w))
        ∙ (λ i. kept_as (r || (sym (quiet a).0 i && not w)) (w || sym (quiet a).1 i));
    shown = before.shown;
  }

  pub table-rests : (n d : ℕ) → ((j : ℕ) → n ≤ j → IsQuiet (first + j)) → IsTable sc first n table
      → IsTable sc first (n + d) table
  table-rests n zero quiet before =
      let same : n + 0 ≡ n = omega arith in subst (λ k. IsTable sc first k table) (sym same) before
  table-rests n (suc d) quiet before =
      let up : n + suc d ≡ suc (n + d) = omega arith in
      subst (λ k. IsTable sc first k table) (sym up)
      (table-quiet (n + d) (quiet (n + d) (omega arith)) (table-rests n d quiet before))

-- a halted machine touches nothing more
touches-none : (law : StaysHalted) (setup : Setup) (s : State) → is_running s.core.status ≡ false → (a : ℕ)
    → (covers (touched_of s setup).reads a ≡ false) × (covers (touched_of s setup).writes a ≡ false)
unfolding touches
touches-none law setup s halted a =
    let t = touched_of s setup in
    let none = (law setup s halted).1 a in
    or_parts (covers t.reads a) (covers t.writes a)
    (or_parts (covers t.fetch a) (covers t.reads a || covers t.writes a) none).1

pub table-halted : StaysHalted → (sc : Scenario) (first step end : ℕ) (table : Memory) → first ≤ step → step ≤ end
    → is_running (state_before sc step).core.status ≡ false → IsTable sc first (step - first) table
    → IsTable sc first (end - first) table
table-halted law sc first step end table forward within halted before =
    let all : step - first + (end - step) ≡ end - first = omega arith in
    subst (λ n. IsTable sc first n table) all
    (table-rests sc first table (step - first) (end - step)
    (λ j l a. touches-none law sc.setup (post (first_state sc) sc.setup sc.marks (first + j))
    (halted-after law (first_state sc) sc.setup sc.marks step halted (first + j) (omega arith)) a)
    before)

-- ---- the run

-- without marks, the state that a step starts from is the one before it
pub unmarked : (sc : Scenario) (step : ℕ) → sc.marks ≡ []
    → post (first_state sc) sc.setup sc.marks step ≡ state_before sc step
unfolding post after_marks
unmarked sc step none = ap (λ ms. after_marks step ms (state_before sc step)) none

pub step-unmarked : (sc : Scenario) (step : ℕ) → sc.marks ≡ []
    → state_before sc (step + 1) ≡ exec (state_before sc step) sc.setup
unfolding after_marks
step-unmarked sc step none =
    pre-more (first_state sc) sc.setup sc.marks step
    ∙ ap (λ ms. exec (after_marks step ms (state_before sc step)) sc.setup) none
