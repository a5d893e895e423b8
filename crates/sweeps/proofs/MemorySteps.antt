-- The flips of the bytes that are read later, one byte after another.
use Rattle.std.proofs.Common.{◌≡◌, ℕ, zero, suc, ◌+◌, ◌-◌, ◌*◌, ◌%◌, ◌^◌, ◌<◌, ◌≤◌, ◌&&◌, not, Bool, true, false}
use Rattle.std.proofs.Common.{if◌then◌else◌, List, [], ◌∷◌, ◌++◌, inl, inr, refl, ap, sym, ◌∙◌, subst, arith}
use Rattle.std.proofs.Common.{append-nil}
use Rattle.std.proofs.Math.Path.{transport}
use Rattle.std.specs.List.{All, filter, flat_map}
use Rattle.std.proofs.lemmas.Bool.{cases_eq, cases_lt}
use Rattle.std.proofs.lemmas.List.Concat.{flat_map-append}
use Rattle.std.proofs.lemmas.List.Elements.{All-map, filter-append}
use Rattle.checkpoints.specs.Effects.{Run}
use Rattle.checkpoints.specs.Forks.{IsForkFor}
use Rattle.checkpoints.specs.declared.effect.Effect.TheVariants.{After}
use Rattle.checkpoints.specs.declared.forks.Fork.{Fork}
use Rattle.scenario.specs.Scenario.{Scenario}
use Rattle.shadow_memory.specs.Memories.{bytes_in, shadows_in}
use Rattle.shadow_memory.specs.Shadows.{HoldNoWord, holds_word, is_bad, shadow_of}
use Rattle.shadow_memory.specs.declared.cells.RangeKind.TheVariants.{Defined}
use Rattle.shadow_memory.specs.declared.memory.Memory.{Memory}
use Rattle.sweep_plans.specs.Glitches.{byte_flips, when}
use Rattle.sweep_plans.specs.Numbers.{below}
use Rattle.sweep_plans.specs.declared.change.Change.{Change}
use Rattle.sweep_plans.specs.declared.change.Change.TheVariants.{Once}
use Rattle.sweep_plans.specs.declared.change.Glitch.TheVariants.{Turn}
use Rattle.sweep_plans.specs.declared.plan.Plan.{Plan}
use Rattle.sweep_plans.specs.declared.standing.Standing.{Standing}
use Rattle.sweep_plans.specs.declared.standing.Standing.TheVariants as At
use Rattle.sweeps.specs.Accesses.{IsTable, TurnsOn, kept_as}
use Rattle.sweeps.specs.Memory.{is_read_later, is_written, memory_at, turned_below}
use Rattle.sweeps.specs.Standing.{IsAt}
use Rattle.sweeps.specs.Sweeps.{CountsMore}
use Rattle.sweeps.specs.declared.counting.Counts.{Counts}
use Rattle.sweeps.proofs.ForkSteps.{fork-before}
use Rattle.sweeps.proofs.Steps.{counts-join, counts-none}

-- ---- lists

one-more : (b : Bool) (step a : ℕ)
    → flat_map (byte_flips step) (if b then a ∷ [] else []) ≡ when b (byte_flips step a)
one-more true step a = append-nil (byte_flips step a)
one-more false step a = refl

-- another byte
pub turned-next : (sc : Scenario) (step a : ℕ)
    → turned_below sc step (suc a) ≡ turned_below sc step a ++ when (is_read_later sc step a) (byte_flips step a)
unfolding turned_below below
turned-next sc step a =
    let p = is_read_later sc step in
    ap (flat_map (byte_flips step)) (filter-append p (below a) (a ∷ []))
    ∙ flat_map-append (byte_flips step) (filter p (below a)) (filter p (a ∷ []))
    ∙ ap (λ xs. flat_map (byte_flips step) (filter p (below a)) ++ xs) (one-more (p a) step a)

pub turned-none : (sc : Scenario) (step : ℕ) → turned_below sc step 0 ≡ []
unfolding turned_below below
turned-none sc step = refl

-- bytes that aren't read
abbrev pub AreUnread : Scenario → ℕ → ℕ → ℕ → Type 0
AreUnread sc step from to = (a : ℕ) → from ≤ a → a < to → is_read_later sc step a ≡ false

pub turned-over : (sc : Scenario) (step from d : ℕ) → AreUnread sc step from (from + d)
    → turned_below sc step (from + d) ≡ turned_below sc step from
turned-over sc step from zero unread =
    let same : from + 0 ≡ from = omega arith in ap (turned_below sc step) same
turned-over sc step from (suc d) unread =
    let up : from + suc d ≡ suc (from + d) = omega arith in
    ap (turned_below sc step) up ∙ turned-next sc step (from + d)
    ∙ ap (λ b. turned_below sc step (from + d) ++ when b (byte_flips step (from + d)))
    (unread (from + d) (omega arith) (omega arith))
    ∙ append-nil (turned_below sc step (from + d))
    ∙ turned-over sc step from d (λ a l h. unread a l (omega arith))

pub turned-past : (sc : Scenario) (step from to : ℕ) → from ≤ to → AreUnread sc step from to
    → turned_below sc step to ≡ turned_below sc step from
turned-past sc step from to forward unread =
    let all : from + (to - from) ≡ to = omega arith in
    ap (turned_below sc step) (sym all)
    ∙ turned-over sc step from (to - from) (λ a l h. unread a l (omega (arith, all)))

-- ---- the table

not-kept : (r w : Bool) → (kept_as r w ≡ 1 → ⊥) → r ≡ false
unfolding kept_as
not-kept true w isnt = absurd (isnt refl)
not-kept false w isnt = refl

kept-read : (r w : Bool) → kept_as r w ≡ 1 → r ≡ true
unfolding kept_as
kept-read true w is = refl
kept-read false true is = cc
kept-read false false is = cc

module _ (sc : Scenario) (step : ℕ) (table : Memory) (is : IsTable sc step (sc.step - step) table) where
  pub unread-there : (a : ℕ) → a < 2 ^ 32 → (bytes_in table a ≡ 1 → ⊥) → is_read_later sc step a ≡ false
  unread-there a l isnt =
      not-kept (is_read_later sc step a) (is_written sc step (sc.step - step) a) (λ one. isnt (is.kept a l ∙ one))

  pub read-there : (a : ℕ) → a < 2 ^ 32 → bytes_in table a ≡ 1 → is_read_later sc step a ≡ true
  read-there a l one =
      kept-read (is_read_later sc step a) (is_written sc step (sc.step - step) a) (sym (is.kept a l) ∙ one)

  -- a byte that is entered is in a word that a search finds
  in-word : (a : ℕ) → a < 2 ^ 32 → (bytes_in table a ≡ 0 → ⊥) → holds_word (shadows_in table) (a - a % 4) ≡ true
  in-word a l entered =
      let s = shadows_in table in
      let at = is.shown a l entered in
      let zeroth : s (a - a % 4) ≡ shadow_of Defined = ap s (omega arith) ∙ at 0 (omega arith) in
      λ i. not (is_bad true (zeroth i)) && not (is_bad true (at 1 (omega arith) i))
      && not (is_bad true (at 2 (omega arith) i)) && not (is_bad true (at 3 (omega arith) i))

  pub unread-between : (from to : ℕ) → from % 4 ≡ 0 → to ≤ 2 ^ 32 → HoldNoWord (shadows_in table) from to
      → AreUnread sc step from to
  unread-between from to aligned high none a low l = elim (cases_eq (bytes_in table a) 0) [
    | inl blank ↦ unread-there a (omega arith) (λ one. let isnt = sym blank ∙ one in cc)
    | inr entered ↦
        let found = in-word a (omega arith) entered in
        let nothing = none (a - a % 4) (omega arith) (omega arith) (omega arith) in
        let isnt = sym found ∙ nothing in
        cc
  ]

-- ---- what is counted

-- the changes of a byte are changes of the place
pub turns-at : (sc : Scenario) (standing : Standing) (step pc a : ℕ) (short : Bool) → a < 2 ^ 32
    → standing ≡ At.Step step pc short
    → All (IsAt sc standing) (byte_flips step a)
unfolding byte_flips
turns-at sc standing step pc a short l is =
    subst (λ (s : Standing). All (IsAt sc s)
    (byte_flips step a)) (sym is)
    (All-map (IsAt sc (At.Step step pc short)) (λ bit. Once step (Turn (a - a % 4) (2 ^ (8 * (a % 4) + bit)))) (below 8)
    (λ i d h. (refl, omega arith)))

-- some, and then others
pub counts-chain : (sc now : Scenario) (step a b c d e : ℕ) (with_output : Bool) (old middle new : Counts)
    (out before after : List ℕ) → now ≡ sc → d ≡ b → e ≡ c → TurnsOn sc step with_output a b old out middle before
    → TurnsOn now step with_output d e middle before new after → TurnsOn sc step with_output a c old out new after
counts-chain sc now step a b c d e with_output old middle new out before after same from to some others first text h =
    transport (λ i. TurnsOn (same i) step with_output (from i) (to i) middle before new after) others first text
    (some first text h)

-- and bytes that have no flips
pub counts-past : (sc : Scenario) (step a b c : ℕ) (with_output : Bool) (old new : Counts) (out after : List ℕ)
    → turned_below sc step c ≡ turned_below sc step b → TurnsOn sc step with_output a b old out new after
    → TurnsOn sc step with_output a c old out new after
counts-past sc step a b c with_output old new out after same some first text h =
    subst (λ (xs : List Change). CountsMore first new with_output sc xs text after) (sym same) (some first text h)

pub counts-unread : (sc : Scenario) (step a : ℕ) (table : Memory) (with_output : Bool) (counts : Counts) (out : List ℕ)
    → IsTable sc step (sc.step - step) table → a < 2 ^ 32 → (bytes_in table a ≡ 1 → ⊥)
    → TurnsOn sc step with_output a (a + 1) counts out counts out
counts-unread sc step a table with_output counts out is l isnt first text before =
    let unread : AreUnread sc step a (a + 1) = λ k low high. let here : a ≡ k = omega arith in
    subst (λ b. is_read_later sc step b ≡ false) here (unread-there sc step table is a l isnt) in
    subst (λ (xs : List Change). CountsMore first counts with_output sc xs text out)
    (sym (turned-past sc step a (a + 1) (omega arith) unread)) before

pub counts-byte : (sc : Scenario) (step a next : ℕ) (with_output : Bool) (old new : Counts) (out after : List ℕ)
    → next ≡ suc a → is_read_later sc step a ≡ true
    → CountsMore old new with_output sc (byte_flips step a) out after
    → TurnsOn sc step with_output a next old out new after
counts-byte sc step a next with_output old new out after up read here first text before =
    let all : turned_below sc step next ≡ turned_below sc step a ++ byte_flips step a = ap (turned_below sc step) up
    ∙ turned-next sc step a
    ∙ ap (λ b. turned_below sc step a ++ when b (byte_flips step a)) read in
    subst (λ (xs : List Change). CountsMore first new with_output sc xs text after) (sym all)
    (counts-join with_output sc first old new (turned_below sc step a) (byte_flips step a) text out after before here)

pub counts-nothing : (sc : Scenario) (step : ℕ) (with_output : Bool) (counts : Counts) (out : List ℕ)
    → CountsMore counts counts with_output sc (turned_below sc step 0) out out
counts-nothing sc step with_output counts out =
    subst (λ (xs : List Change). CountsMore counts counts with_output sc xs out out) (sym (turned-none sc step))
    (counts-none counts with_output sc out)

-- a fork for a step is at that step, if it may be
pub fork-there : (step last : ℕ) (run : Run) (fork : Fork) → step < last → IsForkFor (After step) run last fork
    → fork.step ≡ step
fork-there step last run fork below is =
    let before = fork-before step last run fork is in
    elim (cases_lt fork.step step) [
      | inl early ↦ absurd (is.step.next (omega arith)
          (λ j l e. let late : step + 1 ≤ fork.step + 1 = omega (arith, l, e) in absurd (omega (arith, late, early))))
      | inr there ↦ omega arith
    ]

-- what a place of another kind has
pub no-memory : (sc : Scenario) (plan : Plan) (standing : Standing)
    → ((step pc : ℕ) (short : Bool) → standing ≡ At.Step step pc short → ⊥) → memory_at sc plan standing ≡ []
unfolding memory_at
no-memory sc plan (At.Byte offset old) isnt = refl
no-memory sc plan (At.Word addr old) isnt = refl
no-memory sc plan (At.Half addr old) isnt = refl
no-memory sc plan (At.Step step pc short) isnt = absurd (isnt step pc short refl)

pub memory-off : (sc : Scenario) (plan : Plan) (standing : Standing) (step pc : ℕ) (short : Bool)
    → standing ≡ At.Step step pc short
    → plan.models.memory ≡ false → memory_at sc plan standing ≡ []
unfolding memory_at
memory-off sc plan standing step pc short is off =
    ap (memory_at sc plan) is ∙ ap (λ b. when b (turned_below sc step (2 ^ 32))) off

pub memory-on : (sc : Scenario) (plan : Plan) (standing : Standing) (step pc : ℕ) (short : Bool)
    → standing ≡ At.Step step pc short
    → plan.models.memory ≡ true → memory_at sc plan standing ≡ turned_below sc step (2 ^ 32)
unfolding memory_at
memory-on sc plan standing step pc short is on =
    ap (memory_at sc plan) is ∙ ap (λ b. when b (turned_below sc step (2 ^ 32))) on
