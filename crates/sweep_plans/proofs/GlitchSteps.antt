-- The changes at a step, one after another.
use Rattle.std.proofs.Common.{◌≡◌, ℕ, ◌+◌, ◌-◌, ◌*◌, ◌%◌, ◌^◌, List, [], ◌∷◌, ◌++◌, map, refl, ap, sym, ◌∙◌, append-nil}
use Rattle.std.proofs.Common.{append_assoc}
use Rattle.std.specs.List.{flat_map}
use Rattle.std.proofs.lemmas.List.Concat.{flat_map-append}
use Rattle.sweep_plans.proofs.ListSteps.{map-more, plus-one}
use Rattle.sweep_plans.specs.Glitches.{byte_flips, flip_of, flips_at, register_flips, register_sets}
use Rattle.sweep_plans.specs.Numbers.{below}
use Rattle.sweep_plans.specs.declared.change.Change.{Change}
use Rattle.sweep_plans.specs.declared.change.Change.TheVariants.{Once}
use Rattle.sweep_plans.specs.declared.change.Glitch.TheVariants.{Set, Turn}
use Rattle.sweep_plans.specs.declared.glitches.Target.{Target}
use Rattle.sweep_plans.specs.declared.glitches.Target.TheVariants.{Register}

-- those below a number
unfoldable pub register_flips_to : ℕ → ℕ → List Change
register_flips_to step n = flat_map (λ r. flips_at step (Register (r + 1)) 32) (below n)

unfoldable pub register_sets_to : ℕ → ℕ → ℕ → List Change
register_sets_to step value n = map (λ r. Once step (Set (r + 1) value)) (below n)

-- the turn of a bit of the byte at an address
abbrev pub turned_bit : ℕ → ℕ → ℕ → Change
turned_bit step addr bit = Once step (Turn (addr - addr % 4) (2 ^ (8 * (addr % 4) + bit)))

unfoldable pub byte_flips_to : ℕ → ℕ → ℕ → List Change
byte_flips_to step addr n = map (turned_bit step addr) (below n)

-- none, and all
pub no-byte-flips : (step addr : ℕ) → byte_flips_to step addr 0 ≡ []
unfolding byte_flips_to below
no-byte-flips step addr = refl

pub all-byte-flips : (step addr : ℕ) → byte_flips_to step addr 8 ≡ byte_flips step addr
unfolding byte_flips_to byte_flips
all-byte-flips step addr = refl

pub no-flips : (step : ℕ) (target : Target) → flips_at step target 0 ≡ []
unfolding flips_at below
no-flips step target = refl

pub no-registers : (step : ℕ) → register_flips_to step 0 ≡ []
unfolding register_flips_to below
no-registers step = refl

pub all-registers : (step : ℕ) → register_flips_to step 31 ≡ register_flips step
unfolding register_flips_to register_flips
all-registers step = refl

pub no-sets : (step value : ℕ) → register_sets_to step value 0 ≡ []
unfolding register_sets_to below
no-sets step value = refl

pub all-sets : (step value : ℕ) → register_sets_to step value 31 ≡ register_sets step value
unfolding register_sets_to register_sets
all-sets step value = refl

-- and another
pub byte-flip-next : (step addr n : ℕ)
    → byte_flips_to step addr (n + 1) ≡ byte_flips_to step addr n ++ turned_bit step addr n ∷ []
unfolding byte_flips_to below
byte-flip-next step addr n =
    ap (byte_flips_to step addr) (plus-one n) ∙ map-more (turned_bit step addr) (below n) n

pub flip-next : (step : ℕ) (target : Target) (n : ℕ)
    → flips_at step target (n + 1) ≡ flips_at step target n ++ flip_of step target (2 ^ n) ∷ []
unfolding flips_at below
flip-next step target n =
    ap (flips_at step target) (plus-one n) ∙ map-more (λ bit. flip_of step target (2 ^ bit)) (below n) n

pub register-next : (step n : ℕ)
    → register_flips_to step (n + 1) ≡ register_flips_to step n ++ flips_at step (Register (n + 1)) 32
unfolding register_flips_to below
register-next step n =
    ap (register_flips_to step) (plus-one n)
    ∙ flat_map-append (λ r. flips_at step (Register (r + 1)) 32) (below n) (n ∷ [])
    ∙ ap (λ xs. register_flips_to step n ++ xs) (append-nil (flips_at step (Register (n + 1)) 32))

pub set-next : (step value n : ℕ) → register_sets_to step value (n + 1)
    ≡ register_sets_to step value n ++ Once step (Set (n + 1) value) ∷ []
unfolding register_sets_to below
set-next step value n =
    ap (register_sets_to step value) (plus-one n) ∙ map-more (λ r. Once step (Set (r + 1) value)) (below n) n

-- more are appended
pub more : (old xs ys now later zs : List Change) → now ≡ old ++ xs → later ≡ now ++ ys → zs ≡ xs ++ ys
    → later ≡ old ++ zs
more old xs ys now later zs before here all =
    here ∙ ap (λ front. front ++ ys) before ∙ append_assoc old xs ys ∙ ap (λ rest. old ++ rest) (sym all)
