-- What the code of an edit leaves, and where it shows, is what its row says.
use Rattle.std.proofs.Common.{◌≡◌, ℕ, zero, suc, ◌<◌, Bool, true, false, cond, not, List, [], ◌∷◌, get_or, length}
use Rattle.std.proofs.Common.{Some, None, ap, ◌∙◌, arith, refl}
use Rattle.std.proofs.Math.ListN.{set}
use Rattle.guest_elf.specs.Images.{is_half_word, profile_of}
use Rattle.guest_elf.specs.Profiles.{has_halves}
use Rattle.guest_elf.specs.declared.image.Image.{Image}
use Rattle.instructions.specs.Codes.{len_of}
use Rattle.instructions.specs.declared.code.Code.{Code}
use Rattle.suppressions.specs.Rules.{Rule}
use Rattle.checkpoints.specs.Effects.{effect_by}
use Rattle.commands.specs.declared.refusal.Refusal.TheVariants.{NoHalves, NotPatchable}
use Rattle.scenario.specs.Edits.{half_refusal, is_code, refused_if, switched, WritesLoaded}
use Rattle.scenario.specs.Scenario.{Scenario}

-- one of the suppressions is switched
pub switched-at : (rules : List Rule) (i : ℕ) (d old new : Rule) (on : Bool) → i < length rules → old ≡ get_or rules i d
    → new ≡ record old { on = on } → set rules i new ≡ switched rules i on
switched-at [] i d old new on h here made = absurd (omega arith)
switched-at (rule ∷ rules) zero d old new on h here made =
    ap (λ r. r ∷ rules) (made ∙ ap (λ (r : Rule). record r { on = on }) here)
switched-at (rule ∷ rules) (suc i) d old new on h here made =
    ap (λ rs. rule ∷ rs) (switched-at rules i d old new on (omega arith) here made)

pub switched-view : (one now : Scenario) (rules : List Rule) (i : ℕ) (on : Bool) → one ≡ now
    → rules ≡ switched one.rules i on
    → record one { rules = rules } ≡ record now { rules = switched now.rules i on }
switched-view one now rules i on same made =
    (λ j. record one { rules = made j }) ∙ ap (λ (sc : Scenario). record sc { rules = switched sc.rules i on }) same

-- a half that may be written is in the place of a loaded one
pub half-loaded : (image : Image) (addr : ℕ) → half_refusal image addr ≡ None → is_half_word image addr ≡ true
unfolding half_refusal
half-loaded image addr h = go (has_halves (profile_of image).isa) (is_half_word image addr) refl h
  where
    go : (a b : Bool) → is_half_word image addr ≡ b
        → cond a (refused_if (not b) NotPatchable) (Some NoHalves) ≡ None → is_half_word image addr ≡ true
    go true true e h = e
    go true false e h = cc
    go false b e h = cc

pub effect-loaded : (image : Image) (b : Bool) (addr : ℕ) (code : Code) → is_code image addr (len_of code) ≡ true
    → WritesLoaded image (effect_by b addr code)
effect-loaded image true addr code is = is
effect-loaded image false addr code is = is
