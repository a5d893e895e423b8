use Rattle.std.proofs.Common.{◌≡◌, ◌∙◌, ◌+◌, ◌-◌, ◌/◌, ◌%◌, ◌<◌, ◌==◌, ℕ, Bool, true, false, List, ap, arith}
use Rattle.std.proofs.Common.{cond, refl, slice_index, sym}
use Rattle.shadow_memory.specs.Codes.{code_at}
use Rattle.shadow_memory.specs.Parts.{part_of}
use Rattle.shadow_memory.proofs.codes.Codes.are_inaccessible.Goals as goal

part-zero : (i : ℕ) → part_of 0 i ≡ 0
part-zero i = go (i == 0) (i == 1) (i == 2)
  where
    go : (a b c : Bool) → ◌≡◌ {A = ℕ} (cond a 0 (cond b 0 (cond c 0 0))) 0
    go true b c = refl
    go false true c = refl
    go false false true = refl
    go false false false = refl

pub returns : goal.returns
unfolding code_at
returns c zero k start below =
    let i : ℕ = k / 4 - c.args.at / 4 in
    let near : i < 64 = omega arith in
    let e : c.args.at / 4 + i ≡ k / 4 = omega arith in
    let byte : slice_index c.args.self.now.packed.items (k / 4) ≡ 0 =
    ap (λ (l : List ℕ). slice_index l (k / 4)) (sym c.deref.ensures.value)
    ∙ ap (slice_index c.deref.result.now) (sym e) ∙ c.are_zero.ensures zero i near in
    ap (λ b. part_of b (k % 4)) byte ∙ part-zero (k % 4)
