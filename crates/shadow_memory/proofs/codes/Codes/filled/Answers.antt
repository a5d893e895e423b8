use Rattle.std.proofs.Common.{◌≡◌, ◌∙◌, ◌*◌, ◌/◌, ◌%◌, ◌<◌, ℕ, List, ap, arith, length, replicate, slice_index}
use Rattle.std.proofs.lemmas.List.{get_or-replicate, length-replicate}
use Rattle.shadow_memory.specs.Codes.{code_at}
use Rattle.shadow_memory.specs.Parts.{part_of}
use Rattle.shadow_memory.proofs.Taking.{four-alike}
use Rattle.shadow_memory.proofs.codes.Codes.filled.Goals as goal

-- over any length, since a list of 1,024 bytes would be opened byte by byte
as-long : (packed : List ℕ) (n byte : ℕ) → packed ≡ replicate n byte → length packed ≡ n
as-long packed n byte same = ap length same ∙ length-replicate n byte

number-at : (packed : List ℕ) (n code at : ℕ) → packed ≡ replicate n (code * 85) → at / 4 < n → code < 4
    → part_of (slice_index packed (at / 4)) (at % 4) ≡ code
number-at packed n code at same within small =
    ap (λ b. part_of b (at % 4)) (ap (λ (xs : List ℕ). slice_index xs (at / 4)) same
    ∙ get_or-replicate n (at / 4) (code * 85) 0 within)
    ∙ four-alike code (at % 4) small (omega arith)

pub invariant_of-result : goal.invariant_of-result
invariant_of-result c =
    omega (
      arith,
      as-long c.in_ok-packed.packed.items 1024 (c.args.code * 85)
          (c.in_ok-packed.ensures.items_if_clones_equal (λ y h. h)),
    )

pub returns : goal.returns
unfolding code_at
returns c =
    λ at small. number-at c.in_ok-packed.packed.items 1024 c.args.code at
    (c.in_ok-packed.ensures.items_if_clones_equal (λ y h. h)) (omega arith) c.requires
