use Rattle.std.proofs.Common.{◌≡◌, ◌∙◌, ◌<◌, ◌/◌, ℕ, ap₂, length, arith, rules, vec_len}
use Rattle.std.proofs.lemmas.List.{get_or_default}
use Rattle.shadow_memory.specs.Codes.{code_at}
use Rattle.shadow_memory.specs.Parts.{loaded_code, part_of, taken_code}
use Rattle.shadow_memory.proofs.Taking.{four-copied}
use Rattle.shadow_memory.proofs.codes.Codes.copy_four.Goals as goal

pub returns : goal.returns
unfolding code_at
returns c =
    let packed = c.args.self.now.packed.items in
    let source = c.args.source.now.packed.items in
    let long : vec_len c.args.self.now.packed ≡ length packed = search rules in
    let source-long : vec_len c.args.source.now.packed ≡ length source = search rules in
    let within : c.args.at / 4 < length packed = omega arith in
    let source-within : c.args.from / 4 < length source = omega arith in
    let source-byte = c.index.ensures ∙ get_or_default source (c.args.from / 4) c.index.result.now 0 source-within in
    let byte = c.index-2.ensures ∙ get_or_default packed (c.args.at / 4) c.index-2.result.now 0 within in
    four-copied packed source c.args.at c.args.from c.copied_four.result c.requires.aligned c.requires.from_aligned
    within
    (λ k small. c.copied_four.ensures k small
    ∙ ap₂ (λ (s t : ℕ). taken_code (loaded_code (part_of s k)) (part_of t k)) source-byte byte)
