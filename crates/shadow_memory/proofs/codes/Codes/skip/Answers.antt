use Rattle.std.proofs.Common.{◌≡◌, ℕ, List, ◌∙◌, ◌+◌, ◌-◌, ◌*◌, ◌/◌, ◌%◌, ◌<◌, ◌≤◌, sym, arith, ap, slice_index, drop}
use Rattle.std.proofs.Common.{take, length, inl, refl}
use Rattle.std.proofs.lemmas.List.{length-drop, length-take}
use Rattle.shadow_memory.specs.Codes.{code_at}
use Rattle.shadow_memory.specs.Parts.{part_of}
use Rattle.shadow_memory.proofs.Parts.{rest-read}
use Rattle.shadow_memory.proofs.Taking.{four-alike}
use Rattle.shadow_memory.proofs.codes.Codes.skip.Goals as goal

-- the number of a place whose byte was scanned
scanned : (packed xs : List ℕ) (from at code : ℕ) → xs ≡ packed → from ≤ at → from / 4 ≤ length xs → code < 4
    → slice_index (take (length xs - from / 4) (drop (from / 4) xs)) (at / 4 - from / 4) ≡ code * 85
    → part_of (slice_index packed (at / 4)) (at % 4) ≡ code
scanned packed xs from at code same start inside small is =
    let e : from / 4 + (at / 4 - from / 4) ≡ at / 4 = omega arith in
    let byte : slice_index packed (at / 4) ≡ code * 85 =
    ap (λ (l : List ℕ). slice_index l (at / 4)) (sym same) ∙ ap (slice_index xs) (sym e)
    ∙ sym (rest-read xs (from / 4) (from / 4) (at / 4 - from / 4) inside (inl refl)) ∙ is in
    ap (λ b. part_of b (at % 4)) byte ∙ four-alike code (at % 4) small (omega arith)

pub returns-in-Some-clause-same : goal.returns-in-Some-clause-same
unfolding code_at
returns-in-Some-clause-same c = λ at start below.
    let inside : c.args.from / 4 ≤ length c.deref.result.now = omega arith in
    scanned c.args.self.now.packed.items c.deref.result.now c.args.from at c.args.code c.deref.ensures.value start
    inside c.requires.small
    (c.in-Some.ensures.least (at / 4 - c.args.from / 4) (omega arith))

pub returns-in-None-clause-same : goal.returns-in-None-clause-same
unfolding code_at
returns-in-None-clause-same c = λ at start below.
    let inside : c.args.from / 4 ≤ length c.deref.result.now = omega arith in
    scanned c.args.self.now.packed.items c.deref.result.now c.args.from at c.args.code c.deref.ensures.value start
    inside c.requires.small
    (c.in-None.ensures.none (at / 4 - c.args.from / 4) (simp (length-take, length-drop) (omega arith)))
