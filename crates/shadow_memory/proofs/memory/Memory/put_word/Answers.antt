use Rattle.std.proofs.Common.{◌≡◌, ◌∙◌, ◌+◌, ◌%◌, ◌^◌, ◌<◌, ◌≤◌, ℕ, ap, arith, length, sym, take}
use Rattle.std.proofs.lemmas.List.{length-take-le}
use Rattle.shadow_memory.specs.Changes.{stored}
use Rattle.shadow_memory.specs.Memories.{cells_of}
use Rattle.shadow_memory.specs.Ranges.{changed_in}
use Rattle.shadow_memory.proofs.Storing.{at-most-four, all-accessible, store-word}
use Rattle.shadow_memory.proofs.memory.Memory.put_word.Goals as goal

pub returns-clause-done : goal.returns-clause-done
returns-clause-done c done =
    let small : c.args.addr < 2 ^ 32 = omega arith in
    let few : c.args.n ≤ 4 = at-most-four c.args.n c.requires in
    let long : length c.word_bytes-bytes.result ≡ 4 = omega arith in
    let page : c.args.addr % 4096 + c.args.n ≤ 4096 = omega arith in
    let zero : c.args.bits.undef ≡ 0 = omega arith in
    store-word (cells_of c.args.self.now) (cells_of c.put.new.self) c.args.addr c.args.n c.args.bits.value
    c.word_bytes-bytes.result
    small page few long c.word_bytes-bytes.ensures (c.put.ensures.done done)
    ∙ ap (λ (undef : ℕ). changed_in (cells_of c.args.self.now) c.args.addr c.args.n
    (stored (record { value = c.args.bits.value; undef = undef }))) (sym zero)

pub returns-clause-whole : goal.returns-clause-whole
returns-clause-whole c done =
    let small : c.args.addr < 2 ^ 32 = omega arith in
    let few : c.args.n ≤ 4 = at-most-four c.args.n c.requires in
    let page : c.args.addr % 4096 + c.args.n ≤ 4096 = omega arith in
    let long : length c.word_bytes-bytes.result ≡ 4 = omega arith in
    let whole : length (take c.args.n c.word_bytes-bytes.result)
    ≡ c.args.n = length-take-le c.args.n c.word_bytes-bytes.result (omega arith) in
    sym (all-accessible c.args.self.now c.args.addr c.args.n small page
    (λ k low high. c.put.ensures.whole done k low (omega (arith, high, whole))))
