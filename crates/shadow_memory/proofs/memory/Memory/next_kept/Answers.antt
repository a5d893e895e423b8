use Rattle.std.proofs.Common.{◌≡◌, ◌∙◌, ◌*◌, ◌<◌, ◌≤◌, ◌/◌, ◌%◌, ap, arith, get_or, length, rules, sym, vec_len}
use Rattle.shadow_memory.specs.Memories.{cells_of}
use Rattle.shadow_memory.proofs.Tables.{seen-there}
use Rattle.shadow_memory.proofs.Skipping.{no-shelf}
use Rattle.shadow_memory.proofs.memory.Memory.next_kept.Goals as goal

pub returns-then-top-len-clause-blank : goal.returns-then-top-len-clause-blank
unfolding cells_of
returns-then-top-len-clause-blank c = λ a from below.
    let tops = c.args.self.now.tops in
    let long : vec_len tops ≡ length tops.items = search rules in
    let past : length tops.items ≤ a / 134217728 = omega (arith, c.if-top-len.true, c.len.ensures, long, from) in
    no-shelf tops.items (a / 134217728) (a % 134217728) past

pub returns-clause-blank : goal.returns-clause-blank
unfolding cells_of
returns-clause-blank c = λ a from below.
    let tops = c.args.self.now.tops in
    let long : vec_len tops ≡ length tops.items = search rules in
    let number = c.args.number in
    let at : number * 4096 / 134217728 ≡ number / 32768 = omega arith in
    let within : number * 4096 / 134217728 < length tops.items = omega
    (arith, c.if-top-len.false, c.len.ensures, long, at) in
    let here : a / 134217728 ≡ number * 4096 / 134217728 = omega (arith, from, below, c.next_kept.ensures.within) in
    let later : number % 32768 ≤ a % 134217728 / 4096 = omega (arith, from, here) in
    let before : a % 134217728 / 4096 < c.next_kept.result = omega (arith, below, here) in
    let there : c.index.result.now ≡ get_or tops.items (number * 4096 / 134217728) c.index.result.now =
    c.index.ensures ∙ ap (λ k. get_or tops.items k c.index.result.now) (sym at) in
    seen-there tops.items c.index.result.now (number * 4096) a within there here
    ∙ c.next_kept.ensures.blank (a % 134217728) later before
