use Rattle.std.proofs.Common.{◌≡◌, ◌∙◌, ◌<◌, ◌+◌, ◌*◌, ◌-◌, ◌++◌, ◌/◌, ◌%◌, ap, length, arith}
use Rattle.std.proofs.lemmas.List.{length-set}
use Rattle.error_events.specs.Counts.{in_chunks}
use Rattle.error_events.specs.CountLists.{counts_of}
use Rattle.error_events.proofs.CountSteps.{length-counts, long-chunk, full-set, raised-ok, raised-err, raised-recent}
use Rattle.error_events.proofs.counts.Counts.raise.Goals as goal

pub raise_in-requires : goal.raise_in-requires
raise_in-requires c =
    let within : c.args.index / 256 < length c.args.self.now.chunks.items = omega arith in
    let long = long-chunk c.args.self.now (c.args.index / 256) c.index_mut.result.now _ within
    c.index_mut.ensures.value in
    omega (arith, long)

pub invariant_of-self : goal.invariant_of-self
invariant_of-self c =
    let within : c.args.index / 256 < length c.args.self.now.chunks.items = omega arith in
    let long = long-chunk c.args.self.now (c.args.index / 256) c.index_mut.result.now _ within
    c.index_mut.ensures.value in
    let same = length-set c.args.self.now.chunks.items (c.args.index / 256) c.raise_in.new.chunk in
    let few = c.args.self.now.few in
    record {
      full =
          full-set c.args.self.now.chunks.items (c.args.index / 256) c.raise_in.new.chunk c.args.self.now.full
          (c.raise_in.ensures.long ∙ long);
      few = omega (arith, same, few);
    }

pub returns-then-chunk-len-clause-ok : goal.returns-then-chunk-len-clause-ok
unfolding counts_of
returns-then-chunk-len-clause-ok c =
    let at : c.args.index ≡ 256 * (c.args.index / 256) + c.args.index % 256 = omega arith in
    let within : c.args.index / 256 < length c.args.self.now.chunks.items = omega arith in
    raised-ok c.args.self.now (c.args.index / 256) c.index_mut.result.now _ within c.index_mut.ensures.value
    c.raise_in.result (c.args.index % 256) c.args.index
    c.args.by c.raise_in.new.chunk (omega arith) at c.raise_in.ensures.ok

pub returns-then-chunk-len-clause-err : goal.returns-then-chunk-len-clause-err
unfolding counts_of
returns-then-chunk-len-clause-err c =
    let within : c.args.index / 256 < length c.args.self.now.chunks.items = omega arith in
    raised-err c.args.self.now (c.args.index / 256) c.index_mut.result.now _ within c.index_mut.ensures.value
    c.raise_in.result c.raise_in.new.chunk c.raise_in.ensures.err

pub raise_at-requires : goal.raise_at-requires
raise_at-requires c = let all = length-counts c.args.self.now in let within = c.requires in omega (arith, all, within)

pub returns-clause-ok : goal.returns-clause-ok
unfolding counts_of
returns-clause-ok c =
    let at : c.args.index ≡ 256 * length c.args.self.now.chunks.items
    + (c.args.index - 256 * c.len-2.result) = omega arith in
    ap (λ l. in_chunks c.args.self.now.chunks.items ++ l) c.raise_at.ensures
    ∙ raised-recent c.args.self.now (c.args.index - 256 * c.len-2.result) c.args.index c.args.by at
