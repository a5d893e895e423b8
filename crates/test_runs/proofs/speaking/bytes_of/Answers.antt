use Rattle.std.proofs.Common.{◌∙◌, ◌∷◌, ◌++◌, ℕ, List, [], ap₂, sym, arith}
use Rattle.std.proofs.lemmas.List.FromFn.{map-range_with_len_more}
use Rattle.shadow_memory.specs.Memories.{bytes_in}
use Rattle.shadow_memory.specs.Ranges.{window}
use Rattle.test_runs.proofs.Steps.{in-window}
use Rattle.test_runs.proofs.speaking.bytes_of.Goals as goal

pub loop-i-preserved : goal.loop-i-preserved
loop-i-preserved c =
    let f = window (bytes_in c.args.memory.now) c.args.range.start c.args.range.len in
    record {
      bytes =
          c.in_ok-push.ensures.items
          ∙ ap₂ (λ (xs : List ℕ) b. xs ++ b ∷ []) c.loop-i.invariant.bytes
          (c.byte.ensures.byte
          ∙ sym (in-window (bytes_in c.args.memory.now) c.args.range.start c.args.range.len c.loop-i.i
          (omega (arith, c.loop-i-test.true, c.loop-i.auto.i-end))))
          ∙ sym (map-range_with_len_more f 0 c.loop-i.i c.loop-i.i (omega arith));
    }
