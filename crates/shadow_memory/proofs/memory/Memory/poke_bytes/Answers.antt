use Rattle.std.proofs.Common.{◌∙◌, ◌<◌, ◌^◌, arith, refl, sym}
use Rattle.shadow_memory.specs.Memories.{bytes_in}
use Rattle.shadow_memory.specs.Ranges.{byte_of, written}
use Rattle.shadow_memory.proofs.Growing.{byte-more, range-empty}
use Rattle.shadow_memory.proofs.Seen.{at_refusal}
use Rattle.shadow_memory.proofs.memory.Memory.poke_bytes.Goals as goal

pub loop-i-preserved : goal.loop-i-preserved
loop-i-preserved c =
    let small : c.args.addr < 2 ^ 32 = omega arith in
    let few : c.loop-i.i < 2 ^ 32 = omega arith in
    record {
      bytes =
          c.in_ok-poke.ensures.bytes
          ∙ byte-more (bytes_in c.args.self.now) (bytes_in c.loop-i.self) c.args.addr c.loop-i.i
          (byte_of c.args.number) _ small few c.loop-i.invariant.bytes c.byte_at.ensures;
      shadows = c.in_ok-poke.ensures.shadows ∙ c.loop-i.invariant.shadows;
    }

pub returns-in_err-poke-clause-shadows : goal.returns-in_err-poke-clause-shadows
returns-in_err-poke-clause-shadows c = c.in_err-poke.ensures.shadows ∙ c.loop-i.invariant.shadows

pub returns-in_err-poke-clause-err : goal.returns-in_err-poke-clause-err
returns-in_err-poke-clause-err c =
    let below : c.loop-i.i < c.args.len = omega arith in
    at_refusal c.from_residual.result (c.loop-i.i, below, c.in_err-poke.ensures.err ∙ c.loop-i.invariant.bytes)

pub loop-i-init : goal.loop-i-init
unfolding written
loop-i-init c = record {
  bytes = sym (range-empty (bytes_in c.args.self.now) c.args.addr (λ i b. byte_of c.args.number i));
  shadows = refl;
}
