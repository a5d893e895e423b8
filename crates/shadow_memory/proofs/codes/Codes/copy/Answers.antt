use Rattle.std.proofs.Common.{◌≡◌, ◌∙◌, ◌≤◌, ◌<◌, ◌+◌, ◌-◌, ℕ, ap, arith}
use Rattle.shadow_memory.specs.Places.{changed_from}
use Rattle.shadow_memory.specs.Codes.{code_at}
use Rattle.shadow_memory.specs.Parts.{loaded_code, taken_code}
use Rattle.shadow_memory.proofs.Growing.{changed-joins}
use Rattle.shadow_memory.proofs.codes.Codes.copy.Goals as goal

pub loop-place-preserved : goal.loop-place-preserved
loop-place-preserved c =
    let from = c.args.from in
    let place = c.loop-place.place in
    let next = c.copy_some-place.result in
    let start : from ≤ place = c.loop-place.invariant.start in
    let on : place < next = c.copy_some-place.ensures.on in
    let source = code_at c.args.source.now in
    let change : ℕ → ℕ → ℕ = λ i old. taken_code (loaded_code (source (from + i))) old in
    let part : ℕ → ℕ → ℕ = λ i old. taken_code (loaded_code (source (place + i))) old in
    let all : place - from + (next - place) ≡ next - from = omega arith in
    record {
      start = omega arith;
      within = c.copy_some-place.ensures.within;
      set =
          λ k. changed-joins (code_at c.args.self.now) (code_at c.loop-place.self) (code_at c.copy_some-place.new.self)
          c.args.at (place - from) (next - place)
          change part c.loop-place.invariant.set c.copy_some-place.ensures.set
          (λ i below x. let e : place + i ≡ from + (place - from + i) = omega arith in
          ap (λ j. taken_code (loaded_code (source j)) x) e) k
          ∙ ap (λ n. changed_from (code_at c.args.self.now) c.args.at n change k) all;
    }

pub returns : goal.returns
returns c = λ k.
    let change : ℕ → ℕ → ℕ = λ i old. taken_code (loaded_code (code_at c.args.source.now (c.args.from + i))) old in
    let all : c.loop-place.place - c.args.from ≡ c.args.count = omega arith in
    c.loop-place.invariant.set k ∙ ap (λ n. changed_from (code_at c.args.self.now) c.args.at n change k) all
