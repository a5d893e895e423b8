use Rattle.std.proofs.Common.{◌≡◌, ◌+◌, ℕ, arith, subst}
use Rattle.shadow_memory.specs.Comparisons.{HaveBytesOf}
use Rattle.shadow_memory.specs.Memories.{bytes_in, cells_of, shadows_in}
use Rattle.shadow_memory.specs.Views.{cells_seen}
use Rattle.shadow_memory.proofs.Comparing.{bytes-are, page-more}
use Rattle.shadow_memory.proofs.memory.Memory.has_bytes_of.Goals as goal

pub loop-done-preserved : goal.loop-done-preserved
loop-done-preserved c =
    let n = c.count_in_page-count.result in
    let at = c.args.from + c.loop-done.done in
    let next : at + n ≡ c.args.from + (c.loop-done.done + n) = omega arith in
    let to-here = λ (to : ℕ). HaveBytesOf (cells_of c.args.self.now) (cells_of c.args.other.now) c.args.from to in
    record {
      within = omega arith;
      bytes =
          subst to-here next
          (page-more (cells_of c.args.self.now) (cells_seen c.view.result) (cells_of c.args.other.now)
          (cells_seen c.view-in-loop-done.result) at n c.count_in_page-count.ensures.one_page c.view.ensures
          c.view-in-loop-done.ensures c.args.from (c.has_bytes_of.ensures c.if-not-has_bytes_of.false)
          c.loop-done.invariant.bytes);
    }

pub returns : goal.returns
unfolding bytes_in shadows_in
returns c yes-all a n few start below =
    bytes-are (cells_of c.args.self.now) (cells_of c.args.other.now) c.args.from (c.args.from + c.loop-done.done) a n
    (omega arith) c.loop-done.invariant.bytes start (omega arith)
