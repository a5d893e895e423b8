use Rattle.std.proofs.Common.{◌+◌, List, subst, sym}
use Rattle.shadow_memory.specs.Comparisons.{DifferBelow}
use Rattle.shadow_memory.specs.Memories.{bytes_in, cells_of}
use Rattle.shadow_memory.specs.Views.{cells_seen}
use Rattle.shadow_memory.specs.declared.differences.WordApart.{WordApart}
use Rattle.shadow_memory.proofs.Differing.{page-continues}
use Rattle.shadow_memory.proofs.memory.Memory.push_words.Goals as goal

pub loop-at-preserved : goal.loop-at-preserved
unfolding bytes_in
loop-at-preserved c =
    let cells = cells_of c.args.self.now in
    let others = cells_of c.args.other.now in
    let to = c.next_apart-at-in-loop-at.result in
    record {
      within = c.next_apart-at-in-loop-at.ensures.within;
      aligned = c.next_apart-at-in-loop-at.ensures.aligned;
      known =
          subst (λ (words : List WordApart). DifferBelow words cells others (c.args.addr + to))
          (sym {A = List WordApart} c.in_ok-push.ensures.items)
          (page-continues cells others (cells_seen c.view-here.result) (cells_seen c.view-there.result) c.args.addr
          c.requires.page c.view-here.ensures c.view-there.ensures
          (c.has_marks_of.ensures c.if-not-has_marks_of.false) c.loop-at.words.items c.word_apart.result c.loop-at.at to
          c.next_apart-at-in-loop-at.ensures.start c.next_apart-at-in-loop-at.ensures.within c.word_apart.ensures.addr
          c.word_apart.ensures.word c.next_apart-at-in-loop-at.ensures.same c.loop-at.invariant.known);
    }
