use Rattle.std.proofs.Common.{nat_lt, sym, subst}
use Rattle.checkpoints.specs.Effects.{Tells}
use Rattle.checkpoints.specs.FirstEffects.{InputShows}
use Rattle.checkpoints.proofs.EffectSteps.{told-end, told-heap, told-input}
use Rattle.checkpoints.proofs.cuts.has_shown_in.Goals as goal

pub returns-in-Input : goal.returns-in-Input
returns-in-Input c start setup marks k h =
    rw c.in-Input.is (subst (λ o. Tells (InputShows c.in-Input.offset start setup marks) k (nat_lt o c.position.result))
    (sym c.from.ensures)
    (told-input c.reads_on.ensures start setup marks c.in-Input.offset c.position.result k (c.position.ensures _ h)))

pub returns-in-End : goal.returns-in-End
returns-in-End c start setup marks k h =
    rw c.in-End.is (told-end c.end_stays.ensures start setup marks c.end_seen.result k (c.end_seen.ensures _ h))

pub returns-in-Heap : goal.returns-in-Heap
returns-in-Heap c start setup marks k h =
    rw c.in-Heap.is (told-heap c.keeps_heap.ensures start setup marks c.heap_calls.result k (c.heap_calls.ensures _ h))
