use Rattle.std.proofs.Common.{ap}
use Rattle.std.proofs.lemmas.Result.{IfOk-weaker}
use Rattle.guest_heap.specs.Heaps.{blocks_of}
use Rattle.guest_heap.specs.Steps.{live_list}
use Rattle.leak_search.specs.Words.{word_at}
use Rattle.leak_search.specs.Gathering.{words_in, listed}
use Rattle.leak_search.proofs.Joining.{records_of}
use Rattle.leak_search.proofs.searching.search.Goals as goal

pub returns : goal.returns
returns c =
    IfOk-weaker c.search_in.result _ _
    (λ entries found s shows.
    records_of s (words_in c.memory.result.now) (listed c.registers_of-registers.result)
    (live_list (blocks_of c.heap.result.now)) entries.items
    (λ i. word_at (c.memory.ensures.bytes s shows i) (c.memory.ensures.shadows s shows i))
    (c.registers_of-registers.ensures s shows)
    (ap live_list (c.heap.ensures s shows))
    found)
    c.search_in.ensures
