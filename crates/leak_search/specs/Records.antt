-- The records of a state.
use Rattle.std.specs.Prelude.{List}
use Rattle.guest_heap.specs.Steps.{live_list}
use Rattle.guest_machine.specs.State.{State}
use Rattle.guest_machine.specs.Registers.{register}
use Rattle.leak_search.specs.declared.record.LeakRecord.{LeakRecord}
use Rattle.leak_search.specs.Words.{word_at}
use Rattle.leak_search.specs.Search.{Scene, AreRecordsIn}

-- what a search looks at in a state
abbrev pub scene_of : State → Scene
scene_of s = record {
  word = word_at s.bytes s.core.shadow;
  register = register s.core;
  blocks = live_list s.core.blocks;
}

-- one record for each live block of a state, in order of address
unfoldable pub AreRecordsOf : State → List LeakRecord → Type 0
AreRecordsOf s entries = AreRecordsIn (scene_of s) entries
