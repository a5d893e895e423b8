-- A search has one result.
use Rattle.std.specs.Prelude.{◌≡◌, List}
use Rattle.guest_machine.specs.State.{State}
use Rattle.leak_search.specs.declared.record.LeakRecord.{LeakRecord}
use Rattle.leak_search.specs.Records.{AreRecordsOf}

-- two lists of records of one state are equal
abbrev pub RecordsAreOne : Type 0
RecordsAreOne = (s : State) (xs ys : List LeakRecord) → AreRecordsOf s xs → AreRecordsOf s ys → xs ≡ ys
