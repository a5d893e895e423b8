-- Whether a state has anything that a report lists: an error or a leak that no suppression matches.
use Rattle.std.specs.Prelude.{◌≡◌, ◌||◌, ℕ, Bool, nat_lt, List, length}
use Rattle.std.specs.List.{list_any}
use Rattle.guest_elf.specs.declared.image.Image.{Image}
use Rattle.guest_machine.specs.State.{State}
use Rattle.leak_search.specs.Records.{AreRecordsOf}
use Rattle.leak_search.specs.declared.record.LeakRecord.{LeakRecord}
use Rattle.suppressions.specs.Rules.{Rule}
use Rattle.replay_report.specs.Filtering.{shown_groups}
use Rattle.replay_report.specs.Leaks.{is_shown, shown_records}

-- is a block of one of some kinds leaked?
abbrev pub has_leak : List Bool → List LeakRecord → Bool
has_leak kinds records = list_any (λ r. is_shown kinds r.kind) records

-- where these are the records of the live blocks
unfoldable pub has_findings : State → Image → List Rule → ℕ → List Bool → List LeakRecord → Bool
has_findings s image rules callers kinds records =
    nat_lt 0 (length (shown_groups rules image callers s.events)) || has_leak kinds (shown_records rules image records)

-- the answer for a state, with the records of its live blocks
abbrev pub HasFindings : State → Image → List Rule → ℕ → List Bool → Bool → Type 0
HasFindings s image rules callers kinds found =
    (records : List LeakRecord) × AreRecordsOf s records × (found ≡ has_findings s image rules callers kinds records)
