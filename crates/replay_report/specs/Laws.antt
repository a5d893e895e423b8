-- A state has one report and one outline; and what the groups of leaks are.
use Rattle.std.specs.Prelude.{◌≡◌, ℕ, Bool, List, filter, map}
use Rattle.guest_elf.specs.declared.image.Image.{Image}
use Rattle.guest_machine.specs.State.{State}
use Rattle.leak_search.specs.declared.record.LeakRecord.{LeakRecord}
use Rattle.suppressions.specs.Rules.{Rule}
use Rattle.texts.specs.Distinct.{distinct}
use Rattle.replay_report.specs.Leaks.{key_of, leak_groups, same_key, sum_of}
use Rattle.replay_report.specs.Report.{IsReport}
use Rattle.replay_report.specs.Outlines.{IsOutline}
use Rattle.replay_report.specs.declared.options.Options.{Options}

-- two texts that are the report of one state are equal
abbrev pub ReportIsOne : Type 0
ReportIsOne = (s : State) (image : Image) (rules : List Rule) (options : Options) (step input_len : ℕ) (xs ys : List ℕ)
    → IsReport s image rules options step input_len xs → IsReport s image rules options step input_len ys → xs ≡ ys

-- two texts that are the outline of one state are equal
abbrev pub OutlineIsOne : Type 0
OutlineIsOne = (s : State) (image : Image) (rules : List Rule) (options : Options) (with_output : Bool) (xs ys : List ℕ)
    → IsOutline s image rules options with_output xs → IsOutline s image rules options with_output ys → xs ≡ ys

-- the groups of leaked blocks are the distinct keys of their records, in order of first occurrence, each with the sum
-- of all records that have that key
abbrev pub LeaksAreGrouped : Type 0
LeaksAreGrouped = (callers : ℕ) (records : List LeakRecord) → leak_groups callers records
    ≡ map (λ key. (key, sum_of (filter (λ r. same_key (key_of callers r) key) records)))
    (distinct same_key (map (key_of callers) records))
