-- The report of a state: its lines in order.
use Rattle.std.specs.Prelude.{◌≡◌, ℕ, List, ◌++◌, length}
use Rattle.std.specs.List.{flat_map}
use Rattle.guest_elf.specs.declared.image.Image.{Image}
use Rattle.guest_machine.specs.State.{State}
use Rattle.leak_search.specs.Records.{AreRecordsOf}
use Rattle.leak_search.specs.declared.record.LeakRecord.{LeakRecord}
use Rattle.suppressions.specs.Rules.{Rule}
use Rattle.report_lines.specs.Lines.{step_line, state_line, input_line, output_line, group_lines, summary_line}
use Rattle.replay_report.specs.Filtering.{shown_groups, hidden_groups}
use Rattle.replay_report.specs.LeakLines.{leak_section}
use Rattle.replay_report.specs.declared.options.Options.{Options}

-- the first lines: the step, the state of the machine, its input and its output
unfoldable pub head_lines : State → ℕ → ℕ → List ℕ
head_lines s step input_len =
    step_line step ++ state_line s.core.status s.core.pc ++ input_line s.position input_len
    ++ output_line (length s.output)

-- the report at a step, for an input of this length, given the records of the live blocks
unfoldable pub report_text : State → Image → List Rule → Options → ℕ → ℕ → List LeakRecord → List ℕ
report_text s image rules options step input_len records =
    let shown = shown_groups rules image options.callers s.events in
    head_lines s step input_len
    ++ flat_map (group_lines image options.callers) shown
    ++ leak_section image rules options records
    ++ summary_line shown (hidden_groups rules image options.callers s.events)

-- a text is the report of a state: the one with the records of its live blocks, whose kinds paths of pointers define
unfoldable pub IsReport : State → Image → List Rule → Options → ℕ → ℕ → List ℕ → Type 0
IsReport s image rules options step input_len text =
    (records : List LeakRecord) × AreRecordsOf s records
    × (text ≡ report_text s image rules options step input_len records)

-- a report, and nothing else, was appended
abbrev pub AppendsReport : (List ℕ → Type 0) → List ℕ → List ℕ → Type 0
AppendsReport is_report old new = (text : List ℕ) × is_report text × (new ≡ old ++ text)
