-- The outline of a state: how the machine ended, and each error and each leak that its report shows. It leaves out what
-- differs among runs with the same outcome: the number of steps, how often an error happened, the sizes of blocks, and
-- the notes on addresses.
use Rattle.std.specs.Prelude.{◌≡◌, ℕ, Bool, if◌then◌else◌, List, [], ◌++◌, codes, drop, take, length, map}
use Rattle.std.specs.List.{flat_map}
use Rattle.std.specs.Fmt.{decimal}
use Rattle.guest_elf.specs.declared.image.Image.{Image}
use Rattle.guest_machine.specs.State.{State}
use Rattle.run_values.specs.declared.status.Status.{Status}
use Rattle.run_values.specs.declared.status.Status.TheVariants.{Running, Exited, Stopped}
use Rattle.run_values.specs.declared.status.Stop.{Stop}
use Rattle.run_values.specs.declared.status.Stop.TheVariants.{Jump as JumpStop}
use Rattle.error_events.specs.declared.kind.Kind.{Kind}
use Rattle.error_events.specs.declared.kind.Kind.TheVariants.{Jump}
use Rattle.error_events.specs.declared.event.Group.{Group}
use Rattle.leak_search.specs.Records.{AreRecordsOf}
use Rattle.leak_search.specs.declared.record.LeakRecord.{LeakRecord}
use Rattle.suppressions.specs.Rules.{Rule}
use Rattle.report_lines.specs.Text.{address_text, newline}
use Rattle.report_lines.specs.Lines.{kind_text, stop_word, output_line, trace_lines}
use Rattle.replay_report.specs.LeakLines.{leak_text}
use Rattle.replay_report.specs.Filtering.{shown_groups}
use Rattle.replay_report.specs.Leaks.{shown_records, leak_groups, is_shown}
use Rattle.replay_report.specs.declared.options.Options.{Options}
use Rattle.replay_report.specs.declared.leaks.LeakKey.{LeakKey}

-- where a machine stopped; nothing after a bad jump, since jumps of one cause go anywhere
unfoldable pub stop_place : Stop → ℕ → List ℕ
stop_place JumpStop pc = []
stop_place _ pc = codes " " ++ address_text pc

-- `running`, `exited C`, `stopped W A` or `stopped jump`
unfoldable pub end_line : Status → ℕ → List ℕ
end_line Running pc = codes "running" ++ newline
end_line (Exited code) pc = codes "exited " ++ decimal code ++ newline
end_line (Stopped stop) pc = codes "stopped " ++ stop_word stop ++ stop_place stop pc ++ newline

-- the part of a trace that is shown: for a bad jump, all but the first address, to which it went
unfoldable pub told_trace : Kind → List ℕ → List ℕ
told_trace Jump trace = drop 1 trace
told_trace _ trace = trace

-- the text of an error, and its trace, cut to a number of addresses
unfoldable pub error_outline : Image → ℕ → Group → List ℕ
error_outline image callers group =
    kind_text group.kind ++ newline ++ trace_lines image (told_trace group.kind (take callers group.trace))

-- how blocks were lost, or that they weren't, and where they were allocated, if their kind is shown
unfoldable pub leak_outline : Image → List Bool → LeakKey → List ℕ
leak_outline image show key =
    if is_shown show key.kind then leak_text key.kind ++ newline ++ trace_lines image key.trace else []

-- how the machine ended, and the number of bytes written, if that is asked for
unfoldable pub outline_head : State → Bool → List ℕ
outline_head s with_output =
    end_line s.core.status s.core.pc ++ (if with_output then output_line (length s.output) else [])

-- the lines of leaks, given the records of the live blocks
unfoldable pub leak_outlines : Image → List Rule → Options → List LeakRecord → List ℕ
leak_outlines image rules options records =
    flat_map (leak_outline image options.show)
    (map (λ g. g.0) (leak_groups options.callers (shown_records rules image records)))

-- the outline, given the records of the live blocks
unfoldable pub outline_text : State → Image → List Rule → Options → Bool → List LeakRecord → List ℕ
outline_text s image rules options with_output records =
    outline_head s with_output
    ++ flat_map (error_outline image options.callers) (shown_groups rules image options.callers s.events)
    ++ leak_outlines image rules options records

-- a text is the outline of a state: the one with the records of its live blocks, whose kinds paths of pointers define
unfoldable pub IsOutline : State → Image → List Rule → Options → Bool → List ℕ → Type 0
IsOutline s image rules options with_output text =
    (records : List LeakRecord) × AreRecordsOf s records
    × (text ≡ outline_text s image rules options with_output records)
