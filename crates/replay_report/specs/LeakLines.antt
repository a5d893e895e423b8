-- The lines of a report on leaked blocks, each with its newline (Memcheck manual, section 4.2, "Memory leak
-- detection").
use Rattle.std.specs.Prelude.{ℕ, Bool, if◌then◌else◌, List, [], ◌++◌, codes}
use Rattle.std.specs.List.{flat_map}
use Rattle.std.specs.Fmt.{decimal}
use Rattle.guest_elf.specs.declared.image.Image.{Image}
use Rattle.leak_graph.specs.declared.leak_kind.LeakKind.{LeakKind}
use Rattle.leak_graph.specs.declared.leak_kind.LeakKind.TheVariants.{Definite, Indirect, Possible, Reachable}
use Rattle.leak_search.specs.declared.record.LeakRecord.{LeakRecord}
use Rattle.suppressions.specs.Rules.{Rule}
use Rattle.report_lines.specs.Text.{newline}
use Rattle.report_lines.specs.Lines.{trace_lines}
use Rattle.replay_report.specs.Leaks.{shown_records, hidden_records, of_kind, sum_of, leak_groups, is_shown}
use Rattle.replay_report.specs.declared.options.Options.{Options}
use Rattle.replay_report.specs.declared.leaks.LeakKey.{LeakKey}
use Rattle.replay_report.specs.declared.leaks.BlockSum.{BlockSum}

-- how a block was lost, or that it wasn't
abbrev pub leak_text : LeakKind → List ℕ
leak_text Definite = codes "definitely lost"
leak_text Indirect = codes "indirectly lost"
leak_text Possible = codes "possibly lost"
leak_text Reachable = codes "still reachable"

-- `N bytes in B blocks`
unfoldable pub amount_text : BlockSum → List ℕ
amount_text sum = decimal sum.bytes ++ codes " bytes in " ++ decimal sum.blocks ++ codes " blocks"

-- `leak N bytes in B blocks are K`
unfoldable pub leak_line : BlockSum → LeakKind → List ℕ
leak_line sum kind = codes "leak " ++ amount_text sum ++ codes " are " ++ leak_text kind ++ newline

-- the lines of a group of leaks, if its kind is shown
unfoldable pub leak_lines : Image → List Bool → LeakKey × BlockSum → List ℕ
leak_lines image show g = if is_shown show g.0.kind then leak_line g.1 g.0.kind ++ trace_lines image g.0.trace else []

-- `NAME: N bytes in B blocks`
unfoldable pub blocks_line : List ℕ → BlockSum → List ℕ
blocks_line name sum = name ++ codes ": " ++ amount_text sum ++ newline

abbrev pub kind_line : LeakKind → List LeakRecord → List ℕ
kind_line kind records = blocks_line (leak_text kind) (sum_of (of_kind kind records))

-- how much was lost in each way, how much wasn't lost, and how much is suppressed
unfoldable pub total_lines : List LeakRecord → List LeakRecord → List ℕ
total_lines shown hidden =
    kind_line Definite shown ++ kind_line Indirect shown ++ kind_line Possible shown ++ kind_line Reachable shown
    ++ blocks_line (codes "suppressed") (sum_of hidden)

-- all lines of a report on leaks, given the records of the live blocks
unfoldable pub leak_section : Image → List Rule → Options → List LeakRecord → List ℕ
leak_section image rules options records =
    let shown = shown_records rules image records in
    flat_map (leak_lines image options.show) (leak_groups options.callers shown)
    ++ total_lines shown (hidden_records rules image records)
