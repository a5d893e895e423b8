-- The replies to looks that list something: the calls that a state is in, the blocks of its heap, what happens in
-- steps.
use Rattle.std.specs.Prelude.{◌≡◌, ℕ, zero, suc, ◌+◌, ◌-◌, ◌<◌, if◌then◌else◌, is_some, map, slice_get, take, unwrap_or}
use Rattle.std.specs.Prelude.{List, [], ◌∷◌, ◌++◌, Option, Some, None, codes, decimal}
use Rattle.std.specs.List.{flat_map}
use Rattle.checkpoints.specs.declared.happenings.Happened.{Happened}
use Rattle.checkpoints.specs.declared.happenings.Happening.{Happening}
use Rattle.checkpoints.specs.declared.happenings.Happening.TheVariants.{Call, Return, Heap, Input, Output}
use Rattle.guest_heap.specs.Blocks.{Blocks, IsFirstKept, IsKept}
use Rattle.guest_machine.specs.State.{State}
use Rattle.call_stacks.specs.declared.block.Block.{Block}
use Rattle.report_lines.specs.Text.{address_text, newline}

abbrev pub spaced : ℕ → List ℕ
spaced a = codes " " ++ address_text a

-- ---- calls

-- pc, and the sites of the calls that a state is in, newest first
unfoldable pub stack_text : State → List ℕ
stack_text s =
    codes "stack" ++ flat_map spaced (s.core.pc ∷ map (λ frame. frame.site) s.core.frames) ++ newline

-- ---- blocks

-- the number of blocks that a look may list
abbrev pub most_blocks : ℕ
most_blocks = 64

-- a list has the kept blocks from an address on, in order of their starts: all of them, or as many as there may be, and
-- then where the next one starts
unfoldable pub AreKept : Blocks → ℕ → ℕ → List Block → Option ℕ → Type 0
AreKept blocks from most [] None = (b : Block) → IsKept blocks b → b.start < from
AreKept blocks from most [] (Some next) = (most ≡ 0) × ((b : Block) × IsFirstKept blocks from b × (b.start ≡ next))
AreKept blocks from zero (b ∷ bs) next = ⊥
AreKept blocks from (suc most) (b ∷ bs) next = IsFirstKept blocks from b × AreKept blocks (b.start + 1) most bs next

-- up to three addresses of the trace that Memcheck's messages show first: where the block was freed, or, of a live one,
-- where it was allocated
abbrev pub trace_shown : Block → List ℕ
trace_shown b = take 3 (unwrap_or b.freed b.trace)

-- a block: its start, its size, whether it is live or freed, and the front of its trace
unfoldable pub block_line : Block → List ℕ
block_line b =
    codes "block " ++ address_text b.start ++ codes " " ++ decimal b.size
    ++ (if is_some b.freed then codes " freed" else codes " live")
    ++ flat_map spaced (trace_shown b) ++ newline

-- the last line: where the next block starts, or that there are no more
unfoldable pub blocks_end : Option ℕ → List ℕ
blocks_end None = codes "end\n"
blocks_end (Some next) = codes "next " ++ address_text next ++ newline

-- a text lists the kept blocks from an address on
pub record ListsBlocks (blocks : Blocks) (from : ℕ) (text : List ℕ) : Type 0 where
  pub listed : List Block
  pub next : Option ℕ
  pub kept : AreKept blocks from most_blocks listed next
  pub lines : text ≡ flat_map block_line listed ++ blocks_end next

-- ---- what happens in steps

-- the number of things that a look may list
abbrev pub most_happened : ℕ
most_happened = 1024

-- what a step does: where a call or a return goes on, with the number of frames then, as for a heap call; the number of
-- bytes that are read or written
unfoldable pub what_text : Happening → List ℕ
what_text (Call to depth) = codes "call " ++ address_text to ++ codes " " ++ decimal depth
what_text (Return to depth) = codes "return " ++ address_text to ++ codes " " ++ decimal depth
what_text (Heap depth) = codes "heap " ++ decimal depth
what_text (Input count) = codes "input " ++ decimal count
what_text (Output count) = codes "output " ++ decimal count

unfoldable pub happened_line : Happened → List ℕ
happened_line happened = decimal happened.step ++ codes " " ++ what_text happened.what ++ newline

-- the last line: after as many as there may be the step after the last of them, else that there are no more
unfoldable pub calls_end : Option Happened → List ℕ
calls_end None = codes "end\n"
calls_end (Some last) = codes "next " ++ decimal (last.step + 1) ++ newline

unfoldable pub calls_text : List Happened → List ℕ
calls_text found = flat_map happened_line found ++ calls_end (slice_get found (most_happened - 1))
