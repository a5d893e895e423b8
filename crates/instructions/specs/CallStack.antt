-- What a jump does to the call stack: the hints for a return-address stack (RISC-V Unprivileged ISA 20191213, section
-- 2.5, table 2.1). A link register is x1 or x5.
use Rattle.std.specs.Prelude.{ℕ, ◌==◌, ◌||◌, Bool, true, false, List}
use Rattle.call_stacks.specs.Frames.{called, returned}
use Rattle.call_stacks.specs.declared.stack.Frame.{Frame}
use Rattle.instructions.specs.declared.hint.StackHint.{StackHint}
use Rattle.instructions.specs.declared.hint.StackHint.TheVariants.{NoHint, Pop, Push, PopPush}

abbrev pub is_link : ℕ → Bool
is_link r = (r == 1) || (r == 5)

-- by whether rd is a link, whether rs1 is, and whether they are the same register
unfoldable pub hint_by : Bool → Bool → Bool → StackHint
hint_by false false same = NoHint
hint_by false true same = Pop
hint_by true false same = Push
hint_by true true false = PopPush
hint_by true true true = Push

-- JAL pushes if rd is a link register
abbrev pub jal_hint : ℕ → StackHint
jal_hint rd = hint_by (is_link rd) false false

abbrev pub jalr_hint : ℕ → ℕ → StackHint
jalr_hint rd rs1 = hint_by (is_link rd) (is_link rs1) (rd == rs1)

-- the frame of a call at pc, whose next instruction in memory is at an address
abbrev pub frame_at : ℕ → ℕ → Frame
frame_at pc next = record { site = pc; return_to = next }

-- the calls after a jump at pc to an address
unfoldable pub hinted : StackHint → ℕ → ℕ → ℕ → List Frame → List Frame
hinted NoHint pc next to frames = frames
hinted Pop pc next to frames = returned to frames
hinted Push pc next to frames = called (frame_at pc next) frames
hinted PopPush pc next to frames = called (frame_at pc next) (returned to frames)
