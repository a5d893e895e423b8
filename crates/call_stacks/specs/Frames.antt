-- Call stacks: lists of frames, newest first, as a stack of return addresses keeps them (RISC-V Unprivileged ISA
-- 20191213, section 2.5, "return-address stack"); the depth of stacks and traces is this project's own.
use Rattle.std.specs.Prelude.{ℕ, ◌+◌, ◌==◌, List, ◌∷◌, Option, Some, None, map, take, drop, position}
use Rattle.call_stacks.specs.declared.stack.Frame.{Frame}

-- a call is on the stack as a frame; of 257 frames the oldest is dropped
abbrev pub called : Frame → List Frame → List Frame
called frame frames = take 256 (frame ∷ frames)

-- what is left without the newest frame at a place and all newer ones
abbrev pub older_than : Option ℕ → List Frame → List Frame
older_than None frames = frames
older_than (Some i) frames = drop (i + 1) frames

-- a return to an address removes the newest frame with that return address, and all newer ones, or nothing if there is
-- none
unfoldable pub returned : ℕ → List Frame → List Frame
returned target frames = older_than (position (λ frame. frame.return_to == target) frames) frames

-- the greatest number of addresses of a trace
abbrev pub longest_trace : ℕ
longest_trace = 24

-- a trace at an instruction: its address, and the sites of the newest calls
unfoldable pub trace_at : ℕ → List Frame → List ℕ
trace_at pc frames = take longest_trace (pc ∷ map (λ frame. frame.site) frames)
