-- The limits on what a user may ask for. They are this project's own; the longest trace is that of Valgrind's
-- `--num-callers`, cut.
use Rattle.std.specs.Prelude.{ℕ}
use Rattle.call_stacks.specs.Frames.{longest_trace}

-- the greatest number of bytes of an input
abbrev pub longest_input : ℕ
longest_input = 1048576

-- the greatest step that may be chosen or marked where no other is named, and the greatest that may be named
abbrev pub most_steps : ℕ
most_steps = 4194304

abbrev pub furthest_step : ℕ
furthest_step = 2147483647

-- the greatest number of marks at one time, and of bytes of a mark
abbrev pub most_marks : ℕ
most_marks = 4096

abbrev pub longest_mark : ℕ
longest_mark = 1048576

-- the greatest number of addresses of a trace that are shown
abbrev pub most_callers : ℕ
most_callers = longest_trace

-- the greatest number of inaccessible bytes on each side of a block
abbrev pub largest_redzone : ℕ
largest_redzone = 4096

-- the greatest number of bytes of freed blocks that are kept
abbrev pub largest_volume : ℕ
largest_volume = 1000000000
