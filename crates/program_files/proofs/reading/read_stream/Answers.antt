use Rattle.std.proofs.Common.{◌≡◌, ◌+◌, ◌<◌, ◌≤◌, IfSome, Ok, length, rules, take}
use Rattle.std.specs.IoError.{error_kind}
use Rattle.scenario.specs.Limits.{longest_input}
use Rattle.program_files.specs.Opened.{IsFaultOf}
use Rattle.program_files.proofs.StreamSteps.{long-stream, no-stream, read-over, whole-stream}
use Rattle.program_files.proofs.reading.read_stream.Goals as goal

pub returns-then-len-gt-LONGEST_INPUT-clause-err : goal.returns-then-len-gt-LONGEST_INPUT-clause-err
returns-then-len-gt-LONGEST_INPUT-clause-err g c =
    let left = g.R.Read.remaining c.args.reader.now in
    let read = read-over c.front_of.result (Ok c.in-Ok.input) (λ error fault. IsFaultOf (error_kind error) fault)
    (λ front. IfSome left (λ bytes. front.items ≡ take (longest_input + 1) bytes)) c.in-Ok.ensures.ok
    c.in-Ok.ensures.err c.front_of.ensures.bytes in
    let more : longest_input < length c.in-Ok.input.items = search rules in
    long-stream longest_input left c.in-Ok.input.items read more

pub returns-else-len-gt-LONGEST_INPUT-clause-ok : goal.returns-else-len-gt-LONGEST_INPUT-clause-ok
returns-else-len-gt-LONGEST_INPUT-clause-ok g c =
    let left = g.R.Read.remaining c.args.reader.now in
    let read = read-over c.front_of.result (Ok c.in-Ok.input) (λ error fault. IsFaultOf (error_kind error) fault)
    (λ front. IfSome left (λ bytes. front.items ≡ take (longest_input + 1) bytes)) c.in-Ok.ensures.ok
    c.in-Ok.ensures.err c.front_of.ensures.bytes in
    let fits : length c.in-Ok.input.items ≤ longest_input = search rules in
    (whole-stream longest_input left c.in-Ok.input.items read fits, fits)

pub returns-in-Err-clause-err : goal.returns-in-Err-clause-err
returns-in-Err-clause-err g c =
    rw c.end_of_input.ensures (no-stream (g.R.Read.remaining c.args.reader.now) c.in-Err.fault)
