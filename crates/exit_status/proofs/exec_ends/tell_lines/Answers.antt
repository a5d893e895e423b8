use Rattle.std.proofs.Common.{◌++◌, List, ℕ, subst}
use Rattle.std.specs.Io.KnownBytes.{Appends}
use Rattle.exit_status.specs.Ends.{AppendsFront}
use Rattle.exit_status.specs.ExecEnds.{exec_lines, heap_lines, line_end, unknown_lines}
use Rattle.exit_status.proofs.Pieces.{front-first, front-next}
use Rattle.exit_status.proofs.exec_ends.tell_lines.Goals as goal
use Rattle.unknown_calls.specs.declared.UnknownCall.{UnknownCall}

pub returns-then-not-end_line : goal.returns-then-not-end_line
returns-then-not-end_line g c =
    let a = g.W.Write.contents c.args.writer.now in
    let b = g.W.Write.contents c.end_line.new.writer in
    let end = c.args.done.now.end in
    front-first a b (line_end end c.args.done.now.unknown.items) _
    (subst (λ (calls : List UnknownCall). AppendsFront a b (line_end end calls)) c.deref.ensures.value
    c.end_line.ensures.line)

pub returns-then-not-write_lines : goal.returns-then-not-write_lines
returns-then-not-write_lines g c =
    let a = g.W.Write.contents c.args.writer.now in
    let b = g.W.Write.contents c.end_line.new.writer in
    let d = g.W.Write.contents c.write_lines.new.writer in
    let end = c.args.done.now.end in
    let calls = c.args.done.now.unknown.items in
    let first = subst (λ (calls : List UnknownCall). Appends a b (line_end end calls)) c.deref.ensures.value
    (c.end_line.ensures.whole c.if-not-end_line.false) in
    front-next a b d (line_end end calls) _ first
    (front-first b d (exec_lines end)
    (heap_lines end c.args.done.now.file.now c.args.done.now.names.items ++ unknown_lines end calls)
    c.write_lines.ensures.line)

pub returns-then-tell_heap : goal.returns-then-tell_heap
returns-then-tell_heap g c =
    let a = g.W.Write.contents c.args.writer.now in
    let b = g.W.Write.contents c.end_line.new.writer in
    let d = g.W.Write.contents c.write_lines.new.writer in
    let end = c.args.done.now.end in
    let calls = c.args.done.now.unknown.items in
    let e = g.W.Write.contents c.tell_heap.new.writer in
    let file = c.args.done.now.file.now in
    let names = c.args.done.now.names.items in
    let f = g.W.Write.contents c.tell_calls.new.writer in
    let first = subst (λ (calls : List UnknownCall). Appends a b (line_end end calls)) c.deref.ensures.value
    (c.end_line.ensures.whole c.if-not-end_line.false) in
    let heap = subst (λ (names : List ℕ). Appends d e (heap_lines end file names)) c.deref-2.ensures.value
    (c.tell_heap.ensures.whole c.if-tell_heap.true) in
    let last = subst (λ (calls : List UnknownCall). AppendsFront e f (unknown_lines end calls))
    c.deref-then-tell_heap.ensures.value c.tell_calls.ensures in
    front-next a b f (line_end end calls) _ first
    (front-next b d f (exec_lines end) _ (c.write_lines.ensures.whole c.if-not-write_lines.false)
    (front-next d e f (heap_lines end file names) (unknown_lines end calls) heap last))

pub returns-else-tell_heap : goal.returns-else-tell_heap
returns-else-tell_heap g c =
    let a = g.W.Write.contents c.args.writer.now in
    let b = g.W.Write.contents c.end_line.new.writer in
    let d = g.W.Write.contents c.write_lines.new.writer in
    let end = c.args.done.now.end in
    let calls = c.args.done.now.unknown.items in
    let e = g.W.Write.contents c.tell_heap.new.writer in
    let file = c.args.done.now.file.now in
    let names = c.args.done.now.names.items in
    let first = subst (λ (calls : List UnknownCall). Appends a b (line_end end calls)) c.deref.ensures.value
    (c.end_line.ensures.whole c.if-not-end_line.false) in
    let heap = subst (λ (names : List ℕ). AppendsFront d e (heap_lines end file names)) c.deref-2.ensures.value
    c.tell_heap.ensures.line in
    front-next a b e (line_end end calls) _ first
    (front-next b d e (exec_lines end) _ (c.write_lines.ensures.whole c.if-not-write_lines.false)
    (front-first d e (heap_lines end file names) (unknown_lines end calls) heap))
