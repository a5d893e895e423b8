use Rattle.line_protocol.specs.Answers.{Answers}
use Rattle.line_protocol.specs.Serving.{Fed, Reads}
use Rattle.line_protocol.proofs.serving.serve_from.Given as goal

abbrev pub invariant-loop-i : goal.invariant-loop-i
invariant-loop-i g l = Reads (g.R.Read.remaining l.initial.reader) (g.R.Read.remaining l.reader)
    (Fed (Answers g.L.Listener.answers g.L.Listener.reply g.L.Listener.over l.initial.listener)
    (Answers g.L.Listener.answers g.L.Listener.reply g.L.Listener.over l.listener)
    l.initial.server l.server (g.W.Write.contents l.initial.writer) (g.W.Write.contents l.writer))
