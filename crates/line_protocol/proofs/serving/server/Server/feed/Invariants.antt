use Rattle.std.proofs.Common.{take}
use Rattle.line_protocol.specs.Answers.{Answers}
use Rattle.line_protocol.specs.Serving.{Fed}
use Rattle.line_protocol.proofs.serving.server.Server.feed.Given as goal

abbrev pub invariant-loop-byte : goal.invariant-loop-byte
invariant-loop-byte g l = Fed (Answers g.L.Listener.answers g.L.Listener.reply g.L.Listener.over l.initial.listener)
    (Answers g.L.Listener.answers g.L.Listener.reply g.L.Listener.over l.listener)
    l.initial.self l.self (g.W.Write.contents l.initial.writer) (g.W.Write.contents l.writer)
    (take l.byte-index l.bytes)
