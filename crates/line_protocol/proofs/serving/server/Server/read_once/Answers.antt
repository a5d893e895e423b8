use Rattle.std.proofs.Common.{[], ◌<◌, ◌^◌, arith}
use Rattle.line_protocol.specs.Answers.{Answers}
use Rattle.line_protocol.proofs.Known.{consumes-keeps, consumes-none}
use Rattle.line_protocol.proofs.ServeSteps.{fed-none}
use Rattle.line_protocol.proofs.serving.server.Server.read_once.Goals as goal

pub returns-then-eq-clause-goes : goal.returns-then-eq-clause-goes
returns-then-eq-clause-goes g c = λ e. (
  [],
  consumes-keeps (g.R.Read.remaining c.args.reader.now) _ (g.R.Read.remaining c.read.new.self) [] (consumes-none _)
      c.in-Err.ensures.bytes,
  fed-none (Answers g.L.Listener.answers g.L.Listener.reply g.L.Listener.over c.args.listener.now) _ _,
)

pub returns-else-eq-clause-fault : goal.returns-else-eq-clause-fault
returns-else-eq-clause-fault g c =
    let few : c.replies.result < 2 ^ 64 = omega arith in
    let small : c.bytes.result < 2 ^ 64 = omega arith in (
      [],
      consumes-keeps (g.R.Read.remaining c.args.reader.now) _ (g.R.Read.remaining c.read.new.self) [] (consumes-none _)
          c.in-Err.ensures.bytes,
      (
        (c.replies.ensures, c.bytes.ensures, few, small),
        fed-none (Answers g.L.Listener.answers g.L.Listener.reply g.L.Listener.over c.args.listener.now) _ _,
      ),
    )
