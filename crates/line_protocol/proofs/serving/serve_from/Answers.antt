use Rattle.std.proofs.Common.{ap, Ok, [], ◌++◌, refl}
use Rattle.line_protocol.specs.Answers.{Answers, Relation}
use Rattle.line_protocol.specs.Served.{StoppedBy}
use Rattle.line_protocol.specs.declared.fault.ServeFault.{ServeFault}
use Rattle.line_protocol.proofs.Known.{at_error, consumes-then, consumes-none}
use Rattle.line_protocol.proofs.ServeSteps.{fed-none, fed-then}
use Rattle.line_protocol.proofs.ServedSteps.{all-answered, read-answered, stops, stops-endless}
use Rattle.line_protocol.proofs.serving.serve_from.Goals as goal

pub loop-i-init : goal.loop-i-init
loop-i-init g c = (
  [],
  consumes-none _,
  fed-none (Answers g.L.Listener.answers g.L.Listener.reply g.L.Listener.over
      c.args.listener.now) _ _,
)

pub returns-in_err-read_once-clause-fault : goal.returns-in_err-read_once-clause-fault
returns-in_err-read_once-clause-fault g c =
    let from : Relation = Answers g.L.Listener.answers g.L.Listener.reply g.L.Listener.over c.args.listener.now in
    let mid : Relation = Answers g.L.Listener.answers g.L.Listener.reply g.L.Listener.over c.loop-i.listener in
    let after : Relation = Answers g.L.Listener.answers g.L.Listener.reply g.L.Listener.over c.read_once.new.listener in
    let seen = c.loop-i.invariant in
    let halted = c.in_err-read_once.ensures.fault in
    let P : ServeFault → Type 0 = λ fault. StoppedBy fault from (g.R.Read.remaining c.args.reader.now)
    (g.R.Read.remaining c.read_once.new.reader)
    (g.W.Write.contents c.args.writer.now) (g.W.Write.contents c.read_once.new.writer) in
    at_error c.from_residual.result _ P c.from_residual.ensures.1 (
      seen.0 ++ halted.0,
      consumes-then (g.R.Read.remaining c.args.reader.now) (g.R.Read.remaining c.loop-i.reader)
          (g.R.Read.remaining c.read_once.new.reader)
          seen.0 halted.0 seen.1 halted.1,
      stops from c.args.server.now c.requires.0 c.requires.1 c.requires.2 _ mid after refl c.loop-i.server
          c.read_once.new.self _ _ _ _ seen.0
          halted.0
          seen.2 halted.2,
    )

pub returns-then-branch-clause-ok : goal.returns-then-branch-clause-ok
returns-then-branch-clause-ok g c =
    let from : Relation = Answers g.L.Listener.answers g.L.Listener.reply g.L.Listener.over c.args.listener.now in
    let mid : Relation = Answers g.L.Listener.answers g.L.Listener.reply g.L.Listener.over c.loop-i.listener in
    let seen = c.loop-i.invariant in
    let ended = c.in_ok-read_once.ensures.ends (ap Ok c.if-branch.true) in
    all-answered from c.args.server.now c.requires.0 mid c.loop-i.server (g.R.Read.remaining c.args.reader.now)
    (g.R.Read.remaining c.loop-i.reader)
    (g.R.Read.remaining c.read_once.new.reader) _ _ _ seen.0 seen.1 seen.2 ended.0 ended.1 ended.2

pub returns-then-branch-clause-read : goal.returns-then-branch-clause-read
returns-then-branch-clause-read g c =
    let from : Relation = Answers g.L.Listener.answers g.L.Listener.reply g.L.Listener.over c.args.listener.now in
    let mid : Relation = Answers g.L.Listener.answers g.L.Listener.reply g.L.Listener.over c.loop-i.listener in
    let seen = c.loop-i.invariant in
    let ended = c.in_ok-read_once.ensures.ends (ap Ok c.if-branch.true) in
    read-answered from c.args.server.now c.requires.0 mid c.loop-i.server (g.R.Read.remaining c.args.reader.now)
    (g.R.Read.remaining c.loop-i.reader)
    (g.R.Read.remaining c.read_once.new.reader) _ _ _ seen.0 seen.1 seen.2 ended.0 ended.1 ended.2

pub loop-i-preserved : goal.loop-i-preserved
loop-i-preserved g c =
    let from : Relation = Answers g.L.Listener.answers g.L.Listener.reply g.L.Listener.over c.args.listener.now in
    let mid : Relation = Answers g.L.Listener.answers g.L.Listener.reply g.L.Listener.over c.loop-i.listener in
    let seen = c.loop-i.invariant in
    let went = c.in_ok-read_once.ensures.goes (ap Ok c.if-branch.false) in (
      seen.0 ++ went.0,
      consumes-then (g.R.Read.remaining c.args.reader.now) (g.R.Read.remaining c.loop-i.reader)
          (g.R.Read.remaining c.read_once.new.reader)
          seen.0 went.0 seen.1 went.1,
      fed-then from mid c.args.server.now c.loop-i.server c.read_once.new.self _ _ _ seen.0 went.0 seen.2 _ went.2,
    )

pub returns-clause-fault : goal.returns-clause-fault
returns-clause-fault g c =
    let from : Relation = Answers g.L.Listener.answers g.L.Listener.reply g.L.Listener.over c.args.listener.now in
    let mid : Relation = Answers g.L.Listener.answers g.L.Listener.reply g.L.Listener.over c.loop-i.listener in
    let seen = c.loop-i.invariant in (
      seen.0,
      seen.1,
      stops-endless from c.args.server.now c.requires.0 c.requires.1 c.requires.2 c.endless.result mid refl
          c.loop-i.server _ _ _ seen.0
          c.endless.ensures seen.2,
    )
