use Rattle.std.proofs.Common.{◌∙◌, sym, ap, take, ℕ}
use Rattle.std.specs.Str.Lines.{strip_carriage_return}
use Rattle.line_protocol.proofs.Known.{at_refusal}
use Rattle.line_protocol.proofs.ServeSteps.{keep-fed, taken-fed, taken-over, taken-broken}
use Rattle.line_protocol.proofs.serving.server.Server.take_byte.Goals as goal

pub returns-then-byte-ne10-clause-fed : goal.returns-then-byte-ne10-clause-fed
returns-then-byte-ne10-clause-fed g c =
    λ e. keep-fed g.L.Listener.answers g.L.Listener.reply g.L.Listener.over g.met.L.Listener.long_alike
    c.args.listener.now
    c.args.self.now c.keep.new.self
    (g.W.Write.contents c.args.writer.now) c.args.byte c.if-byte-ne10.true c.keep.ensures.written c.keep.ensures.kept

pub returns-clause-fed : goal.returns-clause-fed
returns-clause-fed g c =
    λ e. taken-fed g.L.Listener.answers g.L.Listener.reply g.L.Listener.over c.args.listener.now _ c.args.self.now _ _ _
    c.in_ok-over.ensures.answers
    _ c.args.byte c.if-byte-ne10.false
    (ap (take c.line_len-len.result) (c.deref-2.ensures.value ∙ sym c.deref.ensures.value)
    ∙ c.line_len-len.ensures.stripped
    ∙ ap strip_carriage_return c.deref.ensures.value)
    _ c.in_ok-over.over c.in_ok-over.ensures.ok c.in_ok-over.ensures.answered c.clear.ensures.items e

pub returns-clause-over : goal.returns-clause-over
returns-clause-over g c =
    λ e. taken-over g.L.Listener.answers g.L.Listener.reply g.L.Listener.over c.args.listener.now _ c.args.self.now _ _
    _
    c.in_ok-over.ensures.answers
    _ c.args.byte c.if-byte-ne10.false
    (ap (take c.line_len-len.result) (c.deref-2.ensures.value ∙ sym c.deref.ensures.value)
    ∙ c.line_len-len.ensures.stripped
    ∙ ap strip_carriage_return c.deref.ensures.value)
    _ c.in_ok-over.over c.in_ok-over.ensures.ok c.in_ok-over.ensures.answered e

pub returns-in_err-over-clause-broken : goal.returns-in_err-over-clause-broken
returns-in_err-over-clause-broken g c =
    at_refusal c.from_residual.result
    (taken-broken g.L.Listener.answers g.L.Listener.reply g.L.Listener.over c.args.listener.now _ c.args.self.now _ _ _
    c.in_err-over.ensures.answers ℕ c.args.byte c.if-byte-ne10.false
    (ap (take c.line_len-len.result) (c.deref-2.ensures.value ∙ sym c.deref.ensures.value)
    ∙ c.line_len-len.ensures.stripped
    ∙ ap strip_carriage_return c.deref.ensures.value)
    _ c.in_err-over.ensures.err)
