use Rattle.std.proofs.Common.{List, ◌+◌, sym, subst}
use Rattle.std.proofs.lemmas.Result.{on_ok_weaker}
use Rattle.unknown_calls.specs.UnknownCalls.{Within}
use Rattle.unknown_calls.specs.declared.UnknownCall.{UnknownCall}
use Rattle.unknown_calls.proofs.Counting.{within-after, within-more}
use Rattle.unknown_calls.proofs.count_unknown.Goals as goal

pub returns-in-Some-clause-within : goal.returns-in-Some-clause-within
returns-in-Some-clause-within c =
    on_ok_weaker c.count.result (λ is n few. subst (λ (calls : List UnknownCall). Within (n + 1) calls) (sym is)
    (within-after n c.in-Some.number c.args.calls.now.items 10 few)) c.count.ensures.ok

pub returns-in-None-clause-within : goal.returns-in-None-clause-within
returns-in-None-clause-within c = λ n few. within-more n c.args.calls.now.items few
