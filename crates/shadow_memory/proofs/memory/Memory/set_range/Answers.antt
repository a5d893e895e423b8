use Rattle.std.proofs.lemmas.Result.{on_ok_weaker, on_err_weaker}
use Rattle.shadow_memory.specs.Edits.{each_of}
use Rattle.shadow_memory.proofs.Seen.{either_way, made-seen, made-unseen}
use Rattle.shadow_memory.proofs.memory.Memory.set_range.Goals as goal

pub returns-clause-bytes : goal.returns-clause-bytes
unfolding each_of
returns-clause-bytes c =
    either_way c.change_all.result (on_ok_weaker c.change_all.result
    (made-unseen _ _ c.args.addr c.args.len c.args.kind) c.change_all.ensures.ok)
    (on_err_weaker c.change_all.result (λ front. made-unseen _ _ c.args.addr front.0 c.args.kind front.2)
    c.change_all.ensures.err)

pub returns-clause-shadows : goal.returns-clause-shadows
unfolding each_of
returns-clause-shadows c =
    on_ok_weaker c.change_all.result (made-seen _ _ c.args.addr c.args.len c.args.kind) c.change_all.ensures.ok

pub returns-clause-err : goal.returns-clause-err
unfolding each_of
returns-clause-err c =
    on_err_weaker c.change_all.result (λ front. (
      front.0,
      front.1,
      made-seen _ _ c.args.addr front.0 c.args.kind front.2,
    )) c.change_all.ensures.err
