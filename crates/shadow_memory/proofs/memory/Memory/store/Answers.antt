use Rattle.std.proofs.Common.{◌≡◌, ◌∙◌, IfOk, OnOk, ap, subst}
use Rattle.std.proofs.lemmas.Result.{on_err_weaker}
use Rattle.shadow_memory.specs.Memories.{bytes_in, shadows_in}
use Rattle.shadow_memory.specs.Ranges.{byte_of, written}
use Rattle.shadow_memory.specs.Shadows.{first_inaccessible, stored_undef}
use Rattle.shadow_memory.proofs.Seen.{front-seen}
use Rattle.shadow_memory.proofs.memory.Memory.store.Goals as goal

pub returns-clause-bad : goal.returns-clause-bad
returns-clause-bad c =
    let same = c.store_at_once.ensures.shadows_kept c.if-store_at_once.false in
    subst (λ shadows. IfOk c.store_anywhere.result (λ bad. bad ≡ first_inaccessible shadows c.args.addr c.args.n)) same
    c.store_anywhere.ensures.bad

pub returns-clause-bytes : goal.returns-clause-bytes
returns-clause-bytes c =
    let same = c.store_at_once.ensures.bytes_kept c.if-store_at_once.false in
    subst (λ bytes. OnOk c.store_anywhere.result (bytes_in c.store_anywhere.new.self
    ≡ written bytes c.args.addr c.args.n (byte_of c.args.bits.value))) same c.store_anywhere.ensures.bytes

pub returns-clause-shadows : goal.returns-clause-shadows
returns-clause-shadows c =
    let same = c.store_at_once.ensures.shadows_kept c.if-store_at_once.false in
    subst (λ shadows. OnOk c.store_anywhere.result (shadows_in c.store_anywhere.new.self
    ≡ stored_undef shadows c.args.addr c.args.n c.args.bits.undef)) same c.store_anywhere.ensures.shadows

pub returns-clause-err : goal.returns-clause-err
returns-clause-err c =
    let bytes = c.store_at_once.ensures.bytes_kept c.if-store_at_once.false in
    let shadows = c.store_at_once.ensures.shadows_kept c.if-store_at_once.false in
    on_err_weaker c.store_anywhere.result
    (front-seen c.args.n _ _ (λ k stored. (
      stored.0 ∙ ap (λ f. written f c.args.addr k (byte_of c.args.bits.value)) bytes,
      stored.1 ∙ ap (λ f. stored_undef f c.args.addr k c.args.bits.undef) shadows,
    )))
    c.store_anywhere.ensures.err
