use Rattle.std.proofs.Common.{rules, ◌≡◌, ◌≤◌, length, get_or, arith, sym, ◌∙◌, ap, subst, refl, slice_get, Vec, Global}
use Rattle.std.proofs.Common.{inl, inr}
use Rattle.std.proofs.lemmas.Bool.{cases_lt}
use Rattle.std.proofs.lemmas.Option.{same_Some, slice_get-get_or, slice_get_read}
use Rattle.leak_graph.specs.declared.graph.Pointer.{Pointer}
use Rattle.leak_graph.specs.Graphs.{GoWithin}
use Rattle.parts_tests.proofs.leak_kinds.all_go_within.Goals as goal

pub loop-row-preserved : goal.loop-row-preserved
loop-row-preserved c k row less at =
    let i = c.loop-row.row-index in
    elim (cases_lt k i) [
      | inl before ↦ c.loop-row.invariant k row before at
      | inr since ↦
          let same : k ≡ i = omega arith in
          let here = slice_get_read c.args.edges.now (length c.args.edges.now) i c.row-item.result refl (search rules)
          c.row-item.is in
          let it : c.row-item.result ≡ row = same_Some c.row-item.result row (sym here
          ∙ ap (λ x. slice_get c.args.edges.now x) (sym same) ∙ at) in
          let held : GoWithin c.row-item.result.items c.args.count = rw c.deref.ensures.value at
          (c.go_within.ensures (search rules)) in
          subst (λ (r : Vec Pointer Global). GoWithin r.items c.args.count) it held
    ]

pub returns : goal.returns
returns c _ k d h =
    c.loop-row.invariant k (get_or c.args.edges.now k d)
    (let past : length c.args.edges.now ≤ c.loop-row.row-index = search rules in
    omega arith) (slice_get-get_or c.args.edges.now k d h)
