use Rattle.std.proofs.Common.{List, Option, ap, sym, subst}
use Rattle.std.specs.declared.alloc.Global.{Global}
use Rattle.std.specs.declared.rc.Rc.{Rc}
use Rattle.std.specs.declared.vec.Vec.{Vec}
use Rattle.guest_heap.specs.Gaps.{AreGaps}
use Rattle.guest_heap.specs.SharedLists.{items_in}
use Rattle.guest_heap.specs.declared.gaps.row.GapRow.{GapRow}
use Rattle.guest_heap.proofs.gaps.Gaps.pass.Goals as goal
use Rattle.guest_heap.proofs.gaps.Gaps.pass.Goals.{in-Some, in-None}

pub returns : goal.returns
returns c blocks redzone none hold =
    let P : List GapRow → Type 0 = AreGaps blocks redzone in
    let Q : Option (Rc (Vec GapRow Global) Global) → Type 0 = λ rows. P (items_in rows) in
    let before = subst P (sym c.self.view_is) hold in
    elim c.match-self.branch [
      | in-Some w ↦ subst Q (sym (ap (λ x. x.rows) w.self-inside-is))
          (w.pass_in_rows.ensures blocks redzone none (subst Q w.in-Some.is before))
      | in-None w ↦ subst Q (sym (ap (λ x. x.rows) w.self-inside-is)) before
    ]
