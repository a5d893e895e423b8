use Rattle.std.proofs.Common.{◌≡◌, arith, vec_len}
use Rattle.std.proofs.lemmas.Bool.Decides.{nat_tests}
use Rattle.guest_heap.proofs.Rows.{empty_along}
use Rattle.guest_heap.proofs.table.row.Row.is_empty.Goals as goal

pub returns : goal.returns
returns g c = λ empty.
    empty_along g.P.Part.entries g.P.Part.PLACES c.args.self.now
    (let none : vec_len c.args.self.now.parts ≡ 0 = grind (arith, nat_tests) in none)
