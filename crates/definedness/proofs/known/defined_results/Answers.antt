use Rattle.definedness.proofs.KnownSteps.{add_known, sub_known, mul_known, and_known, or_known, xor_known, shift_known}
use Rattle.definedness.proofs.KnownSteps.{less_known, wide_known}
use Rattle.definedness.proofs.known.defined_results.Goals as goal

pub returns : goal.returns
returns c =
    let x = c.args.x in
    let y = c.args.y in
    let none_x = c.requires.x_defined in
    let none_y = c.requires.y_defined in
    record {
      add = add_known x y none_x none_y;
      sub = sub_known x y none_x none_y;
      mul = mul_known x y none_x none_y;
      and = and_known x y none_x none_y;
      or = or_known x y none_x none_y;
      xor = xor_known x y none_x none_y;
      shift = shift_known x y none_x none_y;
      less = less_known x y none_x none_y;
      wide = wide_known x y none_x none_y;
    }
