-- Operands without undefined bits give results without any.
use Rattle.std.specs.Prelude.{◌≡◌}
use Rattle.definedness.specs.declared.Bits.{Bits}
use Rattle.definedness.specs.declared.Shift.{Shift}
use Rattle.definedness.specs.Undefined.{undef_add, undef_sub, undef_mul, undef_and, undef_or, undef_xor, undef_shift}
use Rattle.definedness.specs.Undefined.{undef_less, undef_wide}

-- each operation on x and y gives a result that has no undefined bit
pub record GivesDefined (x y : Bits) : Type 0 where
  pub add : undef_add x y ≡ 0
  pub sub : undef_sub x y ≡ 0
  pub mul : undef_mul x y ≡ 0
  pub and : undef_and x y ≡ 0
  pub or : undef_or x y ≡ 0
  pub xor : undef_xor x y ≡ 0
  pub shift : (shift : Shift) → undef_shift shift x y ≡ 0
  pub less : undef_less x y ≡ 0
  pub wide : undef_wide x y ≡ 0
