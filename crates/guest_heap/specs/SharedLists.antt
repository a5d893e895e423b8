-- Lists that may be absent, and that copies share.
use Rattle.std.specs.Prelude.{List, [], Option, Some, None}
use Rattle.std.specs.declared.alloc.Global.{Global}
use Rattle.std.specs.declared.rc.Rc.{Rc}
use Rattle.std.specs.declared.vec.Vec.{Vec}

abbrev pub items_in : {T : Type 0} → Option (Rc (Vec T Global) Global) → List T
items_in None = []
items_in (Some list) = list.value.items
