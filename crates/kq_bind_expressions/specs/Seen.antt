-- Lists of what is bound.
use Rattle.std.specs.Prelude.{List, map, Vec}
use Rattle.std.specs.declared.alloc.Global.{Global}
use Rattle.kq_plan_expressions.specs.declared.expr.Typed.{Typed}
use Rattle.kq_plan_expressions.specs.Terms.{Bound, typed_of}

abbrev pub all_typed : Vec Typed Global → List Bound
all_typed v = map typed_of v.items
