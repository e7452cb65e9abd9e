use Rattle.std.proofs.Common.{◌↔◌, drop}
use Rattle.kq_value.specs.Typed.{HasTypes}
use Rattle.kq_value.proofs.row.Row.has_types.Given as goal

abbrev pub invariant-loop-i : goal.invariant-loop-i
invariant-loop-i l = HasTypes l.fields l.self-inside.cells.items ↔ HasTypes (drop l.i l.fields) (drop l.i l.self-inside.cells.items)
