use Rattle.std.proofs.Common.{◌≡◌, drop, map}
use Rattle.kq_bind_operators.specs.Scopes.{tabling_named}
use Rattle.kq_bind_operators.specs.Seen.{tabling_of}
use Rattle.kq_bind_operators.proofs.scope.tabular_let.Given as goal

abbrev pub invariant-loop-table : goal.invariant-loop-table
invariant-loop-table l = tabling_named (map tabling_of l.tables) l.name ≡ tabling_named (map tabling_of (drop l.table-index l.tables)) l.name
