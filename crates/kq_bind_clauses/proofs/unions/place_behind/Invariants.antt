use Rattle.std.proofs.Common.{◌≡◌, ◌≤◌, ◌+◌, cond, drop, length}
use Rattle.kq_bind_clauses.proofs.unions.place_behind.Given as goal
use Rattle.kq_bind_clauses.specs.Unions.{place_behind}
use Rattle.kq_bind_columns.specs.Naming.{is_taken}

abbrev pub invariant-loop-i : goal.invariant-loop-i
invariant-loop-i l = record { place : place_behind l.columns l.name ≡ cond (is_taken (drop l.i l.columns) l.name) (l.i + place_behind (drop l.i l.columns) l.name) l.place; within : l.place ≤ length l.columns }
