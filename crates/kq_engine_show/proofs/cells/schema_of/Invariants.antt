use Rattle.std.proofs.Common.{◌≡◌, map, take}
use Rattle.kq_engine_show.specs.Cells.{column}
use Rattle.kq_engine_show.proofs.cells.schema_of.Given as goal

abbrev pub invariant-loop-name : goal.invariant-loop-name
invariant-loop-name l = l.schema ≡ map (λ c. column c.0.now c.1) (take l.name-index l.columns)
