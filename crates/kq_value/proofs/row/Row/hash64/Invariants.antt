use Rattle.std.proofs.Common.{◌≡◌, drop}
use Rattle.kq_value.specs.Hash.{cells_hash, seed}
use Rattle.kq_value.proofs.row.Row.hash64.Given as goal

abbrev pub invariant-loop-cell : goal.invariant-loop-cell
invariant-loop-cell l = cells_hash seed l.cell-items ≡ cells_hash l.state (drop l.cell-index l.cell-items)
