use Rattle.std.proofs.Common.{◌≡◌, drop}
use Rattle.kq_run_groups.specs.Keys.{hash_from, key_hash}
use Rattle.kq_run_groups.proofs.cells.hash.Given as goal

abbrev pub invariant-loop-cell : goal.invariant-loop-cell
invariant-loop-cell l = key_hash l.key ≡ hash_from l.state (drop l.cell-index l.key)
