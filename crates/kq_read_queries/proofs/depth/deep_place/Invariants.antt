use Rattle.std.proofs.Common.{◌≡◌, ◌≤◌, drop}
use Rattle.kq_read_queries.specs.Depth.{first_deep}
use Rattle.kq_read_queries.proofs.depth.deep_place.Given as goal

-- what is left has the answer of the whole
abbrev pub invariant-loop-symbol : goal.invariant-loop-symbol
invariant-loop-symbol l = (first_deep l.depth (drop l.symbol-index l.symbols) ≡ first_deep 0 l.symbols) × (l.depth ≤ 120)
