use Rattle.std.proofs.Common.{◌≡◌, drop, map}
use Rattle.kq_value_text_sets.specs.Names.{is_among}
use Rattle.kq_value_text_sets.proofs.repeated.is_among.Given as goal

-- what is left has the answer of the whole
abbrev pub invariant-loop-item : goal.invariant-loop-item
invariant-loop-item g l = is_among l.name (map g.T.Named.name_of (drop l.item-index l.items)) ≡ is_among l.name (map g.T.Named.name_of l.items)
