use Rattle.std.proofs.Common.{◌≡◌, map}
use Rattle.kq_value_text_sets.specs.Names.{repeat_of}
use Rattle.kq_value_text_sets.proofs.Repeats.{HasFirst, repeat_from}
use Rattle.kq_value_text_sets.proofs.repeated.repeated_among_many.Given as goal

-- the names before this one all differ, and the set has them
abbrev pub invariant-loop-i : goal.invariant-loop-i
invariant-loop-i g l = (repeat_from g.T.Named.name_of l.items l.i ≡ repeat_of (map g.T.Named.name_of l.items)) × HasFirst g.T.Named.name_of l.seen l.items l.i
