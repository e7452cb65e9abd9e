use Rattle.std.proofs.Common.{◌≡◌, map}
use Rattle.kq_value_text_sets.specs.Names.{repeat_of}
use Rattle.kq_value_text_sets.proofs.Repeats.{repeat_from}
use Rattle.kq_value_text_sets.proofs.repeated.repeated_among_few.Given as goal

-- what is left has the answer of the whole
abbrev pub invariant-loop-i : goal.invariant-loop-i
invariant-loop-i g l = repeat_from g.T.Named.name_of l.items l.i ≡ repeat_of (map g.T.Named.name_of l.items)
