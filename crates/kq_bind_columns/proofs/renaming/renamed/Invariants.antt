use Rattle.std.proofs.Common.{◌≡◌, ◌++◌, drop}
use Rattle.kq_bind_columns.specs.Chosen.{renamed}
use Rattle.kq_bind_columns.proofs.renaming.renamed.Given as goal

abbrev pub invariant-loop-i : goal.invariant-loop-i
invariant-loop-i l = renamed 0 l.columns l.numbers l.names ≡ l.fields.items ++ renamed l.i (drop l.i l.columns) l.numbers l.names
