use Rattle.std.proofs.Common.{◌≡◌, map}
use Rattle.kq_bind_columns.specs.Laying.{all_laid}
use Rattle.kq_bind_columns.specs.Made.{columns_of}
use Rattle.kq_bind_columns.proofs.LaidOver.{seen}
use Rattle.kq_bind_columns.proofs.laying.all_laid.Given as goal

abbrev pub invariant-loop-expr : goal.invariant-loop-expr
invariant-loop-expr l = columns_of l.columns ≡ all_laid (columns_of l.fn.before) (map seen l.yielded)
