-- Numbers as cells.
use Rattle.std.specs.Prelude.{ℤ}
use Rattle.kq_value.specs.declared.value.Value.{Value}
use Rattle.kq_value.specs.declared.value.Value.TheVariants as value
use Rattle.kq_eval_pieces.specs.declared.numbers.Kind.{Kind}
use Rattle.kq_eval_pieces.specs.declared.numbers.Kind.TheVariants as kind

-- the cell of a number of a kind
abbrev pub number_cell : Kind → ℤ → Value
number_cell kind.Long z = value.Long z
number_cell kind.Moment z = value.Moment z
number_cell kind.Span z = value.Span z
