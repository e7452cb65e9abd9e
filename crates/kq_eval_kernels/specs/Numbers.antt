-- Numbers as cells.
use Rattle.std.specs.Prelude.{ℤ}
use Rattle.kq_value.specs.declared.value.Value.{Value}
use Rattle.kq_value.specs.declared.value.Value.TheVariants.{Long, Moment, Span}
use Rattle.kq_eval_kernels.specs.declared.number.Number.{Number}
use Rattle.kq_eval_kernels.specs.declared.number.Number.TheVariants.{Longs, Moments, Spans}

abbrev pub of_kind : Number → ℤ → Value
of_kind Longs z = Long z
of_kind Moments z = Moment z
of_kind Spans z = Span z
