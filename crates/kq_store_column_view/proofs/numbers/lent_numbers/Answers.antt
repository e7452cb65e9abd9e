use Rattle.std.proofs.Common.{refl}
use Rattle.kq_value.specs.declared.ty.Ty.TheVariants as ty
use Rattle.kq_value.specs.declared.value.Value.TheVariants as value
use Rattle.kq_store_column_view.proofs.Masked.{plain_of}
use Rattle.kq_store_column_view.proofs.numbers.lent_numbers.Goals as goal

pub returns-in-Long : goal.returns-in-Long
returns-in-Long c = plain_of ty.Long c.args.numbers.ty value.Long (λ z. refl) c.args.numbers.nulls.now c.args.numbers.numbers.now c.in-Long.is c.if-numbers-gt0.false

pub returns-in-Moment : goal.returns-in-Moment
returns-in-Moment c = plain_of ty.Moment c.args.numbers.ty value.Moment (λ z. refl) c.args.numbers.nulls.now c.args.numbers.numbers.now c.in-Moment.is c.if-numbers-gt0.false

pub returns-in-Span : goal.returns-in-Span
returns-in-Span c = plain_of ty.Span c.args.numbers.ty value.Span (λ z. refl) c.args.numbers.nulls.now c.args.numbers.numbers.now c.in-Span.is c.if-numbers-gt0.false
