use Rattle.std.proofs.Common.{refl}
use Rattle.kq_plan_functions.specs.declared.function.Function.TheVariants as f
use Rattle.kq_eval_row.specs.kq_value_conversions.Converted.{as_long, as_text}
use Rattle.kq_store_column_view.specs.Vectors.{cells_of}
use Rattle.kq_eval_columns.specs.Seen.{cells_in_parts}
use Rattle.kq_eval_columns.proofs.OneValue.{of_conversion}
use Rattle.kq_eval_columns.proofs.parts.converted.Goals as goal

pub returns-in-ToLong : goal.returns-in-ToLong
returns-in-ToLong c = of_conversion c.args.function f.ToLong c.args.now as_long (cells_in_parts c.in-Some.parts.now) (cells_of c.args.column.now) c.as_longs.result c.in-ToLong.is (λ x. refl) c.in-Some.ensures c.as_longs.ensures

pub returns-in-ToText : goal.returns-in-ToText
returns-in-ToText c = of_conversion c.args.function f.ToText c.args.now as_text (cells_in_parts c.in-Some.parts.now) (cells_of c.args.column.now) c.as_texts.result c.in-ToText.is (λ x. refl) c.in-Some.ensures c.as_texts.ensures
