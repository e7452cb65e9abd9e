use Rattle.std.proofs.Common.{ap, sym, ◌∙◌}
use Rattle.kq_value.specs.declared.value.Value.TheVariants.{Text}
use Rattle.kq_store_column_view.specs.Vectors.{cells_of}
use Rattle.kq_eval_columns.proofs.OneValue.{at_key}
use Rattle.kq_eval_columns.proofs.members.members_of.Goals as goal

pub returns-in-Text : goal.returns-in-Text
returns-in-Text c = at_key c.as_str.result.now (cells_of c.args.column.now) c.args.key.now c.members_at.result (c.in-Text.is ∙ ap Text (sym c.as_str.ensures)) c.members_at.ensures
