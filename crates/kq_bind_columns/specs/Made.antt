-- What the code has made, as the definitions speak of it.
use Rattle.std.specs.Prelude.{map}
use Rattle.kq_bind_columns.specs.declared.items.Made.{Made}
use Rattle.kq_bind_columns.specs.declared.laying.Laid.{Laid}
use Rattle.kq_bind_columns.specs.Items.{Making}
use Rattle.kq_bind_columns.specs.Laying.{Columns}
use Rattle.kq_plan_expressions.specs.Terms.{term_of}

abbrev pub made_of : Made → Making
made_of m = record { terms = map term_of m.exprs.items; fields = m.fields.items; unnamed = m.unnamed }

abbrev pub columns_of : Laid → Columns
columns_of l = (map term_of l.exprs.items, l.fields.items)
