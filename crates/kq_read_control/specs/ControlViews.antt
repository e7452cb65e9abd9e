-- The commands of the code, as the grammar speaks of them.
use Rattle.std.specs.Option.{option_map}
use Rattle.kq_read_control.specs.ControlTrees.{ColumnsTree, PropertiesTree, BodyTree, ViewTree, ExportTree, ControlTree, create_table, ingest, set_policy, alter_merge, create_view, show_view, show_failures, show_extents, show_journal, fold, merge, export, StatementTree, query, control}
use Rattle.kq_read_control.specs.declared.tree.Body.{Body}
use Rattle.kq_read_control.specs.declared.tree.ColumnList.{ColumnList}
use Rattle.kq_read_control.specs.declared.tree.Control.{Control}
use Rattle.kq_read_control.specs.declared.tree.Control.TheVariants as c
use Rattle.kq_read_control.specs.declared.tree.ExportDefinition.{ExportDefinition}
use Rattle.kq_read_control.specs.declared.tree.PropertyList.{PropertyList}
use Rattle.kq_read_control.specs.declared.tree.Statement.{Statement}
use Rattle.kq_read_control.specs.declared.tree.Statement.TheVariants as s
use Rattle.kq_read_control.specs.declared.tree.ViewDefinition.{ViewDefinition}
use Rattle.kq_read_grammar.specs.TabularViews.{tabular_of, query_of}

abbrev pub columns_of : ColumnList → ColumnsTree
columns_of l = (l.first, l.others.items)

abbrev pub properties_of : PropertyList → PropertiesTree
properties_of l = (l.first, l.others.items)

abbrev pub body_of : Body → BodyTree
body_of b = record { first = b.first; last = b.last; value = tabular_of b.query.value }

abbrev pub view_of : ViewDefinition → ViewTree
view_of v = record { at_leisure = v.at_leisure; unless_there = v.unless_there; properties = option_map properties_of v.properties; name = v.name; table = v.table; body = body_of v.body }

abbrev pub export_of : ExportDefinition → ExportTree
export_of e = record { table = e.table; body = body_of e.body }

abbrev pub control_of : Control → ControlTree
control_of (c.CreateTable n l) = create_table n (columns_of l)
control_of (c.Ingest n l t) = ingest n (option_map properties_of l) t
control_of (c.SetPolicy n t) = set_policy n t
control_of (c.AlterMerge n l) = alter_merge n (columns_of l)
control_of (c.CreateView v) = create_view (view_of v.value)
control_of (c.ShowView n) = show_view n
control_of c.ShowFailures = show_failures
control_of (c.ShowExtents n) = show_extents n
control_of c.ShowJournal = show_journal
control_of (c.Fold n) = fold n
control_of (c.Merge n) = merge n
control_of (c.Export t e) = export t (option_map (λ b. export_of b.value) e)

abbrev pub statement_of : Statement → StatementTree
statement_of (s.Query q) = query (query_of q.value)
statement_of (s.Control c) = control (control_of c.value)
