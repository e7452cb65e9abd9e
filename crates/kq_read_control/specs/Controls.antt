-- The symbols that spell a command.
use Rattle.kq_read_control.specs.ControlTrees.{ColumnsTree, PropertiesTree, BodyTree, ViewTree, ExportTree, ControlTree, create_table, ingest, set_policy, alter_merge, create_view, show_view, show_failures, show_extents, show_journal, fold, merge, export, StatementTree, query, control}
use Rattle.kq_read_control.specs.declared.tree.Property.{Property}
use Rattle.kq_read_grammar.specs.declared.expression.Name.{Name}
use Rattle.kq_read_grammar.specs.Clauses.{columns_text, listed}
use Rattle.kq_read_grammar.specs.Expressions.{Text, name_text}
use Rattle.kq_read_grammar.specs.Tabulars.{tabular_text, query_text}
use Rattle.kq_read_symbols.specs.declared.word.ClauseWord.TheVariants as l
use Rattle.kq_read_symbols.specs.declared.word.ControlWord.TheVariants as w
use Rattle.kq_read_tokens.specs.declared.kind.DashedWord.TheVariants as d
use Rattle.kq_read_tokens.specs.declared.kind.Punctuation.TheVariants as p
use Rattle.kq_read_symbols.specs.Classes as k
use Rattle.kq_read_symbols.specs.Classes.{Class, of}
use Rattle.kq_read_symbols.specs.Forms.{one, some, ◌⨾◌, Maybe}
use Rattle.kq_read_symbols.specs.Located.{SpellsLocated}

-- ---- parts

abbrev pub in_parentheses : Text → Text
in_parentheses text = some (of k.open_parenthesis) ⨾ text ⨾ some (of k.close_parenthesis)

abbrev pub property_text : Property → Text
property_text q = one (of k.any_word) q.name ⨾ some (of k.assign) ⨾ one (of k.property_value) q.value

abbrev pub properties_text : PropertiesTree → Text
properties_text ps = some (of (k.control w.With)) ⨾ in_parentheses (listed property_text ps)

abbrev pub braced_text : BodyTree → Text
braced_text b = some (of k.open_brace) ⨾ SpellsLocated tabular_text b ⨾ some (of k.close_brace)

abbrev pub table_columns_text : Name → ColumnsTree → Text
table_columns_text n cs = some (of (k.control w.Table)) ⨾ name_text n ⨾ in_parentheses (columns_text cs)

abbrev pub view_text : ViewTree → Text
view_text v = Maybe (one (of (k.control w.Async))) v.at_leisure
    ⨾ Maybe (one (of (k.control w.IfNotExists))) v.unless_there
    ⨾ (some (of (k.dashed d.MaterializedView)) ⨾ Maybe properties_text v.properties ⨾ name_text v.name)
    ⨾ (some (of (k.clause l.On)) ⨾ some (of (k.control w.Table)) ⨾ name_text v.table)
    ⨾ braced_text v.body

abbrev pub export_text : ExportTree → Text
export_text e = (some (of (k.control w.Over)) ⨾ name_text e.table) ⨾ braced_text e.body

-- ---- commands

abbrev pub dot : Text
dot = some (of k.dot)

abbrev pub hash : Text
hash = some (of (k.sign p.Hash))

abbrev pub control_text : ControlTree → Text
control_text (create_table n cs) = dot ⨾ some (of (k.control w.Create)) ⨾ table_columns_text n cs
control_text (ingest n ps t) = dot ⨾ some (of (k.control w.Ingest)) ⨾ some (of (k.control w.Inline)) ⨾ some (of (k.control w.Into)) ⨾ (some (of (k.control w.Table)) ⨾ name_text n) ⨾ Maybe properties_text ps ⨾ one (of (k.sign p.BodyMark)) t
control_text (set_policy n t) = dot ⨾ some (of (k.control w.Alter)) ⨾ (some (of (k.control w.Table)) ⨾ name_text n) ⨾ some (of (k.control w.Policy)) ⨾ some (of (k.control w.Update)) ⨾ one (of k.text) t
control_text (alter_merge n cs) = dot ⨾ some (of (k.dashed d.AlterMerge)) ⨾ table_columns_text n cs
control_text (create_view v) = dot ⨾ some (of (k.control w.Create)) ⨾ view_text v
control_text (show_view n) = dot ⨾ some (of (k.control w.Show)) ⨾ some (of (k.dashed d.MaterializedView)) ⨾ name_text n
control_text show_failures = dot ⨾ some (of (k.control w.Show)) ⨾ some (of (k.control w.Ingestion)) ⨾ some (of (k.control w.Failures))
control_text (show_extents n) = dot ⨾ some (of (k.control w.Show)) ⨾ (some (of (k.control w.Table)) ⨾ name_text n) ⨾ some (of (k.control w.Extents))
control_text show_journal = dot ⨾ some (of (k.control w.Show)) ⨾ some (of (k.control w.Journal))
control_text (fold n) = hash ⨾ some (of (k.control w.Fold)) ⨾ name_text n
control_text (merge n) = hash ⨾ some (of (k.control w.Merge)) ⨾ name_text n
control_text (export t e) = hash ⨾ some (of (k.control w.Export)) ⨾ one (of k.any_word) t ⨾ Maybe export_text e

abbrev pub statement_text : StatementTree → Text
statement_text (query q) = query_text q
statement_text (control c) = control_text c
