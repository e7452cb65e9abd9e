-- How symbols are read to commands: what the code computes.
use Rattle.std.specs.Prelude.{ℕ, Option, Some, None}
use Rattle.kq_read_clauses.specs.Reading.{columns, listed}
use Rattle.kq_read_control.specs.ControlTrees.{ColumnsTree, PropertiesTree, BodyTree, ViewTree, ExportTree, ControlTree, create_table, ingest as ingest_tree, set_policy, alter_merge, create_view, show_view, show_failures, show_extents, show_journal, fold, merge, export as export_tree, StatementTree, query as query_tree, control as control_tree}
use Rattle.kq_read_control.specs.declared.tree.Property.{Property}
use Rattle.kq_read_expressions.specs.Reading.{name}
use Rattle.kq_read_grammar.specs.declared.expression.Name.{Name}
use Rattle.kq_read_grammar.specs.declared.expression.Name.TheVariants as shown
use Rattle.kq_read_queries.specs.Reading.{tabular, query}
use Rattle.kq_read_symbols.specs.declared.kind.Symbol.{Symbol}
use Rattle.kq_read_symbols.specs.declared.word.ClauseWord.TheVariants as l
use Rattle.kq_read_symbols.specs.declared.word.ControlWord.{ControlWord}
use Rattle.kq_read_symbols.specs.declared.word.ControlWord.TheVariants as w
use Rattle.kq_read_tokens.specs.declared.kind.DashedWord.TheVariants as d
use Rattle.kq_read_tokens.specs.declared.kind.Punctuation.TheVariants as p
use Rattle.kq_read_symbols.specs.Classes as k
use Rattle.kq_read_symbols.specs.Classes.{Class, of}
use Rattle.kq_read_symbols.specs.Forms.{Parser, pure, expect, bind, both, ◌<$>◌, choose, maybe, skip, closed}
use Rattle.kq_read_symbols.specs.Located.{located}

-- ---- parts

abbrev pub in_parentheses : {A : Type 0} → Parser Symbol A → Parser Symbol A
in_parentheses p = skip (of k.open_parenthesis) (closed p (of k.close_parenthesis))

unfoldable pub property : Parser Symbol Property
property = (λ q. record { name = q.0; value = q.1 }) <$> both (expect (of k.any_word)) (skip (of k.assign) (expect (of k.property_value)))

unfoldable pub property_list : ℕ → Parser Symbol PropertiesTree
property_list n = in_parentheses (listed property n)

unfoldable pub properties : ℕ → Parser Symbol PropertiesTree
properties n = skip (of (k.control w.With)) (property_list n)

unfoldable pub spanned_tabular : ℕ → Parser Symbol BodyTree
spanned_tabular n = located (tabular n)

abbrev pub maybe_properties : ℕ → Parser Symbol (Option PropertiesTree)
maybe_properties n = maybe (of (k.control w.With)) (properties n)

unfoldable pub body : ℕ → Parser Symbol BodyTree
body n = skip (of k.open_brace) (closed (spanned_tabular n) (of k.close_brace))

unfoldable pub table_columns : ℕ → Parser Symbol (Name × ColumnsTree)
table_columns n = skip (of (k.control w.Table)) (both name (in_parentheses (columns n)))

unfoldable pub table_name : Parser Symbol Name
table_name = skip (of (k.control w.Table)) name

-- ---- views

-- behind the word `with`, which may be the view's name
unfoldable pub behind_with : ℕ → Symbol → Parser Symbol (Option PropertiesTree × Name)
behind_with n t = choose (of k.open_parenthesis) ((λ q. (Some q.0, q.1)) <$> both (property_list n) name) (pure (None, shown.Word t))

unfoldable pub viewed : ℕ → Parser Symbol (Option PropertiesTree × Name)
viewed n = choose (of (k.control w.With)) ((λ q. q.1) <$> bind (expect (of (k.control w.With))) (behind_with n)) ((λ m. (None, m)) <$> name)

unfoldable pub word_if : ControlWord → Parser Symbol (Option Symbol)
word_if word = maybe (of (k.control word)) (expect (of (k.control word)))

-- the table that a view is on, and its query
abbrev pub on_table : ℕ → Parser Symbol (Name × BodyTree)
on_table n = both (skip (of (k.clause l.On)) table_name) (body n)

unfoldable pub view : ℕ → Parser Symbol ViewTree
view n = (λ q. record { at_leisure = q.0; unless_there = q.1.0; properties = q.1.1.0.0; name = q.1.1.0.1; table = q.1.1.1.0; body = q.1.1.1.1 })
    <$> both (word_if w.Async)
    (both (word_if w.IfNotExists)
    (both (skip (of (k.dashed d.MaterializedView)) (viewed n))
    (on_table n)))

-- ---- behind the first words

unfoldable pub creation : ℕ → Parser Symbol ControlTree
creation n = choose (of (k.control w.Table)) ((λ q. create_table q.0 q.1) <$> table_columns n) (create_view <$> view n)

unfoldable pub ingestion : ℕ → Parser Symbol ControlTree
ingestion n = (λ q. ingest_tree q.0 q.1.0 q.1.1) <$> skip (of (k.control w.Inline)) (skip (of (k.control w.Into)) (both table_name (both (maybe_properties n) (expect (of (k.sign p.BodyMark))))))

unfoldable pub policy : Parser Symbol ControlTree
policy = (λ q. set_policy q.0 q.1) <$> both table_name (skip (of (k.control w.Policy)) (skip (of (k.control w.Update)) (expect (of k.text))))

unfoldable pub shown_view : Parser Symbol ControlTree
shown_view = show_view <$> skip (of (k.dashed d.MaterializedView)) name

unfoldable pub shown_failures : Parser Symbol ControlTree
shown_failures = (λ t. show_failures) <$> skip (of (k.control w.Ingestion)) (expect (of (k.control w.Failures)))

unfoldable pub shown_extents : Parser Symbol ControlTree
shown_extents = show_extents <$> closed table_name (of (k.control w.Extents))

unfoldable pub shown_journal : Parser Symbol ControlTree
shown_journal = (λ t. show_journal) <$> expect (of (k.control w.Journal))

unfoldable pub showing : Parser Symbol ControlTree
showing = choose (of (k.dashed d.MaterializedView)) shown_view (choose (of (k.control w.Ingestion)) shown_failures (choose (of (k.control w.Table)) shown_extents shown_journal))

unfoldable pub export_definition : ℕ → Parser Symbol ExportTree
export_definition n = (λ q. record { table = q.0; body = q.1 }) <$> both (skip (of (k.control w.Over)) name) (body n)

unfoldable pub exporting : ℕ → Parser Symbol ControlTree
exporting n = (λ q. export_tree q.0 q.1) <$> both (expect (of k.any_word)) (maybe (of (k.control w.Over)) (export_definition n))

-- ---- commands

unfoldable pub dotted : ℕ → Parser Symbol ControlTree
dotted n =
    choose (of (k.control w.Create)) (skip (of (k.control w.Create)) (creation n))
    (choose (of (k.control w.Ingest)) (skip (of (k.control w.Ingest)) (ingestion n))
    (choose (of (k.control w.Alter)) (skip (of (k.control w.Alter)) policy)
    (choose (of (k.dashed d.AlterMerge)) (skip (of (k.dashed d.AlterMerge)) ((λ q. alter_merge q.0 q.1) <$> table_columns n))
    (skip (of (k.control w.Show)) showing))))

unfoldable pub hashed : ℕ → Parser Symbol ControlTree
hashed n =
    choose (of (k.control w.Fold)) (skip (of (k.control w.Fold)) (fold <$> name))
    (choose (of (k.control w.Merge)) (skip (of (k.control w.Merge)) (merge <$> name))
    (skip (of (k.control w.Export)) (exporting n)))

unfoldable pub statement : ℕ → Parser Symbol StatementTree
statement n =
    choose (of k.dot) (control_tree <$> skip (of k.dot) (dotted n))
    (choose (of (k.sign p.Hash)) (control_tree <$> skip (of (k.sign p.Hash)) (hashed n))
    (query_tree <$> query n))
