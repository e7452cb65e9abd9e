-- What a view or an export is to be.
use Rattle.std.specs.Prelude.{◌≡◌, ℕ, Bool, List, [], ◌∷◌, Option, Some, None, codes, is_some, slice_range}
use Rattle.kq_read_commands.specs.declared.definition.NewExport.{NewExport}
use Rattle.kq_read_commands.specs.declared.definition.NewView.{NewView}
use Rattle.kq_read_commands.specs.Ingestions.{first_named, is_true, repeated_of}
use Rattle.kq_read_commands.specs.Meanings.{identifier_of}
use Rattle.kq_read_control.specs.ControlTrees.{PropertiesTree, BodyTree, ViewTree, ExportTree}
use Rattle.kq_read_control.specs.declared.tree.Property.{Property}
use Rattle.kq_read_grammar.specs.declared.expression.Name.TheVariants as name
use Rattle.kq_read_grammar.specs.TabularViews.{query_of}
use Rattle.kq_read_grammar.specs.Trees.{TabularTree, QueryTree}
use Rattle.kq_read_symbols.specs.declared.kind.Symbol.{Symbol}

-- the properties that are given
abbrev pub given : Option PropertiesTree → List Property
given None = []
given (Some ps) = ps.0 ∷ ps.1

-- whether `backfill` is given, first as `true`
abbrev pub is_backfilled : List ℕ → Option PropertiesTree → Bool
is_backfilled text ps = is_true (first_named text (codes "backfill") (given ps))

-- the bytes from the first to the last token
abbrev pub query_bytes : List ℕ → BodyTree → List ℕ
query_bytes text b = slice_range text b.first.from b.last.to

-- a query that has no lets
abbrev pub without_lets : TabularTree → QueryTree
without_lets t = record { lets = []; tabular = t }

-- The view is what the tree says of it; its query is handed on with the whole text.
pub record IsViewOf (text : List ℕ) (v : ViewTree) (made : NewView) : Type 0 where
  pub name : made.name ≡ identifier_of text v.name
  pub table : made.table ≡ identifier_of text v.table
  pub body_text : made.body.text ≡ text
  pub body_tree : query_of made.body.tree ≡ without_lets v.body.value
  pub query : made.query ≡ query_bytes text v.body
  pub unless_there : made.unless_there ≡ is_some v.unless_there
  pub backfill : made.backfill ≡ is_backfilled text v.properties
  pub repeated : made.repeated ≡ repeated_of text (given v.properties)

-- The export is what the tree says of it, under the name that the symbol is; its query is handed on with the whole text.
pub record IsExportOf (text : List ℕ) (t : Symbol) (e : ExportTree) (made : NewExport) : Type 0 where
  pub name : made.name ≡ identifier_of text (name.Word t)
  pub table : made.table ≡ identifier_of text e.table
  pub body_text : made.body.text ≡ text
  pub body_tree : query_of made.body.tree ≡ without_lets e.body.value
  pub query : made.query ≡ query_bytes text e.body
