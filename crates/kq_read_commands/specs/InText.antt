-- Which symbols of a command stand in a text.
use Rattle.std.specs.Prelude.{◌≡◌, ◌≤◌, ⊤, ℕ, true, List, Option, Some, None}
use Rattle.std.specs.List.{All}
use Rattle.std.specs.Str.{IsCharBoundary}
use Rattle.kq_read_commands.specs.Meanings.{piece, string_form}
use Rattle.kq_read_commands.specs.Unsupported.{is_string}
use Rattle.kq_read_control.specs.ControlTrees.{ColumnsTree, PropertiesTree, ControlTree, create_table, ingest, alter_merge, create_view, show_extents, merge, BodyTree, ViewTree, ExportTree, set_policy, show_view, fold, export}
use Rattle.kq_read_control.specs.declared.tree.Property.{Property}
use Rattle.kq_read_grammar.specs.declared.clause.Column.{Column}
use Rattle.kq_read_grammar.specs.declared.expression.Name.{Name}
use Rattle.kq_read_grammar.specs.declared.expression.Name.TheVariants as name
use Rattle.kq_read_literals.specs.Strings.{is_string_token}
use Rattle.kq_read_symbols.specs.declared.kind.Symbol.{Symbol}

-- The symbol is a piece of the text, cut between characters.
pub record IsPiece (text : List ℕ) (s : Symbol) : Type 0 where
  pub in_order : s.from ≤ s.to
  pub from_boundary : IsCharBoundary text s.from
  pub to_boundary : IsCharBoundary text s.to

-- The piece is a string, of the form that its first byte tells.
pub record IsString (text : List ℕ) (s : Symbol) : Type 0 where
  pub is_piece : IsPiece text s
  pub spelled : is_string_token (string_form (piece text s)) (piece text s) ≡ true

abbrev pub NameIn : List ℕ → Name → Type 0
NameIn text (name.Word t) = IsPiece text t
NameIn text (name.Bracketed first t) = IsString text t

abbrev pub ColumnIn : List ℕ → Column → Type 0
ColumnIn text c = NameIn text c.name × IsPiece text c.ty

abbrev pub ColumnsIn : List ℕ → ColumnsTree → Type 0
ColumnsIn text cs = ColumnIn text cs.0 × All (ColumnIn text) cs.1

-- a value that is no string is `true` or `false`, of which its kind says enough
abbrev pub PropertyIn : List ℕ → Property → Type 0
PropertyIn text q = IsPiece text q.name × (is_string q ≡ true → IsString text q.value)

abbrev pub PropertiesIn : List ℕ → Option PropertiesTree → Type 0
PropertiesIn text None = ⊤
PropertiesIn text (Some ps) = PropertyIn text ps.0 × All (PropertyIn text) ps.1

-- The query is a piece of the text, cut between characters.
pub record BodyIn (text : List ℕ) (b : BodyTree) : Type 0 where
  pub in_order : b.first.from ≤ b.last.to
  pub from_boundary : IsCharBoundary text b.first.from
  pub to_boundary : IsCharBoundary text b.last.to

pub record ViewIn (text : List ℕ) (v : ViewTree) : Type 0 where
  pub name : NameIn text v.name
  pub table : NameIn text v.table
  pub properties : PropertiesIn text v.properties
  pub body : BodyIn text v.body

pub record ExportIn (text : List ℕ) (e : ExportTree) : Type 0 where
  pub table : NameIn text e.table
  pub body : BodyIn text e.body

abbrev pub MaybeExportIn : List ℕ → Option ExportTree → Type 0
MaybeExportIn text None = ⊤
MaybeExportIn text (Some e) = ExportIn text e

-- ---- what is looked up in the text of a command that is no query

abbrev pub ControlIn : List ℕ → ControlTree → Type 0
ControlIn text (create_table n cs) = NameIn text n × ColumnsIn text cs
ControlIn text (ingest n ps t) = NameIn text n × PropertiesIn text ps × IsPiece text t
ControlIn text (alter_merge n cs) = NameIn text n × ColumnsIn text cs
ControlIn text (create_view v) = ViewIn text v
ControlIn text (set_policy n t) = NameIn text n × IsString text t
ControlIn text (show_view n) = NameIn text n
ControlIn text (show_extents n) = NameIn text n
ControlIn text (merge n) = NameIn text n
ControlIn text (fold n) = NameIn text n
ControlIn text (export t e) = IsPiece text t × MaybeExportIn text e
ControlIn text _ = ⊤
