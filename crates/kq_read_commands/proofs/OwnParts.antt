-- The parts of a command that a text spells stand in it.
use Rattle.std.proofs.Common.{Bool, ◌-◌, List, [], ◌∷◌, ◌++◌, Option, Some, None, All, ℕ, length, subst}
use Rattle.std.specs.Str.{IsUtf8}
use Rattle.std.proofs.lemmas.List.Elements.{All-cons, All-head, All-nil, All-tail}
use Rattle.kq_read_commands.specs.InText.{IsPiece, IsString, NameIn, ColumnIn, ColumnsIn, PropertyIn, PropertiesIn, BodyIn, ViewIn, ExportIn, MaybeExportIn, ControlIn}
use Rattle.kq_read_commands.proofs.InOrder.{InOrder, element, first_before_last, left_all, left_in_order, right_in_order, symbols_in_order}
use Rattle.kq_read_commands.proofs.OwnSymbols.{SymbolIn, symbols_in}
use Rattle.kq_read_control.specs.ControlTrees.{ColumnsTree, PropertiesTree, BodyTree, ViewTree, ExportTree, ControlTree, create_table, ingest, set_policy, alter_merge, create_view, show_view, show_failures, show_extents, show_journal, fold, merge, export, control}
use Rattle.kq_read_control.specs.Controls.{control_text, export_text, properties_text, property_text, table_columns_text, view_text}
use Rattle.kq_read_control.specs.Statements.{IsStatement}
use Rattle.kq_read_control.specs.Symbols.{symbols_of}
use Rattle.kq_read_control.specs.declared.tree.Property.{Property}
use Rattle.kq_read_grammar.specs.declared.clause.Column.{Column}
use Rattle.kq_read_grammar.specs.declared.expression.Name.{Name}
use Rattle.kq_read_grammar.specs.declared.expression.Name.TheVariants as n
use Rattle.kq_read_grammar.specs.Clauses.{column_text, columns_text, listed}
use Rattle.kq_read_grammar.specs.Expressions.{Text, name_text}
use Rattle.kq_read_grammar.specs.Tabulars.{tabular_text}
use Rattle.kq_read_symbols.specs.declared.kind.Symbol.{Symbol}
use Rattle.kq_read_symbols.specs.Classes as k
use Rattle.kq_read_symbols.specs.Classes.{of}
use Rattle.kq_read_symbols.specs.Forms.{one, some, ◌⨾◌, Many, Maybe}
use Rattle.kq_read_symbols.specs.Located.{SpellsLocated}
use Rattle.kq_read_tokens.specs.declared.kind.DashedWord.TheVariants as d
use Rattle.kq_read_tokens.specs.declared.kind.Punctuation.TheVariants as p

module _ (text : List ℕ) where
  -- these symbols stand in the text, in order
  abbrev Own : List Symbol → Type 0
  Own ts = All (SymbolIn text) ts × InOrder ts

  -- where such symbols spell the form, the fact holds
  abbrev Holds : Text → Type 0 → Type 0
  Holds form P = (ts : List Symbol) → form ts → Own ts → P

  left_own : (xs ys : List Symbol) → Own (xs ++ ys) → Own xs
  left_own xs ys own = (left_all (SymbolIn text) xs ys own.0, left_in_order xs ys own.1)

  right_all : (xs ys : List Symbol) → All (SymbolIn text) (xs ++ ys) → All (SymbolIn text) ys
  right_all [] ys all = all
  right_all (x ∷ xs) ys all = right_all xs ys (All-tail (SymbolIn text) x (xs ++ ys) all)

  right_own : (xs ys : List Symbol) → Own (xs ++ ys) → Own ys
  right_own xs ys own = (right_all xs ys own.0, right_in_order xs ys own.1)

  -- ---- forms

  before : {f g : Text} {P : Type 0} → Holds f P → Holds (f ⨾ g) P
  before h ts q all = h q.left q.before (left_own q.left q.right (subst Own q.joined all))

  behind : {f g : Text} {P : Type 0} → Holds g P → Holds (f ⨾ g) P
  behind h ts q all = h q.right q.after (right_own q.left q.right (subst Own q.joined all))

  both : {f g : Text} {P Q : Type 0} → Holds f P → Holds g Q → Holds (f ⨾ g) (P × Q)
  both {f = f} {g = g} h i ts q all = (before {f = f} {g = g} h ts q all, behind {f = f} {g = g} i ts q all)

  many_in : {A : Type 0} {form : A → Text} {P : A → Type 0} → ((x : A) → Holds (form x) (P x)) → (xs : List A) → Holds (Many form xs) (All P xs)
  many_in {P = P} h [] ts e all = All-nil P
  many_in {A = A} {form = form} {P = P} h (x ∷ xs) ts m all =
      let (u, v, split, first, more) = m in
      let own = subst Own split all in
      All-cons P x xs (h x u first (left_own u v own)) (many_in {A = A} {form = form} {P = P} h xs v more (right_own u v own))

  listed_in : {A : Type 0} {form : A → Text} {P : A → Type 0} → ((x : A) → Holds (form x) (P x)) → (p : A × List A) → Holds (listed form p) (P p.0 × All P p.1)
  listed_in h p = both (h p.0) (many_in (λ x. behind (h x)) p.1)

  -- ---- symbols

  one_in : (is : Symbol → Bool) (t : Symbol) → Holds (one is t) (SymbolIn text t)
  one_in is t ts o all = All-head (SymbolIn text) t [] (subst Own o.1 all).0

  piece_in : (is : Symbol → Bool) (t : Symbol) → Holds (one is t) (IsPiece text t)
  piece_in is t ts o all = (one_in is t ts o all).is_piece

  string_in : (t : Symbol) → Holds (one (of k.text) t) (IsString text t)
  string_in t ts o all = (one_in (of k.text) t ts o all).string o.0

  -- ---- parts

  name_in : (m : Name) → Holds (name_text m) (NameIn text m)
  name_in (n.Word t) = piece_in (of k.bare_name) t
  name_in (n.Bracketed first t) = behind (before (string_in t))

  column_in : (c : Column) → Holds (column_text c) (ColumnIn text c)
  column_in c = both (name_in c.name) (behind (piece_in (of k.any_word) c.ty))

  columns_in : (cs : ColumnsTree) → Holds (columns_text cs) (ColumnsIn text cs)
  columns_in cs = listed_in column_in cs

  property_in : (q : Property) → Holds (property_text q) (PropertyIn text q)
  property_in q = both (piece_in (of k.any_word) q.name) (behind (λ ts o all. (one_in (of k.property_value) q.value ts o all).string))

  properties_in : (ps : Option PropertiesTree) → Holds (Maybe properties_text ps) (PropertiesIn text ps)
  properties_in None = λ ts e all. tt
  properties_in (Some ps) = behind (behind (before (listed_in property_in ps)))

  table_columns_in : (m : Name) (cs : ColumnsTree) → Holds (table_columns_text m cs) (NameIn text m × ColumnsIn text cs)
  table_columns_in m cs = behind (both (name_in m) (behind (before (columns_in cs))))

  spanned_in : (b : BodyTree) → Holds (SpellsLocated tabular_text b) (BodyIn text b)
  spanned_in b ts s own =
      let first = (element (SymbolIn text) ts 0 b.first own.0 s.1).is_piece in
      let last = (element (SymbolIn text) ts (length ts - 1) b.last own.0 s.2).is_piece in
      record { in_order = first_before_last ts b.first b.last own.1 s.1 s.2; from_boundary = first.from_boundary; to_boundary = last.to_boundary }

  -- ---- commands

  ingest_in : (m : Name) (ps : Option PropertiesTree) (t : Symbol) → Holds (control_text (ingest m ps t)) (NameIn text m × (PropertiesIn text ps × IsPiece text t))
  ingest_in m ps t = behind (behind (behind (behind (both (behind (name_in m)) (both (properties_in ps) (piece_in (of (k.sign p.BodyMark)) t))))))

  -- the properties and the name, the table, and the query
  named_in : (v : ViewTree) → Holds (some (of (k.dashed d.MaterializedView)) ⨾ Maybe properties_text v.properties ⨾ name_text v.name) (PropertiesIn text v.properties × NameIn text v.name)
  named_in v = behind (both (properties_in v.properties) (name_in v.name))

  view_parts_in : (v : ViewTree) → Holds (view_text v) ((PropertiesIn text v.properties × NameIn text v.name) × (NameIn text v.table × BodyIn text v.body))
  view_parts_in v = behind (behind (both (named_in v) (both (behind (behind (name_in v.table))) (behind (before (spanned_in v.body))))))

  view_in : (v : ViewTree) → Holds (view_text v) (ViewIn text v)
  view_in v ts q own =
      let (a, b) = view_parts_in v ts q own in
      record { name = a.1; table = b.0; properties = a.0; body = b.1 }

  export_in : (e : ExportTree) → Holds (export_text e) (ExportIn text e)
  export_in e ts q own =
      let (a, b) = both (behind (name_in e.table)) (behind (before (spanned_in e.body))) ts q own in
      record { table = a; body = b }

  maybe_export_in : (e : Option ExportTree) → Holds (Maybe export_text e) (MaybeExportIn text e)
  maybe_export_in None = λ ts e all. tt
  maybe_export_in (Some e) = export_in e

  control_in : (c : ControlTree) → Holds (control_text c) (ControlIn text c)
  control_in (create_table m cs) = behind (behind (table_columns_in m cs))
  control_in (ingest m ps t) = λ ts q all. (let (a, b) = ingest_in m ps t ts q all in (a, b.0, b.1))
  control_in (alter_merge m cs) = behind (behind (table_columns_in m cs))
  control_in (create_view v) = behind (behind (view_in v))
  control_in (set_policy m t) = behind (behind (both (behind (name_in m)) (behind (behind (string_in t)))))
  control_in (show_view m) = behind (behind (behind (name_in m)))
  control_in show_failures = λ ts q all. tt
  control_in (show_extents m) = behind (behind (before (behind (name_in m))))
  control_in show_journal = λ ts q all. tt
  control_in (fold m) = behind (behind (name_in m))
  control_in (merge m) = behind (behind (name_in m))
  control_in (export t e) = behind (behind (both (piece_in (of k.any_word) t) (maybe_export_in e)))

pub stands : (text : List ℕ) (c : ControlTree) → IsUtf8 text → IsStatement text (control c) → ControlIn text c
stands text c utf8 is = control_in text c (symbols_of text is.tokens) is.is.1.spelled (symbols_in text is.tokens utf8 is.are, symbols_in_order text is.tokens is.are)
