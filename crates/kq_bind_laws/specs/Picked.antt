-- The columns that are left, and those that are renamed.
use Rattle.std.specs.Prelude.{◌≡◌, ℕ, Bool, not, nat_eq, List, Some, filter, length, slice_get}
use Rattle.std.specs.Cmp.Lexicographic.{pointwise}
use Rattle.std.specs.List.{list_any}
use Rattle.kq_bind_query.specs.kq_bind_operators.Flows.{Flowing, columns}
use Rattle.kq_bind_columns.specs.Items.{field}
use Rattle.kq_bind_query.specs.Different.{AreDifferent}
use Rattle.kq_bind_query.specs.United.{Has}
use Rattle.kq_read_grammar.specs.declared.expression.Name.{Name}
use Rattle.kq_plan.specs.Plans.{mapped}
use Rattle.kq_read_meanings.specs.Names.{name_said}
use Rattle.kq_value.specs.declared.schema.Field.{Field}
use Rattle.kq_bind_laws.specs.Columns.{Valued, column_of, values_of, numbered_from, HasNext}

-- ---- project-away

-- one of these names says this
abbrev pub is_said : List ℕ → List Name → List ℕ → Bool
is_said text ns said = list_any (λ n. pointwise nat_eq (name_said text n) said) ns

-- the columns that no name names, as they are, in order
abbrev pub left_of : List ℕ → List Name → List Field → List Valued
left_of text ns cs = filter (λ x. not (is_said text ns (column_of x).name)) (numbered_from 0 cs)

-- ---- project-rename

-- a new name, and the old one
abbrev pub Renaming : Type 0
Renaming = Name × Name

abbrev pub new_of : Renaming → Name
new_of p = p.0

abbrev pub old_of : Renaming → Name
old_of p = p.1

-- the old name of a renaming says this
pub record IsRenamed (text : List ℕ) (ps : List Renaming) (said : List ℕ) : Type 0 where
  pub renaming : Renaming
  pub among : Has ps renaming
  pub so : name_said text (old_of renaming) ≡ said

-- as many columns, in their places: those that are renamed have their types and the new names, and the others stay; no two have one name
pub record AreRenamed (text : List ℕ) (cs : List Field) (ps : List Renaming) (out : List Field) : Type 0 where
  pub all : length out ≡ length cs
  pub kept : (k : ℕ) (c : Field) → slice_get cs k ≡ Some c → ¬ (IsRenamed text ps c.name) → slice_get out k ≡ Some c
  pub renamed : (k : ℕ) (c : Field) (p : Renaming) → slice_get cs k ≡ Some c → Has ps p → name_said text (old_of p) ≡ c.name
      → slice_get out k ≡ Some (field (name_said text (new_of p)) c.ty)
  pub different : AreDifferent out

-- each column has the values of the one in its place
pub record HasRenamed (text : List ℕ) (w v : Flowing) (ps : List Renaming) : Type 0 where
  pub out : List Field
  pub are : AreRenamed text (columns w) ps out
  pub next : HasNext w.progress v (mapped w.input (values_of (numbered_from 0 (columns w)))) out
