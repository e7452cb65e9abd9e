-- The columns that `extend` gives.
use Rattle.std.specs.Prelude.{◌≡◌, ℕ, Bool, not, List, Some, drop, filter, length, slice_get}
use Rattle.kq_bind_query.specs.kq_bind_operators.Flows.{Flowing, columns}
use Rattle.kq_bind_query.specs.kq_bind_operators.Scopes.{Scoping, names}
use Rattle.kq_bind_columns.specs.Naming.{is_taken}
use Rattle.kq_plan_expressions.specs.Terms.{column}
use Rattle.kq_bind_query.specs.Suffixes.{IsNamed}
use Rattle.kq_bind_query.specs.United.{Has}
use Rattle.kq_read_grammar.specs.Trees.{ItemTree}
use Rattle.kq_value.specs.declared.schema.Field.{Field}
use Rattle.kq_bind_laws.specs.Columns.{Valued, column_of, columns_of, IsMapped}
use Rattle.kq_bind_laws.specs.Items.{AreItems, own_name}

-- no input column has the name
abbrev pub is_new : List Field → Valued → Bool
is_new cs x = not (is_taken cs (column_of x).name)

-- the columns of an extend: an input column that no item names keeps its place, its name, its type and its value; an item that names one stands in
-- its place;
-- the other items stand behind all of them, in order
pub record IsLaid (cs : List Field) (items out : List Valued) : Type 0 where
  pub kept : (k : ℕ) (c : Field) → slice_get cs k ≡ Some c → ¬ (IsNamed (columns_of items) c.name) → slice_get out k ≡ Some (column k, c)
  pub replaced : (k : ℕ) (c : Field) (x : Valued) → slice_get cs k ≡ Some c → Has items x → (column_of x).name ≡ c.name → slice_get out k ≡ Some x
  pub added : drop (length cs) out ≡ filter (is_new cs) items

-- an item's default name is kept where an input column has it, and a suffix avoids the input columns too
pub record IsExtended (s : Scoping) (w v : Flowing) (items : List ItemTree) : Type 0 where
  pub made : List Valued
  pub are : AreItems (names s) (columns w) (columns w) (own_name s.text (columns w) items) items made
  pub out : List Valued
  pub laid : IsLaid (columns w) made out
  pub next : IsMapped w v out
