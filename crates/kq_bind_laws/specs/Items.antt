-- The columns that the items of an operator make.
use Rattle.std.specs.Prelude.{◌≡◌, ℕ, ◌+◌, ◌^◌, ◌≤◌, Bool, false, List, [], ◌++◌, Option, Some, None, Ok, codes, decimal, filter, is_none, length, slice_get, take}
use Rattle.kq_bind_query.specs.kq_bind_operators.Flows.{Progressing, Flowing, columns}
use Rattle.kq_bind_query.specs.kq_bind_operators.Scopes.{Scoping, names}
use Rattle.kq_bind_columns.specs.Defaults.{default_name}
use Rattle.kq_bind_expressions.specs.Bound.{bound}
use Rattle.kq_bind_expressions.specs.Names.{Names}
use Rattle.kq_bind_query.specs.Different.{AreDifferent}
use Rattle.kq_bind_query.specs.Suffixes.{IsMadeFree, IsNamed}
use Rattle.kq_read_grammar.specs.Trees.{Tree, ItemTree, plain, named}
use Rattle.kq_plan.specs.Plans.{one_row}
use Rattle.kq_read_meanings.specs.Names.{name_said}
use Rattle.kq_value.specs.declared.schema.Field.{Field}
use Rattle.kq_bind_laws.specs.Columns.{Valued, value_of, column_of, values_of, columns_of, HasNext, IsMapped}

-- these items and columns are so few that each can be given a suffix of its own, in 64 bits
abbrev pub AreFew : List ItemTree → List Field → Type 0
AreFew items cs = length items + length cs + 2 ≤ 2 ^ 64

-- ---- default names

-- an item without a name, whose expression has none of itself
abbrev pub is_unnamed : List ℕ → List Field → ItemTree → Bool
is_unnamed text cs (plain e) = is_none (default_name text cs e)
is_unnamed text cs (named n e) = false

abbrev pub or_numbered : Option (List ℕ) → ℕ → List ℕ
or_numbered (Some name) number = name
or_numbered None number = codes "Column" ++ decimal number

-- the name that an expression has of itself, or else Column1, Column2 and so on, as the items without any name are counted; it stands at this place
-- among the items
abbrev pub own_name : List ℕ → List Field → List ItemTree → ℕ → Tree → List ℕ
own_name text cs items place e = or_numbered (default_name text cs e) (length (filter (is_unnamed text cs) (take place items)) + 1)

-- print_0, print_1 and so on
abbrev pub place_name : ℕ → Tree → List ℕ
place_name place e = codes "print_" ++ decimal place

-- ---- items

abbrev pub expression_of : ItemTree → Tree
expression_of (plain e) = e
expression_of (named n e) = e

-- a given name is that of no column before it; a default one is made free of these, and a suffix avoids some other columns too
abbrev pub IsItemName : List ℕ → List Field → List Field → List ℕ → ItemTree → List ℕ → Type 0
IsItemName text before avoided base (named n e) name = (name ≡ name_said text n) × ¬ (IsNamed before name)
IsItemName text before avoided base (plain e) name = IsMadeFree before avoided base name

-- the column of an item behind these columns: its value is that of the expression over the input alone, and its type too
pub record IsItem (s : Names) (cs avoided before : List Field) (base : List ℕ) (i : ItemTree) (x : Valued) : Type 0 where
  pub value : bound s cs (expression_of i) ≡ Ok (value_of x, (column_of x).ty)
  pub name : IsItemName s.text before avoided base i (column_of x).name

-- one column for each item, in order, and all under different names
pub record AreItems (s : Names) (cs avoided : List Field) (base : ℕ → Tree → List ℕ) (items : List ItemTree) (xs : List Valued) : Type 0 where
  pub all : length xs ≡ length items
  pub each : (j : ℕ) (i : ItemTree) (x : Valued) → slice_get items j ≡ Some i → slice_get xs j ≡ Some x
      → IsItem s cs avoided (columns_of (take j xs)) (base j (expression_of i)) i x
  pub different : AreDifferent (columns_of xs)

-- ---- operators

-- a project has just the columns of its items
pub record IsProjected (s : Scoping) (w v : Flowing) (items : List ItemTree) : Type 0 where
  pub out : List Valued
  pub made : AreItems (names s) (columns w) [] (own_name s.text (columns w) items) items out
  pub next : IsMapped w v out

-- a print has one row of those of its items, which see no column
pub record IsPrinted (s : Scoping) (p : Progressing) (v : Flowing) (items : List ItemTree) : Type 0 where
  pub out : List Valued
  pub made : AreItems (names s) [] [] place_name items out
  pub next : HasNext p v (one_row (values_of out)) (columns_of out)
