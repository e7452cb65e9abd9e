-- What a summarize gives: its keys, and behind them the columns of its aggregates.
use Rattle.std.specs.Prelude.{◌≡◌, ◌≢◌, ℕ, zero, ◌+◌, ◌^◌, ◌≤◌, List, [], ◌++◌, Option, Some, Ok, flat_map, length, map, slice_get, take}
use Rattle.kq_bind_query.specs.kq_bind_operators.Flows.{Flowing, columns}
use Rattle.kq_bind_query.specs.kq_bind_operators.Scopes.{Scoping, names}
use Rattle.kq_bind_query.specs.Pipes.{operated}
use Rattle.kq_bind_aggregates.specs.Arguments.{Argued, all_argued}
use Rattle.kq_bind_aggregates.specs.declared.function.AggregateFunction.{AggregateFunction}
use Rattle.kq_bind_aggregates.specs.Functions.{aggregate_named}
use Rattle.kq_bind_expressions.specs.Names.{Names}
use Rattle.kq_bind_query.specs.Suffixes.{IsMadeFree, IsNamed}
use Rattle.kq_read_grammar.specs.declared.expression.Name.{Name}
use Rattle.kq_read_grammar.specs.Trees.{AggregateTree, BodyTree, ItemTree}
use Rattle.kq_plan.specs.Plans.{Aggregating, summarized}
use Rattle.kq_read_meanings.specs.Names.{name_said}
use Rattle.kq_read_meanings.specs.Pieces.{piece}
use Rattle.kq_value.specs.declared.schema.Field.{Field}
use Rattle.kq_value.specs.declared.ty.Ty.TheVariants as ty
use Rattle.kq_bind_laws.specs.Aggregates.{Makes}
use Rattle.kq_bind_laws.specs.Columns.{Valued, column_of, values_of, columns_of, HasNext}
use Rattle.kq_bind_laws.specs.Items.{AreFew, AreItems, own_name}

-- so few columns go on that each can be given a suffix of its own, in 64 bits
abbrev pub IsNarrow : Flowing → Type 0
IsNarrow v = length (columns v) + 2 ≤ 2 ^ 64

-- the name of the column in this place of an aggregate, behind these columns: a given name is that of the first, and a default one is made free
abbrev pub IsColumnName : List ℕ → List Field → Option Name → ℕ → List ℕ → List ℕ → Type 0
IsColumnName text before (Some n) zero base name = name ≡ name_said text n
IsColumnName text before given place base name = IsMadeFree before [] base name

-- the columns of an aggregate, where `base` has them under their default names; a given name is that of no column before them
pub record AreNamed (text : List ℕ) (before : List Field) (given : Option Name) (base fs : List Field) : Type 0 where
  pub all : length fs ≡ length base
  pub each : (j : ℕ) (b f : Field) → slice_get base j ≡ Some b → slice_get fs j ≡ Some f
      → (f.ty ≡ b.ty) × IsColumnName text (before ++ take j fs) given j b.name f.name
  pub new : (n : Name) → given ≡ Some n → ¬ (IsNamed before (name_said text n))

-- an aggregate of the rows, with its columns
abbrev pub Gathered : Type 0
Gathered = Aggregating × List Field

abbrev pub work_of : Gathered → Aggregating
work_of x = x.0

abbrev pub fields_of : Gathered → List Field
fields_of x = x.1

-- what an aggregate is bound to behind these columns
pub record IsAggregate (s : Names) (cs keys before : List Field) (a : AggregateTree) (x : Gathered) : Type 0 where
  pub function : AggregateFunction
  pub called : aggregate_named (piece s.text a.function) ≡ Some function
  pub given : List Argued
  pub arguments : all_argued s cs a.arguments ≡ Ok given
  pub base : List Field
  pub makes : Makes cs keys function given (work_of x) base
  pub named : AreNamed s.text before a.given base (fields_of x)

-- one for each, in order, each behind the columns of the keys and of those before it
pub record AreAggregates (s : Names) (cs keys : List Field) (more : List AggregateTree) (xs : List Gathered) : Type 0 where
  pub all : length xs ≡ length more
  pub each : (j : ℕ) (a : AggregateTree) (x : Gathered) → slice_get more j ≡ Some a → slice_get xs j ≡ Some x
      → IsAggregate s cs keys (keys ++ flat_map fields_of (take j xs)) a x

abbrev pub IsNoDynamic : Valued → Type 0
IsNoDynamic x = (column_of x).ty ≢ ty.Dynamic

-- the keys come first, none of them a dynamic, and then the columns of the aggregates
pub record IsSummarized (s : Scoping) (w v : Flowing) (more : List AggregateTree) (items : List ItemTree) : Type 0 where
  pub keys : List Valued
  pub are_keys : AreItems (names s) (columns w) [] (own_name s.text (columns w) items) items keys
  pub no_dynamic : (j : ℕ) (x : Valued) → slice_get keys j ≡ Some x → IsNoDynamic x
  pub aggregates : List Gathered
  pub are : AreAggregates (names s) (columns w) (columns_of keys) more aggregates
  pub next : HasNext w.progress v (summarized w.input (values_of keys) (map work_of aggregates)) (columns_of keys ++ flat_map fields_of aggregates)

-- an operator with few keys gives these keys and aggregates, wherever the columns that go on are narrow
abbrev pub Summarizes : Scoping → Flowing → BodyTree → List AggregateTree → List ItemTree → Type 0
Summarizes s w operator more items = (v : Flowing) → AreFew items [] → IsNarrow v → operated s w operator ≡ Ok v → IsSummarized s w v more items
