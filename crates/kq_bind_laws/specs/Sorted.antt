-- What rows are sorted by, and what is so unless it is said.
use Rattle.std.specs.Prelude.{◌≡◌, ◌≢◌, ◌↔◌, ℕ, true, false, not, pos, List, Option, Some, None, Ok}
use Rattle.kq_bind_query.specs.kq_bind_operators.Flows.{Flowing, columns}
use Rattle.kq_bind_query.specs.kq_bind_operators.Scopes.{Scoping, names}
use Rattle.kq_bind_expressions.specs.Bound.{bound}
use Rattle.kq_bind_expressions.specs.Names.{Names}
use Rattle.kq_read_grammar.specs.Trees.{KeyTree}
use Rattle.kq_plan.specs.Plans.{Sorting, sorted, topped}
use Rattle.kq_read_meanings.specs.Literals.{literal_value}
use Rattle.kq_read_symbols.specs.declared.kind.Kind.{Kind}
use Rattle.kq_read_symbols.specs.declared.kind.Kind.TheVariants as kind
use Rattle.kq_read_symbols.specs.declared.kind.Symbol.{Symbol}
use Rattle.kq_read_symbols.specs.declared.word.ClauseWord.TheVariants as clause
use Rattle.kq_read_symbols.specs.declared.word.Word.TheVariants as word
use Rattle.kq_value.specs.declared.schema.Field.{Field}
use Rattle.kq_value.specs.declared.ty.Ty.{Ty}
use Rattle.kq_value.specs.declared.ty.Ty.TheVariants as ty
use Rattle.kq_value.specs.declared.value.Value.TheVariants as cell
use Rattle.kq_bind_laws.specs.Columns.{AreEach, HasNext}

abbrev pub asc_word : Kind
asc_word = kind.Word (word.Clause clause.Asc)

abbrev pub first_word : Kind
first_word = kind.Word (word.Clause clause.First)

-- this word is said
pub record IsSaid (o : Option Symbol) (k : Kind) : Type 0 where
  pub symbol : Symbol
  pub there : o ≡ Some symbol
  pub so : symbol.kind ≡ k

-- rows descend unless `asc` is said; nulls come last where rows descend and first where they ascend, unless it is said which; the key isn't a dynamic
pub record IsKey (s : Names) (cs : List Field) (k : KeyTree) (x : Sorting) : Type 0 where
  pub of_type : Ty
  pub value : bound s cs k.value ≡ Ok (x.value, of_type)
  pub is_key : of_type ≢ ty.Dynamic
  pub ascends : (x.descending ≡ false) ↔ IsSaid k.direction asc_word
  pub nulls : k.nulls ≡ None → x.nulls_first ≡ not x.descending
  pub nulls_said : k.nulls ≢ None → (x.nulls_first ≡ true) ↔ IsSaid k.nulls first_word

-- a sort has the columns that came
pub record IsSorted (s : Scoping) (w v : Flowing) (ks : List KeyTree) : Type 0 where
  pub keys : List Sorting
  pub are : AreEach (IsKey (names s) (columns w)) ks keys
  pub next : HasNext w.progress v (sorted w.input keys) (columns w)

-- so has a top, which is sorted by one key and has so many rows as its number says
pub record IsTopped (s : Scoping) (w v : Flowing) (t : Symbol) (k : KeyTree) : Type 0 where
  pub number : ℕ
  pub said : literal_value s.text t ≡ Some (cell.Long (pos number))
  pub key : Sorting
  pub is : IsKey (names s) (columns w) k key
  pub next : HasNext w.progress v (topped w.input number key) (columns w)
