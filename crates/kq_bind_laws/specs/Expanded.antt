-- The column of mv-expand.
use Rattle.std.specs.Prelude.{◌≡◌, ℕ, List, [], ◌∷◌, ◌++◌, Option, Some, None, Ok, length, slice_get, slice_set}
use Rattle.kq_bind_query.specs.kq_bind_operators.Flows.{Flowing, columns}
use Rattle.kq_bind_query.specs.kq_bind_operators.Scopes.{Scoping, names}
use Rattle.kq_bind_expressions.specs.Bound.{bound}
use Rattle.kq_plan_expressions.specs.Terms.{Term}
use Rattle.kq_bind_query.specs.Suffixes.{IsNamed}
use Rattle.kq_read_grammar.specs.Trees.{ItemTree}
use Rattle.kq_plan.specs.Plans.{expanded}
use Rattle.kq_read_meanings.specs.Pieces.{piece}
use Rattle.kq_read_meanings.specs.Types.{ty_of}
use Rattle.kq_read_symbols.specs.declared.kind.Symbol.{Symbol}
use Rattle.kq_value.specs.declared.schema.Field.{Field}
use Rattle.kq_value.specs.declared.ty.Ty.{Ty}
use Rattle.kq_value.specs.declared.ty.Ty.TheVariants as ty
use Rattle.kq_bind_laws.specs.Columns.{HasNext}
use Rattle.kq_bind_laws.specs.Items.{expression_of}

-- the type that a word says, where there is one
abbrev pub SaysType : List ℕ → Option Symbol → Option Ty → Type 0
SaysType text None o = o ≡ None
SaysType text (Some t) o = (u : Ty) × (ty_of (piece text t) ≡ Some u) × (o ≡ Some u)

-- the parts are of the type that is said, and else dynamics
abbrev pub IsPart : Option Ty → Ty → Type 0
IsPart (Some t) u = u ≡ t
IsPart None u = u ≡ ty.Dynamic

-- a column in the place of the input column of its name, or else behind all of them; the others stay
pub record IsStood (cs : List Field) (f : Field) (place : ℕ) (out : List Field) : Type 0 where
  pub replaced : (k : ℕ) (c : Field) → slice_get cs k ≡ Some c → c.name ≡ f.name → (place ≡ k) × (out ≡ slice_set cs k f)
  pub added : ¬ (IsNamed cs f.name) → (place ≡ length cs) × (out ≡ cs ++ f ∷ [])

-- an expansion of a dynamic has its parts in one column, of their type, and the others as they came
pub record IsExpanded (s : Scoping) (w v : Flowing) (i : ItemTree) (t : Option Symbol) : Type 0 where
  pub value : Term
  pub is_dynamic : bound (names s) (columns w) (expression_of i) ≡ Ok (value, ty.Dynamic)
  pub to : Option Ty
  pub said : SaysType s.text t to
  pub column : Field
  pub of_type : IsPart to column.ty
  pub place : ℕ
  pub out : List Field
  pub stands : IsStood (columns w) column place out
  pub next : HasNext w.progress v (expanded w.input value place to) out
