-- What names stand for in a query.
use Rattle.std.specs.Prelude.{ℕ, List, [], ◌∷◌, Option, Some, None, Ok, Err, nat_eq, map, if◌then◌else◌}
use Rattle.std.specs.Cmp.Lexicographic.{pointwise}
use Rattle.kq_bind_operators.specs.Flows.{Progressing, Flowing, following, again}
use Rattle.kq_bind_columns.specs.Naming.{is_taken}
use Rattle.kq_bind_expressions.specs.Names.{Names}
use Rattle.kq_bind_expressions.specs.Verdicts.{Verdict, unknown}
use Rattle.kq_read_grammar.specs.declared.expression.Name.{Name}
use Rattle.kq_plan.specs.declared.names.NameKind.{NameKind}
use Rattle.kq_plan.specs.declared.names.NameKind.TheVariants as name
use Rattle.kq_plan.specs.declared.work.LeafKind.{LeafKind}
use Rattle.kq_plan.specs.declared.work.LeafKind.TheVariants as kind
use Rattle.kq_plan.specs.Names.{Known}
use Rattle.kq_plan.specs.Plans.{leaf}
use Rattle.kq_read_meanings.specs.Names.{name_said, name_place, string_said}
use Rattle.kq_read_meanings.specs.Pieces.{piece}
use Rattle.kq_read_symbols.specs.declared.kind.Symbol.{Symbol}
use Rattle.kq_value.specs.declared.schema.Field.{Field}

-- a tabular let: its name, and the step whose rows it is
pub record Tabling : Type 0 where
  pub name : List ℕ
  pub input : ℕ

-- a query's text, the lets of both kinds so far, and what the names of the catalogue stand for
pub record Scoping : Type 0 where
  pub text : List ℕ
  pub lets : List Field
  pub tables : List Tabling
  pub known : List ℕ → Option Known

-- what expressions see of it
abbrev pub names : Scoping → Names
names s = record { text = s.text; lets = s.lets }

abbrev pub tabling_named : List Tabling → List ℕ → Option ℕ
tabling_named [] said = None
tabling_named (t ∷ ts) said = if pointwise nat_eq t.name said then Some t.input else tabling_named ts said

abbrev pub leaf_kind : NameKind → LeafKind
leaf_kind name.Table = kind.Table
leaf_kind name.View = kind.View

abbrev pub leaf_of : ℕ → Progressing → List ℕ → Option Known → Verdict Flowing
leaf_of at p said (Some k) = Ok (following p (leaf (leaf_kind k.0) said) k.1)
leaf_of at p said None = Err (unknown at)

-- the let of a name hides what the catalogue has of it: a scalar let is no source
abbrev pub named_rows : Scoping → Progressing → ℕ → List ℕ → Option ℕ → Verdict Flowing
named_rows s p at said (Some i) = Ok (again p i)
named_rows s p at said None = if is_taken s.lets said then Err (unknown at) else leaf_of at p said (s.known said)

abbrev pub source_named : Scoping → Progressing → Name → Verdict Flowing
source_named s p n = named_rows s p (name_place n) (name_said s.text n) (tabling_named s.tables (name_said s.text n))

-- nothing hides the view that `materialized_view` names
abbrev pub part_of : ℕ → Progressing → List ℕ → Option Known → Verdict Flowing
part_of at p said (Some (name.View, cs)) = Ok (following p (leaf kind.Part said) cs)
part_of at p said _ = Err (unknown at)

abbrev pub part_named : Scoping → Progressing → Symbol → Verdict Flowing
part_named s p t = part_of t.from p (string_said (piece s.text t)) (s.known (string_said (piece s.text t)))
