-- Where the body of an export reads something else than its table, or asks for the moment of a command.
use Rattle.std.specs.Prelude.{ℕ, List, [], ◌∷◌, Option, Some, None, if◌then◌else◌, unwrap_or}
use Rattle.kq_view_body.specs.Moments.{or_later, moment_in, moment_in_item, moment_in_items, moment_in_aggregates, moment_in_grouping}
use Rattle.kq_view_body.specs.Parts.{pipe_place}
use Rattle.kq_read_grammar.specs.declared.expression.Name.{Name}
use Rattle.kq_read_grammar.specs.Trees.{KeyTree, TabularTree, pipeline, SourceTree, table, nested, worded, FromTree, view, print, range, datatable, union, UnionTree, arms, ArmTree, named_arm, nested_arm, Arms, no_arm, and_arm, Operators, no_operator, and_operator, BodyTree, filter, extend, project, project_away, project_rename, take, count, sort, top, distinct, distinct_all, summarize, summarize_by, join, unite, mv_expand, QueryTree}
use Rattle.kq_read_meanings.specs.Names.{name_said, name_place}
use Rattle.kq_read_tokens.specs.Bytes.{is_text}

abbrev pub moment_in_keys : List ℕ → List KeyTree → Option ℕ
moment_in_keys text [] = None
moment_in_keys text (k ∷ ks) = or_later (moment_in text k.value) (moment_in_keys text ks)

-- a name that isn't the table's
abbrev pub other_name : List ℕ → List ℕ → Name → Option ℕ
other_name text name n = if is_text (name_said text n) name then None else Some (name_place n)

-- the leftmost name that isn't the table's, word `materialized_view`, or call of now or ago
abbrev mutual
  pub foreign_tabular : List ℕ → List ℕ → TabularTree → Option ℕ
  foreign_tabular text name (pipeline o bs) = or_later (foreign_source text name o) (foreign_operators text name bs)

  pub foreign_source : List ℕ → List ℕ → SourceTree → Option ℕ
  foreign_source text name (table n) = other_name text name n
  foreign_source text name (nested t q) = foreign_tabular text name q
  foreign_source text name (worded t b) = foreign_from text name t.from b

  pub foreign_from : List ℕ → List ℕ → ℕ → FromTree → Option ℕ
  foreign_from text name at (view v) = Some at
  foreign_from text name at (print i is) = moment_in_items text (i ∷ is)
  foreign_from text name at (range n a b c) = or_later (moment_in text a) (or_later (moment_in text b) (moment_in text c))
  foreign_from text name at (datatable c cs ls) = None
  foreign_from text name at (union u) = foreign_union text name u

  pub foreign_union : List ℕ → List ℕ → UnionTree → Option ℕ
  foreign_union text name (arms kind a more) = or_later (foreign_arm text name a) (foreign_arms text name more)

  pub foreign_arms : List ℕ → List ℕ → Arms → Option ℕ
  foreign_arms text name no_arm = None
  foreign_arms text name (and_arm a more) = or_later (foreign_arm text name a) (foreign_arms text name more)

  pub foreign_arm : List ℕ → List ℕ → ArmTree → Option ℕ
  foreign_arm text name (named_arm n) = other_name text name n
  foreign_arm text name (nested_arm t q) = foreign_tabular text name q

  pub foreign_operators : List ℕ → List ℕ → Operators → Option ℕ
  foreign_operators text name no_operator = None
  foreign_operators text name (and_operator t b bs) = or_later (foreign_body text name b) (foreign_operators text name bs)

  pub foreign_body : List ℕ → List ℕ → BodyTree → Option ℕ
  foreign_body text name (filter e) = moment_in text e
  foreign_body text name (extend i is) = moment_in_items text (i ∷ is)
  foreign_body text name (project i is) = moment_in_items text (i ∷ is)
  foreign_body text name (project_away n ns) = None
  foreign_body text name (project_rename q qs) = None
  foreign_body text name (take t) = None
  foreign_body text name count = None
  foreign_body text name (sort k ks) = moment_in_keys text (k ∷ ks)
  foreign_body text name (top t k) = moment_in text k.value
  foreign_body text name (distinct n ns) = None
  foreign_body text name (distinct_all t) = None
  foreign_body text name (summarize a more g) = or_later (moment_in_aggregates text (a ∷ more)) (moment_in_grouping text g)
  foreign_body text name (summarize_by g) = moment_in_items text (g.0 ∷ g.1)
  foreign_body text name (join kind q k ks) = foreign_tabular text name q
  foreign_body text name (unite u) = foreign_union text name u
  foreign_body text name (mv_expand i t) = moment_in_item text i

-- that of a query without lets; where it has none, its first token
abbrev pub foreign_place : List ℕ → List ℕ → QueryTree → ℕ
foreign_place text name q = unwrap_or (foreign_tabular text name q.tabular) (pipe_place q.tabular)
