-- The place of the leftmost literal or word of a type in a query that isn't supported.
use Rattle.std.specs.Prelude.{ℕ, List, [], ◌∷◌, Option, Some, None}
use Rattle.kq_bind_aggregates.specs.Unsupported.{unsupported_aggregates}
use Rattle.kq_bind_clauses.specs.Sorts.{unsupported_keys}
use Rattle.kq_bind_clauses.specs.Tables.{typeless, unsupported_columns, unsupported_cells}
use Rattle.kq_bind_clauses.specs.kq_bind_columns.Items.{unsupported_item, unsupported_items}
use Rattle.kq_bind_clauses.specs.kq_bind_expressions.Unsupported.{or_later, valueless, unsupported_in}
use Rattle.kq_read_grammar.specs.Trees.{Tree, ItemTree, GroupingTree, TabularTree, pipeline, SourceTree, table, nested, worded, FromTree, view, print, range, datatable, union, UnionTree, arms, ArmTree, named_arm, nested_arm, Arms, no_arm, and_arm, Operators, no_operator, and_operator, BodyTree, filter, extend, project, project_away, project_rename, take, count, sort, top, distinct, distinct_all, summarize, summarize_by, join, unite, mv_expand, LetTree, QueryTree}
use Rattle.kq_read_symbols.specs.Choices.{Right, scalar, table as tabular_alone, either}
use Rattle.kq_read_symbols.specs.declared.kind.Symbol.{Symbol}

abbrev pub unsupported_grouping : List ℕ → Option GroupingTree → Option ℕ
unsupported_grouping text None = None
unsupported_grouping text (Some g) = unsupported_items text (g.0 ∷ g.1)

abbrev pub unsupported_word : List ℕ → Option Symbol → Option ℕ
unsupported_word text None = None
unsupported_word text (Some t) = typeless text t

-- of a range: in what it begins with, what it ends with and what it steps by
abbrev pub unsupported_range : List ℕ → Tree → Tree → Tree → Option ℕ
unsupported_range text first last step = or_later (unsupported_in text first) (or_later (unsupported_in text last) (unsupported_in text step))

abbrev mutual
  pub unsupported_tabular : List ℕ → TabularTree → Option ℕ
  unsupported_tabular text (pipeline o bs) = or_later (unsupported_source text o) (unsupported_operators text bs)

  pub unsupported_source : List ℕ → SourceTree → Option ℕ
  unsupported_source text (table n) = None
  unsupported_source text (nested t q) = unsupported_tabular text q
  unsupported_source text (worded t b) = unsupported_from text b

  pub unsupported_from : List ℕ → FromTree → Option ℕ
  unsupported_from text (view v) = None
  unsupported_from text (print i is) = unsupported_items text (i ∷ is)
  unsupported_from text (range n a b c) = unsupported_range text a b c
  unsupported_from text (datatable c cs ls) = or_later (unsupported_columns text (c ∷ cs)) (unsupported_cells text ls)
  unsupported_from text (union u) = unsupported_union text u

  pub unsupported_union : List ℕ → UnionTree → Option ℕ
  unsupported_union text (arms kind a more) = or_later (unsupported_arm text a) (unsupported_arms text more)

  pub unsupported_arms : List ℕ → Arms → Option ℕ
  unsupported_arms text no_arm = None
  unsupported_arms text (and_arm a more) = or_later (unsupported_arm text a) (unsupported_arms text more)

  pub unsupported_arm : List ℕ → ArmTree → Option ℕ
  unsupported_arm text (named_arm n) = None
  unsupported_arm text (nested_arm t q) = unsupported_tabular text q

  pub unsupported_operators : List ℕ → Operators → Option ℕ
  unsupported_operators text no_operator = None
  unsupported_operators text (and_operator t b bs) = or_later (unsupported_body text b) (unsupported_operators text bs)

  pub unsupported_body : List ℕ → BodyTree → Option ℕ
  unsupported_body text (filter e) = unsupported_in text e
  unsupported_body text (extend i is) = unsupported_items text (i ∷ is)
  unsupported_body text (project i is) = unsupported_items text (i ∷ is)
  unsupported_body text (project_away n ns) = None
  unsupported_body text (project_rename q qs) = None
  unsupported_body text (take t) = valueless text t
  unsupported_body text count = None
  unsupported_body text (sort k ks) = unsupported_keys text (k ∷ ks)
  unsupported_body text (top t k) = or_later (valueless text t) (unsupported_keys text (k ∷ []))
  unsupported_body text (distinct n ns) = None
  unsupported_body text (distinct_all t) = None
  unsupported_body text (summarize a more g) = or_later (unsupported_aggregates text (a ∷ more)) (unsupported_grouping text g)
  unsupported_body text (summarize_by g) = unsupported_items text (g.0 ∷ g.1)
  unsupported_body text (join kind q k ks) = unsupported_tabular text q
  unsupported_body text (unite u) = unsupported_union text u
  unsupported_body text (mv_expand i t) = or_later (unsupported_item text i) (unsupported_word text t)

-- ---- lets and queries

-- where a text has both readings, both have the same literals
abbrev pub unsupported_right : List ℕ → Right Tree TabularTree → Option ℕ
unsupported_right text (scalar e) = unsupported_in text e
unsupported_right text (tabular_alone q) = unsupported_tabular text q
unsupported_right text (either e q) = unsupported_tabular text q

abbrev pub unsupported_lets : List ℕ → List LetTree → Option ℕ
unsupported_lets text [] = None
unsupported_lets text (l ∷ ls) = or_later (unsupported_right text l.right) (unsupported_lets text ls)

abbrev pub unsupported_query : List ℕ → QueryTree → Option ℕ
unsupported_query text q = or_later (unsupported_lets text q.lets) (unsupported_tabular text q.tabular)
