-- The symbols of a query in the order of its text, each by what it stands there for. Signs that the tree doesn't keep, as commas, aren't among them.
use Rattle.std.specs.Prelude.{ℕ, List, [], ◌∷◌, ◌++◌, Option, Some, None}
use Rattle.kq_read_grammar.specs.declared.clause.Cell.{Cell}
use Rattle.kq_read_grammar.specs.declared.clause.Column.{Column}
use Rattle.kq_read_grammar.specs.declared.clause.JoinKey.{JoinKey}
use Rattle.kq_read_grammar.specs.declared.clause.JoinKey.TheVariants as key
use Rattle.kq_read_grammar.specs.declared.expression.Name.{Name}
use Rattle.kq_read_grammar.specs.Trees.{Tree, name, literal, group, call, path, signed, compare, within, between, chain, Trees, no_tree, and_tree, Links, no_link, and_link, OneStep, member, index, Steps, no_step, and_step, ItemTree, plain, named, KeyTree, ArgumentTree, value, all, AggregateTree, GroupingTree, TabularTree, pipeline, SourceTree, table, nested, worded, FromTree, view, print, range, datatable, union, UnionTree, arms, ArmTree, named_arm, nested_arm, Arms, no_arm, and_arm, Operators, no_operator, and_operator, BodyTree, filter, extend, project, project_away, project_rename, take, count, sort, top, distinct, distinct_all, summarize, summarize_by, join, unite, mv_expand, LetTree, QueryTree}
use Rattle.kq_read_meanings.specs.Names.{name_place}
use Rattle.kq_read_symbols.specs.Choices.{Right, scalar, table as tabular_alone, either}
use Rattle.kq_read_symbols.specs.declared.kind.Symbol.{Symbol}

pub data Spoken : Type 0 where
  -- the name of rows, where a source or an arm of a union stands
  source_name : Name → Spoken
  -- any other name
  other_name : Name → Spoken
  literal_word : Symbol → Spoken
  type_word : Symbol → Spoken
  -- the name of a function that is called
  function_word : Symbol → Spoken
  -- the name of an aggregate
  aggregate_word : Symbol → Spoken
  -- the word `materialized_view`, and the text that names the view
  view_words : Symbol → Symbol → Spoken
  -- an operator, a parenthesis, or any other word
  sign : Symbol → Spoken

abbrev pub place_of : Spoken → ℕ
place_of (source_name n) = name_place n
place_of (other_name n) = name_place n
place_of (literal_word t) = t.from
place_of (type_word t) = t.from
place_of (function_word t) = t.from
place_of (aggregate_word t) = t.from
place_of (view_words t v) = t.from
place_of (sign t) = t.from

abbrev pub if_said : {A : Type 0} → (A → Spoken) → Option A → List Spoken
if_said of None = []
if_said of (Some x) = of x ∷ []

-- ---- expressions

abbrev mutual
  pub tree_symbols : Tree → List Spoken
  tree_symbols (name n) = other_name n ∷ []
  tree_symbols (literal t) = literal_word t ∷ []
  tree_symbols (group t e) = sign t ∷ tree_symbols e
  tree_symbols (call t es) = function_word t ∷ trees_symbols es
  tree_symbols (path e p ps) = tree_symbols e ++ (step_symbols p ++ steps_symbols ps)
  tree_symbols (signed t e) = sign t ∷ tree_symbols e
  tree_symbols (compare a t b) = tree_symbols a ++ sign t ∷ tree_symbols b
  tree_symbols (within a t e es) = tree_symbols a ++ (sign t ∷ tree_symbols e ++ trees_symbols es)
  tree_symbols (between a t b c) = tree_symbols a ++ (sign t ∷ tree_symbols b ++ tree_symbols c)
  tree_symbols (chain l a t b ls) = tree_symbols a ++ (sign t ∷ tree_symbols b ++ links_symbols ls)

  pub trees_symbols : Trees → List Spoken
  trees_symbols no_tree = []
  trees_symbols (and_tree e es) = tree_symbols e ++ trees_symbols es

  pub links_symbols : Links → List Spoken
  links_symbols no_link = []
  links_symbols (and_link t e ls) = sign t ∷ tree_symbols e ++ links_symbols ls

  pub step_symbols : OneStep → List Spoken
  step_symbols (member d n) = sign d ∷ other_name n ∷ []
  step_symbols (index d e) = sign d ∷ tree_symbols e

  pub steps_symbols : Steps → List Spoken
  steps_symbols no_step = []
  steps_symbols (and_step p ps) = step_symbols p ++ steps_symbols ps

-- ---- clauses

abbrev pub names_symbols : List Name → List Spoken
names_symbols [] = []
names_symbols (n ∷ ns) = other_name n ∷ names_symbols ns

abbrev pub renamings_symbols : List (Name × Name) → List Spoken
renamings_symbols [] = []
renamings_symbols (p ∷ ps) = other_name p.0 ∷ other_name p.1 ∷ renamings_symbols ps

abbrev pub item_symbols : ItemTree → List Spoken
item_symbols (plain e) = tree_symbols e
item_symbols (named n e) = other_name n ∷ tree_symbols e

abbrev pub items_symbols : List ItemTree → List Spoken
items_symbols [] = []
items_symbols (i ∷ is) = item_symbols i ++ items_symbols is

abbrev pub keys_symbols : List KeyTree → List Spoken
keys_symbols [] = []
keys_symbols (k ∷ ks) = tree_symbols k.value ++ (if_said sign k.direction ++ (if_said sign k.nulls ++ keys_symbols ks))

abbrev pub argument_symbols : ArgumentTree → List Spoken
argument_symbols (value e) = tree_symbols e
argument_symbols (all t) = sign t ∷ []

abbrev pub arguments_symbols : List ArgumentTree → List Spoken
arguments_symbols [] = []
arguments_symbols (a ∷ more) = argument_symbols a ++ arguments_symbols more

abbrev pub aggregates_symbols : List AggregateTree → List Spoken
aggregates_symbols [] = []
aggregates_symbols (a ∷ more) = if_said other_name a.given ++ (aggregate_word a.function ∷ arguments_symbols a.arguments ++ aggregates_symbols more)

abbrev pub grouping_symbols : Option GroupingTree → List Spoken
grouping_symbols None = []
grouping_symbols (Some g) = items_symbols (g.0 ∷ g.1)

abbrev pub columns_symbols : List Column → List Spoken
columns_symbols [] = []
columns_symbols (c ∷ cs) = other_name c.name ∷ type_word c.ty ∷ columns_symbols cs

abbrev pub cells_symbols : List Cell → List Spoken
cells_symbols [] = []
cells_symbols (c ∷ cs) = if_said sign c.minus ++ literal_word c.literal ∷ cells_symbols cs

abbrev pub join_key_symbols : JoinKey → List Spoken
join_key_symbols (key.Both n) = other_name n ∷ []
join_key_symbols (key.LeftRight a t b) = other_name a ∷ sign t ∷ other_name b ∷ []
join_key_symbols (key.RightLeft a t b) = other_name a ∷ sign t ∷ other_name b ∷ []

abbrev pub join_keys_symbols : List JoinKey → List Spoken
join_keys_symbols [] = []
join_keys_symbols (k ∷ ks) = join_key_symbols k ++ join_keys_symbols ks

-- ---- sources and operators

abbrev mutual
  pub tabular_symbols : TabularTree → List Spoken
  tabular_symbols (pipeline o bs) = source_symbols o ++ operators_symbols bs

  pub source_symbols : SourceTree → List Spoken
  source_symbols (table n) = source_name n ∷ []
  source_symbols (nested t q) = sign t ∷ tabular_symbols q
  source_symbols (worded t b) = from_symbols t b

  -- with the word before it
  pub from_symbols : Symbol → FromTree → List Spoken
  from_symbols t (view v) = view_words t v ∷ []
  from_symbols t (print i is) = sign t ∷ items_symbols (i ∷ is)
  from_symbols t (range n a b c) = sign t ∷ other_name n ∷ tree_symbols a ++ (tree_symbols b ++ tree_symbols c)
  from_symbols t (datatable c cs ls) = sign t ∷ columns_symbols (c ∷ cs) ++ cells_symbols ls
  from_symbols t (union u) = sign t ∷ union_symbols u

  pub union_symbols : UnionTree → List Spoken
  union_symbols (arms kind a more) = if_said sign kind ++ (arm_symbols a ++ arms_symbols more)

  pub arms_symbols : Arms → List Spoken
  arms_symbols no_arm = []
  arms_symbols (and_arm a more) = arm_symbols a ++ arms_symbols more

  pub arm_symbols : ArmTree → List Spoken
  arm_symbols (named_arm n) = source_name n ∷ []
  arm_symbols (nested_arm t q) = sign t ∷ tabular_symbols q

  pub operators_symbols : Operators → List Spoken
  operators_symbols no_operator = []
  operators_symbols (and_operator t b bs) = sign t ∷ body_symbols b ++ operators_symbols bs

  pub body_symbols : BodyTree → List Spoken
  body_symbols (filter e) = tree_symbols e
  body_symbols (extend i is) = items_symbols (i ∷ is)
  body_symbols (project i is) = items_symbols (i ∷ is)
  body_symbols (project_away n ns) = names_symbols (n ∷ ns)
  body_symbols (project_rename q qs) = renamings_symbols (q ∷ qs)
  body_symbols (take t) = literal_word t ∷ []
  body_symbols count = []
  body_symbols (sort k ks) = keys_symbols (k ∷ ks)
  body_symbols (top t k) = literal_word t ∷ keys_symbols (k ∷ [])
  body_symbols (distinct n ns) = names_symbols (n ∷ ns)
  body_symbols (distinct_all t) = sign t ∷ []
  body_symbols (summarize a more g) = aggregates_symbols (a ∷ more) ++ grouping_symbols g
  body_symbols (summarize_by g) = items_symbols (g.0 ∷ g.1)
  body_symbols (join kind q k ks) = if_said other_name kind ++ (tabular_symbols q ++ join_keys_symbols (k ∷ ks))
  body_symbols (unite u) = union_symbols u
  body_symbols (mv_expand i t) = item_symbols i ++ if_said type_word t

-- ---- lets and queries

-- what has both readings is read as a source
abbrev pub right_symbols : Right Tree TabularTree → List Spoken
right_symbols (scalar e) = tree_symbols e
right_symbols (tabular_alone q) = tabular_symbols q
right_symbols (either e q) = tabular_symbols q

abbrev pub lets_symbols : List LetTree → List Spoken
lets_symbols [] = []
lets_symbols (l ∷ ls) = other_name l.name ∷ right_symbols l.right ++ lets_symbols ls

abbrev pub query_symbols : QueryTree → List Spoken
query_symbols q = lets_symbols q.lets ++ tabular_symbols q.tabular
