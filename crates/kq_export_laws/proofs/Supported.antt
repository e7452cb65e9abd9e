-- What isn't supported is the first of its kind among the symbols.
use Rattle.std.proofs.Common.{◌≡◌, ◌∙◌, ℕ, cond, List, [], ◌∷◌, ◌++◌, Option, Some, None, refl}
use Rattle.std.specs.Option.{option_or}
use Rattle.std.specs.Prelude.{not, is_some, option_map}
use Rattle.kq_bind_aggregates.specs.Unsupported.{unsupported_argument, unsupported_arguments, unsupported_aggregates}
use Rattle.kq_bind_clauses.specs.Sorts.{unsupported_keys}
use Rattle.kq_bind_clauses.specs.Tables.{typeless, unsupported_columns, unsupported_cells}
use Rattle.kq_bind_columns.specs.Items.{unsupported_item, unsupported_items}
use Rattle.kq_bind_expressions.specs.Unsupported.{or_later, unless_some, valueless, unsupported_in, unsupported_among, unsupported_links, unsupported_step, unsupported_steps}
use Rattle.kq_bind_supported.specs.Unsupported.{unsupported_grouping, unsupported_word, unsupported_tabular, unsupported_source, unsupported_from, unsupported_union, unsupported_arms, unsupported_arm, unsupported_operators, unsupported_body, unsupported_right, unsupported_lets, unsupported_query}
use Rattle.kq_read_grammar.specs.declared.clause.Cell.{Cell}
use Rattle.kq_read_grammar.specs.declared.clause.Column.{Column}
use Rattle.kq_read_grammar.specs.declared.clause.JoinKey.{JoinKey}
use Rattle.kq_read_grammar.specs.declared.clause.JoinKey.TheVariants as key
use Rattle.kq_read_grammar.specs.declared.expression.Name.{Name}
use Rattle.kq_read_grammar.specs.Trees.{Tree, name, literal, group, call, path, signed, compare, within, between, chain, Trees, no_tree, and_tree, Links, no_link, and_link, OneStep, member, index, Steps, no_step, and_step, ItemTree, plain, named, KeyTree, ArgumentTree, value, all, AggregateTree, GroupingTree, TabularTree, pipeline, SourceTree, table, nested, worded, FromTree, view, print, range, datatable, union, UnionTree, arms, ArmTree, named_arm, nested_arm, Arms, no_arm, and_arm, Operators, no_operator, and_operator, BodyTree, filter, extend, project, project_away, project_rename, take, count, sort, top, distinct, distinct_all, summarize, summarize_by, join, unite, mv_expand, LetTree, QueryTree}
use Rattle.kq_read_meanings.specs.Literals.{literal_value}
use Rattle.kq_read_meanings.specs.Pieces.{piece}
use Rattle.kq_read_meanings.specs.Types.{ty_of}
use Rattle.kq_read_symbols.specs.Choices.{Right, scalar, table as tabular_alone, either}
use Rattle.kq_read_symbols.specs.declared.kind.Symbol.{Symbol}
use Rattle.kq_export_laws.specs.Symbols.{Spoken, other_name, literal_word, type_word, aggregate_word, sign, place_of, if_said, tree_symbols, trees_symbols, links_symbols, step_symbols, steps_symbols, names_symbols, renamings_symbols, item_symbols, items_symbols, keys_symbols, argument_symbols, arguments_symbols, aggregates_symbols, grouping_symbols, columns_symbols, cells_symbols, join_keys_symbols, tabular_symbols, source_symbols, from_symbols, union_symbols, arms_symbols, arm_symbols, operators_symbols, body_symbols, right_symbols, lets_symbols, query_symbols}
use Rattle.kq_export_laws.specs.Searches.{found, is_unsupported}
use Rattle.kq_export_laws.proofs.Found.{found_in_both, found_before}

module _ (text : List ℕ) where
  -- this is the first of these symbols that isn't supported
  abbrev IsFirst : Option ℕ → List Spoken → Type 0
  IsFirst o xs = o ≡ found (is_unsupported text) xs

  both : (a b : List Spoken) (x y : Option ℕ) → IsFirst x a → IsFirst y b → IsFirst (or_later x y) (a ++ b)
  both a b x y h k = later_or x ∙ found_in_both (is_unsupported text) a b x y h k where
    later_or : (o : Option ℕ) → or_later o y ≡ option_or o y
    later_or (Some at) = refl
    later_or None = refl

  before : (a b : List Spoken) (x : Option ℕ) → IsFirst x a → IsFirst None b → IsFirst x (a ++ b)
  before = found_before (is_unsupported text)

  -- ---- single symbols

  valueless_first : (t : Symbol) → IsFirst (valueless text t) (literal_word t ∷ [])
  valueless_first t = elim (literal_value text t) as (λ o. unless_some t.from o ≡ option_map place_of (cond (not (is_some o)) (Some (literal_word t)) None)) [ Some v ↦ refl | None ↦ refl ]

  typeless_first : (t : Symbol) → IsFirst (typeless text t) (type_word t ∷ [])
  typeless_first t = elim (ty_of (piece text t)) as (λ o. unless_some t.from o ≡ option_map place_of (cond (not (is_some o)) (Some (type_word t)) None)) [ Some v ↦ refl | None ↦ refl ]

  word_first : (t : Option Symbol) → IsFirst (unsupported_word text t) (if_said type_word t)
  word_first None = refl
  word_first (Some t) = typeless_first t

  past_sign : (t : Option Symbol) (xs : List Spoken) (x : Option ℕ) → IsFirst x xs → IsFirst x (if_said sign t ++ xs)
  past_sign None xs x h = h
  past_sign (Some t) xs x h = h

  past_name : (n : Option Name) (xs : List Spoken) (x : Option ℕ) → IsFirst x xs → IsFirst x (if_said other_name n ++ xs)
  past_name None xs x h = h
  past_name (Some n) xs x h = h

  names_clear : (ns : List Name) → IsFirst None (names_symbols ns)
  names_clear [] = refl
  names_clear (n ∷ ns) = names_clear ns

  renamings_clear : (ps : List (Name × Name)) → IsFirst None (renamings_symbols ps)
  renamings_clear [] = refl
  renamings_clear (p ∷ ps) = renamings_clear ps

  join_keys_clear : (ks : List JoinKey) → IsFirst None (join_keys_symbols ks)
  join_keys_clear [] = refl
  join_keys_clear (key.Both n ∷ ks) = join_keys_clear ks
  join_keys_clear (key.LeftRight a t b ∷ ks) = join_keys_clear ks
  join_keys_clear (key.RightLeft a t b ∷ ks) = join_keys_clear ks

  -- ---- expressions

  mutual
    tree_first : (e : Tree) → IsFirst (unsupported_in text e) (tree_symbols e)
    tree_first (name n) = refl
    tree_first (literal t) = valueless_first t
    tree_first (group t e) = tree_first e
    tree_first (call t es) = trees_first es
    tree_first (path e p ps) =
        both (tree_symbols e) (step_symbols p ++ steps_symbols ps) (unsupported_in text e) (or_later (unsupported_step text p) (unsupported_steps text ps)) (tree_first e)
        (both (step_symbols p) (steps_symbols ps) (unsupported_step text p) (unsupported_steps text ps) (step_first p) (steps_first ps))
    tree_first (signed t e) = tree_first e
    tree_first (compare a t b) = both (tree_symbols a) (sign t ∷ tree_symbols b) (unsupported_in text a) (unsupported_in text b) (tree_first a) (tree_first b)
    tree_first (within a t e es) =
        both (tree_symbols a) (sign t ∷ tree_symbols e ++ trees_symbols es) (unsupported_in text a) (or_later (unsupported_in text e) (unsupported_among text es)) (tree_first a)
        (both (tree_symbols e) (trees_symbols es) (unsupported_in text e) (unsupported_among text es) (tree_first e) (trees_first es))
    tree_first (between a t b c) =
        both (tree_symbols a) (sign t ∷ tree_symbols b ++ tree_symbols c) (unsupported_in text a) (or_later (unsupported_in text b) (unsupported_in text c)) (tree_first a)
        (both (tree_symbols b) (tree_symbols c) (unsupported_in text b) (unsupported_in text c) (tree_first b) (tree_first c))
    tree_first (chain l a t b ls) =
        both (tree_symbols a) (sign t ∷ tree_symbols b ++ links_symbols ls) (unsupported_in text a) (or_later (unsupported_in text b) (unsupported_links text ls)) (tree_first a)
        (both (tree_symbols b) (links_symbols ls) (unsupported_in text b) (unsupported_links text ls) (tree_first b) (links_first ls))

    trees_first : (es : Trees) → IsFirst (unsupported_among text es) (trees_symbols es)
    trees_first no_tree = refl
    trees_first (and_tree e es) = both (tree_symbols e) (trees_symbols es) (unsupported_in text e) (unsupported_among text es) (tree_first e) (trees_first es)

    links_first : (ls : Links) → IsFirst (unsupported_links text ls) (links_symbols ls)
    links_first no_link = refl
    links_first (and_link t e ls) = both (tree_symbols e) (links_symbols ls) (unsupported_in text e) (unsupported_links text ls) (tree_first e) (links_first ls)

    step_first : (p : OneStep) → IsFirst (unsupported_step text p) (step_symbols p)
    step_first (member d n) = refl
    step_first (index d e) = tree_first e

    steps_first : (ps : Steps) → IsFirst (unsupported_steps text ps) (steps_symbols ps)
    steps_first no_step = refl
    steps_first (and_step p ps) = both (step_symbols p) (steps_symbols ps) (unsupported_step text p) (unsupported_steps text ps) (step_first p) (steps_first ps)

  -- ---- clauses

  item_first : (i : ItemTree) → IsFirst (unsupported_item text i) (item_symbols i)
  item_first (plain e) = tree_first e
  item_first (named n e) = tree_first e

  items_first : (is : List ItemTree) → IsFirst (unsupported_items text is) (items_symbols is)
  items_first [] = refl
  items_first (i ∷ is) = both (item_symbols i) (items_symbols is) (unsupported_item text i) (unsupported_items text is) (item_first i) (items_first is)

  keys_first : (ks : List KeyTree) → IsFirst (unsupported_keys text ks) (keys_symbols ks)
  keys_first [] = refl
  keys_first (k ∷ ks) =
      both (tree_symbols k.value) (if_said sign k.direction ++ (if_said sign k.nulls ++ keys_symbols ks)) (unsupported_in text k.value) (unsupported_keys text ks) (tree_first k.value)
      (past_sign k.direction (if_said sign k.nulls ++ keys_symbols ks) (unsupported_keys text ks) (past_sign k.nulls (keys_symbols ks) (unsupported_keys text ks) (keys_first ks)))

  argument_first : (a : ArgumentTree) → IsFirst (unsupported_argument text a) (argument_symbols a)
  argument_first (value e) = tree_first e
  argument_first (all t) = refl

  arguments_first : (xs : List ArgumentTree) → IsFirst (unsupported_arguments text xs) (arguments_symbols xs)
  arguments_first [] = refl
  arguments_first (a ∷ more) = both (argument_symbols a) (arguments_symbols more) (unsupported_argument text a) (unsupported_arguments text more) (argument_first a) (arguments_first more)

  aggregates_first : (xs : List AggregateTree) → IsFirst (unsupported_aggregates text xs) (aggregates_symbols xs)
  aggregates_first [] = refl
  aggregates_first (a ∷ more) =
      let x = or_later (unsupported_arguments text a.arguments) (unsupported_aggregates text more) in
      past_name a.given (aggregate_word a.function ∷ arguments_symbols a.arguments ++ aggregates_symbols more) x
      (both (arguments_symbols a.arguments) (aggregates_symbols more) (unsupported_arguments text a.arguments) (unsupported_aggregates text more) (arguments_first a.arguments) (aggregates_first more))

  grouping_first : (g : Option GroupingTree) → IsFirst (unsupported_grouping text g) (grouping_symbols g)
  grouping_first None = refl
  grouping_first (Some g) = items_first (g.0 ∷ g.1)

  columns_first : (cs : List Column) → IsFirst (unsupported_columns text cs) (columns_symbols cs)
  columns_first [] = refl
  columns_first (c ∷ cs) = both (type_word c.ty ∷ []) (columns_symbols cs) (typeless text c.ty) (unsupported_columns text cs) (typeless_first c.ty) (columns_first cs)

  cells_first : (cs : List Cell) → IsFirst (unsupported_cells text cs) (cells_symbols cs)
  cells_first [] = refl
  cells_first (c ∷ cs) =
      past_sign c.minus (literal_word c.literal ∷ cells_symbols cs) (or_later (valueless text c.literal) (unsupported_cells text cs))
      (both (literal_word c.literal ∷ []) (cells_symbols cs) (valueless text c.literal) (unsupported_cells text cs) (valueless_first c.literal) (cells_first cs))

  -- ---- sources and operators

  range_first : (a b c : Tree) → IsFirst (or_later (unsupported_in text a) (or_later (unsupported_in text b) (unsupported_in text c))) (tree_symbols a ++ (tree_symbols b ++ tree_symbols c))
  range_first a b c =
      both (tree_symbols a) (tree_symbols b ++ tree_symbols c) (unsupported_in text a) (or_later (unsupported_in text b) (unsupported_in text c)) (tree_first a)
      (both (tree_symbols b) (tree_symbols c) (unsupported_in text b) (unsupported_in text c) (tree_first b) (tree_first c))

  mutual
    tabular_first : (q : TabularTree) → IsFirst (unsupported_tabular text q) (tabular_symbols q)
    tabular_first (pipeline o bs) = both (source_symbols o) (operators_symbols bs) (unsupported_source text o) (unsupported_operators text bs) (source_first o) (operators_first bs)

    source_first : (o : SourceTree) → IsFirst (unsupported_source text o) (source_symbols o)
    source_first (table n) = refl
    source_first (nested t q) = tabular_first q
    source_first (worded t b) = from_first t b

    from_first : (t : Symbol) (b : FromTree) → IsFirst (unsupported_from text b) (from_symbols t b)
    from_first t (view v) = refl
    from_first t (print i is) = items_first (i ∷ is)
    from_first t (range n a b c) = range_first a b c
    from_first t (datatable c cs ls) =
        both (columns_symbols (c ∷ cs)) (cells_symbols ls) (unsupported_columns text (c ∷ cs)) (unsupported_cells text ls) (columns_first (c ∷ cs)) (cells_first ls)
    from_first t (union u) = union_first u

    union_first : (u : UnionTree) → IsFirst (unsupported_union text u) (union_symbols u)
    union_first (arms kind a more) =
        past_sign kind (arm_symbols a ++ arms_symbols more) (or_later (unsupported_arm text a) (unsupported_arms text more))
        (both (arm_symbols a) (arms_symbols more) (unsupported_arm text a) (unsupported_arms text more) (arm_first a) (arms_first more))

    arms_first : (more : Arms) → IsFirst (unsupported_arms text more) (arms_symbols more)
    arms_first no_arm = refl
    arms_first (and_arm a more) = both (arm_symbols a) (arms_symbols more) (unsupported_arm text a) (unsupported_arms text more) (arm_first a) (arms_first more)

    arm_first : (a : ArmTree) → IsFirst (unsupported_arm text a) (arm_symbols a)
    arm_first (named_arm n) = refl
    arm_first (nested_arm t q) = tabular_first q

    operators_first : (bs : Operators) → IsFirst (unsupported_operators text bs) (operators_symbols bs)
    operators_first no_operator = refl
    operators_first (and_operator t b bs) = both (body_symbols b) (operators_symbols bs) (unsupported_body text b) (unsupported_operators text bs) (body_first b) (operators_first bs)

    body_first : (b : BodyTree) → IsFirst (unsupported_body text b) (body_symbols b)
    body_first (filter e) = tree_first e
    body_first (extend i is) = items_first (i ∷ is)
    body_first (project i is) = items_first (i ∷ is)
    body_first (project_away n ns) = names_clear (n ∷ ns)
    body_first (project_rename q qs) = renamings_clear (q ∷ qs)
    body_first (take t) = valueless_first t
    body_first count = refl
    body_first (sort k ks) = keys_first (k ∷ ks)
    body_first (top t k) = both (literal_word t ∷ []) (keys_symbols (k ∷ [])) (valueless text t) (unsupported_keys text (k ∷ [])) (valueless_first t) (keys_first (k ∷ []))
    body_first (distinct n ns) = names_clear (n ∷ ns)
    body_first (distinct_all t) = refl
    body_first (summarize a more g) =
        both (aggregates_symbols (a ∷ more)) (grouping_symbols g) (unsupported_aggregates text (a ∷ more)) (unsupported_grouping text g) (aggregates_first (a ∷ more)) (grouping_first g)
    body_first (summarize_by g) = items_first (g.0 ∷ g.1)
    body_first (join kind q k ks) =
        past_name kind (tabular_symbols q ++ join_keys_symbols (k ∷ ks)) (unsupported_tabular text q)
        (before (tabular_symbols q) (join_keys_symbols (k ∷ ks)) (unsupported_tabular text q) (tabular_first q) (join_keys_clear (k ∷ ks)))
    body_first (unite u) = union_first u
    body_first (mv_expand i t) = both (item_symbols i) (if_said type_word t) (unsupported_item text i) (unsupported_word text t) (item_first i) (word_first t)

  -- ---- lets and queries

  right_first : (r : Right Tree TabularTree) → IsFirst (unsupported_right text r) (right_symbols r)
  right_first (scalar e) = tree_first e
  right_first (tabular_alone q) = tabular_first q
  right_first (either e q) = tabular_first q

  lets_first : (ls : List LetTree) → IsFirst (unsupported_lets text ls) (lets_symbols ls)
  lets_first [] = refl
  lets_first (l ∷ ls) = both (right_symbols l.right) (lets_symbols ls) (unsupported_right text l.right) (unsupported_lets text ls) (right_first l.right) (lets_first ls)

  pub query_first : (q : QueryTree) → IsFirst (unsupported_query text q) (query_symbols q)
  query_first q = both (lets_symbols q.lets) (tabular_symbols q.tabular) (unsupported_lets text q.lets) (unsupported_tabular text q.tabular) (lets_first q.lets) (tabular_first q.tabular)
