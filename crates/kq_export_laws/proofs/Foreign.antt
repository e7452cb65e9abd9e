-- What the body of an export may not have, and a call of now or ago, is the first of its kind among the symbols.
use Rattle.std.proofs.Common.{◌≡◌, ◌∙◌, ℕ, Bool, true, false, cond, List, [], ◌∷◌, ◌++◌, Option, Some, None, refl, ap}
use Rattle.std.specs.Option.{option_or}
use Rattle.std.specs.Prelude.{not, option_map, unwrap_or}
use Rattle.kq_view_body.specs.Exports.{moment_in_keys, other_name as other_place, foreign_tabular, foreign_source, foreign_from, foreign_union, foreign_arms, foreign_arm, foreign_operators, foreign_body, foreign_place}
use Rattle.kq_view_body.specs.Moments.{or_later, is_moment, when, moment_in, moment_among, moment_in_links, moment_at_step, moment_at_steps, moment_in_item, moment_in_items, moment_in_argument, moment_in_arguments, moment_in_aggregates, moment_in_grouping}
use Rattle.kq_view_body.specs.Parts.{pipe_place}
use Rattle.kq_read_grammar.specs.declared.clause.Cell.{Cell}
use Rattle.kq_read_grammar.specs.declared.clause.Column.{Column}
use Rattle.kq_read_grammar.specs.declared.clause.JoinKey.{JoinKey}
use Rattle.kq_read_grammar.specs.declared.clause.JoinKey.TheVariants as key
use Rattle.kq_read_grammar.specs.declared.expression.Name.{Name}
use Rattle.kq_read_grammar.specs.Trees.{Tree, name, literal, group, call, path, signed, compare, within, between, chain, Trees, no_tree, and_tree, Links, no_link, and_link, OneStep, member, index, Steps, no_step, and_step, ItemTree, plain, named, KeyTree, ArgumentTree, value, all, AggregateTree, GroupingTree, TabularTree, pipeline, SourceTree, table as table_source, nested, worded, FromTree, view, print, range, datatable, union, UnionTree, arms, ArmTree, named_arm, nested_arm, Arms, no_arm, and_arm, Operators, no_operator, and_operator, BodyTree, filter, extend, project, project_away, project_rename, take, count, sort, top, distinct, distinct_all, summarize, summarize_by, join, unite, mv_expand, QueryTree}
use Rattle.kq_read_meanings.specs.Names.{name_said, name_place}
use Rattle.kq_read_symbols.specs.declared.kind.Symbol.{Symbol}
use Rattle.kq_read_tokens.specs.Bytes.{is_text}
use Rattle.kq_export_laws.specs.Symbols.{Spoken, source_name, other_name, literal_word, type_word, function_word, aggregate_word, view_words, sign, place_of, if_said, tree_symbols, trees_symbols, links_symbols, step_symbols, steps_symbols, names_symbols, renamings_symbols, item_symbols, items_symbols, keys_symbols, argument_symbols, arguments_symbols, aggregates_symbols, grouping_symbols, columns_symbols, cells_symbols, join_keys_symbols, tabular_symbols, source_symbols, from_symbols, union_symbols, arms_symbols, arm_symbols, operators_symbols, body_symbols}
use Rattle.kq_export_laws.specs.Searches.{found, is_any, calls_moment, is_foreign}
use Rattle.kq_export_laws.proofs.Found.{found_in_both, found_before, found_alike}

-- a call of now or ago; and of the names of rows those that are asked for, and views where they are
abbrev looks : List ℕ → (Name → Bool) → Bool → Spoken → Bool
looks text asked views (source_name n) = asked n
looks text asked views (view_words t v) = views
looks text asked views (function_word t) = is_moment text t
looks text asked views _ = false

moments_alike : (text : List ℕ) (x : Spoken) → looks text (λ n. false) false x ≡ calls_moment text x
moments_alike text (source_name n) = refl
moments_alike text (other_name n) = refl
moments_alike text (literal_word t) = refl
moments_alike text (type_word t) = refl
moments_alike text (function_word t) = refl
moments_alike text (aggregate_word t) = refl
moments_alike text (view_words t v) = refl
moments_alike text (sign t) = refl

foreign_alike : (text table : List ℕ) (x : Spoken) → looks text (λ n. not (is_text (name_said text n) table)) true x ≡ is_foreign text table x
foreign_alike text table (source_name n) = refl
foreign_alike text table (other_name n) = refl
foreign_alike text table (literal_word t) = refl
foreign_alike text table (type_word t) = refl
foreign_alike text table (function_word t) = refl
foreign_alike text table (aggregate_word t) = refl
foreign_alike text table (view_words t v) = refl
foreign_alike text table (sign t) = refl

module _ (text : List ℕ) (asked : Name → Bool) (views : Bool) where
  -- this is the first of these symbols that is looked for
  abbrev IsFirst : Option ℕ → List Spoken → Type 0
  IsFirst o xs = o ≡ found (looks text asked views) xs

  both : (a b : List Spoken) (x y : Option ℕ) → IsFirst x a → IsFirst y b → IsFirst (or_later x y) (a ++ b)
  both a b x y h k = later_or x ∙ found_in_both (looks text asked views) a b x y h k where
    later_or : (o : Option ℕ) → or_later o y ≡ option_or o y
    later_or (Some at) = refl
    later_or None = refl

  before : (a b : List Spoken) (x : Option ℕ) → IsFirst x a → IsFirst None b → IsFirst x (a ++ b)
  before = found_before (looks text asked views)

  -- ---- single symbols

  moment_first : (t : Symbol) → IsFirst (when (is_moment text t) t.from) (function_word t ∷ [])
  moment_first t = elim (is_moment text t) as (λ b. when b t.from ≡ option_map place_of (cond b (Some (function_word t)) None)) [ true ↦ refl | false ↦ refl ]

  past_sign : (t : Option Symbol) (xs : List Spoken) (x : Option ℕ) → IsFirst x xs → IsFirst x (if_said sign t ++ xs)
  past_sign None xs x h = h
  past_sign (Some t) xs x h = h

  past_name : (n : Option Name) (xs : List Spoken) (x : Option ℕ) → IsFirst x xs → IsFirst x (if_said other_name n ++ xs)
  past_name None xs x h = h
  past_name (Some n) xs x h = h

  type_clear : (t : Option Symbol) → IsFirst None (if_said type_word t)
  type_clear None = refl
  type_clear (Some t) = refl

  names_clear : (ns : List Name) → IsFirst None (names_symbols ns)
  names_clear [] = refl
  names_clear (n ∷ ns) = names_clear ns

  renamings_clear : (ps : List (Name × Name)) → IsFirst None (renamings_symbols ps)
  renamings_clear [] = refl
  renamings_clear (p ∷ ps) = renamings_clear ps

  join_keys_clear : (ks : List JoinKey) → IsFirst None (join_keys_symbols ks)
  join_keys_clear [] = refl
  join_keys_clear (key.Both n ∷ ks) = join_keys_clear ks
  join_keys_clear (key.LeftRight a t b ∷ ks) = join_keys_clear ks
  join_keys_clear (key.RightLeft a t b ∷ ks) = join_keys_clear ks

  cells_clear : (cs : List Cell) → IsFirst None (cells_symbols cs)
  cells_clear [] = refl
  cells_clear (c ∷ cs) = past_sign c.minus (literal_word c.literal ∷ cells_symbols cs) None (cells_clear cs)

  table_clear : (cs : List Column) (ls : List Cell) → IsFirst None (columns_symbols cs ++ cells_symbols ls)
  table_clear [] ls = cells_clear ls
  table_clear (c ∷ cs) ls = table_clear cs ls

  -- ---- expressions

  mutual
    tree_first : (e : Tree) → IsFirst (moment_in text e) (tree_symbols e)
    tree_first (name n) = refl
    tree_first (literal t) = refl
    tree_first (group t e) = tree_first e
    tree_first (call t es) = both (function_word t ∷ []) (trees_symbols es) (when (is_moment text t) t.from) (moment_among text es) (moment_first t) (trees_first es)
    tree_first (path e p ps) =
        both (tree_symbols e) (step_symbols p ++ steps_symbols ps) (moment_in text e) (or_later (moment_at_step text p) (moment_at_steps text ps)) (tree_first e)
        (both (step_symbols p) (steps_symbols ps) (moment_at_step text p) (moment_at_steps text ps) (step_first p) (steps_first ps))
    tree_first (signed t e) = tree_first e
    tree_first (compare a t b) = both (tree_symbols a) (sign t ∷ tree_symbols b) (moment_in text a) (moment_in text b) (tree_first a) (tree_first b)
    tree_first (within a t e es) =
        both (tree_symbols a) (sign t ∷ tree_symbols e ++ trees_symbols es) (moment_in text a) (or_later (moment_in text e) (moment_among text es)) (tree_first a)
        (both (tree_symbols e) (trees_symbols es) (moment_in text e) (moment_among text es) (tree_first e) (trees_first es))
    tree_first (between a t b c) =
        both (tree_symbols a) (sign t ∷ tree_symbols b ++ tree_symbols c) (moment_in text a) (or_later (moment_in text b) (moment_in text c)) (tree_first a)
        (both (tree_symbols b) (tree_symbols c) (moment_in text b) (moment_in text c) (tree_first b) (tree_first c))
    tree_first (chain l a t b ls) =
        both (tree_symbols a) (sign t ∷ tree_symbols b ++ links_symbols ls) (moment_in text a) (or_later (moment_in text b) (moment_in_links text ls)) (tree_first a)
        (both (tree_symbols b) (links_symbols ls) (moment_in text b) (moment_in_links text ls) (tree_first b) (links_first ls))

    trees_first : (es : Trees) → IsFirst (moment_among text es) (trees_symbols es)
    trees_first no_tree = refl
    trees_first (and_tree e es) = both (tree_symbols e) (trees_symbols es) (moment_in text e) (moment_among text es) (tree_first e) (trees_first es)

    links_first : (ls : Links) → IsFirst (moment_in_links text ls) (links_symbols ls)
    links_first no_link = refl
    links_first (and_link t e ls) = both (tree_symbols e) (links_symbols ls) (moment_in text e) (moment_in_links text ls) (tree_first e) (links_first ls)

    step_first : (p : OneStep) → IsFirst (moment_at_step text p) (step_symbols p)
    step_first (member d n) = refl
    step_first (index d e) = tree_first e

    steps_first : (ps : Steps) → IsFirst (moment_at_steps text ps) (steps_symbols ps)
    steps_first no_step = refl
    steps_first (and_step p ps) = both (step_symbols p) (steps_symbols ps) (moment_at_step text p) (moment_at_steps text ps) (step_first p) (steps_first ps)

  -- ---- clauses

  item_first : (i : ItemTree) → IsFirst (moment_in_item text i) (item_symbols i)
  item_first (plain e) = tree_first e
  item_first (named n e) = tree_first e

  items_first : (is : List ItemTree) → IsFirst (moment_in_items text is) (items_symbols is)
  items_first [] = refl
  items_first (i ∷ is) = both (item_symbols i) (items_symbols is) (moment_in_item text i) (moment_in_items text is) (item_first i) (items_first is)

  key_first : (k : KeyTree) (xs : List Spoken) (x : Option ℕ) → IsFirst x xs → IsFirst (or_later (moment_in text k.value) x) (tree_symbols k.value ++ (if_said sign k.direction ++ (if_said sign k.nulls ++ xs)))
  key_first k xs x h =
      both (tree_symbols k.value) (if_said sign k.direction ++ (if_said sign k.nulls ++ xs)) (moment_in text k.value) x (tree_first k.value)
      (past_sign k.direction (if_said sign k.nulls ++ xs) x (past_sign k.nulls xs x h))

  keys_first : (ks : List KeyTree) → IsFirst (moment_in_keys text ks) (keys_symbols ks)
  keys_first [] = refl
  keys_first (k ∷ ks) = key_first k (keys_symbols ks) (moment_in_keys text ks) (keys_first ks)

  argument_first : (a : ArgumentTree) → IsFirst (moment_in_argument text a) (argument_symbols a)
  argument_first (value e) = tree_first e
  argument_first (all t) = refl

  arguments_first : (xs : List ArgumentTree) → IsFirst (moment_in_arguments text xs) (arguments_symbols xs)
  arguments_first [] = refl
  arguments_first (a ∷ more) = both (argument_symbols a) (arguments_symbols more) (moment_in_argument text a) (moment_in_arguments text more) (argument_first a) (arguments_first more)

  aggregates_first : (xs : List AggregateTree) → IsFirst (moment_in_aggregates text xs) (aggregates_symbols xs)
  aggregates_first [] = refl
  aggregates_first (a ∷ more) =
      let x = or_later (moment_in_arguments text a.arguments) (moment_in_aggregates text more) in
      past_name a.given (aggregate_word a.function ∷ arguments_symbols a.arguments ++ aggregates_symbols more) x
      (both (arguments_symbols a.arguments) (aggregates_symbols more) (moment_in_arguments text a.arguments) (moment_in_aggregates text more) (arguments_first a.arguments) (aggregates_first more))

  grouping_first : (g : Option GroupingTree) → IsFirst (moment_in_grouping text g) (grouping_symbols g)
  grouping_first None = refl
  grouping_first (Some g) = items_first (g.0 ∷ g.1)

  range_first : (a b c : Tree) → IsFirst (or_later (moment_in text a) (or_later (moment_in text b) (moment_in text c))) (tree_symbols a ++ (tree_symbols b ++ tree_symbols c))
  range_first a b c =
      both (tree_symbols a) (tree_symbols b ++ tree_symbols c) (moment_in text a) (or_later (moment_in text b) (moment_in text c)) (tree_first a)
      (both (tree_symbols b) (tree_symbols c) (moment_in text b) (moment_in text c) (tree_first b) (tree_first c))

pub moments_found : (text : List ℕ) (e : Tree) → moment_in text e ≡ found (calls_moment text) (tree_symbols e)
moments_found text e = tree_first text (λ n. false) false e ∙ found_alike (looks text (λ n. false) false) (calls_moment text) (tree_symbols e) (moments_alike text)

-- ---- sources and operators

module _ (text table : List ℕ) where
  abbrev asked : Name → Bool
  asked n = not (is_text (name_said text n) table)

  abbrev IsForeign : Option ℕ → List Spoken → Type 0
  IsForeign o xs = IsFirst text asked true o xs

  either : (a b : List Spoken) (x y : Option ℕ) → IsForeign x a → IsForeign y b → IsForeign (or_later x y) (a ++ b)
  either = both text asked true

  name_first : (n : Name) → IsForeign (other_place text table n) (source_name n ∷ [])
  name_first n = elim (is_text (name_said text n) table) as (λ b. cond b None (Some (name_place n)) ≡ option_map place_of (cond (not b) (Some (source_name n)) None)) [ true ↦ refl | false ↦ refl ]

  mutual
    tabular_first : (q : TabularTree) → IsForeign (foreign_tabular text table q) (tabular_symbols q)
    tabular_first (pipeline o bs) = either (source_symbols o) (operators_symbols bs) (foreign_source text table o) (foreign_operators text table bs) (source_first o) (operators_first bs)

    source_first : (o : SourceTree) → IsForeign (foreign_source text table o) (source_symbols o)
    source_first (table_source n) = name_first n
    source_first (nested t q) = tabular_first q
    source_first (worded t b) = from_first t b

    from_first : (t : Symbol) (b : FromTree) → IsForeign (foreign_from text table t.from b) (from_symbols t b)
    from_first t (view v) = refl
    from_first t (print i is) = items_first text asked true (i ∷ is)
    from_first t (range n a b c) = range_first text asked true a b c
    from_first t (datatable c cs ls) = table_clear text asked true (c ∷ cs) ls
    from_first t (union u) = union_first u

    union_first : (u : UnionTree) → IsForeign (foreign_union text table u) (union_symbols u)
    union_first (arms kind a more) =
        past_sign text asked true kind (arm_symbols a ++ arms_symbols more) (or_later (foreign_arm text table a) (foreign_arms text table more))
        (either (arm_symbols a) (arms_symbols more) (foreign_arm text table a) (foreign_arms text table more) (arm_first a) (arms_first more))

    arms_first : (more : Arms) → IsForeign (foreign_arms text table more) (arms_symbols more)
    arms_first no_arm = refl
    arms_first (and_arm a more) = either (arm_symbols a) (arms_symbols more) (foreign_arm text table a) (foreign_arms text table more) (arm_first a) (arms_first more)

    arm_first : (a : ArmTree) → IsForeign (foreign_arm text table a) (arm_symbols a)
    arm_first (named_arm n) = name_first n
    arm_first (nested_arm t q) = tabular_first q

    operators_first : (bs : Operators) → IsForeign (foreign_operators text table bs) (operators_symbols bs)
    operators_first no_operator = refl
    operators_first (and_operator t b bs) = either (body_symbols b) (operators_symbols bs) (foreign_body text table b) (foreign_operators text table bs) (body_first b) (operators_first bs)

    body_first : (b : BodyTree) → IsForeign (foreign_body text table b) (body_symbols b)
    body_first (filter e) = tree_first text asked true e
    body_first (extend i is) = items_first text asked true (i ∷ is)
    body_first (project i is) = items_first text asked true (i ∷ is)
    body_first (project_away n ns) = names_clear text asked true (n ∷ ns)
    body_first (project_rename q qs) = renamings_clear text asked true (q ∷ qs)
    body_first (take t) = refl
    body_first count = refl
    body_first (sort k ks) = keys_first text asked true (k ∷ ks)
    body_first (top t k) = last_none (moment_in text k.value) ∙ key_first text asked true k [] None refl where
      last_none : (o : Option ℕ) → o ≡ or_later o None
      last_none (Some at) = refl
      last_none None = refl
    body_first (distinct n ns) = names_clear text asked true (n ∷ ns)
    body_first (distinct_all t) = refl
    body_first (summarize a more g) =
        either (aggregates_symbols (a ∷ more)) (grouping_symbols g) (moment_in_aggregates text (a ∷ more)) (moment_in_grouping text g) (aggregates_first text asked true (a ∷ more))
        (grouping_first text asked true g)
    body_first (summarize_by g) = items_first text asked true (g.0 ∷ g.1)
    body_first (join kind q k ks) =
        past_name text asked true kind (tabular_symbols q ++ join_keys_symbols (k ∷ ks)) (foreign_tabular text table q)
        (before text asked true (tabular_symbols q) (join_keys_symbols (k ∷ ks)) (foreign_tabular text table q) (tabular_first q) (join_keys_clear text asked true (k ∷ ks)))
    body_first (unite u) = union_first u
    body_first (mv_expand i t) = before text asked true (item_symbols i) (if_said type_word t) (moment_in_item text i) (item_first text asked true i) (type_clear text asked true t)

  foreign_said : (xs : List Spoken) → found (looks text asked true) xs ≡ found (is_foreign text table) xs
  foreign_said xs = found_alike (looks text asked true) (is_foreign text table) xs (foreign_alike text table)

  pub foreign_found : (q : TabularTree) → foreign_tabular text table q ≡ found (is_foreign text table) (tabular_symbols q)
  foreign_found q = tabular_first q ∙ foreign_said (tabular_symbols q)

  pub body_found : (b : BodyTree) → foreign_body text table b ≡ found (is_foreign text table) (body_symbols b)
  body_found b = body_first b ∙ foreign_said (body_symbols b)

-- ---- the place

source_starts : (o : SourceTree) (xs : List Spoken) → Some (pipe_place (pipeline o no_operator)) ≡ found is_any (source_symbols o ++ xs)
source_starts (table_source n) xs = refl
source_starts (nested t q) xs = refl
source_starts (worded t (view v)) xs = refl
source_starts (worded t (print i is)) xs = refl
source_starts (worded t (range n a b c)) xs = refl
source_starts (worded t (datatable c cs ls)) xs = refl
source_starts (worded t (union u)) xs = refl

pipe_starts : (q : TabularTree) → Some (pipe_place q) ≡ found is_any (tabular_symbols q)
pipe_starts (pipeline o bs) = source_starts o (operators_symbols bs)

pub place_found : (text table : List ℕ) (q : QueryTree)
    → Some (foreign_place text table q) ≡ option_or (found (is_foreign text table) (tabular_symbols q.tabular)) (found is_any (tabular_symbols q.tabular))
place_found text table q =
    or_place (foreign_tabular text table q.tabular)
    ∙ ap (λ o. option_or o (Some (pipe_place q.tabular))) (foreign_found text table q.tabular)
    ∙ ap (option_or (found (is_foreign text table) (tabular_symbols q.tabular))) (pipe_starts q.tabular)
  where
    or_place : (o : Option ℕ) → Some (unwrap_or o (pipe_place q.tabular)) ≡ option_or o (Some (pipe_place q.tabular))
    or_place (Some at) = refl
    or_place None = refl
