-- How symbols are read to sources, operators and queries: what the code computes.
use Rattle.std.specs.Prelude.{ℕ, zero, suc, List, Err, Option, Some, None}
use Rattle.kq_read_clauses.specs.Reading.{names, item, items, grouping, key, keys, aggregates, renamings, join_kind, join_keys, columns, cells}
use Rattle.kq_read_expressions.specs.Reading.{bracketed_name, name, expression}
use Rattle.kq_read_grammar.specs.declared.clause.Cell.{Cell}
use Rattle.kq_read_grammar.specs.declared.clause.Column.{Column}
use Rattle.kq_read_grammar.specs.declared.clause.JoinKey.{JoinKey}
use Rattle.kq_read_grammar.specs.declared.expression.Name.{Name}
use Rattle.kq_read_grammar.specs.declared.expression.Name.TheVariants as shown
use Rattle.kq_read_grammar.specs.declared.tabular.OperatorKey.{OperatorKey}
use Rattle.kq_read_grammar.specs.declared.tabular.OperatorKey.TheVariants as o
use Rattle.kq_read_grammar.specs.Tabulars.{source_of, operator_of, any_source_word, table_word}
use Rattle.kq_read_grammar.specs.TabularViews.{arms_of, operators_of}
use Rattle.kq_read_grammar.specs.Trees.{Tree, TabularTree, pipeline as pipeline_tree, GroupingTree, SourceTree, table, nested, worded, FromTree, view as view_tree, print, range as range_tree, datatable as datatable_tree, union as union_tree, UnionTree, arms, ArmTree, named_arm, nested_arm, BodyTree, filter, extend, project, project_away, project_rename, take, count, sort, top as top_tree, distinct, distinct_all, summarize as summarize_tree, summarize_by, join as join_tree, unite, mv_expand, LetTree, QueryTree}
use Rattle.kq_read_symbols.specs.declared.kind.Symbol.{Symbol}
use Rattle.kq_read_symbols.specs.declared.word.ClauseWord.TheVariants as w
use Rattle.kq_read_symbols.specs.declared.word.ReservedWord.TheVariants as r
use Rattle.kq_read_symbols.specs.declared.word.SourceWord.{SourceWord}
use Rattle.kq_read_symbols.specs.declared.word.SourceWord.TheVariants as s
use Rattle.kq_read_symbols.specs.Choices.{Right, combine}
use Rattle.kq_read_symbols.specs.Classes as k
use Rattle.kq_read_symbols.specs.Classes.{Class, of}
use Rattle.kq_read_symbols.specs.Forms.{Parser, pure, expect, bind, both, ◌<$>◌, choose, maybe, many, skip, closed}
use Rattle.kq_read_symbols.specs.Switching.{keyed}

-- ---- what holds no rows of its own

unfoldable pub view : Parser Symbol Symbol
view = skip (of k.open_parenthesis) (closed (expect (of k.text)) (of k.close_parenthesis))

unfoldable pub range : ℕ → Parser Symbol FromTree
range n = (λ p. range_tree p.0 p.1.0 p.1.1.0 p.1.1.1) <$> both name (both (skip (of (k.clause w.From)) (expression n)) (both (skip (of (k.clause w.To)) (expression n)) (skip (of (k.clause w.Step)) (expression n))))

abbrev pub columns_in_parentheses : ℕ → Parser Symbol (Column × List Column)
columns_in_parentheses n = skip (of k.open_parenthesis) (closed (columns n) (of k.close_parenthesis))

abbrev pub cells_in_brackets : ℕ → Parser Symbol (List Cell)
cells_in_brackets n = skip (of k.open_bracket) (closed (cells n) (of k.close_bracket))

unfoldable pub datatable : ℕ → Parser Symbol FromTree
datatable n = (λ p. datatable_tree p.0.0 p.0.1 p.1) <$> both (columns_in_parentheses n) (cells_in_brackets n)

unfoldable pub table_name : Parser Symbol Name
table_name = choose (of k.open_bracket) bracketed_name (shown.Word <$> expect (of table_word))

unfoldable pub element_type : Parser Symbol Symbol
element_type = skip (of (k.clause w.To)) (skip (of (k.clause w.Typeof)) (skip (of k.open_parenthesis) (closed (expect (of k.any_word)) (of k.close_parenthesis))))

unfoldable pub kind : Parser Symbol Name
kind = skip (of (k.clause w.Kind)) (skip (of k.assign) join_kind)

unfoldable pub maybe_kind : Parser Symbol (Option Name)
maybe_kind = maybe (of (k.clause w.Kind)) kind

abbrev pub keys_on : ℕ → Parser Symbol (JoinKey × List JoinKey)
keys_on n = skip (of (k.clause w.On)) (join_keys n)

unfoldable pub top : ℕ → Parser Symbol BodyTree
top n = (λ p. top_tree p.0 p.1) <$> both (expect (of k.whole_number)) (skip (of (k.reserved r.By)) (key n))

unfoldable pub distinction : ℕ → Parser Symbol BodyTree
distinction n = choose (of k.star) (distinct_all <$> expect (of k.star)) ((λ p. distinct p.0 p.1) <$> names n)

abbrev pub maybe_grouping : ℕ → Parser Symbol (Option GroupingTree)
maybe_grouping n = maybe (of (k.reserved r.By)) (grouping n)

unfoldable pub summarize : ℕ → Parser Symbol BodyTree
summarize n = choose (of (k.reserved r.By)) (summarize_by <$> grouping n) ((λ p. summarize_tree p.0.0 p.0.1 p.1) <$> both (aggregates n) (maybe_grouping n))

abbrev pub maybe_element_type : Parser Symbol (Option Symbol)
maybe_element_type = maybe (of (k.clause w.To)) element_type

unfoldable pub expansion : ℕ → Parser Symbol BodyTree
expansion n = (λ p. mv_expand p.0 p.1) <$> both (item n) maybe_element_type

-- ---- what holds rows

module _ (rec : Parser Symbol TabularTree) (n : ℕ) where
  unfoldable pub nesting : Parser Symbol (Symbol × TabularTree)
  nesting = both (expect (of k.open_parenthesis)) (closed rec (of k.close_parenthesis))

  unfoldable pub arm : Parser Symbol ArmTree
  arm = choose (of k.open_parenthesis) ((λ p. nested_arm p.0 p.1) <$> nesting) (named_arm <$> name)

  unfoldable pub more_arms : Parser Symbol (List ArmTree)
  more_arms = many (of k.comma) (skip (of k.comma) arm) n

  abbrev pub all_arms : Parser Symbol (ArmTree × List ArmTree)
  all_arms = both arm more_arms

  unfoldable pub plain_union : Parser Symbol UnionTree
  plain_union = (λ p. arms None p.0 (arms_of p.1)) <$> all_arms

  -- behind the word `kind`, which may be the name of an arm
  unfoldable pub behind_kind : Symbol → Parser Symbol UnionTree
  behind_kind t = choose (of k.assign) ((λ p. arms (Some p.0) p.1.0 (arms_of p.1.1)) <$> skip (of k.assign) (both (expect (of k.union_kind)) all_arms)) ((λ l. arms None (named_arm (shown.Word t)) (arms_of l)) <$> more_arms)

  unfoldable pub kind_union : Parser Symbol UnionTree
  kind_union = (λ p. p.1) <$> bind (expect (of (k.clause w.Kind))) behind_kind

  unfoldable pub union : Parser Symbol UnionTree
  union = choose (of (k.clause w.Kind)) kind_union plain_union

  abbrev pub from : SourceWord → Parser Symbol FromTree
  from s.MaterializedView = view_tree <$> view
  from s.Print = (λ p. print p.0 p.1) <$> items n
  from s.Range = range n
  from s.Datatable = datatable n
  from s.Union = union_tree <$> union

  unfoldable pub source : Parser Symbol SourceTree
  source = choose (of k.open_parenthesis) ((λ p. nested p.0 p.1) <$> nesting) (choose (of any_source_word) ((λ p. worded p.0 p.1) <$> keyed source_of from) (table <$> table_name))

  unfoldable pub join : Parser Symbol BodyTree
  join = (λ p. join_tree p.0 p.1.0.1 p.1.1.0 p.1.1.1) <$> both maybe_kind (both nesting (keys_on n))

  abbrev pub body : OperatorKey → Parser Symbol BodyTree
  body o.Where = filter <$> expression n
  body o.Extend = (λ p. extend p.0 p.1) <$> items n
  body o.Project = (λ p. project p.0 p.1) <$> items n
  body o.ProjectAway = (λ p. project_away p.0 p.1) <$> names n
  body o.ProjectRename = (λ p. project_rename p.0 p.1) <$> renamings n
  body o.Take = take <$> expect (of k.whole_number)
  body o.Count = pure count
  body o.Sort = (λ p. sort p.0 p.1) <$> skip (of (k.reserved r.By)) (keys n)
  body o.Top = top n
  body o.Distinct = distinction n
  body o.Summarize = summarize n
  body o.Join = join
  body o.Union = unite <$> union
  body o.MvExpand = expansion n

  unfoldable pub operator : Parser Symbol (Symbol × BodyTree)
  operator = keyed operator_of body

  abbrev pub operators : Parser Symbol (List (Symbol × BodyTree))
  operators = many (of k.pipe) (skip (of k.pipe) operator) n

  unfoldable pub pipeline : Parser Symbol TabularTree
  pipeline = (λ p. pipeline_tree p.0 (operators_of p.1)) <$> both source operators

-- The number is at least that of the symbols.
unfoldable pub tabular : ℕ → Parser Symbol TabularTree
tabular zero = λ ts. Err ts
tabular (suc n) = pipeline (tabular n) (suc n)

-- ---- queries

unfoldable pub right : ℕ → Parser Symbol (Right Tree TabularTree)
right n = λ ts. combine (closed (expression n) (of k.semicolon) ts) (closed (tabular n) (of k.semicolon) ts)

unfoldable pub statement : ℕ → Parser Symbol LetTree
statement n = (λ p. record { name = p.0; right = p.1 }) <$> skip (of (k.reserved r.Let)) (both name (skip (of k.assign) (right n)))

unfoldable pub query : ℕ → Parser Symbol QueryTree
query n = (λ p. record { lets = p.0; tabular = p.1.0 }) <$> both (many (of (k.reserved r.Let)) (statement n) n) (both (tabular n) (maybe (of k.semicolon) (expect (of k.semicolon))))
