-- The symbols that spell a source, an operator or a query.
use Rattle.std.specs.Prelude.{◌≡◌, true, false, ◌&&◌, not, List, [], ◌⊎◌, Option, Some, None}
use Rattle.kq_read_grammar.specs.declared.clause.JoinKey.{JoinKey}
use Rattle.kq_read_grammar.specs.declared.expression.Name.{Name}
use Rattle.kq_read_grammar.specs.declared.expression.Name.TheVariants as n
use Rattle.kq_read_grammar.specs.declared.tabular.OperatorKey.{OperatorKey}
use Rattle.kq_read_grammar.specs.declared.tabular.OperatorKey.TheVariants as o
use Rattle.kq_read_grammar.specs.Clauses.{names, item_text, items, key_text, aggregate_text, grouping_text, renaming_text, join_kind_text, join_key_text, columns_text, cells_text, listed}
use Rattle.kq_read_grammar.specs.Expressions.{Text, empty, name_text, spells}
use Rattle.kq_read_grammar.specs.Trees.{Tree, TabularTree, pipeline, SourceTree, table, nested, worded, FromTree, view, print, range, datatable, union, UnionTree, arms, ArmTree, named_arm, nested_arm, Arms, no_arm, and_arm, Operators, no_operator, and_operator, BodyTree, filter, extend, project, project_away, project_rename, take, count, sort, top, distinct, distinct_all, summarize, summarize_by, join, unite, mv_expand, LetTree, QueryTree}
use Rattle.kq_read_symbols.specs.declared.kind.Kind.{Kind}
use Rattle.kq_read_symbols.specs.declared.kind.Kind.TheVariants as kind
use Rattle.kq_read_symbols.specs.declared.kind.Symbol.{Symbol}
use Rattle.kq_read_symbols.specs.declared.word.Word.TheVariants as word
use Rattle.kq_read_symbols.specs.declared.word.ClauseWord.TheVariants as w
use Rattle.kq_read_symbols.specs.declared.word.OperatorWord.TheVariants as l
use Rattle.kq_read_symbols.specs.declared.word.ReservedWord.TheVariants as r
use Rattle.kq_read_symbols.specs.declared.word.SourceWord.{SourceWord}
use Rattle.kq_read_symbols.specs.declared.word.SourceWord.TheVariants as s
use Rattle.kq_read_tokens.specs.declared.kind.DashedWord.TheVariants as d
use Rattle.kq_read_symbols.specs.Choices.{Chosen}
use Rattle.kq_read_symbols.specs.Classes as k
use Rattle.kq_read_symbols.specs.Classes.{Class, of}
use Rattle.kq_read_symbols.specs.Forms.{one, some, ◌⨾◌, Many, Maybe}
use Rattle.kq_read_symbols.specs.Switching.{Marks}

-- ---- which words begin which source and operator

abbrev pub source_key : Kind → Option SourceWord
source_key (kind.Word (word.Source a)) = Some a
source_key _ = None

abbrev pub leading_key : Kind → Option OperatorKey
leading_key (kind.Word (word.Operator l.Where)) = Some o.Where
leading_key (kind.Word (word.Operator l.Filter)) = Some o.Where
leading_key (kind.Word (word.Operator l.Extend)) = Some o.Extend
leading_key (kind.Word (word.Operator l.Project)) = Some o.Project
leading_key (kind.Word (word.Operator l.Take)) = Some o.Take
leading_key (kind.Word (word.Operator l.Limit)) = Some o.Take
leading_key (kind.Word (word.Operator l.Count)) = Some o.Count
leading_key (kind.Word (word.Operator l.Sort)) = Some o.Sort
leading_key (kind.Word (word.Operator l.Order)) = Some o.Sort
leading_key (kind.Word (word.Operator l.Top)) = Some o.Top
leading_key (kind.Word (word.Operator l.Distinct)) = Some o.Distinct
leading_key (kind.Word (word.Operator l.Summarize)) = Some o.Summarize
leading_key (kind.Word (word.Operator l.Join)) = Some o.Join
leading_key (kind.Word (word.Source s.Union)) = Some o.Union
leading_key (kind.DashedWord d.ProjectAway) = Some o.ProjectAway
leading_key (kind.DashedWord d.ProjectRename) = Some o.ProjectRename
leading_key (kind.DashedWord d.MvExpand) = Some o.MvExpand
leading_key _ = None

abbrev pub source_of : Symbol → Option SourceWord
source_of t = source_key t.kind

abbrev pub operator_of : Symbol → Option OperatorKey
operator_of t = leading_key t.kind

abbrev pub source_word : FromTree → SourceWord
source_word (view t) = s.MaterializedView
source_word (print i is) = s.Print
source_word (range n a b c) = s.Range
source_word (datatable c cs ls) = s.Datatable
source_word (union u) = s.Union

abbrev pub operator_key : BodyTree → OperatorKey
operator_key (filter e) = o.Where
operator_key (extend i is) = o.Extend
operator_key (project i is) = o.Project
operator_key (project_away n ns) = o.ProjectAway
operator_key (project_rename p ps) = o.ProjectRename
operator_key (take t) = o.Take
operator_key count = o.Count
operator_key (sort q qs) = o.Sort
operator_key (top t q) = o.Top
operator_key (distinct n ns) = o.Distinct
operator_key (distinct_all t) = o.Distinct
operator_key (summarize a more g) = o.Summarize
operator_key (summarize_by g) = o.Summarize
operator_key (join kind q j js) = o.Join
operator_key (unite u) = o.Union
operator_key (mv_expand i t) = o.MvExpand

abbrev pub any_source_word : Class
any_source_word (kind.Word (word.Source a)) = true
any_source_word _ = false

-- a name where a source starts is none of the words of sources
abbrev pub table_word : Class
table_word x = k.bare_name x && not (any_source_word x)

abbrev pub table_text : Name → Text
table_text (n.Word t) = one (of table_word) t
table_text (n.Bracketed t s) = name_text (n.Bracketed t s)

-- ---- parts

abbrev pub view_text : Symbol → Text
view_text t = some (of k.open_parenthesis) ⨾ one (of k.text) t ⨾ some (of k.close_parenthesis)

abbrev pub union_kind_text : Symbol → Text
union_kind_text t = some (of (k.clause w.Kind)) ⨾ some (of k.assign) ⨾ one (of k.union_kind) t

abbrev pub kind_text : Name → Text
kind_text n = some (of (k.clause w.Kind)) ⨾ some (of k.assign) ⨾ join_kind_text n

abbrev pub typeof_text : Symbol → Text
typeof_text t = some (of (k.clause w.To)) ⨾ some (of (k.clause w.Typeof)) ⨾ some (of k.open_parenthesis) ⨾ one (of k.any_word) t ⨾ some (of k.close_parenthesis)

abbrev pub keys_on : JoinKey × List JoinKey → Text
keys_on p = some (of (k.clause w.On)) ⨾ listed join_key_text p

-- ---- sources and operators

abbrev mutual
  pub tabular_text : TabularTree → Text
  tabular_text (pipeline s os) = source_text s ⨾ operators_text os

  pub source_text : SourceTree → Text
  source_text (table n) = table_text n
  source_text (nested t q) = one (of k.open_parenthesis) t ⨾ tabular_text q ⨾ some (of k.close_parenthesis)
  source_text (worded t b) = Marks source_of (t, source_word b) ⨾ from_text b

  pub from_text : FromTree → Text
  from_text (view t) = view_text t
  from_text (print i is) = items (i, is)
  from_text (range n a b c) = name_text n ⨾ (some (of (k.clause w.From)) ⨾ spells a) ⨾ (some (of (k.clause w.To)) ⨾ spells b) ⨾ (some (of (k.clause w.Step)) ⨾ spells c)
  from_text (datatable c cs ls) = (some (of k.open_parenthesis) ⨾ columns_text (c, cs) ⨾ some (of k.close_parenthesis)) ⨾ some (of k.open_bracket) ⨾ cells_text ls ⨾ some (of k.close_bracket)
  from_text (union u) = union_text u

  pub union_text : UnionTree → Text
  union_text (arms kind a more) = Maybe union_kind_text kind ⨾ arm_text a ⨾ arms_text more

  pub arm_text : ArmTree → Text
  arm_text (named_arm n) = name_text n
  arm_text (nested_arm t q) = one (of k.open_parenthesis) t ⨾ tabular_text q ⨾ some (of k.close_parenthesis)

  pub arms_text : Arms → Text
  arms_text no_arm = empty
  arms_text (and_arm a more) = (some (of k.comma) ⨾ arm_text a) ⨾ arms_text more

  pub operators_text : Operators → Text
  operators_text no_operator = empty
  operators_text (and_operator t b os) = (some (of k.pipe) ⨾ Marks operator_of (t, operator_key b) ⨾ body_text b) ⨾ operators_text os

  pub body_text : BodyTree → Text
  body_text (filter e) = spells e
  body_text (extend i is) = items (i, is)
  body_text (project i is) = items (i, is)
  body_text (project_away n ns) = names (n, ns)
  body_text (project_rename p ps) = listed renaming_text (p, ps)
  body_text (take t) = one (of k.whole_number) t
  body_text count = empty
  body_text (sort q qs) = some (of (k.reserved r.By)) ⨾ listed key_text (q, qs)
  body_text (top t q) = one (of k.whole_number) t ⨾ some (of (k.reserved r.By)) ⨾ key_text q
  body_text (distinct n ns) = names (n, ns)
  body_text (distinct_all t) = one (of k.star) t
  body_text (summarize a more g) = listed aggregate_text (a, more) ⨾ Maybe grouping_text g
  body_text (summarize_by g) = grouping_text g
  body_text (join kind q j js) = Maybe kind_text kind ⨾ (some (of k.open_parenthesis) ⨾ tabular_text q ⨾ some (of k.close_parenthesis)) ⨾ keys_on (j, js)
  body_text (unite u) = union_text u
  body_text (mv_expand i t) = item_text i ⨾ Maybe typeof_text t

-- ---- queries

abbrev pub scalar_right : Tree → Text
scalar_right e = spells e ⨾ some (of k.semicolon)

abbrev pub tabular_right : TabularTree → Text
tabular_right q = tabular_text q ⨾ some (of k.semicolon)

abbrev pub let_text : LetTree → Text
let_text l = some (of (k.reserved r.Let)) ⨾ name_text l.name ⨾ some (of k.assign) ⨾ Chosen scalar_right tabular_right l.right

-- a semicolon may end it
abbrev pub query_end : Text
query_end ts = (ts ≡ []) ⊎ some (of k.semicolon) ts

abbrev pub query_text : QueryTree → Text
query_text q = Many let_text q.lets ⨾ tabular_text q.tabular ⨾ query_end
