-- The sources, operators and queries of the code, as the grammar speaks of them.
use Rattle.std.specs.Prelude.{List, [], ◌∷◌, map}
use Rattle.std.specs.Option.{option_map}
use Rattle.kq_read_grammar.specs.declared.tabular.Tabular.{Tabular, fold-Tabular}
use Rattle.kq_read_grammar.specs.declared.tabular.Arm.TheOpen.{Tabular-F, Source-F, SourceBody-F, Union-F, Arm-F, Operator-F, OperatorBody-F, Join-F}
use Rattle.kq_read_grammar.specs.declared.tabular.Source.{Source, fold-Source}
use Rattle.kq_read_grammar.specs.declared.tabular.SourceBody.{SourceBody, fold-SourceBody}
use Rattle.kq_read_grammar.specs.declared.tabular.Union.{Union, fold-Union}
use Rattle.kq_read_grammar.specs.declared.tabular.Arm.{Arm, fold-Arm}
use Rattle.kq_read_grammar.specs.declared.tabular.Operator.{Operator, fold-Operator}
use Rattle.kq_read_grammar.specs.declared.tabular.OperatorBody.{OperatorBody, fold-OperatorBody}
use Rattle.kq_read_grammar.specs.declared.tabular.Join.{Join, fold-Join}
use Rattle.kq_read_grammar.specs.declared.tabular.Let.{Let}
use Rattle.kq_read_grammar.specs.declared.tabular.LetRight.{LetRight}
use Rattle.kq_read_grammar.specs.declared.tabular.LetRight.TheVariants as right
use Rattle.kq_read_grammar.specs.declared.tabular.Query.{Query}
use Rattle.kq_read_grammar.specs.Trees.{Tree, TabularTree, pipeline, SourceTree, table, nested, worded, FromTree, view, print, range, datatable, union, UnionTree, arms, ArmTree, named_arm, nested_arm, Arms, no_arm, and_arm, Operators, no_operator, and_operator, BodyTree, filter, extend, project, project_away, project_rename, take, count, sort, top, distinct, distinct_all, summarize, summarize_by, join, unite, mv_expand, LetTree, QueryTree}
use Rattle.kq_read_grammar.specs.Views.{tree_of, item_view, key_view, aggregate_view, grouping_view}
use Rattle.kq_read_symbols.specs.Choices.{Right, scalar, table as tabular_alone, either}
use Rattle.kq_read_symbols.specs.declared.kind.Symbol.{Symbol}

-- ---- lists

abbrev pub arms_of : List ArmTree → Arms
arms_of [] = no_arm
arms_of (a ∷ more) = and_arm a (arms_of more)

abbrev pub operators_of : List (Symbol × BodyTree) → Operators
operators_of [] = no_operator
operators_of (o ∷ more) = and_operator o.0 o.1 (operators_of more)

-- ---- one layer, its parts seen already

abbrev pub one_tabular : Tabular-F ArmTree BodyTree SourceTree FromTree BodyTree (Symbol × BodyTree) TabularTree UnionTree → TabularTree
one_tabular q = pipeline q.source.value (operators_of q.operators.items)

abbrev pub one_source : Source-F ArmTree BodyTree SourceTree FromTree BodyTree (Symbol × BodyTree) TabularTree UnionTree → SourceTree
one_source (Source-F.Table n) = table n
one_source (Source-F.Nested t q) = nested t q.value
one_source (Source-F.Worded t b) = worded t b

abbrev pub one_from : SourceBody-F ArmTree BodyTree SourceTree FromTree BodyTree (Symbol × BodyTree) TabularTree UnionTree → FromTree
one_from (SourceBody-F.View t) = view t
one_from (SourceBody-F.Print i is) = print (item_view i.value) (map item_view is.items)
one_from (SourceBody-F.Range n a b c) = range n (tree_of a.value) (tree_of b.value) (tree_of c.value)
one_from (SourceBody-F.Datatable c cs ls) = datatable c cs.items ls.items
one_from (SourceBody-F.Union u) = union u

abbrev pub one_union : Union-F ArmTree BodyTree SourceTree FromTree BodyTree (Symbol × BodyTree) TabularTree UnionTree → UnionTree
one_union u = arms u.kind u.first (arms_of u.others.items)

abbrev pub one_arm : Arm-F ArmTree BodyTree SourceTree FromTree BodyTree (Symbol × BodyTree) TabularTree UnionTree → ArmTree
one_arm (Arm-F.Named n) = named_arm n
one_arm (Arm-F.Grouped t q) = nested_arm t q.value

abbrev pub one_operator : Operator-F ArmTree BodyTree SourceTree FromTree BodyTree (Symbol × BodyTree) TabularTree UnionTree → Symbol × BodyTree
one_operator o = (o.word, o.body)

abbrev pub one_body : OperatorBody-F ArmTree BodyTree SourceTree FromTree BodyTree (Symbol × BodyTree) TabularTree UnionTree → BodyTree
one_body (OperatorBody-F.Where e) = filter (tree_of e.value)
one_body (OperatorBody-F.Extend i is) = extend (item_view i.value) (map item_view is.items)
one_body (OperatorBody-F.Project i is) = project (item_view i.value) (map item_view is.items)
one_body (OperatorBody-F.ProjectAway n ns) = project_away n ns.items
one_body (OperatorBody-F.ProjectRename p ps) = project_rename p ps.items
one_body (OperatorBody-F.Take t) = take t
one_body OperatorBody-F.Count = count
one_body (OperatorBody-F.Sort q qs) = sort (key_view q.value) (map key_view qs.items)
one_body (OperatorBody-F.Top t q) = top t (key_view q.value)
one_body (OperatorBody-F.Distinct n ns) = distinct n ns.items
one_body (OperatorBody-F.DistinctAll t) = distinct_all t
one_body (OperatorBody-F.Summarize a more g) = summarize (aggregate_view a) (map aggregate_view more.items) (option_map (λ b. grouping_view b.value) g)
one_body (OperatorBody-F.SummarizeBy g) = summarize_by (grouping_view g.value)
one_body (OperatorBody-F.Join j) = j
one_body (OperatorBody-F.Unite u) = unite u
one_body (OperatorBody-F.MvExpand i t) = mv_expand (item_view i.value) t

abbrev pub one_join : Join-F ArmTree BodyTree SourceTree FromTree BodyTree (Symbol × BodyTree) TabularTree UnionTree → BodyTree
one_join j = join j.kind j.right.value j.first j.others.items

-- ---- all layers

abbrev pub tabular_of : Tabular → TabularTree
tabular_of = fold-Tabular ArmTree BodyTree SourceTree FromTree BodyTree (Symbol × BodyTree) TabularTree UnionTree one_arm one_body one_source one_from one_join one_operator one_tabular one_union

abbrev pub source_of : Source → SourceTree
source_of = fold-Source ArmTree BodyTree SourceTree FromTree BodyTree (Symbol × BodyTree) TabularTree UnionTree one_arm one_body one_source one_from one_join one_operator one_tabular one_union

abbrev pub from_of : SourceBody → FromTree
from_of = fold-SourceBody ArmTree BodyTree SourceTree FromTree BodyTree (Symbol × BodyTree) TabularTree UnionTree one_arm one_body one_source one_from one_join one_operator one_tabular one_union

abbrev pub union_of : Union → UnionTree
union_of = fold-Union ArmTree BodyTree SourceTree FromTree BodyTree (Symbol × BodyTree) TabularTree UnionTree one_arm one_body one_source one_from one_join one_operator one_tabular one_union

abbrev pub arm_of : Arm → ArmTree
arm_of = fold-Arm ArmTree BodyTree SourceTree FromTree BodyTree (Symbol × BodyTree) TabularTree UnionTree one_arm one_body one_source one_from one_join one_operator one_tabular one_union

abbrev pub operator_of : Operator → Symbol × BodyTree
operator_of = fold-Operator ArmTree BodyTree SourceTree FromTree BodyTree (Symbol × BodyTree) TabularTree UnionTree one_arm one_body one_source one_from one_join one_operator one_tabular one_union

abbrev pub body_of : OperatorBody → BodyTree
body_of = fold-OperatorBody ArmTree BodyTree SourceTree FromTree BodyTree (Symbol × BodyTree) TabularTree UnionTree one_arm one_body one_source one_from one_join one_operator one_tabular one_union

abbrev pub join_of : Join → BodyTree
join_of = fold-Join ArmTree BodyTree SourceTree FromTree BodyTree (Symbol × BodyTree) TabularTree UnionTree one_arm one_body one_source one_from one_join one_operator one_tabular one_union

-- ---- queries

abbrev pub right_of : LetRight → Right Tree TabularTree
right_of (right.Scalar e) = scalar (tree_of e.value)
right_of (right.Tabular q) = tabular_alone (tabular_of q.value)
right_of (right.Either e q) = either (tree_of e.value) (tabular_of q.value)

abbrev pub let_of : Let → LetTree
let_of l = record { name = l.name; right = right_of l.right }

abbrev pub query_of : Query → QueryTree
query_of q = record { lets = map let_of q.lets.items; tabular = tabular_of q.tabular.value }
