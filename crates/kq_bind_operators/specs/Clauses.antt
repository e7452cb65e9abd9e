-- What the clauses of sources and operators do with rows: their steps, and the columns that they give.
use Rattle.std.specs.Prelude.{if◌then◌else◌, ℕ, true, List, [], ◌∷◌, ◌++◌, map, Option, Some, None, Ok, Err, codes, length, slice_set}
use Rattle.kq_bind_operators.specs.Flows.{Progressing, Flowing, columns, columns_at, after, following, added}
use Rattle.kq_bind_operators.specs.Operators.{row_number}
use Rattle.kq_bind_operators.specs.Scopes.{Scoping, names}
use Rattle.kq_bind_aggregates.specs.Gathered.{Gathering, no_aggregate, aggregates_made}
use Rattle.kq_bind_clauses.specs.Joins.{join_columns, on_keys}
use Rattle.kq_bind_clauses.specs.Ranges.{Ranging, ranged, range_column}
use Rattle.kq_bind_clauses.specs.Sorts.{sort_key, sort_keys}
use Rattle.kq_bind_clauses.specs.Tables.{tabled, word_type}
use Rattle.kq_bind_clauses.specs.Unions.{is_inner, arms_filled, columns_in, union_sources, union_columns}
use Rattle.kq_bind_columns.specs.Defaults.{first_token, column_of, default_name}
use Rattle.kq_bind_columns.specs.Items.{field, nothing_made, items_made}
use Rattle.kq_bind_columns.specs.Naming.{free_name}
use Rattle.kq_bind_expressions.specs.Bound.{bound}
use Rattle.kq_bind_expressions.specs.Lookup.{first_named}
use Rattle.kq_bind_expressions.specs.Verdicts.{Verdict, mistyped, and_then}
use Rattle.kq_plan_expressions.specs.Terms.{Term, Bound}
use Rattle.kq_read_grammar.specs.declared.clause.Cell.{Cell}
use Rattle.kq_read_grammar.specs.declared.clause.Column.{Column}
use Rattle.kq_read_grammar.specs.declared.clause.JoinKey.{JoinKey}
use Rattle.kq_read_grammar.specs.declared.expression.Name.{Name}
use Rattle.kq_read_grammar.specs.Trees.{Tree, ItemTree, plain, named, KeyTree, AggregateTree, GroupingTree}
use Rattle.kq_plan.specs.declared.work.JoinKind.{JoinKind}
use Rattle.kq_plan.specs.Plans.{Stepping, numbers, written, sorted, topped, summarized, joined, united, expanded}
use Rattle.kq_read_meanings.specs.Names.{name_said}
use Rattle.kq_read_symbols.specs.declared.kind.Symbol.{Symbol}
use Rattle.kq_value.specs.declared.schema.Field.{Field}
use Rattle.kq_value.specs.declared.ty.Ty.{Ty}
use Rattle.kq_value.specs.declared.ty.Ty.TheVariants as ty
use Rattle.kq_value.specs.Ty.{same_ty}

-- ---- sources

abbrev pub range_made : Scoping → Progressing → Name → Ranging → Flowing
range_made s p n r = following p (numbers r.first r.last r.step) (range_column s.text n r.ty)

abbrev pub bind_range : Scoping → Progressing → Name → Tree → Tree → Tree → Verdict Flowing
bind_range s p n a b c = and_then (ranged (names s) a b c) (λ r. Ok (range_made s p n r))

abbrev pub table_rows : Scoping → Progressing → ℕ → List Column → List Cell → Verdict Flowing
table_rows s p at cs ls = and_then (tabled s.text at cs ls) (λ t. Ok (following p (written t.1) t.0))

-- ---- sorts

abbrev pub sorted_by : Scoping → Flowing → List KeyTree → Verdict Flowing
sorted_by s w ks = and_then (sort_keys (names s) (columns w) ks) (λ xs. Ok (after w (λ i. sorted i xs) (columns w)))

abbrev pub topped_by : Scoping → Flowing → Symbol → KeyTree → Verdict Flowing
topped_by s w t k = and_then (row_number s t) (λ n. and_then (sort_key (names s) (columns w) k) (λ x. Ok (after w (λ i. topped i n x) (columns w))))

-- ---- groups

abbrev pub summarized_by : Flowing → List Term → Gathering → Flowing
summarized_by w keys g = after w (λ i. summarized i keys g.aggregates) g.fields

-- the keys come before the aggregates, in the walk and among the columns
abbrev pub grouped : Scoping → Flowing → List AggregateTree → List ItemTree → Verdict Flowing
grouped s w aggs is =
    and_then (items_made (names s) (columns w) [] true nothing_made is) (λ m.
    and_then (aggregates_made (names s) (columns w) m.fields (no_aggregate m.fields) aggs) (λ g. Ok (summarized_by w m.terms g)))

abbrev pub grouping_items : Option GroupingTree → List ItemTree
grouping_items None = []
grouping_items (Some g) = g.0 ∷ g.1

-- ---- the parts of a dynamic

abbrev pub part_type : Scoping → Option Symbol → Verdict (Option Ty)
part_type s None = Ok None
part_type s (Some t) = and_then (word_type s.text t) (λ u. Ok (Some u))

abbrev pub or_dynamic : Option Ty → Ty
or_dynamic (Some t) = t
or_dynamic None = ty.Dynamic

abbrev pub or_first_column : Option (List ℕ) → List ℕ
or_first_column (Some name) = name
or_first_column None = codes "Column1"

-- the name of the item's own column, or else this one, with the least suffix that is free where a column has it: so only its own column is replaced
abbrev pub own_or_free : List Field → Option (List ℕ) → List ℕ → List ℕ
own_or_free cs (Some own) name = own
own_or_free cs None name = free_name cs [] name

-- its own column is the one that the item is; a member of a column, or what is made of it, isn't that column
abbrev pub unnamed_item : List ℕ → List Field → Tree → List ℕ
unnamed_item text cs e = own_or_free cs (column_of text cs e) (or_first_column (default_name text cs e))

abbrev pub item_name : Scoping → List Field → ItemTree → List ℕ
item_name s cs (plain e) = unnamed_item s.text cs e
item_name s cs (named n e) = name_said s.text n

abbrev pub item_value : ItemTree → Tree
item_value (plain e) = e
item_value (named n e) = e

abbrev pub if_dynamic : ℕ → Bound → Verdict Bound
if_dynamic at x = if same_ty x.1 ty.Dynamic then Ok x else Err (mistyped at)

-- in place of the column of its name, or else last
abbrev pub expanded_at : Flowing → Bound → List ℕ → Option Ty → Option (ℕ × Ty) → Flowing
expanded_at w x name t (Some k) = after w (λ i. expanded i x.0 k.0 t) (slice_set (columns w) k.0 (field name (or_dynamic t)))
expanded_at w x name t None = after w (λ i. expanded i x.0 (length (columns w)) t) (columns w ++ field name (or_dynamic t) ∷ [])

abbrev pub expanded_as : Flowing → Bound → List ℕ → Option Ty → Flowing
expanded_as w x name t = expanded_at w x name t (first_named 0 (columns w) name)

abbrev pub bind_mv_expand : Scoping → Flowing → ItemTree → Option Symbol → Verdict Flowing
bind_mv_expand s w i t =
    and_then (and_then (bound (names s) (columns w) (item_value i)) (if_dynamic (first_token (item_value i)))) (λ x.
    and_then (part_type s t) (λ u. Ok (expanded_as w x (item_name s (columns w) i) u)))

-- ---- operators that take the rows of several steps

-- the rows of this step, with those of the right side, at this stage
abbrev pub joined_on : Scoping → ℕ → ℕ → JoinKind → Flowing → List JoinKey → Verdict Flowing
joined_on s stage left kind r ks =
    and_then (on_keys s.text (columns_at r.progress.steps left) (columns r) ks) (λ on.
    Ok (added r.progress stage (joined kind left r.input on) (join_columns kind (columns_at r.progress.steps left) (columns r))))

-- a step with its columns
abbrev pub arm_with : List Stepping → ℕ → ℕ × List Field
arm_with steps i = (i, columns_at steps i)

abbrev pub arms_with : List Stepping → List ℕ → List (ℕ × List Field)
arms_with steps is = map (arm_with steps) is

abbrev pub put_together : ℕ → Progressing → List (ℕ × List Field) → List Field → Flowing
put_together stage p given sources = added p stage (united (arms_filled given sources)) (union_columns sources)

-- the rows of these steps together, at this stage
abbrev pub all_together : ℕ → Option Symbol → Progressing → List ℕ → Flowing
all_together stage kind p is = put_together stage p (arms_with p.steps is) (union_sources (is_inner kind) (map columns_in (arms_with p.steps is)))
