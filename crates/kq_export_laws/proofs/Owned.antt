-- A query that names its table alone, and calls neither now nor ago, is bound to the body of an export over that table.
use Rattle.std.proofs.Common.{◌≡◌, ◌||◌, ◌∙◌, ℕ, ◌+◌, Bool, true, false, not, cond, List, [], ◌∷◌, ◌++◌, length, map, Option, Some, None, Ok, Err, refl, ap, subst}
use Rattle.std.specs.Prelude.{slice_set}
use Rattle.std.specs.List.{list_any}
use Rattle.std.specs.Str.{bytes_eq}
use Rattle.std.proofs.lemmas.Slice.Eq.{bytes_eq-Decides}
use Rattle.kq_bind_aggregates.specs.Gathered.{no_aggregate, aggregates_made}
use Rattle.kq_bind_clauses.specs.Joins.{join_kind, on_keys, join_columns}
use Rattle.kq_bind_clauses.specs.Ranges.{ranged, range_column}
use Rattle.kq_bind_clauses.specs.Sorts.{sort_key, sort_keys}
use Rattle.kq_bind_clauses.specs.Tables.{tabled}
use Rattle.kq_bind_clauses.specs.Unions.{is_inner, columns_in, union_sources, union_columns, arms_filled}
use Rattle.kq_bind_columns.specs.Chosen.{chosen, all_chosen, columns_at as columns_chosen, without, names_given, renamed as fields_renamed}
use Rattle.kq_bind_columns.specs.Defaults.{first_token}
use Rattle.kq_bind_columns.specs.Items.{field, nothing_made, items_made}
use Rattle.kq_bind_columns.specs.Laying.{as_they_are, over}
use Rattle.kq_bind_columns.specs.Printed.{printed}
use Rattle.kq_bind_expressions.specs.Bound.{bound}
use Rattle.kq_bind_expressions.specs.Lookup.{first_named}
use Rattle.kq_bind_expressions.specs.Verdicts.{Verdict, and_then, mistyped, supported_or}
use Rattle.kq_view_body.specs.Exports.{other_name, moment_in_keys, foreign_tabular, foreign_source, foreign_from, foreign_union, foreign_arms, foreign_arm, foreign_operators, foreign_body}
use Rattle.kq_view_body.specs.Moments.{moment_in, moment_in_item, moment_in_items, moment_in_aggregates, moment_in_grouping, or_later}
use Rattle.kq_plan_expressions.specs.Terms.{Bound}
use Rattle.kq_bind_query.proofs.Progress.{then_ok, done, done_is}
use Rattle.kq_bind_query.specs.Pipes.{tabular, sourced, from_word, united_with, gathered, armed, piped, operated}
use Rattle.kq_bind_query.specs.Queries.{nothing_let, scope_of, lets_made, planned, query_walked, query_bound}
use Rattle.kq_bind_query.specs.kq_bind_operators.Clauses.{range_made, bind_range, table_rows, sorted_by, topped_by, summarized_by, grouped, grouping_items, part_type, or_dynamic, item_name, item_value, if_dynamic, expanded_at, expanded_as, bind_mv_expand, joined_on, arms_with, all_together}
use Rattle.kq_bind_query.specs.kq_bind_operators.Flows.{Progressing, Flowing, columns, columns_at, after, added, following, next_stage}
use Rattle.kq_bind_query.specs.kq_bind_operators.Operators.{row_made, printed_row, where_true, filtered, row_number, taken, count_column, laid_after, projected, extended, dropped, new_name, old_name, renamed, bind_distinct, all_distinct}
use Rattle.kq_bind_query.specs.kq_bind_operators.Scopes.{Scoping, names, leaf_of, source_named}
use Rattle.kq_bind_query.specs.kq_bind_supported.Unsupported.{unsupported_query}
use Rattle.kq_read_grammar.specs.declared.clause.Cell.{Cell}
use Rattle.kq_read_grammar.specs.declared.clause.Column.{Column}
use Rattle.kq_read_grammar.specs.declared.clause.JoinKey.{JoinKey}
use Rattle.kq_read_grammar.specs.declared.expression.Name.{Name}
use Rattle.kq_read_grammar.specs.Trees.{Tree, ItemTree, plain, named, KeyTree, AggregateTree, GroupingTree, TabularTree, pipeline, SourceTree, table as table_source, nested, worded, FromTree, view, print, range, datatable, union, UnionTree, arms, ArmTree, named_arm, nested_arm, Arms, no_arm, and_arm, Operators, no_operator, and_operator, BodyTree, filter, extend, project, project_away, project_rename, take, count, sort, top, distinct, distinct_all, summarize, summarize_by, join, unite, mv_expand, LetTree, QueryTree}
use Rattle.kq_policy_moments.specs.kq_catalog_journal.Moments.{step_asks}
use Rattle.kq_plan.specs.declared.names.NameKind.TheVariants as name
use Rattle.kq_plan.specs.declared.work.JoinKind.{JoinKind}
use Rattle.kq_plan.specs.declared.work.LeafKind.TheVariants as kind
use Rattle.kq_plan.specs.Names.{Known}
use Rattle.kq_plan.specs.Plans.{Doing, leaf, one_row, numbers, written, kept, mapped, cut, counted, sorted, topped, apart, summarized, joined, united, expanded, Stepping, Planned}
use Rattle.kq_read_meanings.specs.Names.{name_said, name_place}
use Rattle.kq_read_symbols.specs.declared.kind.Symbol.{Symbol}
use Rattle.kq_value.specs.declared.schema.Field.{Field}
use Rattle.kq_value.specs.declared.ty.Ty.{Ty}
use Rattle.kq_value.specs.declared.ty.Ty.TheVariants as ty
use Rattle.kq_value.specs.Ty.{same_ty}
use Rattle.kq_export_laws.proofs.Clauses.{as_they_are_timeless, without_timeless, all_laid_timeless, items_timeless, printed_timeless, sort_key_timeless, sort_keys_timeless, ranged_timeless, aggregates_timeless}
use Rattle.kq_export_laws.proofs.Timeless.{IsTimeless, both_false, left_false, right_false, neither, bound_timeless}
use Rattle.kq_export_binder.specs.Bodies.{is_foreign, is_export_body, reads_other}

module _ (text table : List ℕ) (known : List ℕ → Option Known) (cs : List Field) (stands : known table ≡ Some (name.Table, cs)) where
  -- what names stand for where no let comes before
  abbrev scope : Scoping
  scope = scope_of text known nothing_let

  -- steps of which none reads something else or asks for the moment
  abbrev AreOwn : List Stepping → Type 0
  AreOwn ss = list_any (is_foreign table) ss ≡ false

  abbrev IsOwn : Flowing → Type 0
  IsOwn w = AreOwn w.progress.steps

  abbrev DoesOwn : Doing → Type 0
  DoesOwn d = (reads_other table d || step_asks d) ≡ false

  own_more : (ss : List Stepping) (s : Stepping) → AreOwn ss → is_foreign table s ≡ false → AreOwn (ss ++ s ∷ [])
  own_more [] s h k = both_false (is_foreign table s) false k refl
  own_more (t ∷ ss) s h k =
      both_false (is_foreign table t) (list_any (is_foreign table) (ss ++ s ∷ [])) (left_false (is_foreign table t) (list_any (is_foreign table) ss) h)
      (own_more ss s (right_false (is_foreign table t) (list_any (is_foreign table) ss) h) k)

  added_own : (p : Progressing) (stage : ℕ) (d : Doing) (fs : List Field) → AreOwn p.steps → DoesOwn d → IsOwn (added p stage d fs)
  added_own p stage d fs h k = own_more p.steps (record { stage = stage; doing = d; columns = fs }) h k

  following_own : (p : Progressing) (d : Doing) (fs : List Field) → AreOwn p.steps → DoesOwn d → IsOwn (following p d fs)
  following_own p d fs h k = added_own (next_stage p) (p.stages + 1) d fs h k

  -- ---- sources

  leaf_own : (p : Progressing) (at : ℕ) (said : List ℕ) (v : Flowing) → AreOwn p.steps → bytes_eq said table ≡ true → leaf_of at p said (known said) ≡ Ok v → IsOwn v
  leaf_own p at said v h test e =
      let same : said ≡ table = (bytes_eq-Decides said table).0 test in
      let is : known said ≡ Some (name.Table, cs) = ap known same ∙ stands in
      let found : leaf_of at p said (Some (name.Table, cs)) ≡ Ok v = subst (λ (o : Option Known). leaf_of at p said o ≡ Ok v) is e in
      subst IsOwn (done_is (following p (leaf kind.Table said) cs) v found)
      (following_own p (leaf kind.Table said) cs h (both_false (not (bytes_eq said table)) false (ap not test) refl))

  source_own : (p : Progressing) (n : Name) (v : Flowing) → AreOwn p.steps → other_name text table n ≡ None → source_named scope p n ≡ Ok v → IsOwn v
  source_own p n v h lacks e = by (bytes_eq said table) refl lacks where
    said : List ℕ
    said = name_said text n

    by : (b : Bool) → bytes_eq said table ≡ b → cond {A = Option ℕ} b None (Some (name_place n)) ≡ None → IsOwn v
    by true test k = leaf_own p (name_place n) said v h test e
    by false test k = absurd (cc)

  printed_own : (p : Progressing) (is : List ItemTree) (v : Flowing) → AreOwn p.steps → moment_in_items text is ≡ None → printed_row scope p is ≡ Ok v → IsOwn v
  printed_own p is v h lacks e =
      let m = then_ok (printed (names scope) is) (λ m. done (row_made p m)) v e in
      subst IsOwn (done_is (row_made p m.0) v m.2)
      (following_own p (one_row m.0.terms) m.0.fields h (printed_timeless (names scope) 0 nothing_made is m.0 lacks refl m.1))

  range_own : (p : Progressing) (n : Name) (a b c : Tree) (v : Flowing) → AreOwn p.steps
      → or_later (moment_in text a) (or_later (moment_in text b) (moment_in text c)) ≡ None → bind_range scope p n a b c ≡ Ok v → IsOwn v
  range_own p n a b c v h lacks e =
      let r = then_ok (ranged (names scope) a b c) (λ r. done (range_made scope p n r)) v e in
      subst IsOwn (done_is (range_made scope p n r.0) v r.2)
      (following_own p (numbers r.0.first r.0.last r.0.step) (range_column text n r.0.ty) h (ranged_timeless (names scope) a b c r.0 lacks r.1))

  table_own : (p : Progressing) (at : ℕ) (columns : List Column) (ls : List Cell) (v : Flowing) → AreOwn p.steps → table_rows scope p at columns ls ≡ Ok v → IsOwn v
  table_own p at columns ls v h e =
      let t = then_ok (tabled text at columns ls) (λ t. done (following p (written t.1) t.0)) v e in
      subst IsOwn (done_is (following p (written t.0.1) t.0.0) v t.2) (following_own p (written t.0.1) t.0.0 h refl)

  -- ---- operators

  after_own : (w : Flowing) (d : ℕ → Doing) (fs : List Field) → IsOwn w → DoesOwn (d w.input) → IsOwn (after w d fs)
  after_own w d fs h k = following_own w.progress (d w.input) fs h k

  where_own : (w v : Flowing) (at : ℕ) (x : Bound) → IsOwn w → IsTimeless x → where_true w at x ≡ Ok v → IsOwn v
  where_own w v at x h k e = by (same_ty x.1 ty.Bool) e where
    put : Flowing
    put = after w (λ i. kept i x.0) (columns w)

    by : (b : Bool) → cond {A = Verdict Flowing} b (done put) (Err (mistyped at)) ≡ Ok v → IsOwn v
    by true g = subst IsOwn (done_is put v g) (after_own w (λ i. kept i x.0) (columns w) h k)
    by false g = absurd (cc)

  filtered_own : (w v : Flowing) (e : Tree) → IsOwn w → moment_in text e ≡ None → filtered scope w e ≡ Ok v → IsOwn v
  filtered_own w v e h lacks is =
      let x = then_ok (bound (names scope) (columns w) e) (where_true w (first_token e)) v is in
      where_own w v (first_token e) x.0 h (bound_timeless (names scope) (columns w) e x.0 lacks x.1) x.2

  taken_own : (w v : Flowing) (t : Symbol) → IsOwn w → taken scope w t ≡ Ok v → IsOwn v
  taken_own w v t h is =
      let n = then_ok (row_number scope t) (λ n. done (after w (λ i. cut i n) (columns w))) v is in
      subst IsOwn (done_is (after w (λ i. cut i n.0) (columns w)) v n.2) (after_own w (λ i. cut i n.0) (columns w) h refl)

  sorted_own : (w v : Flowing) (ks : List KeyTree) → IsOwn w → moment_in_keys text ks ≡ None → sorted_by scope w ks ≡ Ok v → IsOwn v
  sorted_own w v ks h lacks e =
      let xs = then_ok (sort_keys (names scope) (columns w) ks) (λ xs. done (after w (λ i. sorted i xs) (columns w))) v e in
      subst IsOwn (done_is (after w (λ i. sorted i xs.0) (columns w)) v xs.2)
      (after_own w (λ i. sorted i xs.0) (columns w) h (sort_keys_timeless (names scope) (columns w) ks xs.0 lacks xs.1))

  topped_own : (w v : Flowing) (t : Symbol) (k : KeyTree) → IsOwn w → moment_in text k.value ≡ None → topped_by scope w t k ≡ Ok v → IsOwn v
  topped_own w v t k h lacks e =
      let n = then_ok (row_number scope t) (λ n. and_then (sort_key (names scope) (columns w) k) (λ x. done (after w (λ i. topped i n x) (columns w)))) v e in
      let x = then_ok (sort_key (names scope) (columns w) k) (λ x. done (after w (λ i. topped i n.0 x) (columns w))) v n.2 in
      subst IsOwn (done_is (after w (λ i. topped i n.0 x.0) (columns w)) v x.2)
      (after_own w (λ i. topped i n.0 x.0) (columns w) h (sort_key_timeless (names scope) (columns w) k x.0 lacks x.1))

  projected_own : (w v : Flowing) (is : List ItemTree) → IsOwn w → moment_in_items text is ≡ None → projected scope w is ≡ Ok v → IsOwn v
  projected_own w v is h lacks e =
      let m = then_ok (items_made (names scope) (columns w) [] false nothing_made is) (λ m. done (after w (λ i. mapped i m.terms) m.fields)) v e in
      subst IsOwn (done_is (after w (λ i. mapped i m.0.terms) m.0.fields) v m.2)
      (after_own w (λ i. mapped i m.0.terms) m.0.fields h (items_timeless (names scope) (columns w) [] false nothing_made is m.0 lacks refl m.1))

  extended_own : (w v : Flowing) (is : List ItemTree) → IsOwn w → moment_in_items text is ≡ None → extended scope w is ≡ Ok v → IsOwn v
  extended_own w v is h lacks e =
      let fs = columns w in
      let m = then_ok (items_made (names scope) fs fs false nothing_made is) (λ m. done (laid_after w (over fs m))) v e in
      let made = items_timeless (names scope) fs fs false nothing_made is m.0 lacks refl m.1 in
      subst IsOwn (done_is (laid_after w (over fs m.0)) v m.2)
      (after_own w (λ i. mapped i (over fs m.0).0) (over fs m.0).1 h
      (all_laid_timeless (as_they_are 0 fs, fs) m.0.terms m.0.fields (as_they_are_timeless 0 fs) made))

  dropped_own : (w v : Flowing) (ns : List Name) → IsOwn w → dropped scope w ns ≡ Ok v → IsOwn v
  dropped_own w v ns h e =
      let is = then_ok (chosen text (columns w) false [] ns) (λ is. done (laid_after w (without 0 (columns w) is))) v e in
      let left = without 0 (columns w) is.0 in
      subst IsOwn (done_is (laid_after w left) v is.2) (after_own w (λ i. mapped i left.0) left.1 h (without_timeless 0 (columns w) is.0))

  renamed_own : (w v : Flowing) (ps : List (Name × Name)) → IsOwn w → renamed scope w ps ≡ Ok v → IsOwn v
  renamed_own w v ps h e =
      let fs = columns w in
      let put = λ (is : List ℕ) (ns : List (List ℕ)). after w (λ i. mapped i (as_they_are 0 fs)) (fields_renamed 0 fs is ns) in
      let is = then_ok (chosen text fs false [] (map old_name ps))
      (λ is. and_then (names_given text (without 0 fs is).1 (map new_name ps)) (λ ns. done (put is ns))) v e in
      let ns = then_ok (names_given text (without 0 fs is.0).1 (map new_name ps)) (λ ns. done (put is.0 ns)) v is.2 in
      subst IsOwn (done_is (put is.0 ns.0) v ns.2)
      (after_own w (λ i. mapped i (as_they_are 0 fs)) (fields_renamed 0 fs is.0 ns.0) h (as_they_are_timeless 0 fs))

  distinct_own : (w v : Flowing) (ns : List Name) → IsOwn w → bind_distinct scope w ns ≡ Ok v → IsOwn v
  distinct_own w v ns h e =
      let put = λ (is : List ℕ). after w (λ i. apart i is) (columns_chosen (columns w) is) in
      let is = then_ok (chosen text (columns w) true [] ns) (λ is. done (put is)) v e in
      subst IsOwn (done_is (put is.0) v is.2) (after_own w (λ i. apart i is.0) (columns_chosen (columns w) is.0) h refl)

  all_distinct_own : (w v : Flowing) (t : Symbol) → IsOwn w → all_distinct w t ≡ Ok v → IsOwn v
  all_distinct_own w v t h e =
      let is = then_ok (all_chosen t.from 0 (columns w)) (λ is. done (after w (λ i. apart i is) (columns w))) v e in
      subst IsOwn (done_is (after w (λ i. apart i is.0) (columns w)) v is.2) (after_own w (λ i. apart i is.0) (columns w) h refl)

  grouped_own : (w v : Flowing) (aggs : List AggregateTree) (is : List ItemTree) → IsOwn w → moment_in_aggregates text aggs ≡ None → moment_in_items text is ≡ None
      → grouped scope w aggs is ≡ Ok v → IsOwn v
  grouped_own w v aggs is h none lacks e =
      let fs = columns w in
      let m = then_ok (items_made (names scope) fs [] true nothing_made is)
      (λ m. and_then (aggregates_made (names scope) fs m.fields (no_aggregate m.fields) aggs) (λ k. done (summarized_by w m.terms k))) v e in
      let k = then_ok (aggregates_made (names scope) fs m.0.fields (no_aggregate m.0.fields) aggs) (λ k. done (summarized_by w m.0.terms k)) v m.2 in
      let keys = items_timeless (names scope) fs [] true nothing_made is m.0 lacks refl m.1 in
      let more = aggregates_timeless (names scope) fs m.0.fields aggs k.0 none k.1 in
      subst IsOwn (done_is (summarized_by w m.0.terms k.0) v k.2)
      (after_own w (λ i. summarized i m.0.terms k.0.aggregates) k.0.fields h (both_false _ _ keys more))

  expanded_own : (w : Flowing) (x : Bound) (said : List ℕ) (t : Option Ty) (o : Option (ℕ × Ty)) → IsOwn w → IsTimeless x → IsOwn (expanded_at w x said t o)
  expanded_own w x said t (Some k) h lacks = after_own w (λ i. expanded i x.0 k.0 t) (slice_set (columns w) k.0 (field said (or_dynamic t))) h lacks
  expanded_own w x said t None h lacks = after_own w (λ i. expanded i x.0 (length (columns w)) t) (columns w ++ field said (or_dynamic t) ∷ []) h lacks

  dynamic_timeless : (at : ℕ) (y x : Bound) → IsTimeless y → if_dynamic at y ≡ Ok x → IsTimeless x
  dynamic_timeless at y x h e = by (same_ty y.1 ty.Dynamic) e where
    by : (b : Bool) → cond {A = Verdict Bound} b (done y) (Err (mistyped at)) ≡ Ok x → IsTimeless x
    by true g = subst IsTimeless (done_is y x g) h
    by false g = absurd (cc)

  value_none : (i : ItemTree) → moment_in_item text i ≡ None → moment_in text (item_value i) ≡ None
  value_none (plain e) lacks = lacks
  value_none (named n e) lacks = lacks

  parts_own : (w v : Flowing) (i : ItemTree) (t : Option Symbol) → IsOwn w → moment_in_item text i ≡ None → bind_mv_expand scope w i t ≡ Ok v → IsOwn v
  parts_own w v i t h lacks e =
      let said = item_name scope (columns w) i in
      let at = first_token (item_value i) in
      let x = then_ok (and_then (bound (names scope) (columns w) (item_value i)) (if_dynamic at))
      (λ x. and_then (part_type scope t) (λ u. done (expanded_as w x said u))) v e in
      let y = then_ok (bound (names scope) (columns w) (item_value i)) (if_dynamic at) x.0 x.1 in
      let u = then_ok (part_type scope t) (λ u. done (expanded_as w x.0 said u)) v x.2 in
      let timeless = dynamic_timeless at y.0 x.0 (bound_timeless (names scope) (columns w) (item_value i) y.0 (value_none i lacks) y.1) y.2 in
      subst IsOwn (done_is (expanded_as w x.0 said u.0) v u.2) (expanded_own w x.0 said u.0 (first_named 0 (columns w) said) h timeless)

  -- ---- rows of several steps

  joined_own : (stage left : ℕ) (k : JoinKind) (r v : Flowing) (ks : List JoinKey) → IsOwn r → joined_on scope stage left k r ks ≡ Ok v → IsOwn v
  joined_own stage left k r v ks h e =
      let ss = r.progress.steps in
      let fs = join_columns k (columns_at ss left) (columns r) in
      let on = then_ok (on_keys text (columns_at ss left) (columns r) ks) (λ on. done (added r.progress stage (joined k left r.input on) fs)) v e in
      subst IsOwn (done_is (added r.progress stage (joined k left r.input on.0) fs) v on.2) (added_own r.progress stage (joined k left r.input on.0) fs h refl)

  together_own : (stage : ℕ) (said : Option Symbol) (p : Progressing) (is : List ℕ) → AreOwn p.steps → IsOwn (all_together stage said p is)
  together_own stage said p is h =
      let sources = union_sources (is_inner said) (map columns_in (arms_with p.steps is)) in
      added_own p stage (united (arms_filled (arms_with p.steps is) sources)) (union_columns sources) h refl

  grouping_none : (g : Option GroupingTree) → moment_in_grouping text g ≡ None → moment_in_items text (grouping_items g) ≡ None
  grouping_none None lacks = lacks
  grouping_none (Some g) lacks = lacks

  -- ---- pipes

  mutual
    tabular_own : (p : Progressing) (q : TabularTree) (v : Flowing) → AreOwn p.steps → foreign_tabular text table q ≡ None → tabular scope p q ≡ Ok v → IsOwn v
    tabular_own p (pipeline o bs) v h lacks e =
        let parts = neither (foreign_source text table o) (foreign_operators text table bs) lacks in
        let w = then_ok (sourced scope p o) (λ w. piped scope w bs) v e in
        piped_own w.0 bs v (sourced_own p o w.0 h parts.0 w.1) parts.1 w.2

    sourced_own : (p : Progressing) (o : SourceTree) (v : Flowing) → AreOwn p.steps → foreign_source text table o ≡ None → sourced scope p o ≡ Ok v → IsOwn v
    sourced_own p (table_source n) v h lacks e = source_own p n v h lacks e
    sourced_own p (nested t q) v h lacks e = tabular_own p q v h lacks e
    sourced_own p (worded t b) v h lacks e = from_own p t b v h lacks e

    from_own : (p : Progressing) (t : Symbol) (b : FromTree) (v : Flowing) → AreOwn p.steps → foreign_from text table t.from b ≡ None
        → from_word scope p t b ≡ Ok v → IsOwn v
    from_own p t (view n) v h lacks e = absurd (cc)
    from_own p t (print i is) v h lacks e = printed_own p (i ∷ is) v h lacks e
    from_own p t (range n a b c) v h lacks e = range_own p n a b c v h lacks e
    from_own p t (datatable c fs ls) v h lacks e = table_own p t.from (c ∷ fs) ls v h e
    from_own p t (union u) v h lacks e = united_own (p.stages + 1) (next_stage p) [] u v h lacks e

    united_own : (stage : ℕ) (p : Progressing) (is : List ℕ) (u : UnionTree) (v : Flowing) → AreOwn p.steps → foreign_union text table u ≡ None
        → united_with scope stage p is u ≡ Ok v → IsOwn v
    united_own stage p is (arms said a more) v h lacks e =
        let parts = neither (foreign_arm text table a) (foreign_arms text table more) lacks in
        let w = then_ok (armed scope p a) (λ w. gathered scope stage said w.progress (is ++ w.input ∷ []) more) v e in
        gathered_own stage said w.0.progress (is ++ w.0.input ∷ []) more v (armed_own p a w.0 h parts.0 w.1) parts.1 w.2

    gathered_own : (stage : ℕ) (said : Option Symbol) (p : Progressing) (is : List ℕ) (more : Arms) (v : Flowing) → AreOwn p.steps
        → foreign_arms text table more ≡ None → gathered scope stage said p is more ≡ Ok v → IsOwn v
    gathered_own stage said p is no_arm v h lacks e = subst IsOwn (done_is (all_together stage said p is) v e) (together_own stage said p is h)
    gathered_own stage said p is (and_arm a more) v h lacks e =
        let parts = neither (foreign_arm text table a) (foreign_arms text table more) lacks in
        let w = then_ok (armed scope p a) (λ w. gathered scope stage said w.progress (is ++ w.input ∷ []) more) v e in
        gathered_own stage said w.0.progress (is ++ w.0.input ∷ []) more v (armed_own p a w.0 h parts.0 w.1) parts.1 w.2

    armed_own : (p : Progressing) (a : ArmTree) (v : Flowing) → AreOwn p.steps → foreign_arm text table a ≡ None → armed scope p a ≡ Ok v → IsOwn v
    armed_own p (named_arm n) v h lacks e = source_own p n v h lacks e
    armed_own p (nested_arm t q) v h lacks e = tabular_own p q v h lacks e

    piped_own : (w : Flowing) (bs : Operators) (v : Flowing) → IsOwn w → foreign_operators text table bs ≡ None → piped scope w bs ≡ Ok v → IsOwn v
    piped_own w no_operator v h lacks e = subst IsOwn (done_is w v e) h
    piped_own w (and_operator t b bs) v h lacks e =
        let parts = neither (foreign_body text table b) (foreign_operators text table bs) lacks in
        let u = then_ok (operated scope w b) (λ u. piped scope u bs) v e in
        piped_own u.0 bs v (operated_own w b u.0 h parts.0 u.1) parts.1 u.2

    operated_own : (w : Flowing) (b : BodyTree) (v : Flowing) → IsOwn w → foreign_body text table b ≡ None → operated scope w b ≡ Ok v → IsOwn v
    operated_own w (filter c) v h lacks e = filtered_own w v c h lacks e
    operated_own w (extend i is) v h lacks e = extended_own w v (i ∷ is) h lacks e
    operated_own w (project i is) v h lacks e = projected_own w v (i ∷ is) h lacks e
    operated_own w (project_away n ns) v h lacks e = dropped_own w v (n ∷ ns) h e
    operated_own w (project_rename q qs) v h lacks e = renamed_own w v (q ∷ qs) h e
    operated_own w (take t) v h lacks e = taken_own w v t h e
    operated_own w count v h lacks e = subst IsOwn (done_is (after w counted count_column) v e) (after_own w counted count_column h refl)
    operated_own w (sort k ks) v h lacks e = sorted_own w v (k ∷ ks) h lacks e
    operated_own w (top t k) v h lacks e = topped_own w v t k h lacks e
    operated_own w (distinct n ns) v h lacks e = distinct_own w v (n ∷ ns) h e
    operated_own w (distinct_all t) v h lacks e = all_distinct_own w v t h e
    operated_own w (summarize a more g) v h lacks e =
        let parts = neither (moment_in_aggregates text (a ∷ more)) (moment_in_grouping text g) lacks in
        grouped_own w v (a ∷ more) (grouping_items g) h parts.0 (grouping_none g parts.1) e
    operated_own w (summarize_by g) v h lacks e = grouped_own w v [] (g.0 ∷ g.1) h refl lacks e
    operated_own w (join said q k ks) v h lacks e =
        let r = then_ok (tabular scope (next_stage w.progress) q) (λ r. joined_on scope (w.progress.stages + 1) w.input (join_kind said) r (k ∷ ks)) v e in
        joined_own (w.progress.stages + 1) w.input (join_kind said) r.0 v (k ∷ ks) (tabular_own (next_stage w.progress) q r.0 h lacks r.1) r.2
    operated_own w (unite u) v h lacks e = united_own (w.progress.stages + 1) (next_stage w.progress) (w.input ∷ []) u v h lacks e
    operated_own w (mv_expand i t) v h lacks e = parts_own w v i t h lacks e

  -- ---- queries

  walked_own : (lets : List LetTree) (q : TabularTree) (p : Planned) → lets ≡ [] → foreign_tabular text table q ≡ None
      → and_then (lets_made text known nothing_let lets) (λ l. and_then (tabular (scope_of text known l) l.progress q) (λ w. done (planned w))) ≡ Ok p
      → AreOwn p.steps
  walked_own (l ∷ lets) q p none lacks e = absurd (cc)
  walked_own [] q p none lacks e =
      let w = then_ok (tabular scope nothing_let.progress q) (λ w. done (planned w)) p e in
      subst (λ (x : Planned). AreOwn x.steps) (done_is (planned w.0) p w.2) (tabular_own nothing_let.progress q w.0 refl lacks w.1)

  supported : {A : Type 0} (o : Option ℕ) (v : Verdict A) (x : A) → supported_or o v ≡ Ok x → v ≡ Ok x
  supported None v x e = e
  supported (Some at) v x e = absurd (cc)

  pub own_body : (q : QueryTree) (p : Planned) → q.lets ≡ [] → foreign_tabular text table q.tabular ≡ None → query_bound text known q ≡ Ok p
      → is_export_body table p ≡ true
  own_body q p none lacks e = ap not (walked_own q.lets q.tabular p none lacks (supported (unsupported_query text q) (query_walked text known q) p e))

  -- a query whose plan is no body has a place where it isn't one
  pub foreign_found : (q : QueryTree) (p : Planned) → q.lets ≡ [] → query_bound text known q ≡ Ok p → is_export_body table p ≡ false
      → (at : ℕ) × (foreign_tabular text table q.tabular ≡ Some at)
  foreign_found q p none e other = by (foreign_tabular text table q.tabular) refl where
    by : (o : Option ℕ) → foreign_tabular text table q.tabular ≡ o → (at : ℕ) × (foreign_tabular text table q.tabular ≡ Some at)
    by (Some at) is = (at, is)
    by None is = let body : is_export_body table p ≡ true = own_body q p none is e in absurd (cc)
