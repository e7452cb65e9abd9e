-- The reader of operators is exact where that of the sources inside is.
use Rattle.std.proofs.Common.{◌≡◌, ℕ, suc, false, List, [], ◌∷◌, ◌++◌, inl, inr, Option, None, refl, sym, subst, append-nil, arith}
use Rattle.kq_read_clauses.proofs.Following.{names_go_on, items_go_on, key_goes_on, keys_go_on, renamings_go_on, join_keys_go_on}
use Rattle.kq_read_clauses.specs.Reading as clause
use Rattle.kq_read_expressions.specs.Reading.{expression}
use Rattle.kq_read_grammar.specs.declared.clause.JoinKey.{JoinKey}
use Rattle.kq_read_grammar.specs.declared.expression.Name.{Name}
use Rattle.kq_read_grammar.specs.declared.tabular.OperatorKey.{OperatorKey}
use Rattle.kq_read_grammar.specs.declared.tabular.OperatorKey.TheVariants as o
use Rattle.kq_read_grammar.specs.Clauses as grammar
use Rattle.kq_read_grammar.specs.Expressions.{Text, spells}
use Rattle.kq_read_grammar.proofs.Precedences.{goes_on}
use Rattle.kq_read_grammar.specs.Tabulars.{operator_of, operator_key, kind_text, keys_on, tabular_text, union_text, body_text}
use Rattle.kq_read_grammar.specs.Trees.{ItemTree, KeyTree, TabularTree, BodyTree, filter, extend, project, project_away, project_rename, take, count, sort, top, distinct, distinct_all, summarize, summarize_by, join, unite, mv_expand}
use Rattle.kq_read_queries.proofs.Following.{union_goes_on, summarize_goes_on, expansion_goes_on, operator_goes_on, tabular_goes_on}
use Rattle.kq_read_queries.specs.Reading as reading
use Rattle.kq_read_symbols.specs.declared.kind.Kind.TheVariants as kind
use Rattle.kq_read_symbols.specs.declared.kind.Symbol.{Symbol}
use Rattle.kq_read_symbols.specs.declared.word.ClauseWord.TheVariants as w
use Rattle.kq_read_symbols.specs.declared.word.OperatorWord.TheVariants as l
use Rattle.kq_read_symbols.specs.declared.word.ReservedWord.TheVariants as r
use Rattle.kq_read_symbols.specs.declared.word.Word.TheVariants as word
use Rattle.kq_read_symbols.specs.Classes as k
use Rattle.kq_read_symbols.specs.Classes.{Class, of}
use Rattle.kq_read_symbols.specs.Forms.{Parser, one, some, ◌⨾◌, Maybe, pure, expect, both, ◌<$>◌, skip}
use Rattle.kq_read_symbols.proofs.Forms.{Then, Image}
use Rattle.kq_read_symbols.proofs.Switching.{Keyed}
use Rattle.kq_read_symbols.proofs.ClassLemmas.{apart, within}
use Rattle.kq_read_symbols.proofs.Laws.{Exact, Example, nothing, both_exact, image_exact, same_exact, wider_exact, pure_exact, one_exact, skip_exact, skip_example}
use Rattle.kq_read_symbols.proofs.SwitchLaws.{keyed_exact}
use Rattle.kq_read_expressions.proofs.NameLaws.{example_of}
use Rattle.kq_read_expressions.proofs.ExpressionLaws.{expression_exact, expression_example}
use Rattle.kq_read_clauses.proofs.ItemLaws.{names_exact, names_example, items_exact, items_example, keys_exact, keys_example, item_example, grouping_example}
use Rattle.kq_read_clauses.proofs.JoinLaws.{renamings_exact, renamings_example, join_keys_exact, join_keys_example}
use Rattle.kq_read_queries.proofs.PartLaws.{then_begins, begun_follows, anything_follows, one_example, then_example, a_number, a_by, an_open, a_close, maybe_kind_exact, top_parts, top_of, top_exact, top_example, distinct_form, distinct_exact, summarize_form, summarize_exact, expansion_parts, expansion_of, expansion_exact}
use Rattle.kq_read_queries.proofs.UnionLaws.{nesting_text, nesting_begins, nesting_exact, union_exact, union_example}

-- ---- joins

abbrev rows_and_keys : (Symbol × TabularTree) × (JoinKey × List JoinKey) → Text
rows_and_keys = Then nesting_text keys_on

abbrev join_parts : Option Name × ((Symbol × TabularTree) × (JoinKey × List JoinKey)) → Text
join_parts = Then (Maybe kind_text) rows_and_keys

abbrev join_of : Option Name × ((Symbol × TabularTree) × (JoinKey × List JoinKey)) → BodyTree
join_of p = join p.0 p.1.0.1 p.1.1.0 p.1.1.1

abbrev an_on : Symbol
an_on = example_of (kind.Word (word.Clause w.On))

keys_on_example : Example keys_on
keys_on_example = skip_example (of (k.clause w.On)) an_on refl (grammar.listed grammar.join_key_text) nothing join_keys_example

keys_on_exact : (n : ℕ) → Exact keys_on (of join_keys_go_on) (skip (of (k.clause w.On)) (clause.join_keys n)) n
keys_on_exact n = skip_exact (of (k.clause w.On)) an_on refl (grammar.listed grammar.join_key_text) (of join_keys_go_on) n n (omega arith) (clause.join_keys n) (join_keys_exact n) join_keys_example

-- ---- behind the word

abbrev body_arm : OperatorKey → BodyTree → Text
body_arm a y u = (operator_key y ≡ a) × body_text y u

-- an arm whose reader reads these
arm_of_form : (a : OperatorKey) (form : BodyTree → Text) → ((y : BodyTree) (u : List Symbol) → form y u → body_arm a y u) → ((y : BodyTree) (u : List Symbol) → body_arm a y u → form y u) → (m : Class) → ((t : Symbol) → of operator_goes_on t ≡ false → of m t ≡ false) → (n : ℕ) (p : Parser Symbol BodyTree) → Exact form (of m) p n → Exact (body_arm a) (of operator_goes_on) p n
arm_of_form a form to from m inside n p exact =
    same_exact form (body_arm a) (of operator_goes_on) to from n p (wider_exact form (of m) (of operator_goes_on) inside n p exact)

module _ {A : Type 0} (a : OperatorKey) (c : A → BodyTree) (form : A → Text) (to : (x : A) (u : List Symbol) → form x u → body_arm a (c x) u) where
  to_arm : (y : BodyTree) (u : List Symbol) → Image c form y u → body_arm a y u
  to_arm y u s = subst (λ w. body_arm a w u) (sym s.is) (to s.value u s.spelled)

  arm_example : Example form → Example (body_arm a)
  arm_example e = record { value = c e.value; text = e.text; spelled = to e.value e.text e.spelled }

abbrev extend_of : ItemTree × List ItemTree → BodyTree
extend_of p = extend p.0 p.1

abbrev project_of : ItemTree × List ItemTree → BodyTree
project_of p = project p.0 p.1

abbrev away_of : Name × List Name → BodyTree
away_of p = project_away p.0 p.1

abbrev rename_of : (Name × Name) × List (Name × Name) → BodyTree
rename_of p = project_rename p.0 p.1

abbrev sort_of : KeyTree × List KeyTree → BodyTree
sort_of p = sort p.0 p.1

abbrev by_keys : KeyTree × List KeyTree → Text
by_keys p = some (of (k.reserved r.By)) ⨾ grammar.listed grammar.key_text p

abbrev renamings : (Name × Name) × List (Name × Name) → Text
renamings p = grammar.listed grammar.renaming_text p

abbrev count_form : BodyTree → Text
count_form y u = (y ≡ count) × (u ≡ [])

from_where : (y : BodyTree) (u : List Symbol) → body_arm o.Where y u → Image filter spells y u
from_where (filter e) u s = record { value = e; is = refl; spelled = s.1 }
from_where _ u s = absurd (cc s.0)

from_extend : (y : BodyTree) (u : List Symbol) → body_arm o.Extend y u → Image extend_of grammar.items y u
from_extend (extend i is) u s = record { value = (i, is); is = refl; spelled = s.1 }
from_extend _ u s = absurd (cc s.0)

from_project : (y : BodyTree) (u : List Symbol) → body_arm o.Project y u → Image project_of grammar.items y u
from_project (project i is) u s = record { value = (i, is); is = refl; spelled = s.1 }
from_project _ u s = absurd (cc s.0)

from_away : (y : BodyTree) (u : List Symbol) → body_arm o.ProjectAway y u → Image away_of grammar.names y u
from_away (project_away n ns) u s = record { value = (n, ns); is = refl; spelled = s.1 }
from_away _ u s = absurd (cc s.0)

from_rename : (y : BodyTree) (u : List Symbol) → body_arm o.ProjectRename y u → Image rename_of renamings y u
from_rename (project_rename p ps) u s = record { value = (p, ps); is = refl; spelled = s.1 }
from_rename _ u s = absurd (cc s.0)

from_take : (y : BodyTree) (u : List Symbol) → body_arm o.Take y u → Image take (one (of k.whole_number)) y u
from_take (take t) u s = record { value = t; is = refl; spelled = s.1 }
from_take _ u s = absurd (cc s.0)

to_count : (y : BodyTree) (u : List Symbol) → count_form y u → body_arm o.Count y u
to_count y u s = subst (λ w. body_arm o.Count w u) (sym s.0) (refl, s.1)

from_count : (y : BodyTree) (u : List Symbol) → body_arm o.Count y u → count_form y u
from_count count u s = (refl, s.1)
from_count _ u s = absurd (cc s.0)

from_sort : (y : BodyTree) (u : List Symbol) → body_arm o.Sort y u → Image sort_of by_keys y u
from_sort (sort q qs) u s = record { value = (q, qs); is = refl; spelled = s.1 }
from_sort _ u s = absurd (cc s.0)

from_top : (y : BodyTree) (u : List Symbol) → body_arm o.Top y u → Image top_of top_parts y u
from_top (top t q) u s = record { value = (t, q); is = refl; spelled = s.1 }
from_top _ u s = absurd (cc s.0)

to_distinct : (y : BodyTree) (u : List Symbol) → distinct_form y u → body_arm o.Distinct y u
to_distinct y u (inl s) = subst (λ w. body_arm o.Distinct w u) (sym s.is) (refl, s.spelled)
to_distinct y u (inr s) = subst (λ w. body_arm o.Distinct w u) (sym s.is) (refl, s.spelled)

from_distinct : (y : BodyTree) (u : List Symbol) → body_arm o.Distinct y u → distinct_form y u
from_distinct (distinct n ns) u s = inr (record { value = (n, ns); is = refl; spelled = s.1 })
from_distinct (distinct_all t) u s = inl (record { value = t; is = refl; spelled = s.1 })
from_distinct _ u s = absurd (cc s.0)

to_summarize : (y : BodyTree) (u : List Symbol) → summarize_form y u → body_arm o.Summarize y u
to_summarize y u (inl s) = subst (λ w. body_arm o.Summarize w u) (sym s.is) (refl, s.spelled)
to_summarize y u (inr s) = subst (λ w. body_arm o.Summarize w u) (sym s.is) (refl, s.spelled)

from_summarize : (y : BodyTree) (u : List Symbol) → body_arm o.Summarize y u → summarize_form y u
from_summarize (summarize a more g) u s = inr (record { value = ((a, more), g); is = refl; spelled = s.1 })
from_summarize (summarize_by g) u s = inl (record { value = g; is = refl; spelled = s.1 })
from_summarize _ u s = absurd (cc s.0)

-- the parenthesis before the rows is not kept
to_join_at : (p : Option Name × ((Symbol × TabularTree) × (JoinKey × List JoinKey))) (u : List Symbol) → join_parts p u → body_arm o.Join (join_of p) u
to_join_at p u s =
    let rows = s.after.before in (
      refl,
      record {
        left = s.left;
        right = s.right;
        joined = s.joined;
        before = s.before;
        after = record { left = s.after.left; right = s.after.right; joined = s.after.joined; before = record { left = rows.left; right = rows.right; joined = rows.joined; before = (p.1.0.0, rows.before); after = rows.after }; after = s.after.after };
      },
    )

from_join : (y : BodyTree) (u : List Symbol) → body_arm o.Join y u → Image join_of join_parts y u
from_join (join kind q j js) u h =
    let s = h.1 in
    let rows = s.after.before in
    record {
      value = (kind, ((rows.before.0, q), (j, js)));
      is = refl;
      spelled = record {
        left = s.left;
        right = s.right;
        joined = s.joined;
        before = s.before;
        after = record { left = s.after.left; right = s.after.right; joined = s.after.joined; before = record { left = rows.left; right = rows.right; joined = rows.joined; before = rows.before.1; after = rows.after }; after = s.after.after };
      };
    }
from_join _ u s = absurd (cc s.0)

from_union : (y : BodyTree) (u : List Symbol) → body_arm o.Union y u → Image unite union_text y u
from_union (unite x) u s = record { value = x; is = refl; spelled = s.1 }
from_union _ u s = absurd (cc s.0)

from_expansion : (y : BodyTree) (u : List Symbol) → body_arm o.MvExpand y u → Image expansion_of expansion_parts y u
from_expansion (mv_expand i t) u s = record { value = (i, t); is = refl; spelled = s.1 }
from_expansion _ u s = absurd (cc s.0)

sort_example : Example by_keys
sort_example = skip_example (of (k.reserved r.By)) a_by refl (grammar.listed grammar.key_text) nothing keys_example

module _ (rec : Parser Symbol TabularTree) (n : ℕ) (rec_exact : Exact tabular_text (of tabular_goes_on) rec n) (rec_example : Example tabular_text) where
  nesting_example : Example nesting_text
  nesting_example = record {
    value = (an_open, rec_example.value);
    text = an_open ∷ (rec_example.text ++ a_close ∷ []);
    spelled = record { left = an_open ∷ []; right = rec_example.text ++ a_close ∷ []; joined = refl; before = (refl, refl); after = record { left = rec_example.text; right = a_close ∷ []; joined = refl; before = rec_example.spelled; after = (a_close, (refl, refl)) } };
  }

  rows_example : Example rows_and_keys
  rows_example = then_example nesting_text keys_on nesting_example keys_on_example

  join_example : Example join_parts
  join_example = record { value = (None, rows_example.value); text = rows_example.text; spelled = record { left = []; right = rows_example.text; joined = refl; before = refl; after = rows_example.spelled } }

  join_exact : Exact (Image join_of join_parts) (of join_keys_go_on) (reading.join rec (suc n)) (suc n)
  unfolding reading.join
  join_exact =
      image_exact join_of join_parts (of join_keys_go_on) (suc n) (both reading.maybe_kind (both (reading.nesting rec (suc n)) (skip (of (k.clause w.On)) (clause.join_keys (suc n)))))
      (both_exact (Maybe kind_text) rows_and_keys (of (k.clause w.Kind)) (of join_keys_go_on) (begun_follows k.open_parenthesis (k.clause w.Kind) (apart k.open_parenthesis (k.clause w.Kind) refl) rows_and_keys (then_begins k.open_parenthesis nesting_text keys_on nesting_begins) (of join_keys_go_on)) (suc n) reading.maybe_kind (both (reading.nesting rec (suc n)) (skip (of (k.clause w.On)) (clause.join_keys (suc n)))) (maybe_kind_exact (suc n))
      (both_exact nesting_text keys_on nothing (of join_keys_go_on) (anything_follows keys_on (of join_keys_go_on)) (suc n) (reading.nesting rec (suc n)) (skip (of (k.clause w.On)) (clause.join_keys (suc n))) (nesting_exact rec n rec_exact rec_example nothing) (keys_on_exact (suc n)) keys_on_example)
      rows_example)

  body_example : (a : OperatorKey) → Example (body_arm a)
  body_example o.Where = arm_example o.Where filter spells (λ x u s. (refl, s)) expression_example
  body_example o.Extend = arm_example o.Extend extend_of grammar.items (λ x u s. (refl, s)) items_example
  body_example o.Project = arm_example o.Project project_of grammar.items (λ x u s. (refl, s)) items_example
  body_example o.ProjectAway = arm_example o.ProjectAway away_of grammar.names (λ x u s. (refl, s)) names_example
  body_example o.ProjectRename = arm_example o.ProjectRename rename_of renamings (λ x u s. (refl, s)) renamings_example
  body_example o.Take = arm_example o.Take take (one (of k.whole_number)) (λ x u s. (refl, s)) (one_example k.whole_number a_number refl)
  body_example o.Count = record { value = count; text = []; spelled = (refl, refl) }
  body_example o.Sort = arm_example o.Sort sort_of by_keys (λ x u s. (refl, s)) sort_example
  body_example o.Top = arm_example o.Top top_of top_parts (λ x u s. (refl, s)) top_example
  body_example o.Distinct = arm_example o.Distinct (λ (p : Name × List Name). distinct p.0 p.1) grammar.names (λ x u s. (refl, s)) names_example
  body_example o.Summarize = arm_example o.Summarize summarize_by grammar.grouping_text (λ x u s. (refl, s)) grouping_example
  body_example o.Join = arm_example o.Join join_of join_parts to_join_at join_example
  body_example o.Union = arm_example o.Union unite union_text (λ x u s. (refl, s)) union_example
  body_example o.MvExpand = arm_example o.MvExpand (λ (i : ItemTree). mv_expand i None) grammar.item_text (λ x u s. (refl, record { left = u; right = []; joined = sym (append-nil u); before = s; after = refl })) item_example

  body_exact : (a : OperatorKey) → Exact (body_arm a) (of operator_goes_on) (reading.body rec (suc n) a) (suc n)
  body_exact o.Where =
      arm_of_form o.Where (Image filter spells) (to_arm o.Where filter spells (λ x u s. (refl, s))) from_where (goes_on 0) (within operator_goes_on (goes_on 0) refl) (suc n) (filter <$> expression (suc n))
      (image_exact filter spells (of (goes_on 0)) (suc n) (expression (suc n)) (expression_exact (suc n)))
  body_exact o.Extend =
      arm_of_form o.Extend (Image extend_of grammar.items) (to_arm o.Extend extend_of grammar.items (λ x u s. (refl, s))) from_extend items_go_on (within operator_goes_on items_go_on refl) (suc n) (extend_of <$> clause.items (suc n))
      (image_exact extend_of grammar.items (of items_go_on) (suc n) (clause.items (suc n)) (items_exact (suc n)))
  body_exact o.Project =
      arm_of_form o.Project (Image project_of grammar.items) (to_arm o.Project project_of grammar.items (λ x u s. (refl, s))) from_project items_go_on (within operator_goes_on items_go_on refl) (suc n) (project_of <$> clause.items (suc n))
      (image_exact project_of grammar.items (of items_go_on) (suc n) (clause.items (suc n)) (items_exact (suc n)))
  body_exact o.ProjectAway =
      arm_of_form o.ProjectAway (Image away_of grammar.names) (to_arm o.ProjectAway away_of grammar.names (λ x u s. (refl, s))) from_away names_go_on (within operator_goes_on names_go_on refl) (suc n) (away_of <$> clause.names (suc n))
      (image_exact away_of grammar.names (of names_go_on) (suc n) (clause.names (suc n)) (names_exact (suc n)))
  body_exact o.ProjectRename =
      arm_of_form o.ProjectRename (Image rename_of renamings) (to_arm o.ProjectRename rename_of renamings (λ x u s. (refl, s))) from_rename renamings_go_on (within operator_goes_on renamings_go_on refl) (suc n) (rename_of <$> clause.renamings (suc n))
      (image_exact rename_of renamings (of renamings_go_on) (suc n) (clause.renamings (suc n)) (renamings_exact (suc n)))
  body_exact o.Take =
      arm_of_form o.Take (Image take (one (of k.whole_number))) (to_arm o.Take take (one (of k.whole_number)) (λ x u s. (refl, s))) from_take operator_goes_on (λ t h. h) (suc n) (take <$> expect (of k.whole_number))
      (image_exact take (one (of k.whole_number)) (of operator_goes_on) (suc n) (expect (of k.whole_number)) (one_exact (of k.whole_number) a_number refl (of operator_goes_on) (suc n)))
  body_exact o.Count = arm_of_form o.Count count_form to_count from_count operator_goes_on (λ t h. h) (suc n) (pure count) (pure_exact count count_form (of operator_goes_on) (refl, refl) (λ y u s. s) (suc n))
  body_exact o.Sort =
      arm_of_form o.Sort (Image sort_of by_keys) (to_arm o.Sort sort_of by_keys (λ x u s. (refl, s))) from_sort keys_go_on (within operator_goes_on keys_go_on refl) (suc n) (sort_of <$> skip (of (k.reserved r.By)) (clause.keys (suc n)))
      (image_exact sort_of by_keys (of keys_go_on) (suc n) (skip (of (k.reserved r.By)) (clause.keys (suc n)))
      (skip_exact (of (k.reserved r.By)) a_by refl (grammar.listed grammar.key_text) (of keys_go_on) (suc n) (suc n) (omega arith) (clause.keys (suc n)) (keys_exact (suc n)) keys_example))
  body_exact o.Top = arm_of_form o.Top (Image top_of top_parts) (to_arm o.Top top_of top_parts (λ x u s. (refl, s))) from_top key_goes_on (within operator_goes_on key_goes_on refl) (suc n) (reading.top (suc n)) (top_exact (suc n))
  body_exact o.Distinct = arm_of_form o.Distinct distinct_form to_distinct from_distinct names_go_on (within operator_goes_on names_go_on refl) (suc n) (reading.distinction (suc n)) (distinct_exact (suc n))
  body_exact o.Summarize = arm_of_form o.Summarize summarize_form to_summarize from_summarize summarize_goes_on (within operator_goes_on summarize_goes_on refl) (suc n) (reading.summarize (suc n)) (summarize_exact (suc n))
  body_exact o.Join = arm_of_form o.Join (Image join_of join_parts) (to_arm o.Join join_of join_parts to_join_at) from_join join_keys_go_on (within operator_goes_on join_keys_go_on refl) (suc n) (reading.join rec (suc n)) join_exact
  body_exact o.Union =
      arm_of_form o.Union (Image unite union_text) (to_arm o.Union unite union_text (λ x u s. (refl, s))) from_union union_goes_on (within operator_goes_on union_goes_on refl) (suc n) (unite <$> reading.union rec (suc n))
      (image_exact unite union_text (of union_goes_on) (suc n) (reading.union rec (suc n)) (union_exact rec n rec_exact rec_example))
  body_exact o.MvExpand = arm_of_form o.MvExpand (Image expansion_of expansion_parts) (to_arm o.MvExpand expansion_of expansion_parts (λ x u s. (refl, s))) from_expansion expansion_goes_on (within operator_goes_on expansion_goes_on refl) (suc n) (reading.expansion (suc n)) (expansion_exact (suc n))

  pub operator_exact : Exact (Keyed operator_of operator_key body_text) (of operator_goes_on) (reading.operator rec (suc n)) (suc n)
  unfolding reading.operator
  operator_exact = keyed_exact operator_of (example_of (kind.Word (word.Operator l.Count))) o.Count refl operator_key body_text (of operator_goes_on) (suc n) (reading.body rec (suc n)) body_exact body_example

pub operator_example : Example (Keyed operator_of operator_key body_text)
operator_example = record {
  value = (example_of (kind.Word (word.Operator l.Count)), count);
  text = example_of (kind.Word (word.Operator l.Count)) ∷ [];
  spelled = record { left = example_of (kind.Word (word.Operator l.Count)) ∷ []; right = []; joined = refl; before = (refl, refl); after = refl };
}
