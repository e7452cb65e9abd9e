-- The readers of what has no sources inside are exact.
use Rattle.std.proofs.Common.{◌≡◌, ℕ, Bool, true, false, ◌||◌, List, [], ◌∷◌, ◌++◌, ◌⊎◌, inl, inr, Option, None, refl, sym, subst, arith}
use Rattle.kq_read_clauses.proofs.Following.{names_go_on, item_goes_on, grouping_goes_on, key_goes_on, columns_go_on, cells_go_on, aggregates_go_on, begins_aggregate}
use Rattle.kq_read_clauses.specs.Reading as clause
use Rattle.kq_read_expressions.specs.Reading.{name, bracketed_name, expression}
use Rattle.kq_read_grammar.specs.declared.clause.Cell.{Cell}
use Rattle.kq_read_grammar.specs.declared.clause.Column.{Column}
use Rattle.kq_read_grammar.specs.declared.expression.Name.{Name}
use Rattle.kq_read_grammar.specs.declared.expression.Name.TheVariants as shown
use Rattle.kq_read_grammar.specs.Clauses as grammar
use Rattle.kq_read_grammar.specs.Expressions.{Text, name_text, spells}
use Rattle.kq_read_grammar.proofs.Precedences.{goes_on}
use Rattle.kq_read_grammar.specs.Tabulars.{view_text, kind_text, typeof_text, table_text, table_word}
use Rattle.kq_read_grammar.specs.Trees.{Tree, FromTree, range as range_tree, datatable as datatable_tree, BodyTree, top as top_tree, distinct, distinct_all, summarize as summarize_tree, summarize_by, mv_expand, ItemTree, KeyTree, AggregateTree, GroupingTree}
use Rattle.kq_read_queries.proofs.Following.{summarize_goes_on, expansion_goes_on}
use Rattle.kq_read_queries.specs.Reading as reading
use Rattle.kq_read_symbols.specs.declared.kind.Kind.TheVariants as kind
use Rattle.kq_read_symbols.specs.declared.kind.Quoted.TheVariants as quoted
use Rattle.kq_read_symbols.specs.declared.kind.Symbol.{Symbol}
use Rattle.kq_read_symbols.specs.declared.word.ClauseWord.TheVariants as w
use Rattle.kq_read_symbols.specs.declared.word.ReservedWord.TheVariants as r
use Rattle.kq_read_symbols.specs.declared.word.Word.TheVariants as word
use Rattle.kq_read_tokens.specs.declared.kind.Operator.TheVariants as operator
use Rattle.kq_read_tokens.specs.declared.kind.Punctuation.TheVariants as sign
use Rattle.kq_read_symbols.specs.Classes as k
use Rattle.kq_read_symbols.specs.Classes.{Class, of}
use Rattle.kq_read_symbols.specs.Forms.{Parser, one, some, ◌⨾◌, Maybe, expect, both, ◌<$>◌, maybe, skip, closed}
use Rattle.kq_read_symbols.proofs.Forms.{Then, Image}
use Rattle.kq_read_symbols.proofs.ClassLemmas.{apart, within, part}
use Rattle.kq_read_symbols.proofs.Laws.{Exact, Example, Follows, Leads, nothing, stops_nothing, stops_starts, both_exact, image_exact, wider_exact, one_exact, choose_exact, maybe_exact, maybe_follows, skip_exact, skip_example, closed_exact, closed_example}
use Rattle.kq_read_expressions.proofs.NameLaws.{example_of, a_word, starts_part, starts_apart, one_leads, bracketed_text, bracketed_exact, bracketed_leads, name_exact, name_example}
use Rattle.kq_read_expressions.proofs.ExpressionLaws.{expression_exact, expression_example}
use Rattle.kq_read_clauses.proofs.ListLaws.{Begins, some_begins, front_begins}
use Rattle.kq_read_clauses.proofs.ItemLaws.{names_exact, names_begin, item_exact, grouping_exact, grouping_begins, key_exact, key_example}
use Rattle.kq_read_clauses.proofs.AggregateLaws.{aggregates_exact, aggregates_begin}
use Rattle.kq_read_clauses.proofs.CellLaws.{columns_exact, columns_example, cells_exact, cells_example}
use Rattle.kq_read_clauses.proofs.JoinLaws.{join_kind_exact, join_kind_example}

-- ---- what texts begin with

pub skip_begins : {A : Type 0} (is : Class) (form : A → Text) → Begins is (λ y. some (of is) ⨾ form y)
skip_begins is form y u z s = some_begins is is (λ t h. h) (form y) u z s

pub then_begins : {A B : Type 0} (is : Class) (first : A → Text) (second : B → Text) → Begins is first → Begins is (Then first second)
then_begins is first second begins p u z s = front_begins is (first p.0) (second p.1) true (begins p.0) u z s

-- what begins so may follow
pub begun_follows : {A : Type 0} (is m : Class) → ((t : Symbol) → of is t ≡ true → of m t ≡ false) → (form : A → Text) → Begins is form → (more : Symbol → Bool) → Follows (of m) form more
begun_follows is m off form begins more y v z s stops = stops_starts (of is) (of m) off (v ++ z) (begins y v z s)

pub anything_follows : {A : Type 0} (form : A → Text) (more : Symbol → Bool) → Follows nothing form more
anything_follows form more y v z s stops = stops_nothing (v ++ z)

pub one_example : (is : Class) (t : Symbol) → of is t ≡ true → Example (one (of is))
one_example is t h = record { value = t; text = t ∷ []; spelled = (h, refl) }

pub then_example : {A B : Type 0} (first : A → Text) (second : B → Text) → Example first → Example second → Example (Then first second)
then_example first second a b = record { value = (a.value, b.value); text = a.text ++ b.text; spelled = record { left = a.text; right = b.text; joined = refl; before = a.spelled; after = b.spelled } }

-- ---- symbols

abbrev pub a_sign : Symbol
a_sign = example_of (kind.Operator operator.Assign)

abbrev pub an_open : Symbol
an_open = example_of (kind.Punctuation sign.OpenParenthesis)

abbrev pub a_close : Symbol
a_close = example_of (kind.Punctuation sign.CloseParenthesis)

abbrev pub a_text : Symbol
a_text = example_of (kind.String quoted.Other)

abbrev pub a_number : Symbol
a_number = example_of kind.WholeNumber

abbrev pub a_by : Symbol
a_by = example_of (kind.Word (word.Reserved r.By))

abbrev pub a_to : Symbol
a_to = example_of (kind.Word (word.Clause w.To))

abbrev pub a_kind : Symbol
a_kind = example_of (kind.Word (word.Clause w.Kind))

-- ---- in parentheses

module _ {A : Type 0} (form : A → Text) (m : Symbol → Bool) (apart_here : (t : Symbol) → of k.close_parenthesis t ≡ true → m t ≡ false) where
  abbrev pub to_close : A → Text
  to_close y = form y ⨾ some (of k.close_parenthesis)

  pub to_close_exact : (more : Symbol → Bool) (n : ℕ) (p : Parser Symbol A) → Exact form m p n → Exact to_close more (closed p (of k.close_parenthesis)) n
  to_close_exact more n p exact = closed_exact (of k.close_parenthesis) a_close refl form m more apart_here n p exact

  pub to_close_example : Example form → Example to_close
  to_close_example e = closed_example (of k.close_parenthesis) a_close refl form m e

  abbrev pub in_parentheses : A → Text
  in_parentheses y = some (of k.open_parenthesis) ⨾ form y ⨾ some (of k.close_parenthesis)

  pub in_parentheses_exact : (more : Symbol → Bool) (n : ℕ) (p : Parser Symbol A) → Exact form m p n → Example form → Exact in_parentheses more (skip (of k.open_parenthesis) (closed p (of k.close_parenthesis))) n
  in_parentheses_exact more n p exact e =
      skip_exact (of k.open_parenthesis) an_open refl to_close more n n (omega arith) (closed p (of k.close_parenthesis)) (to_close_exact more n p exact) (to_close_example e)

  pub in_parentheses_example : Example form → Example in_parentheses
  in_parentheses_example e = skip_example (of k.open_parenthesis) an_open refl to_close m (to_close_example e)

-- ---- views

pub view_exact : (more : Symbol → Bool) (n : ℕ) → Exact view_text more reading.view n
unfolding reading.view
view_exact more n = in_parentheses_exact (one (of k.text)) nothing (λ t h. refl) more n (expect (of k.text)) (one_exact (of k.text) a_text refl nothing n) (one_example k.text a_text refl)

pub view_example : Example view_text
view_example = in_parentheses_example (one (of k.text)) nothing (λ t h. refl) (one_example k.text a_text refl)

-- ---- ranges

abbrev from_part : Tree → Text
from_part e = some (of (k.clause w.From)) ⨾ spells e

abbrev to_part : Tree → Text
to_part e = some (of (k.clause w.To)) ⨾ spells e

abbrev step_part : Tree → Text
step_part e = some (of (k.clause w.Step)) ⨾ spells e

abbrev a_from : Symbol
a_from = example_of (kind.Word (word.Clause w.From))

abbrev a_step : Symbol
a_step = example_of (kind.Word (word.Clause w.Step))

abbrev to_and_step : Tree × Tree → Text
to_and_step = Then to_part step_part

abbrev ends_part : Tree × (Tree × Tree) → Text
ends_part = Then from_part to_and_step

abbrev pub range_parts : Name × (Tree × (Tree × Tree)) → Text
range_parts = Then name_text ends_part

abbrev pub range_of : Name × (Tree × (Tree × Tree)) → FromTree
range_of p = range_tree p.0 p.1.0 p.1.1.0 p.1.1.1

step_example : Example step_part
step_example = skip_example (of (k.clause w.Step)) a_step refl spells nothing expression_example

to_and_step_example : Example to_and_step
to_and_step_example = then_example to_part step_part (skip_example (of (k.clause w.To)) a_to refl spells nothing expression_example) step_example

ends_example : Example ends_part
ends_example = then_example from_part to_and_step (skip_example (of (k.clause w.From)) a_from refl spells nothing expression_example) to_and_step_example

to_and_step_exact : (n : ℕ) → Exact to_and_step (of (goes_on 0)) (both (skip (of (k.clause w.To)) (expression n)) (skip (of (k.clause w.Step)) (expression n))) n
to_and_step_exact n =
    both_exact to_part step_part (of (goes_on 0)) (of (goes_on 0)) (begun_follows (k.clause w.Step) (goes_on 0) (apart (k.clause w.Step) (goes_on 0) refl) step_part (skip_begins (k.clause w.Step) spells) (of (goes_on 0))) n (skip (of (k.clause w.To)) (expression n)) (skip (of (k.clause w.Step)) (expression n))
    (skip_exact (of (k.clause w.To)) a_to refl spells (of (goes_on 0)) n n (omega arith) (expression n) (expression_exact n) expression_example)
    (skip_exact (of (k.clause w.Step)) a_step refl spells (of (goes_on 0)) n n (omega arith) (expression n) (expression_exact n) expression_example)
    step_example

ends_exact : (n : ℕ) → Exact ends_part (of (goes_on 0)) (both (skip (of (k.clause w.From)) (expression n)) (both (skip (of (k.clause w.To)) (expression n)) (skip (of (k.clause w.Step)) (expression n)))) n
ends_exact n =
    both_exact from_part to_and_step (of (goes_on 0)) (of (goes_on 0)) (begun_follows (k.clause w.To) (goes_on 0) (apart (k.clause w.To) (goes_on 0) refl) to_and_step (then_begins (k.clause w.To) to_part step_part (skip_begins (k.clause w.To) spells)) (of (goes_on 0))) n (skip (of (k.clause w.From)) (expression n)) (both (skip (of (k.clause w.To)) (expression n)) (skip (of (k.clause w.Step)) (expression n)))
    (skip_exact (of (k.clause w.From)) a_from refl spells (of (goes_on 0)) n n (omega arith) (expression n) (expression_exact n) expression_example)
    (to_and_step_exact n)
    to_and_step_example

pub range_exact : (n : ℕ) → Exact (Image range_of range_parts) (of (goes_on 0)) (reading.range n) n
unfolding reading.range
range_exact n =
    image_exact range_of range_parts (of (goes_on 0)) n (both name (both (skip (of (k.clause w.From)) (expression n)) (both (skip (of (k.clause w.To)) (expression n)) (skip (of (k.clause w.Step)) (expression n)))))
    (both_exact name_text ends_part nothing (of (goes_on 0)) (anything_follows ends_part (of (goes_on 0))) n name (both (skip (of (k.clause w.From)) (expression n)) (both (skip (of (k.clause w.To)) (expression n)) (skip (of (k.clause w.Step)) (expression n)))) (name_exact nothing n) (ends_exact n) ends_example)

pub range_example : Example range_parts
range_example = then_example name_text ends_part name_example ends_example

-- ---- datatables

abbrev columns_part : Column × List Column → Text
columns_part p = some (of k.open_parenthesis) ⨾ grammar.columns_text p ⨾ some (of k.close_parenthesis)

abbrev cells_to_close : List Cell → Text
cells_to_close cs = grammar.cells_text cs ⨾ some (of k.close_bracket)

abbrev cells_part : List Cell → Text
cells_part cs = some (of k.open_bracket) ⨾ grammar.cells_text cs ⨾ some (of k.close_bracket)

abbrev pub datatable_parts : (Column × List Column) × List Cell → Text
datatable_parts = Then columns_part cells_part

abbrev pub datatable_of : (Column × List Column) × List Cell → FromTree
datatable_of p = datatable_tree p.0.0 p.0.1 p.1

abbrev an_open_bracket : Symbol
an_open_bracket = example_of (kind.Punctuation sign.OpenBracket)

abbrev a_close_bracket : Symbol
a_close_bracket = example_of (kind.Punctuation sign.CloseBracket)

cells_to_close_example : Example cells_to_close
cells_to_close_example = closed_example (of k.close_bracket) a_close_bracket refl grammar.cells_text nothing cells_example

cells_part_example : Example cells_part
cells_part_example = skip_example (of k.open_bracket) an_open_bracket refl cells_to_close nothing cells_to_close_example

cells_part_exact : (more : Symbol → Bool) (n : ℕ) → Exact cells_part more (skip (of k.open_bracket) (closed (clause.cells n) (of k.close_bracket))) n
cells_part_exact more n =
    skip_exact (of k.open_bracket) an_open_bracket refl cells_to_close more n n (omega arith) (closed (clause.cells n) (of k.close_bracket))
    (closed_exact (of k.close_bracket) a_close_bracket refl grammar.cells_text (of cells_go_on) more (apart k.close_bracket cells_go_on refl) n (clause.cells n) (cells_exact n))
    cells_to_close_example

pub datatable_exact : (more : Symbol → Bool) (n : ℕ) → Exact (Image datatable_of datatable_parts) more (reading.datatable n) n
unfolding reading.datatable
datatable_exact more n =
    image_exact datatable_of datatable_parts more n (both (skip (of k.open_parenthesis) (closed (clause.columns n) (of k.close_parenthesis))) (skip (of k.open_bracket) (closed (clause.cells n) (of k.close_bracket))))
    (both_exact columns_part cells_part nothing more (anything_follows cells_part more) n (skip (of k.open_parenthesis) (closed (clause.columns n) (of k.close_parenthesis))) (skip (of k.open_bracket) (closed (clause.cells n) (of k.close_bracket)))
    (in_parentheses_exact grammar.columns_text (of columns_go_on) (apart k.close_parenthesis columns_go_on refl) nothing n (clause.columns n) (columns_exact n) columns_example)
    (cells_part_exact more n)
    cells_part_example)

pub datatable_example : Example datatable_parts
datatable_example = then_example columns_part cells_part (in_parentheses_example grammar.columns_text (of columns_go_on) (apart k.close_parenthesis columns_go_on refl) columns_example) cells_part_example

-- ---- names of tables

abbrev table_word_form : Name → Text
table_word_form = Image shown.Word (one (of table_word))

from_bracketed_table : (y : Name) (u : List Symbol) → bracketed_text y u → table_text y u
from_bracketed_table (shown.Word t) u s = absurd s
from_bracketed_table (shown.Bracketed t x) u s = s

from_table_word : (y : Name) (u : List Symbol) → table_word_form y u → table_text y u
from_table_word y u s = subst (λ w. table_text w u) (sym s.is) s.spelled

table_cases : (y : Name) (u : List Symbol) → table_text y u → bracketed_text y u ⊎ table_word_form y u
table_cases (shown.Word t) u s = inr (record { value = t; is = refl; spelled = s })
table_cases (shown.Bracketed t x) u s = inl s

pub table_name_exact : (more : Symbol → Bool) (n : ℕ) → Exact table_text more reading.table_name n
unfolding reading.table_name
table_name_exact more n =
    choose_exact (of k.open_bracket) bracketed_text table_word_form table_text more from_bracketed_table from_table_word table_cases
    (λ y u z s stops. bracketed_leads y u z s)
    (λ y u z s stops. starts_apart table_word k.open_bracket (apart table_word k.open_bracket refl) (u ++ z) (one_leads table_word s.value u z s.spelled))
    n bracketed_name (shown.Word <$> expect (of table_word))
    (bracketed_exact more n)
    (image_exact shown.Word (one (of table_word)) more n (expect (of table_word)) (one_exact (of table_word) a_word refl more n))

abbrev pub begins_table : Class
begins_table x = table_word x || k.open_bracket x

pub table_begins : Begins begins_table table_text
table_begins (shown.Word t) u z s = starts_part table_word begins_table (part table_word begins_table refl) (u ++ z) (one_leads table_word t u z s)
table_begins (shown.Bracketed t x) u z s = starts_part k.open_bracket begins_table (part k.open_bracket begins_table refl) (u ++ z) (bracketed_leads (shown.Bracketed t x) u z s)

-- ---- types of elements

abbrev type_in_parentheses : Symbol → Text
type_in_parentheses t = some (of k.open_parenthesis) ⨾ one (of k.any_word) t ⨾ some (of k.close_parenthesis)

abbrev typeof_part : Symbol → Text
typeof_part t = some (of (k.clause w.Typeof)) ⨾ type_in_parentheses t

abbrev a_typeof : Symbol
a_typeof = example_of (kind.Word (word.Clause w.Typeof))

type_example : Example type_in_parentheses
type_example = in_parentheses_example (one (of k.any_word)) nothing (λ t h. refl) (one_example k.any_word a_word refl)

pub typeof_exact : (more : Symbol → Bool) (n : ℕ) → Exact typeof_text more reading.element_type n
unfolding reading.element_type
typeof_exact more n =
    skip_exact (of (k.clause w.To)) a_to refl typeof_part more n n (omega arith) (skip (of (k.clause w.Typeof)) (skip (of k.open_parenthesis) (closed (expect (of k.any_word)) (of k.close_parenthesis))))
    (skip_exact (of (k.clause w.Typeof)) a_typeof refl type_in_parentheses more n n (omega arith) (skip (of k.open_parenthesis) (closed (expect (of k.any_word)) (of k.close_parenthesis)))
    (in_parentheses_exact (one (of k.any_word)) nothing (λ t h. refl) more n (expect (of k.any_word)) (one_exact (of k.any_word) a_word refl nothing n) (one_example k.any_word a_word refl))
    type_example)
    (skip_example (of (k.clause w.Typeof)) a_typeof refl type_in_parentheses nothing type_example)

-- ---- the kind of a join

abbrev assigned_kind : Name → Text
assigned_kind m = some (of k.assign) ⨾ grammar.join_kind_text m

assigned_kind_example : Example assigned_kind
assigned_kind_example = skip_example (of k.assign) a_sign refl grammar.join_kind_text nothing join_kind_example

pub kind_exact : (more : Symbol → Bool) (n : ℕ) → Exact kind_text more reading.kind n
unfolding reading.kind
kind_exact more n =
    skip_exact (of (k.clause w.Kind)) a_kind refl assigned_kind more n n (omega arith) (skip (of k.assign) clause.join_kind)
    (skip_exact (of k.assign) a_sign refl grammar.join_kind_text more n n (omega arith) clause.join_kind (join_kind_exact more n) join_kind_example)
    assigned_kind_example

kind_leads : Leads (of (k.clause w.Kind)) true kind_text (of (k.clause w.Kind))
kind_leads y u z s stops = skip_begins (k.clause w.Kind) assigned_kind y u z s

-- Whether a kind is said is seen by the word ahead.
pub maybe_kind_exact : (n : ℕ) → Exact (Maybe kind_text) (of (k.clause w.Kind)) reading.maybe_kind n
unfolding reading.maybe_kind
maybe_kind_exact n = maybe_exact kind_text (of (k.clause w.Kind)) (of (k.clause w.Kind)) kind_leads (λ t h. h) n reading.kind (kind_exact (of (k.clause w.Kind)) n)

-- ---- top

abbrev by_key : KeyTree → Text
by_key q = some (of (k.reserved r.By)) ⨾ grammar.key_text q

abbrev pub top_parts : Symbol × KeyTree → Text
top_parts = Then (one (of k.whole_number)) by_key

abbrev pub top_of : Symbol × KeyTree → BodyTree
top_of p = top_tree p.0 p.1

by_key_example : Example by_key
by_key_example = skip_example (of (k.reserved r.By)) a_by refl grammar.key_text nothing key_example

pub top_exact : (n : ℕ) → Exact (Image top_of top_parts) (of key_goes_on) (reading.top n) n
unfolding reading.top
top_exact n =
    image_exact top_of top_parts (of key_goes_on) n (both (expect (of k.whole_number)) (skip (of (k.reserved r.By)) (clause.key n)))
    (both_exact (one (of k.whole_number)) by_key nothing (of key_goes_on) (anything_follows by_key (of key_goes_on)) n (expect (of k.whole_number)) (skip (of (k.reserved r.By)) (clause.key n)) (one_exact (of k.whole_number) a_number refl nothing n)
    (skip_exact (of (k.reserved r.By)) a_by refl grammar.key_text (of key_goes_on) n n (omega arith) (clause.key n) (key_exact n) key_example)
    by_key_example)

pub top_example : Example top_parts
top_example = then_example (one (of k.whole_number)) by_key (one_example k.whole_number a_number refl) by_key_example

-- ---- distinct

abbrev pub all_form : BodyTree → Text
all_form = Image distinct_all (one (of k.star))

abbrev distinct_of : Name × List Name → BodyTree
distinct_of p = distinct p.0 p.1

abbrev pub names_form : BodyTree → Text
names_form = Image distinct_of grammar.names

abbrev pub distinct_form : BodyTree → Text
distinct_form y u = all_form y u ⊎ names_form y u

pub distinct_exact : (n : ℕ) → Exact distinct_form (of names_go_on) (reading.distinction n) n
unfolding reading.distinction
distinct_exact n =
    choose_exact (of k.star) all_form names_form distinct_form (of names_go_on) (λ y u s. inl s) (λ y u s. inr s) (λ y u s. s)
    (λ y u z s stops. one_leads k.star s.value u z s.spelled)
    (λ y u z s stops. starts_apart k.begins_name k.star (apart k.begins_name k.star refl) (u ++ z) (names_begin s.value u z s.spelled))
    n (distinct_all <$> expect (of k.star)) (distinct_of <$> clause.names n)
    (image_exact distinct_all (one (of k.star)) (of names_go_on) n (expect (of k.star)) (one_exact (of k.star) (example_of (kind.Operator operator.Star)) refl (of names_go_on) n))
    (image_exact distinct_of grammar.names (of names_go_on) n (clause.names n) (names_exact n))

-- ---- summarize

abbrev pub by_form : BodyTree → Text
by_form = Image summarize_by grammar.grouping_text

abbrev aggregated : AggregateTree × List AggregateTree → Text
aggregated p = grammar.listed grammar.aggregate_text p

abbrev aggregated_parts : (AggregateTree × List AggregateTree) × Option GroupingTree → Text
aggregated_parts = Then aggregated (Maybe grammar.grouping_text)

abbrev summarize_of : (AggregateTree × List AggregateTree) × Option GroupingTree → BodyTree
summarize_of p = summarize_tree p.0.0 p.0.1 p.1

abbrev pub aggregated_form : BodyTree → Text
aggregated_form = Image summarize_of aggregated_parts

abbrev pub summarize_form : BodyTree → Text
summarize_form y u = by_form y u ⊎ aggregated_form y u

grouping_leads : Leads (of (k.reserved r.By)) true grammar.grouping_text (of summarize_goes_on)
grouping_leads y u z s stops = grouping_begins y u z s

wide_grouping_exact : (n : ℕ) → Exact grammar.grouping_text (of summarize_goes_on) (clause.grouping n) n
wide_grouping_exact n = wider_exact grammar.grouping_text (of grouping_goes_on) (of summarize_goes_on) (within summarize_goes_on grouping_goes_on refl) n (clause.grouping n) (grouping_exact n)

aggregated_exact : (n : ℕ) → Exact aggregated_form (of summarize_goes_on) (summarize_of <$> both (clause.aggregates n) (maybe (of (k.reserved r.By)) (clause.grouping n))) n
aggregated_exact n =
    image_exact summarize_of aggregated_parts (of summarize_goes_on) n (both (clause.aggregates n) (maybe (of (k.reserved r.By)) (clause.grouping n)))
    (both_exact aggregated (Maybe grammar.grouping_text) (of aggregates_go_on) (of summarize_goes_on) (maybe_follows grammar.grouping_text (of (k.reserved r.By)) (of summarize_goes_on) grouping_leads (within summarize_goes_on (k.reserved r.By) refl) (of aggregates_go_on) (apart (k.reserved r.By) aggregates_go_on refl) (within summarize_goes_on aggregates_go_on refl)) n (clause.aggregates n) (maybe (of (k.reserved r.By)) (clause.grouping n)) (aggregates_exact n)
    (maybe_exact grammar.grouping_text (of (k.reserved r.By)) (of summarize_goes_on) grouping_leads (within summarize_goes_on (k.reserved r.By) refl) n (clause.grouping n) (wide_grouping_exact n))
    (record { value = None; text = []; spelled = refl }))

pub summarize_exact : (n : ℕ) → Exact summarize_form (of summarize_goes_on) (reading.summarize n) n
unfolding reading.summarize
summarize_exact n =
    choose_exact (of (k.reserved r.By)) by_form aggregated_form summarize_form (of summarize_goes_on) (λ y u s. inl s) (λ y u s. inr s) (λ y u s. s)
    (λ y u z s stops. grouping_begins s.value u z s.spelled)
    (λ y u z s stops. starts_apart begins_aggregate (k.reserved r.By) (apart begins_aggregate (k.reserved r.By) refl) (u ++ z) (then_begins begins_aggregate aggregated (Maybe grammar.grouping_text) aggregates_begin s.value u z s.spelled))
    n (summarize_by <$> clause.grouping n) (summarize_of <$> both (clause.aggregates n) (maybe (of (k.reserved r.By)) (clause.grouping n)))
    (image_exact summarize_by grammar.grouping_text (of summarize_goes_on) n (clause.grouping n) (wide_grouping_exact n))
    (aggregated_exact n)

-- ---- mv-expand

abbrev pub expansion_parts : ItemTree × Option Symbol → Text
expansion_parts = Then grammar.item_text (Maybe typeof_text)

abbrev pub expansion_of : ItemTree × Option Symbol → BodyTree
expansion_of p = mv_expand p.0 p.1

typeof_leads : Leads (of (k.clause w.To)) true typeof_text (of expansion_goes_on)
typeof_leads y u z s stops = skip_begins (k.clause w.To) typeof_part y u z s

pub expansion_exact : (n : ℕ) → Exact (Image expansion_of expansion_parts) (of expansion_goes_on) (reading.expansion n) n
unfolding reading.expansion
expansion_exact n =
    image_exact expansion_of expansion_parts (of expansion_goes_on) n (both (clause.item n) (maybe (of (k.clause w.To)) reading.element_type))
    (both_exact grammar.item_text (Maybe typeof_text) (of item_goes_on) (of expansion_goes_on) (maybe_follows typeof_text (of (k.clause w.To)) (of expansion_goes_on) typeof_leads (within expansion_goes_on (k.clause w.To) refl) (of item_goes_on) (apart (k.clause w.To) item_goes_on refl) (within expansion_goes_on item_goes_on refl)) n (clause.item n) (maybe (of (k.clause w.To)) reading.element_type) (item_exact n)
    (maybe_exact typeof_text (of (k.clause w.To)) (of expansion_goes_on) typeof_leads (within expansion_goes_on (k.clause w.To) refl) n reading.element_type (typeof_exact (of expansion_goes_on) n))
    (record { value = None; text = []; spelled = refl }))
