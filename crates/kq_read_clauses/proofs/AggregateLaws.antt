-- The readers of aggregates are exact.
use Rattle.std.proofs.Common.{◌≡◌, ℕ, Bool, true, false, List, [], ◌∷◌, ◌++◌, ◌⊎◌, inl, inr, Option, Some, None, refl, sym, ◌∙◌, ap, subst, append_assoc, arith}
use Rattle.kq_read_clauses.proofs.Following.{argument_goes_on, arguments_go_on, aggregates_go_on, begins_aggregate}
use Rattle.kq_read_clauses.specs.Reading as reading
use Rattle.kq_read_clauses.specs.Reading.{begins_argument, aggregate_of}
use Rattle.kq_read_expressions.specs.Reading.{bracketed_name, expression}
use Rattle.kq_read_grammar.specs.declared.expression.Name.{Name}
use Rattle.kq_read_grammar.specs.declared.expression.Name.TheVariants as shown
use Rattle.kq_read_grammar.specs.Clauses as grammar
use Rattle.kq_read_grammar.specs.Clauses.{called}
use Rattle.kq_read_grammar.specs.Expressions.{Text, spells}
use Rattle.kq_read_grammar.specs.Trees.{ArgumentTree, value, all, AggregateTree}
use Rattle.kq_read_symbols.specs.declared.kind.Kind.TheVariants as kind
use Rattle.kq_read_symbols.specs.declared.kind.Symbol.{Symbol}
use Rattle.kq_read_symbols.specs.declared.word.Word.TheVariants as word
use Rattle.kq_read_tokens.specs.declared.kind.Operator.TheVariants as operator
use Rattle.kq_read_tokens.specs.declared.kind.Punctuation.TheVariants as sign
use Rattle.kq_read_symbols.specs.Classes as k
use Rattle.kq_read_symbols.specs.Classes.{Class, of}
use Rattle.kq_read_symbols.specs.Forms.{one, some, ◌⨾◌, Maybe, pure, starts, expect, bind, both, ◌<$>◌, skip, closed}
use Rattle.kq_read_symbols.proofs.Forms.{Bind, Then, Image}
use Rattle.kq_read_symbols.proofs.ClassLemmas.{apart, within, part}
use Rattle.kq_read_symbols.proofs.Laws.{Exact, Example, nothing, stops_nothing, bind_exact, both_exact, image_exact, pure_exact, one_exact, choose_exact, skip_exact, skip_leads, skip_example, closed_exact, closed_example, starts_stops}
use Rattle.kq_read_expressions.proofs.NameLaws.{example_of, starts_part, starts_apart, one_leads, bracketed_text, bracketed_exact, bracketed_leads, from_bracketed_text}
use Rattle.kq_read_expressions.proofs.ExpressionLaws.{expression_exact, begins_leads}
use Rattle.kq_read_clauses.proofs.ListLaws.{Begins, some_begins_not, front_begins, listed_exact, listed_example, listed_begins}

-- ---- arguments

abbrev a_star : Symbol
a_star = example_of (kind.Operator operator.Star)

abbrev all_form : ArgumentTree → Text
all_form = Image all (one (of k.star))

abbrev value_form : ArgumentTree → Text
value_form = Image value spells

from_all : (y : ArgumentTree) (u : List Symbol) → all_form y u → grammar.argument_text y u
from_all y u s = subst (λ w. grammar.argument_text w u) (sym s.is) s.spelled

from_value : (y : ArgumentTree) (u : List Symbol) → value_form y u → grammar.argument_text y u
from_value y u s = subst (λ w. grammar.argument_text w u) (sym s.is) s.spelled

argument_cases : (y : ArgumentTree) (u : List Symbol) → grammar.argument_text y u → all_form y u ⊎ value_form y u
argument_cases (value e) u s = inr (record { value = e; is = refl; spelled = s })
argument_cases (all t) u s = inl (record { value = t; is = refl; spelled = s })

pub argument_exact : (n : ℕ) → Exact grammar.argument_text (of argument_goes_on) (reading.argument n) n
unfolding reading.argument
argument_exact n =
    choose_exact (of k.star) all_form value_form grammar.argument_text (of argument_goes_on) from_all from_value argument_cases
    (λ y u z s stops. one_leads k.star s.value u z s.spelled)
    (λ y u z s stops. starts_apart k.begins_expression k.star (apart k.begins_expression k.star refl) (u ++ z) (begins_leads s.value u z s.spelled))
    n (all <$> expect (of k.star)) (value <$> expression n)
    (image_exact all (one (of k.star)) (of argument_goes_on) n (expect (of k.star)) (one_exact (of k.star) a_star refl (of argument_goes_on) n))
    (image_exact value spells (of argument_goes_on) n (expression n) (expression_exact n))

argument_example : Example grammar.argument_text
argument_example = record { value = all a_star; text = a_star ∷ []; spelled = (refl, refl) }

argument_begins : Begins begins_argument grammar.argument_text
argument_begins (value e) u z s = starts_part k.begins_expression begins_argument (part k.begins_expression begins_argument refl) (u ++ z) (begins_leads e u z s)
argument_begins (all t) u z s = starts_part k.star begins_argument (part k.star begins_argument refl) (u ++ z) (one_leads k.star t u z s)

abbrev listed_arguments : ArgumentTree × List ArgumentTree → Text
listed_arguments = grammar.listed grammar.argument_text

abbrev some_arguments : List ArgumentTree → Text
some_arguments = Image (λ (p : ArgumentTree × List ArgumentTree). p.0 ∷ p.1) listed_arguments

abbrev no_arguments : List ArgumentTree → Text
no_arguments es u = (es ≡ []) × (u ≡ [])

from_some_arguments : (es : List ArgumentTree) (u : List Symbol) → some_arguments es u → grammar.arguments_text es u
from_some_arguments es u s = subst (λ w. grammar.arguments_text w u) (sym s.is) s.spelled

from_no_arguments : (es : List ArgumentTree) (u : List Symbol) → no_arguments es u → grammar.arguments_text es u
from_no_arguments es u s = subst (λ w. grammar.arguments_text w u) (sym s.0) s.1

arguments_cases : (es : List ArgumentTree) (u : List Symbol) → grammar.arguments_text es u → some_arguments es u ⊎ no_arguments es u
arguments_cases [] u s = inr (refl, s)
arguments_cases (e ∷ es) u s = inl (record { value = (e, es); is = refl; spelled = s })

pub arguments_exact : (n : ℕ) → Exact grammar.arguments_text (of arguments_go_on) (reading.arguments n) n
unfolding reading.arguments
arguments_exact n =
    choose_exact (of begins_argument) some_arguments no_arguments grammar.arguments_text (of arguments_go_on) from_some_arguments from_no_arguments arguments_cases
    (λ es u z s stops. listed_begins grammar.argument_text begins_argument argument_begins s.value u z s.spelled)
    (λ es u z s stops. ap (λ l. starts (of begins_argument) (l ++ z)) s.1 ∙ starts_stops (of begins_argument) (of arguments_go_on) (within arguments_go_on begins_argument refl) z stops)
    n ((λ p. p.0 ∷ p.1) <$> reading.listed (reading.argument n) n) (pure [])
    (image_exact (λ (p : ArgumentTree × List ArgumentTree). p.0 ∷ p.1) listed_arguments (of arguments_go_on) n (reading.listed (reading.argument n) n)
    (listed_exact grammar.argument_text (of argument_goes_on) (of arguments_go_on) (apart k.comma argument_goes_on refl) (within arguments_go_on argument_goes_on refl) (within arguments_go_on k.comma refl) n (reading.argument n) (argument_exact n) argument_example))
    (pure_exact [] no_arguments (of arguments_go_on) (refl, refl) (λ es u s. s) n)

abbrev an_open : Symbol
an_open = example_of (kind.Punctuation sign.OpenParenthesis)

abbrev a_close : Symbol
a_close = example_of (kind.Punctuation sign.CloseParenthesis)

abbrev up_to_close : List ArgumentTree → Text
up_to_close es = grammar.arguments_text es ⨾ some (of k.close_parenthesis)

abbrev pub parenthesised : List ArgumentTree → Text
parenthesised es = some (of k.open_parenthesis) ⨾ grammar.arguments_text es ⨾ some (of k.close_parenthesis)

up_to_close_example : Example up_to_close
up_to_close_example = closed_example (of k.close_parenthesis) a_close refl grammar.arguments_text nothing (record { value = []; text = []; spelled = refl })

pub in_parentheses_exact : (more : Symbol → Bool) (n : ℕ) → Exact parenthesised more (reading.in_parentheses n) n
unfolding reading.in_parentheses
in_parentheses_exact more n =
    skip_exact (of k.open_parenthesis) an_open refl up_to_close more n n (omega arith) (closed (reading.arguments n) (of k.close_parenthesis))
    (closed_exact (of k.close_parenthesis) a_close refl grammar.arguments_text (of arguments_go_on) more (apart k.close_parenthesis arguments_go_on refl) n (reading.arguments n) (arguments_exact n))
    up_to_close_example

parenthesised_example : Example parenthesised
parenthesised_example = skip_example (of k.open_parenthesis) an_open refl up_to_close nothing up_to_close_example

-- ---- calls

abbrev call_form : Symbol × List ArgumentTree → Text
call_form = Then (one (of called)) parenthesised

abbrev a_function : Symbol
a_function = example_of (kind.Word word.Other)

call_exact : (more : Symbol → Bool) (n : ℕ) → Exact call_form more (reading.call n) n
unfolding reading.call
call_exact more n =
    both_exact (one (of called)) parenthesised nothing more (λ y v z s stops. stops_nothing (v ++ z)) n (expect (of called)) (reading.in_parentheses n) (one_exact (of called) a_function refl nothing n) (in_parentheses_exact more n) parenthesised_example

call_example : Example call_form
call_example = record { value = (a_function, parenthesised_example.value); text = a_function ∷ parenthesised_example.text; spelled = record { left = a_function ∷ []; right = parenthesised_example.text; joined = refl; before = (refl, refl); after = parenthesised_example.spelled } }

-- ---- aggregates with a name in brackets

abbrev an_assign : Symbol
an_assign = example_of (kind.Operator operator.Assign)

abbrev bracketed_given : Name → Text
bracketed_given m = bracketed_text m ⨾ some (of k.assign)

abbrev bracketed_parts : Name × (Symbol × List ArgumentTree) → Text
bracketed_parts = Then bracketed_given call_form

abbrev bracketed_form : AggregateTree → Text
bracketed_form = Image (λ (p : Name × (Symbol × List ArgumentTree)). aggregate_of (Some p.0) p.1) bracketed_parts

from_bracketed : (y : AggregateTree) (u : List Symbol) → bracketed_form y u → grammar.aggregate_text y u
from_bracketed y u s =
    subst (λ w. grammar.aggregate_text w u) (sym s.is)
    (record {
      left = s.spelled.left;
      right = s.spelled.right;
      joined = s.spelled.joined;
      before = record { left = s.spelled.before.left; right = s.spelled.before.right; joined = s.spelled.before.joined; before = from_bracketed_text s.value.0 s.spelled.before.left s.spelled.before.before; after = s.spelled.before.after };
      after = s.spelled.after;
    })

bracketed_begins : Begins k.open_bracket bracketed_form
bracketed_begins y u z s =
    front_begins k.open_bracket (bracketed_given s.value.0) (call_form s.value.1) true
    (λ v z s'. front_begins k.open_bracket (bracketed_text s.value.0) (some (of k.assign)) true (bracketed_leads s.value.0) v z s')
    u z s.spelled

bracketed_aggregate_exact : (more : Symbol → Bool) (n : ℕ) → Exact bracketed_form more (reading.bracketed_aggregate n) n
unfolding reading.bracketed_aggregate
bracketed_aggregate_exact more n =
    image_exact (λ (p : Name × (Symbol × List ArgumentTree)). aggregate_of (Some p.0) p.1) bracketed_parts more n (both (closed bracketed_name (of k.assign)) (reading.call n))
    (both_exact bracketed_given call_form nothing more (λ y v z s stops. stops_nothing (v ++ z)) n (closed bracketed_name (of k.assign)) (reading.call n)
    (closed_exact (of k.assign) an_assign refl bracketed_text nothing nothing (λ t h. refl) n bracketed_name (bracketed_exact nothing n))
    (call_exact more n) call_example)

-- ---- aggregates that begin with a word

abbrev given_call : Symbol × List ArgumentTree → Text
given_call c = some (of k.assign) ⨾ call_form c

-- behind the word that is the name
abbrev named_behind : Symbol → AggregateTree → Text
named_behind t = Image (aggregate_of (Some (shown.Word t))) given_call

-- behind the word that is the function
abbrev called_behind : Symbol → AggregateTree → Text
called_behind t = Image (λ (es : List ArgumentTree). aggregate_of None (t, es)) parenthesised

abbrev behind_form : Bool → Symbol → AggregateTree → Text
behind_form true t a u = named_behind t a u ⊎ called_behind t a u
behind_form false t a u = called_behind t a u

named_behind_begins : (t : Symbol) → Begins k.assign (named_behind t)
named_behind_begins t y u z s = skip_leads (of k.assign) an_assign refl call_form nothing s.value u z s.spelled

called_behind_exact : (more : Symbol → Bool) (n : ℕ) (t : Symbol) → Exact (called_behind t) more ((λ es. aggregate_of None (t, es)) <$> reading.in_parentheses n) n
called_behind_exact more n t = image_exact (λ (es : List ArgumentTree). aggregate_of None (t, es)) parenthesised more n (reading.in_parentheses n) (in_parentheses_exact more n)

behind_exact : (more : Symbol → Bool) (n : ℕ) (t : Symbol) (b : Bool) → Exact (behind_form b t) more (reading.behind_word b t n) n
behind_exact more n t true =
    choose_exact (of k.assign) (named_behind t) (called_behind t) (behind_form true t) more (λ y u s. inl s) (λ y u s. inr s) (λ y u s. s)
    (λ y u z s stops. named_behind_begins t y u z s)
    (λ y u z s stops. some_begins_not k.open_parenthesis k.assign (apart k.open_parenthesis k.assign refl) (up_to_close s.value) u z s.spelled)
    n ((λ c. aggregate_of (Some (shown.Word t)) c) <$> skip (of k.assign) (reading.call n)) ((λ es. aggregate_of None (t, es)) <$> reading.in_parentheses n)
    (image_exact (aggregate_of (Some (shown.Word t))) given_call more n (skip (of k.assign) (reading.call n))
    (skip_exact (of k.assign) an_assign refl call_form more n n (omega arith) (reading.call n) (call_exact more n) call_example))
    (called_behind_exact more n t)
behind_exact more n t false = called_behind_exact more n t

called_or_named : (t : Symbol) (b : Bool) (y : AggregateTree) (u : List Symbol) → called_behind t y u → behind_form b t y u
called_or_named t true y u s = inr s
called_or_named t false y u s = s

behind_example : (t : Symbol) (b : Bool) → Example (behind_form b t)
behind_example t b = record {
  value = aggregate_of None (t, parenthesised_example.value);
  text = parenthesised_example.text;
  spelled = called_or_named t b (aggregate_of None (t, parenthesised_example.value)) parenthesised_example.text (record { value = parenthesised_example.value; is = refl; spelled = parenthesised_example.spelled });
}

abbrev worded_parts : Symbol × AggregateTree → Text
worded_parts = Bind (one (of called)) (λ t. behind_form (of k.bare_name t) t)

abbrev worded_form : AggregateTree → Text
worded_form = Image (λ (p : Symbol × AggregateTree). p.1) worded_parts

worded_aggregate_exact : (more : Symbol → Bool) (n : ℕ) → Exact worded_form more (reading.worded_aggregate n) n
unfolding reading.worded_aggregate
worded_aggregate_exact more n =
    image_exact (λ (p : Symbol × AggregateTree). p.1) worded_parts more n (bind (expect (of called)) (λ t. reading.behind_word (of k.bare_name t) t n))
    (bind_exact (one (of called)) (λ t. behind_form (of k.bare_name t) t) nothing more (λ t y v z s stops. stops_nothing (v ++ z)) n n (λ t u s. omega arith) (expect (of called)) (λ t. reading.behind_word (of k.bare_name t) t n) (one_exact (of called) a_function refl nothing n) (λ t. behind_exact more n t (of k.bare_name t)) (λ t. behind_example t (of k.bare_name t)))

from_called : (t : Symbol) (y : AggregateTree) (u left right : List Symbol) → u ≡ left ++ right → one (of called) t left → called_behind t y right → grammar.aggregate_text y u
from_called t y u left right joined before s =
    subst (λ w. grammar.aggregate_text w u) (sym s.is)
    (record { left = []; right = u; joined = refl; before = refl; after = record { left = left; right = right; joined = joined; before = before; after = s.spelled } })

from_named : (t : Symbol) (y : AggregateTree) (u left right : List Symbol) → of k.bare_name t ≡ true → u ≡ left ++ right → one (of called) t left → named_behind t y right → grammar.aggregate_text y u
from_named t y u left right bare joined before s =
    subst (λ w. grammar.aggregate_text w u) (sym s.is)
    (record {
      left = left ++ s.spelled.left;
      right = s.spelled.right;
      joined = joined ∙ ap (λ l. left ++ l) s.spelled.joined ∙ sym (append_assoc left s.spelled.left s.spelled.right);
      before = record { left = left; right = s.spelled.left; joined = refl; before = (bare, before.1); after = s.spelled.before };
      after = s.spelled.after;
    })

from_behind : (t : Symbol) (b : Bool) (y : AggregateTree) (u left right : List Symbol) → of k.bare_name t ≡ b → u ≡ left ++ right → one (of called) t left → behind_form b t y right → grammar.aggregate_text y u
from_behind t true y u left right bare joined before (inl s) = from_named t y u left right bare joined before s
from_behind t true y u left right bare joined before (inr s) = from_called t y u left right joined before s
from_behind t false y u left right bare joined before s = from_called t y u left right joined before s

from_worded : (y : AggregateTree) (u : List Symbol) → worded_form y u → grammar.aggregate_text y u
from_worded y u s =
    subst (λ w. grammar.aggregate_text w u) (sym s.is)
    (from_behind s.value.0 (of k.bare_name s.value.0) s.value.1 u s.spelled.left s.spelled.right refl s.spelled.joined s.spelled.before s.spelled.after)

-- ---- aggregates

abbrev aggregate_at : Option Name → Symbol × List ArgumentTree → Text
aggregate_at m c = Maybe grammar.given_text m ⨾ call_form c

to_named : (t : Symbol) (c : Symbol × List ArgumentTree) (u : List Symbol) → aggregate_at (Some (shown.Word t)) c u → worded_form (aggregate_of (Some (shown.Word t)) c) u
to_named t c u s =
    let name : one (of k.bare_name) t s.before.left = s.before.before in
    let behind : named_behind t (aggregate_of (Some (shown.Word t)) c) (s.before.right ++ s.right) = record { value = c; is = refl; spelled = record { left = s.before.right; right = s.right; joined = refl; before = s.before.after; after = s.after } } in
    record {
      value = (t, aggregate_of (Some (shown.Word t)) c);
      is = refl;
      spelled = record {
        left = s.before.left;
        right = s.before.right ++ s.right;
        joined = s.joined ∙ ap (λ l. l ++ s.right) s.before.joined ∙ append_assoc s.before.left s.before.right s.right;
        before = (part k.bare_name called refl t name.0, name.1);
        after = subst (λ b. behind_form b t (aggregate_of (Some (shown.Word t)) c) (s.before.right ++ s.right)) (sym name.0) (inl behind);
      };
    }

to_called : (c : Symbol × List ArgumentTree) (u : List Symbol) → aggregate_at None c u → worded_form (aggregate_of None c) u
to_called c u s =
    let whole : u ≡ s.right = s.joined ∙ ap (λ l. l ++ s.right) s.before in
    record {
      value = (c.0, aggregate_of None c);
      is = refl;
      spelled = record {
        left = s.after.left;
        right = s.after.right;
        joined = whole ∙ s.after.joined;
        before = s.after.before;
        after = called_or_named c.0 (of k.bare_name c.0) (aggregate_of None c) s.after.right (record { value = c.1; is = refl; spelled = s.after.after });
      };
    }

aggregate_cases_at : (m : Option Name) (c : Symbol × List ArgumentTree) (u : List Symbol) → aggregate_at m c u → bracketed_form (aggregate_of m c) u ⊎ worded_form (aggregate_of m c) u
aggregate_cases_at None c u s = inr (to_called c u s)
aggregate_cases_at (Some (shown.Word t)) c u s = inr (to_named t c u s)
aggregate_cases_at (Some (shown.Bracketed t x)) c u s = inl (record { value = (shown.Bracketed t x, c); is = refl; spelled = s })

aggregate_cases : (y : AggregateTree) (u : List Symbol) → grammar.aggregate_text y u → bracketed_form y u ⊎ worded_form y u
aggregate_cases y u s = aggregate_cases_at y.given (y.function, y.arguments) u s

worded_begins : Begins called worded_form
worded_begins y u z s = front_begins called (one (of called) s.value.0) (behind_form (of k.bare_name s.value.0) s.value.0 s.value.1) true (one_leads called s.value.0) u z s.spelled

pub aggregate_exact : (more : Symbol → Bool) (n : ℕ) → Exact grammar.aggregate_text more (reading.aggregate n) n
unfolding reading.aggregate
aggregate_exact more n =
    choose_exact (of k.open_bracket) bracketed_form worded_form grammar.aggregate_text more from_bracketed from_worded aggregate_cases
    (λ y u z s stops. bracketed_begins y u z s)
    (λ y u z s stops. starts_apart called k.open_bracket (apart called k.open_bracket refl) (u ++ z) (worded_begins y u z s))
    n (reading.bracketed_aggregate n) (reading.worded_aggregate n) (bracketed_aggregate_exact more n) (worded_aggregate_exact more n)

pub aggregate_example : Example grammar.aggregate_text
aggregate_example = record { value = aggregate_of None call_example.value; text = call_example.text; spelled = record { left = []; right = call_example.text; joined = refl; before = refl; after = call_example.spelled } }

begins_either : (y : AggregateTree) (u z : List Symbol) → bracketed_form y u ⊎ worded_form y u → starts (of begins_aggregate) (u ++ z) ≡ true
begins_either y u z (inl s) = starts_part k.open_bracket begins_aggregate (part k.open_bracket begins_aggregate refl) (u ++ z) (bracketed_begins y u z s)
begins_either y u z (inr s) = starts_part called begins_aggregate (part called begins_aggregate refl) (u ++ z) (worded_begins y u z s)

pub aggregate_begins : Begins begins_aggregate grammar.aggregate_text
aggregate_begins y u z s = begins_either y u z (aggregate_cases y u s)

pub aggregates_exact : (n : ℕ) → Exact (grammar.listed grammar.aggregate_text) (of aggregates_go_on) (reading.aggregates n) n
unfolding reading.aggregates
aggregates_exact n = listed_exact grammar.aggregate_text nothing (of aggregates_go_on) (λ t h. refl) (λ t h. refl) (λ t h. h) n (reading.aggregate n) (aggregate_exact nothing n) aggregate_example

pub aggregates_example : Example (grammar.listed grammar.aggregate_text)
aggregates_example = listed_example grammar.aggregate_text aggregate_example

pub aggregates_begin : Begins begins_aggregate (grammar.listed grammar.aggregate_text)
aggregates_begin = listed_begins grammar.aggregate_text begins_aggregate aggregate_begins
