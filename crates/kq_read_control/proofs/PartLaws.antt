-- The readers of the parts of commands are exact.
use Rattle.std.proofs.Common.{◌≡◌, ℕ, Bool, true, false, List, [], ◌∷◌, ◌++◌, refl, sym, ◌∙◌, ap, subst, arith}
use Rattle.kq_read_clauses.proofs.CellLaws.{columns_exact, columns_example}
use Rattle.kq_read_clauses.proofs.ListLaws.{listed_exact, listed_example}
use Rattle.kq_read_clauses.proofs.Following.{columns_go_on}
use Rattle.kq_read_clauses.specs.Reading.{columns, listed as listed_by}
use Rattle.kq_read_control.specs.ControlReading as reading
use Rattle.kq_read_control.specs.ControlTrees.{ColumnsTree, PropertiesTree}
use Rattle.kq_read_control.specs.Controls as grammar
use Rattle.kq_read_control.specs.declared.tree.Property.{Property}
use Rattle.kq_read_expressions.proofs.NameLaws.{example_of, a_word, name_exact, name_example}
use Rattle.kq_read_expressions.specs.Reading.{name}
use Rattle.kq_read_grammar.specs.Clauses.{columns_text, listed}
use Rattle.kq_read_grammar.specs.declared.expression.Name.{Name}
use Rattle.kq_read_grammar.specs.Expressions.{Text, name_text}
use Rattle.kq_read_symbols.specs.declared.kind.Kind.TheVariants as kind
use Rattle.kq_read_symbols.specs.declared.kind.Quoted.TheVariants as quoted
use Rattle.kq_read_symbols.specs.declared.kind.Symbol.{Symbol}
use Rattle.kq_read_symbols.specs.declared.word.ControlWord.{ControlWord}
use Rattle.kq_read_symbols.specs.declared.word.ControlWord.TheVariants as w
use Rattle.kq_read_symbols.specs.declared.word.Word.TheVariants as word
use Rattle.kq_read_tokens.specs.declared.kind.Operator.TheVariants as o
use Rattle.kq_read_tokens.specs.declared.kind.Punctuation.TheVariants as p
use Rattle.kq_read_symbols.specs.Classes as k
use Rattle.kq_read_symbols.specs.Classes.{Class, of}
use Rattle.kq_read_symbols.specs.Forms.{Parser, one, some, ◌⨾◌, starts, expect, both, skip, closed}
use Rattle.kq_read_symbols.proofs.Forms.{Then, Image}
use Rattle.kq_read_symbols.proofs.ClassLemmas.{apart}
use Rattle.kq_read_symbols.proofs.Laws.{Exact, Example, Follows, nothing, stops_nothing, both_exact, image_exact, same_exact, one_exact, skip_exact, skip_example, closed_exact, closed_example}

-- ---- words before a form

abbrev pub control_word : ControlWord → Symbol
control_word a = example_of (kind.Word (word.Control a))

module _ {A : Type 0} (a : Class) (t₀ : Symbol) (is_t₀ : of a t₀ ≡ true) (form : A → Text) where
  pub behind : (m : Symbol → Bool) (n : ℕ) (q : Parser Symbol A) → Exact form m q n → Example form → Exact (λ y. some (of a) ⨾ form y) m (skip (of a) q) n
  behind m n q exact example = skip_exact (of a) t₀ is_t₀ form m n n (omega arith) q exact example

  pub behind_example : Example form → Example (λ y. some (of a) ⨾ form y)
  behind_example e = skip_example (of a) t₀ is_t₀ form nothing e

  pub behind_begins : (b : Class) → ((t : Symbol) → of a t ≡ true → of b t ≡ true) → (y : A) (u z : List Symbol) → ◌⨾◌ (some (of a)) (form y) u → starts (of b) (u ++ z) ≡ true
  behind_begins b sub y u z s = ap (λ l. starts (of b) (l ++ z)) (s.joined ∙ ap (λ l. l ++ s.right) s.before.1.1) ∙ sub s.before.0 s.before.1.0

  pub behind_begins_not : (b : Class) → ((t : Symbol) → of a t ≡ true → of b t ≡ false) → (y : A) (u z : List Symbol) → ◌⨾◌ (some (of a)) (form y) u → starts (of b) (u ++ z) ≡ false
  behind_begins_not b off y u z s = ap (λ l. starts (of b) (l ++ z)) (s.joined ∙ ap (λ l. l ++ s.right) s.before.1.1) ∙ off s.before.0 s.before.1.0

pub any_follows : {B : Type 0} (form : B → Text) (m : Symbol → Bool) → Follows nothing form m
any_follows form m = λ y v z s stops. stops_nothing (v ++ z)

-- ---- in parentheses

abbrev open_sign : Symbol
open_sign = example_of (kind.Punctuation p.OpenParenthesis)

abbrev close_sign : Symbol
close_sign = example_of (kind.Punctuation p.CloseParenthesis)

module _ {A : Type 0} (form : A → Text) (m : Symbol → Bool) where
  abbrev enclosed : A → Text
  enclosed y = grammar.in_parentheses (form y)

  pub enclosed_exact : (more : Symbol → Bool) → ((t : Symbol) → of k.close_parenthesis t ≡ true → m t ≡ false) → (n : ℕ) (q : Parser Symbol A) → Exact form m q n → Example form → Exact enclosed more (reading.in_parentheses q) n
  enclosed_exact more off n q exact example =
      behind k.open_parenthesis open_sign refl (λ y. ◌⨾◌ (form y) (some (of k.close_parenthesis))) more n (closed q (of k.close_parenthesis))
      (closed_exact (of k.close_parenthesis) close_sign refl form m more off n q exact)
      (closed_example (of k.close_parenthesis) close_sign refl form m example)

  pub enclosed_example : Example form → Example enclosed
  enclosed_example example =
      behind_example k.open_parenthesis open_sign refl (λ y. ◌⨾◌ (form y) (some (of k.close_parenthesis)))
      (closed_example (of k.close_parenthesis) close_sign refl form m example)

-- ---- properties

abbrev a_string : Symbol
a_string = example_of (kind.String quoted.Other)

abbrev an_assign : Symbol
an_assign = example_of (kind.Operator o.Assign)

abbrev value_text : Symbol → Text
value_text t = some (of k.assign) ⨾ one (of k.property_value) t

abbrev property_form : Property → Text
property_form = Image (λ (q : Symbol × Symbol). record { name = q.0; value = q.1 }) (Then (one (of k.any_word)) value_text)

value_example : Example (one (of k.property_value))
value_example = record { value = a_string; text = a_string ∷ []; spelled = (refl, refl) }

pub property_exact : (more : Symbol → Bool) (n : ℕ) → Exact grammar.property_text more reading.property n
unfolding reading.property
property_exact more n =
    same_exact property_form grammar.property_text more (λ y u s. subst (λ v. grammar.property_text v u) (sym s.is) s.spelled) (λ y u s. record { value = (y.name, y.value); is = refl; spelled = s }) n reading.property
    (image_exact (λ (q : Symbol × Symbol). record { name = q.0; value = q.1 }) (Then (one (of k.any_word)) value_text) more n (both (expect (of k.any_word)) (skip (of k.assign) (expect (of k.property_value))))
    (both_exact (one (of k.any_word)) value_text nothing more (any_follows value_text more) n (expect (of k.any_word)) (skip (of k.assign) (expect (of k.property_value))) (one_exact (of k.any_word) a_word refl nothing n)
    (behind k.assign an_assign refl (one (of k.property_value)) more n (expect (of k.property_value)) (one_exact (of k.property_value) a_string refl more n) value_example)
    (behind_example k.assign an_assign refl (one (of k.property_value)) value_example)))

pub property_example : Example grammar.property_text
property_example = record {
  value = record { name = a_word; value = a_string };
  text = a_word ∷ an_assign ∷ a_string ∷ [];
  spelled = record { left = a_word ∷ []; right = an_assign ∷ a_string ∷ []; joined = refl; before = (refl, refl); after = record { left = an_assign ∷ []; right = a_string ∷ []; joined = refl; before = (an_assign, (refl, refl)); after = (refl, refl) } };
}

abbrev property_texts : PropertiesTree → Text
property_texts ps = listed grammar.property_text ps

abbrev pub list_text : PropertiesTree → Text
list_text ps = grammar.in_parentheses (property_texts ps)

property_texts_exact : (n : ℕ) → Exact property_texts (of k.comma) (listed_by reading.property n) n
property_texts_exact n = listed_exact grammar.property_text nothing (of k.comma) (λ t h. refl) (λ t h. refl) (λ t h. h) n reading.property (property_exact nothing n) property_example

pub property_list_exact : (more : Symbol → Bool) (n : ℕ) → Exact list_text more (reading.property_list n) n
unfolding reading.property_list
property_list_exact more n = enclosed_exact property_texts (of k.comma) more (apart k.close_parenthesis k.comma refl) n (listed_by reading.property n) (property_texts_exact n) (listed_example grammar.property_text property_example)

pub property_list_example : Example list_text
property_list_example = enclosed_example property_texts (of k.comma) (listed_example grammar.property_text property_example)

pub properties_exact : (more : Symbol → Bool) (n : ℕ) → Exact grammar.properties_text more (reading.properties n) n
unfolding reading.properties
properties_exact more n = behind (k.control w.With) (control_word w.With) refl list_text more n (reading.property_list n) (property_list_exact more n) property_list_example

-- ---- tables

abbrev pub table_text : Name → Text
table_text n = some (of (k.control w.Table)) ⨾ name_text n

pub table_exact : (more : Symbol → Bool) (n : ℕ) → Exact table_text more reading.table_name n
unfolding reading.table_name
table_exact more n = behind (k.control w.Table) (control_word w.Table) refl name_text more n name (name_exact more n) name_example

pub table_example : Example table_text
table_example = behind_example (k.control w.Table) (control_word w.Table) refl name_text name_example

abbrev columns_in : ColumnsTree → Text
columns_in cs = grammar.in_parentheses (columns_text cs)

abbrev pub columned : Name × ColumnsTree → Text
columned q = grammar.table_columns_text q.0 q.1

columns_in_exact : (more : Symbol → Bool) (n : ℕ) → Exact columns_in more (reading.in_parentheses (columns n)) n
columns_in_exact more n = enclosed_exact columns_text (of columns_go_on) more (apart k.close_parenthesis columns_go_on refl) n (columns n) (columns_exact n) columns_example

columns_in_example : Example columns_in
columns_in_example = enclosed_example columns_text (of columns_go_on) columns_example

pub then_example : {A B : Type 0} (first : A → Text) (second : B → Text) → Example first → Example second → Example (Then first second)
then_example first second a b = record { value = (a.value, b.value); text = a.text ++ b.text; spelled = record { left = a.text; right = b.text; joined = refl; before = a.spelled; after = b.spelled } }

pub columned_exact : (more : Symbol → Bool) (n : ℕ) → Exact columned more (reading.table_columns n) n
unfolding reading.table_columns
columned_exact more n =
    behind (k.control w.Table) (control_word w.Table) refl (Then name_text columns_in) more n (both name (reading.in_parentheses (columns n)))
    (both_exact name_text columns_in nothing more (any_follows columns_in more) n name (reading.in_parentheses (columns n)) (name_exact nothing n) (columns_in_exact more n) columns_in_example)
    (then_example name_text columns_in name_example columns_in_example)

pub columned_example : Example columned
columned_example = behind_example (k.control w.Table) (control_word w.Table) refl (Then name_text columns_in) (then_example name_text columns_in name_example columns_in_example)
