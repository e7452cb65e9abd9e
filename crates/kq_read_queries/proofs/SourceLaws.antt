-- The reader of sources is exact where that of the sources inside is.
use Rattle.std.proofs.Common.{◌≡◌, ℕ, suc, true, false, List, [], ◌∷◌, ◌++◌, ◌⊎◌, inl, inr, Some, refl, sym, ◌∙◌, ap, subst}
use Rattle.kq_read_clauses.proofs.Following.{items_go_on}
use Rattle.kq_read_clauses.specs.Reading as clause
use Rattle.kq_read_grammar.specs.declared.expression.Name.TheVariants as shown
use Rattle.kq_read_grammar.specs.Clauses as grammar
use Rattle.kq_read_grammar.specs.Expressions.{Text}
use Rattle.kq_read_grammar.proofs.Precedences.{goes_on}
use Rattle.kq_read_grammar.specs.Tabulars.{source_key, source_of, source_word, any_source_word, table_text, view_text, tabular_text, source_text, from_text, union_text}
use Rattle.kq_read_grammar.specs.Trees.{ItemTree, TabularTree, SourceTree, table, nested, worded, FromTree, view, print, range, datatable, union}
use Rattle.kq_read_queries.proofs.Following.{union_goes_on, source_goes_on, tabular_goes_on}
use Rattle.kq_read_queries.specs.Reading as reading
use Rattle.kq_read_symbols.specs.declared.kind.Kind.{Kind}
use Rattle.kq_read_symbols.specs.declared.kind.Kind.TheVariants as kind
use Rattle.kq_read_symbols.specs.declared.kind.Symbol.{Symbol}
use Rattle.kq_read_symbols.specs.declared.word.SourceWord.{SourceWord}
use Rattle.kq_read_symbols.specs.declared.word.SourceWord.TheVariants as s
use Rattle.kq_read_symbols.specs.declared.word.Word.TheVariants as word
use Rattle.kq_read_symbols.specs.Classes as k
use Rattle.kq_read_symbols.specs.Classes.{Class, of}
use Rattle.kq_read_symbols.specs.Forms.{Parser, starts, ◌<$>◌, choose}
use Rattle.kq_read_symbols.proofs.Forms.{Image}
use Rattle.kq_read_symbols.specs.Switching.{Marks, keyed}
use Rattle.kq_read_symbols.proofs.Switching.{Keyed}
use Rattle.kq_read_symbols.proofs.ClassLemmas.{apart, within, part}
use Rattle.kq_read_symbols.proofs.Laws.{Exact, Example, Leads, image_exact, same_exact, wider_exact, choose_exact}
use Rattle.kq_read_symbols.proofs.SwitchLaws.{keyed_exact}
use Rattle.kq_read_expressions.proofs.NameLaws.{example_of, a_word, starts_part, starts_apart}
use Rattle.kq_read_clauses.proofs.ListLaws.{Begins, front_begins}
use Rattle.kq_read_clauses.proofs.ItemLaws.{items_exact, items_example}
use Rattle.kq_read_queries.proofs.PartLaws.{view_exact, view_example, range_parts, range_of, range_exact, range_example, datatable_parts, datatable_of, datatable_exact, datatable_example, table_name_exact, begins_table, table_begins}
use Rattle.kq_read_queries.proofs.UnionLaws.{nesting_text, nesting_begins, nesting_exact, union_exact, union_example}

-- ---- behind the word

abbrev from_arm : SourceWord → FromTree → Text
from_arm a y u = (source_word y ≡ a) × from_text y u

module _ {A : Type 0} (a : SourceWord) (c : A → FromTree) (form : A → Text) (to : (x : A) (u : List Symbol) → form x u → from_arm a (c x) u) (from : (y : FromTree) (u : List Symbol) → from_arm a y u → Image c form y u) where
  arm_exact : (m : Class) → ((t : Symbol) → of source_goes_on t ≡ false → of m t ≡ false) → (n : ℕ) (p : Parser Symbol FromTree) → Exact (Image c form) (of m) p n → Exact (from_arm a) (of source_goes_on) p n
  arm_exact m inside n p exact =
      same_exact (Image c form) (from_arm a) (of source_goes_on) (λ y u s. subst (λ w. from_arm a w u) (sym s.is) (to s.value u s.spelled)) from n p
      (wider_exact (Image c form) (of m) (of source_goes_on) inside n p exact)

  arm_example : Example form → Example (from_arm a)
  arm_example e = record { value = c e.value; text = e.text; spelled = to e.value e.text e.spelled }

abbrev print_of : ItemTree × List ItemTree → FromTree
print_of p = print p.0 p.1

from_view : (y : FromTree) (u : List Symbol) → from_arm s.MaterializedView y u → Image view view_text y u
from_view (view t) u s = record { value = t; is = refl; spelled = s.1 }
from_view _ u s = absurd (cc s.0)

from_print : (y : FromTree) (u : List Symbol) → from_arm s.Print y u → Image print_of grammar.items y u
from_print (print i is) u s = record { value = (i, is); is = refl; spelled = s.1 }
from_print _ u s = absurd (cc s.0)

from_range : (y : FromTree) (u : List Symbol) → from_arm s.Range y u → Image range_of range_parts y u
from_range (range n a b c) u s = record { value = (n, (a, (b, c))); is = refl; spelled = s.1 }
from_range _ u s = absurd (cc s.0)

from_datatable : (y : FromTree) (u : List Symbol) → from_arm s.Datatable y u → Image datatable_of datatable_parts y u
from_datatable (datatable c cs ls) u s = record { value = ((c, cs), ls); is = refl; spelled = s.1 }
from_datatable _ u s = absurd (cc s.0)

from_union : (y : FromTree) (u : List Symbol) → from_arm s.Union y u → Image union union_text y u
from_union (union x) u s = record { value = x; is = refl; spelled = s.1 }
from_union _ u s = absurd (cc s.0)

from_example : (a : SourceWord) → Example (from_arm a)
from_example s.MaterializedView = arm_example s.MaterializedView view view_text (λ x u s. (refl, s)) from_view view_example
from_example s.Print = arm_example s.Print print_of grammar.items (λ x u s. (refl, s)) from_print items_example
from_example s.Range = arm_example s.Range range_of range_parts (λ x u s. (refl, s)) from_range range_example
from_example s.Datatable = arm_example s.Datatable datatable_of datatable_parts (λ x u s. (refl, s)) from_datatable datatable_example
from_example s.Union = arm_example s.Union union union_text (λ x u s. (refl, s)) from_union union_example

-- ---- sources

abbrev nested_of : Symbol × TabularTree → SourceTree
nested_of p = nested p.0 p.1

abbrev worded_of : Symbol × FromTree → SourceTree
worded_of p = worded p.0 p.1

abbrev nested_form : SourceTree → Text
nested_form = Image nested_of nesting_text

abbrev worded_parts : Symbol × FromTree → Text
worded_parts = Keyed source_of source_word from_text

abbrev worded_form : SourceTree → Text
worded_form = Image worded_of worded_parts

abbrev table_form : SourceTree → Text
table_form = Image table table_text

abbrev others_form : SourceTree → Text
others_form y u = worded_form y u ⊎ table_form y u

from_nested : (y : SourceTree) (u : List Symbol) → nested_form y u → source_text y u
from_nested y u s = subst (λ w. source_text w u) (sym s.is) s.spelled

from_others : (y : SourceTree) (u : List Symbol) → others_form y u → source_text y u
from_others y u (inl s) = subst (λ w. source_text w u) (sym s.is) s.spelled
from_others y u (inr s) = subst (λ w. source_text w u) (sym s.is) s.spelled

source_cases : (y : SourceTree) (u : List Symbol) → source_text y u → nested_form y u ⊎ others_form y u
source_cases (table n) u s = inr (inr (record { value = n; is = refl; spelled = s }))
source_cases (nested t q) u s = inl (record { value = (t, q); is = refl; spelled = s })
source_cases (worded t b) u s = inr (inl (record { value = (t, b); is = refl; spelled = s }))

word_kind : (x : Kind) (a : SourceWord) → source_key x ≡ Some a → any_source_word x ≡ true
word_kind (kind.Word (word.Source b)) a e = refl
word_kind _ a e = absurd (cc e)

mark_begins : Begins any_source_word (Marks source_of)
mark_begins p u z s = ap (λ l. starts (of any_source_word) (l ++ z)) s.1 ∙ word_kind p.0.kind p.1 s.0

worded_begins : Begins any_source_word worded_form
worded_begins y u z s = front_begins any_source_word (Marks source_of (s.value.0, source_word s.value.1)) (from_text s.value.1) true (mark_begins (s.value.0, source_word s.value.1)) u z s.spelled

pub source_example : Example source_text
source_example = record { value = table (shown.Word a_word); text = a_word ∷ []; spelled = (refl, refl) }

pub source_begins : Begins k.begins_tabular source_text
source_begins y u z s = by_case (source_cases y u s) where
  by_case : nested_form y u ⊎ others_form y u → starts (of k.begins_tabular) (u ++ z) ≡ true
  by_case (inl s) = starts_part k.open_parenthesis k.begins_tabular (part k.open_parenthesis k.begins_tabular refl) (u ++ z) (nesting_begins s.value u z s.spelled)
  by_case (inr (inl s)) = starts_part any_source_word k.begins_tabular (part any_source_word k.begins_tabular refl) (u ++ z) (worded_begins y u z s)
  by_case (inr (inr s)) = starts_part begins_table k.begins_tabular (part begins_table k.begins_tabular refl) (u ++ z) (table_begins s.value u z s.spelled)

module _ (rec : Parser Symbol TabularTree) (n : ℕ) (rec_exact : Exact tabular_text (of tabular_goes_on) rec n) (rec_example : Example tabular_text) where
  from_exact : (a : SourceWord) → Exact (from_arm a) (of source_goes_on) (reading.from rec (suc n) a) (suc n)
  from_exact s.MaterializedView =
      arm_exact s.MaterializedView view view_text (λ x u s. (refl, s)) from_view source_goes_on (λ t h. h) (suc n) (view <$> reading.view)
      (image_exact view view_text (of source_goes_on) (suc n) reading.view (view_exact (of source_goes_on) (suc n)))
  from_exact s.Print =
      arm_exact s.Print print_of grammar.items (λ x u s. (refl, s)) from_print items_go_on (within source_goes_on items_go_on refl) (suc n) (print_of <$> clause.items (suc n))
      (image_exact print_of grammar.items (of items_go_on) (suc n) (clause.items (suc n)) (items_exact (suc n)))
  from_exact s.Range = arm_exact s.Range range_of range_parts (λ x u s. (refl, s)) from_range (goes_on 0) (within source_goes_on (goes_on 0) refl) (suc n) (reading.range (suc n)) (range_exact (suc n))
  from_exact s.Datatable = arm_exact s.Datatable datatable_of datatable_parts (λ x u s. (refl, s)) from_datatable source_goes_on (λ t h. h) (suc n) (reading.datatable (suc n)) (datatable_exact (of source_goes_on) (suc n))
  from_exact s.Union =
      arm_exact s.Union union union_text (λ x u s. (refl, s)) from_union union_goes_on (within source_goes_on union_goes_on refl) (suc n) (union <$> reading.union rec (suc n))
      (image_exact union union_text (of union_goes_on) (suc n) (reading.union rec (suc n)) (union_exact rec n rec_exact rec_example))

  worded_exact : Exact worded_parts (of source_goes_on) (keyed source_of (reading.from rec (suc n))) (suc n)
  worded_exact = keyed_exact source_of (example_of (kind.Word (word.Source s.Print))) s.Print refl source_word from_text (of source_goes_on) (suc n) (reading.from rec (suc n)) from_exact from_example

  others_lead : Leads (of k.open_parenthesis) false others_form (of source_goes_on)
  others_lead y u z (inl s) stops = starts_apart any_source_word k.open_parenthesis (apart any_source_word k.open_parenthesis refl) (u ++ z) (worded_begins y u z s)
  others_lead y u z (inr s) stops = starts_apart begins_table k.open_parenthesis (apart begins_table k.open_parenthesis refl) (u ++ z) (table_begins s.value u z s.spelled)

  pub source_exact : Exact source_text (of source_goes_on) (reading.source rec (suc n)) (suc n)
  unfolding reading.source
  source_exact =
      choose_exact (of k.open_parenthesis) nested_form others_form source_text (of source_goes_on) from_nested from_others source_cases
      (λ y u z s stops. nesting_begins s.value u z s.spelled)
      others_lead (suc n) (nested_of <$> reading.nesting rec (suc n)) (choose (of any_source_word) (worded_of <$> keyed source_of (reading.from rec (suc n))) (table <$> reading.table_name))
      (image_exact nested_of nesting_text (of source_goes_on) (suc n) (reading.nesting rec (suc n)) (nesting_exact rec n rec_exact rec_example (of source_goes_on)))
      (choose_exact (of any_source_word) worded_form table_form others_form (of source_goes_on) (λ y u s. inl s) (λ y u s. inr s) (λ y u s. s)
      (λ y u z s stops. worded_begins y u z s)
      (λ y u z s stops. starts_apart begins_table any_source_word (apart begins_table any_source_word refl) (u ++ z) (table_begins s.value u z s.spelled))
      (suc n) (worded_of <$> keyed source_of (reading.from rec (suc n))) (table <$> reading.table_name)
      (image_exact worded_of worded_parts (of source_goes_on) (suc n) (keyed source_of (reading.from rec (suc n))) worded_exact)
      (image_exact table table_text (of source_goes_on) (suc n) reading.table_name (table_name_exact (of source_goes_on) (suc n))))
