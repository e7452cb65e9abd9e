-- The reader of commands is exact.
use Rattle.std.proofs.Common.{◌≡◌, ℕ, Bool, true, false, List, [], ◌∷◌, ◌++◌, ◌⊎◌, inl, inr, Option, None, refl, sym, ◌∙◌, ap, subst, append_assoc}
use Rattle.kq_read_control.proofs.PartLaws.{control_word, behind, behind_example, behind_begins, behind_begins_not, any_follows, properties_exact, table_text, table_exact, table_example, columned, columned_exact, columned_example, then_example}
use Rattle.kq_read_control.proofs.ViewLaws.{export_exact, export_begins, view_exact, view_begins, begins_view}
use Rattle.kq_read_control.specs.ControlReading as reading
use Rattle.kq_read_control.specs.ControlTrees.{ColumnsTree, PropertiesTree, ViewTree, ExportTree, ControlTree, create_table, ingest, set_policy, alter_merge, create_view, show_view, show_failures, show_extents, show_journal, fold, merge, export, StatementTree, query as query_tree, control as control_tree}
use Rattle.kq_read_control.specs.Controls as grammar
use Rattle.kq_read_control.proofs.Following.{hashed_goes_on, begins_query, statement_goes_on}
use Rattle.kq_read_expressions.proofs.NameLaws.{example_of, a_word, name_exact, name_example, front_leads, starts_part}
use Rattle.kq_read_expressions.specs.Reading.{name}
use Rattle.kq_read_grammar.specs.declared.expression.Name.{Name}
use Rattle.kq_read_grammar.specs.Clauses.{columns_text}
use Rattle.kq_read_grammar.specs.Expressions.{Text, name_text}
use Rattle.kq_read_grammar.specs.Tabulars.{tabular_text, query_text, query_end, let_text}
use Rattle.kq_read_grammar.specs.Trees.{QueryTree, LetTree}
use Rattle.kq_read_queries.proofs.QueryLaws.{query_exact}
use Rattle.kq_read_queries.proofs.TabularLaws.{tabular_begins}
use Rattle.kq_read_queries.proofs.Following.{query_goes_on}
use Rattle.kq_read_queries.specs.Reading.{query}
use Rattle.kq_read_symbols.specs.declared.kind.Kind.TheVariants as kind
use Rattle.kq_read_symbols.specs.declared.kind.Quoted.TheVariants as quoted
use Rattle.kq_read_symbols.specs.declared.kind.Symbol.{Symbol}
use Rattle.kq_read_symbols.specs.declared.word.ControlWord.TheVariants as w
use Rattle.kq_read_symbols.specs.declared.word.ReservedWord.TheVariants as r
use Rattle.kq_read_tokens.specs.declared.kind.DashedWord.TheVariants as d
use Rattle.kq_read_tokens.specs.declared.kind.Punctuation.TheVariants as p
use Rattle.kq_read_symbols.specs.Classes as k
use Rattle.kq_read_symbols.specs.Classes.{Class, of}
use Rattle.kq_read_symbols.specs.Forms.{Parser, one, some, ◌⨾◌, Many, Maybe, starts, expect, both, ◌<$>◌, choose, maybe, skip, closed}
use Rattle.kq_read_symbols.proofs.Forms.{Stops, Then, Image}
use Rattle.kq_read_symbols.proofs.ClassLemmas.{apart, within, part}
use Rattle.kq_read_symbols.proofs.Laws.{Exact, Example, Follows, nothing, both_exact, image_exact, wider_exact, one_exact, choose_exact, maybe_exact, closed_exact}

-- ---- values made of others

module _ {A B : Type 0} (f : A → B) (form : A → Text) where
  image_example : Example form → Example (Image f form)
  image_example e = record { value = f e.value; text = e.text; spelled = record { value = e.value; is = refl; spelled = e.spelled } }

-- ---- ingestions

abbrev a_mark : Symbol
a_mark = example_of (kind.Punctuation p.BodyMark)

abbrev mark_text : Symbol → Text
mark_text = one (of (k.sign p.BodyMark))

abbrev marked_text : Option PropertiesTree × Symbol → Text
marked_text = Then (Maybe grammar.properties_text) mark_text

abbrev ingested_parts : Name × (Option PropertiesTree × Symbol) → Text
ingested_parts = Then table_text marked_text

abbrev into_text : Name × (Option PropertiesTree × Symbol) → Text
into_text q = some (of (k.control w.Into)) ⨾ ingested_parts q

abbrev inline_text : Name × (Option PropertiesTree × Symbol) → Text
inline_text q = some (of (k.control w.Inline)) ⨾ into_text q

properties_begin : (ps : PropertiesTree) (u z : List Symbol) → grammar.properties_text ps u → starts (of (k.control w.With)) (u ++ z) ≡ true
properties_begin ps u z s = ap (λ v. starts (of (k.control w.With)) (v ++ z)) (s.joined ∙ ap (λ v. v ++ s.right) s.before.1.1) ∙ s.before.1.0

abbrev marking : ℕ → Parser Symbol (Option PropertiesTree × Symbol)
marking n = both (maybe (of (k.control w.With)) (reading.properties n)) (expect (of (k.sign p.BodyMark)))

marks_follow : (more : Symbol → Bool) → Follows (of (k.control w.With)) mark_text more
marks_follow more t v z s stops = subst (λ l. Stops (of (k.control w.With)) (l ++ z)) (sym s.1) (apart (k.sign p.BodyMark) (k.control w.With) refl t s.0)

mark_example : Example mark_text
mark_example = record { value = a_mark; text = a_mark ∷ []; spelled = (refl, refl) }

marked_exact : (more : Symbol → Bool) (n : ℕ) → Exact marked_text more (marking n) n
marked_exact more n =
    both_exact (Maybe grammar.properties_text) mark_text (of (k.control w.With)) more (marks_follow more) n (maybe (of (k.control w.With)) (reading.properties n)) (expect (of (k.sign p.BodyMark)))
    (maybe_exact grammar.properties_text (of (k.control w.With)) (of (k.control w.With)) (λ ps u z s stops. properties_begin ps u z s) (λ t h. h) n (reading.properties n) (properties_exact (of (k.control w.With)) n))
    (one_exact (of (k.sign p.BodyMark)) a_mark refl more n) mark_example

marked_example : Example marked_text
marked_example = record { value = (None, a_mark); text = a_mark ∷ []; spelled = record { left = []; right = a_mark ∷ []; joined = refl; before = refl; after = (refl, refl) } }

ingested_example : Example ingested_parts
ingested_example = then_example table_text marked_text table_example marked_example

abbrev ingest_of : Name × (Option PropertiesTree × Symbol) → ControlTree
ingest_of q = ingest q.0 q.1.0 q.1.1

ingestion_form : ControlTree → Text
ingestion_form = Image ingest_of inline_text

ingestion_exact : (more : Symbol → Bool) (n : ℕ) → Exact ingestion_form more (reading.ingestion n) n
unfolding reading.ingestion ingestion_form
ingestion_exact more n =
    image_exact ingest_of inline_text more n (skip (of (k.control w.Inline)) (skip (of (k.control w.Into)) (both reading.table_name (marking n))))
    (behind (k.control w.Inline) (control_word w.Inline) refl into_text more n (skip (of (k.control w.Into)) (both reading.table_name (marking n)))
    (behind (k.control w.Into) (control_word w.Into) refl ingested_parts more n (both reading.table_name (marking n))
    (both_exact table_text marked_text nothing more (any_follows marked_text more) n reading.table_name (marking n) (table_exact nothing n) (marked_exact more n) marked_example)
    ingested_example)
    (behind_example (k.control w.Into) (control_word w.Into) refl ingested_parts ingested_example))

ingestion_example : Example ingestion_form
unfolding ingestion_form
ingestion_example = image_example ingest_of inline_text (behind_example (k.control w.Inline) (control_word w.Inline) refl into_text (behind_example (k.control w.Into) (control_word w.Into) refl ingested_parts ingested_example))

-- ---- policies

abbrev a_string : Symbol
a_string = example_of (kind.String quoted.Other)

abbrev update_text : Symbol → Text
update_text t = some (of (k.control w.Update)) ⨾ one (of k.text) t

abbrev policy_tail : Symbol → Text
policy_tail t = some (of (k.control w.Policy)) ⨾ update_text t

string_example : Example (one (of k.text))
string_example = record { value = a_string; text = a_string ∷ []; spelled = (refl, refl) }

policy_form : ControlTree → Text
policy_form = Image (λ (q : Name × Symbol). set_policy q.0 q.1) (Then table_text policy_tail)

tail_example : Example policy_tail
tail_example = behind_example (k.control w.Policy) (control_word w.Policy) refl update_text (behind_example (k.control w.Update) (control_word w.Update) refl (one (of k.text)) string_example)

policy_exact : (more : Symbol → Bool) (n : ℕ) → Exact policy_form more reading.policy n
unfolding reading.policy policy_form
policy_exact more n =
    image_exact (λ (q : Name × Symbol). set_policy q.0 q.1) (Then table_text policy_tail) more n (both reading.table_name (skip (of (k.control w.Policy)) (skip (of (k.control w.Update)) (expect (of k.text)))))
    (both_exact table_text policy_tail nothing more (any_follows policy_tail more) n reading.table_name (skip (of (k.control w.Policy)) (skip (of (k.control w.Update)) (expect (of k.text)))) (table_exact nothing n)
    (behind (k.control w.Policy) (control_word w.Policy) refl update_text more n (skip (of (k.control w.Update)) (expect (of k.text)))
    (behind (k.control w.Update) (control_word w.Update) refl (one (of k.text)) more n (expect (of k.text)) (one_exact (of k.text) a_string refl more n) string_example)
    (behind_example (k.control w.Update) (control_word w.Update) refl (one (of k.text)) string_example))
    tail_example)

policy_example : Example policy_form
unfolding policy_form
policy_example = image_example (λ (q : Name × Symbol). set_policy q.0 q.1) (Then table_text policy_tail) (then_example table_text policy_tail table_example tail_example)

-- ---- what is shown

abbrev viewed : Name → Text
viewed n = some (of (k.dashed d.MaterializedView)) ⨾ name_text n

abbrev failures : Symbol → Text
failures t = some (of (k.control w.Ingestion)) ⨾ one (of (k.control w.Failures)) t

abbrev extents : Name → Text
extents n = table_text n ⨾ some (of (k.control w.Extents))

abbrev view_form : ControlTree → Text
view_form = Image show_view viewed

abbrev failures_form : ControlTree → Text
failures_form = Image (λ t. show_failures) failures

abbrev extents_form : ControlTree → Text
extents_form = Image show_extents extents

abbrev journal_form : ControlTree → Text
journal_form = Image (λ t. show_journal) (one (of (k.control w.Journal)))

abbrev a_view : Symbol
a_view = example_of (kind.DashedWord d.MaterializedView)

shown_view_exact : (more : Symbol → Bool) (n : ℕ) → Exact view_form more reading.shown_view n
unfolding reading.shown_view
shown_view_exact more n = image_exact show_view viewed more n (skip (of (k.dashed d.MaterializedView)) name) (behind (k.dashed d.MaterializedView) a_view refl name_text more n name (name_exact more n) name_example)

failures_example : Example (one (of (k.control w.Failures)))
failures_example = record { value = control_word w.Failures; text = control_word w.Failures ∷ []; spelled = (refl, refl) }

shown_failures_exact : (more : Symbol → Bool) (n : ℕ) → Exact failures_form more reading.shown_failures n
unfolding reading.shown_failures
shown_failures_exact more n =
    image_exact (λ t. show_failures) failures more n (skip (of (k.control w.Ingestion)) (expect (of (k.control w.Failures))))
    (behind (k.control w.Ingestion) (control_word w.Ingestion) refl (one (of (k.control w.Failures))) more n (expect (of (k.control w.Failures))) (one_exact (of (k.control w.Failures)) (control_word w.Failures) refl more n) failures_example)

shown_extents_exact : (more : Symbol → Bool) (n : ℕ) → Exact extents_form more reading.shown_extents n
unfolding reading.shown_extents
shown_extents_exact more n =
    image_exact show_extents extents more n (closed reading.table_name (of (k.control w.Extents)))
    (closed_exact (of (k.control w.Extents)) (control_word w.Extents) refl table_text nothing more (λ t h. refl) n reading.table_name (table_exact nothing n))

shown_journal_exact : (more : Symbol → Bool) (n : ℕ) → Exact journal_form more reading.shown_journal n
unfolding reading.shown_journal
shown_journal_exact more n = image_exact (λ t. show_journal) (one (of (k.control w.Journal))) more n (expect (of (k.control w.Journal))) (one_exact (of (k.control w.Journal)) (control_word w.Journal) refl more n)

extents_or_journal : ControlTree → Text
extents_or_journal y u = extents_form y u ⊎ journal_form y u

failures_or_more : ControlTree → Text
failures_or_more y u = failures_form y u ⊎ extents_or_journal y u

showing_form : ControlTree → Text
showing_form y u = view_form y u ⊎ failures_or_more y u

table_begins : (b : Class) → ((t : Symbol) → of (k.control w.Table) t ≡ true → of b t ≡ true) → (n : Name) (u z : List Symbol) → extents n u → starts (of b) (u ++ z) ≡ true
table_begins b sub n u z s = front_leads (of b) u s.left s.right z s.joined (λ v. behind_begins (k.control w.Table) (control_word w.Table) refl name_text b sub n s.left v s.before)

table_begins_not : (b : Class) → ((t : Symbol) → of (k.control w.Table) t ≡ true → of b t ≡ false) → (n : Name) (u z : List Symbol) → extents n u → starts (of b) (u ++ z) ≡ false
table_begins_not b off n u z s = ap (λ v. starts (of b) (v ++ z)) s.joined ∙ ap (starts (of b)) (append_assoc s.left s.right z) ∙ behind_begins_not (k.control w.Table) (control_word w.Table) refl name_text b off n s.left (s.right ++ z) s.before

one_begins_not : (a b : Class) → ((t : Symbol) → of a t ≡ true → of b t ≡ false) → (t : Symbol) (u z : List Symbol) → one (of a) t u → starts (of b) (u ++ z) ≡ false
one_begins_not a b off t u z s = ap (λ v. starts (of b) (v ++ z)) s.1 ∙ off t s.0

showing_exact : (more : Symbol → Bool) (n : ℕ) → Exact showing_form more reading.showing n
unfolding reading.showing showing_form failures_or_more extents_or_journal
showing_exact more n =
    choose_exact (of (k.dashed d.MaterializedView)) view_form failures_or_more showing_form more (λ y u s. inl s) (λ y u s. inr s) (λ y u s. s)
    (λ y u z s stops. behind_begins (k.dashed d.MaterializedView) a_view refl name_text (k.dashed d.MaterializedView) (λ t h. h) s.value u z s.spelled)
    (λ y u z s stops. elim s [
      | inl s ↦ behind_begins_not (k.control w.Ingestion) (control_word w.Ingestion) refl (one (of (k.control w.Failures))) (k.dashed d.MaterializedView) (apart (k.control w.Ingestion) (k.dashed d.MaterializedView) refl) s.value u z s.spelled
      | inr (inl s) ↦ table_begins_not (k.dashed d.MaterializedView) (apart (k.control w.Table) (k.dashed d.MaterializedView) refl) s.value u z s.spelled
      | inr (inr s) ↦ one_begins_not (k.control w.Journal) (k.dashed d.MaterializedView) (apart (k.control w.Journal) (k.dashed d.MaterializedView) refl) s.value u z s.spelled
    ])
    n reading.shown_view (choose (of (k.control w.Ingestion)) reading.shown_failures (choose (of (k.control w.Table)) reading.shown_extents reading.shown_journal)) (shown_view_exact more n)
    (choose_exact (of (k.control w.Ingestion)) failures_form extents_or_journal failures_or_more more (λ y u s. inl s) (λ y u s. inr s) (λ y u s. s)
    (λ y u z s stops. behind_begins (k.control w.Ingestion) (control_word w.Ingestion) refl (one (of (k.control w.Failures))) (k.control w.Ingestion) (λ t h. h) s.value u z s.spelled)
    (λ y u z s stops. elim s [
      | inl s ↦ table_begins_not (k.control w.Ingestion) (apart (k.control w.Table) (k.control w.Ingestion) refl) s.value u z s.spelled
      | inr s ↦ one_begins_not (k.control w.Journal) (k.control w.Ingestion) (apart (k.control w.Journal) (k.control w.Ingestion) refl) s.value u z s.spelled
    ])
    n reading.shown_failures (choose (of (k.control w.Table)) reading.shown_extents reading.shown_journal) (shown_failures_exact more n)
    (choose_exact (of (k.control w.Table)) extents_form journal_form extents_or_journal more (λ y u s. inl s) (λ y u s. inr s) (λ y u s. s)
    (λ y u z s stops. table_begins (k.control w.Table) (λ t h. h) s.value u z s.spelled)
    (λ y u z s stops. one_begins_not (k.control w.Journal) (k.control w.Table) (apart (k.control w.Journal) (k.control w.Table) refl) s.value u z s.spelled)
    n reading.shown_extents reading.shown_journal (shown_extents_exact more n) (shown_journal_exact more n)))

showing_example : Example showing_form
unfolding showing_form failures_or_more extents_or_journal
showing_example = record { value = show_journal; text = control_word w.Journal ∷ []; spelled = inr (inr (inr (record { value = control_word w.Journal; is = refl; spelled = (refl, refl) }))) }

-- ---- tables that get columns

merged_form : ControlTree → Text
merged_form = Image (λ (q : Name × ColumnsTree). alter_merge q.0 q.1) columned

merged_exact : (more : Symbol → Bool) (n : ℕ) → Exact merged_form more ((λ q. alter_merge q.0 q.1) <$> reading.table_columns n) n
unfolding merged_form
merged_exact more n = image_exact (λ (q : Name × ColumnsTree). alter_merge q.0 q.1) columned more n (reading.table_columns n) (columned_exact more n)

merged_example : Example merged_form
unfolding merged_form
merged_example = image_example (λ (q : Name × ColumnsTree). alter_merge q.0 q.1) columned columned_example

-- ---- words before forms

abbrev word_then : Class → (ControlTree → Text) → ControlTree → Text
word_then a form y = some (of a) ⨾ form y

-- ---- what stands behind `#`

fold_form : ControlTree → Text
fold_form = Image fold name_text

merge_form : ControlTree → Text
merge_form = Image merge name_text

export_form : ControlTree → Text
export_form = Image (λ (q : Symbol × Option ExportTree). export q.0 q.1) (Then (one (of k.any_word)) (Maybe grammar.export_text))

exporting_exact : (n : ℕ) → Exact export_form (of hashed_goes_on) (reading.exporting n) n
unfolding reading.exporting export_form
exporting_exact n =
    image_exact (λ (q : Symbol × Option ExportTree). export q.0 q.1) (Then (one (of k.any_word)) (Maybe grammar.export_text)) (of hashed_goes_on) n (both (expect (of k.any_word)) (maybe (of (k.control w.Over)) (reading.export_definition n)))
    (both_exact (one (of k.any_word)) (Maybe grammar.export_text) nothing (of hashed_goes_on) (any_follows (Maybe grammar.export_text) (of hashed_goes_on)) n (expect (of k.any_word)) (maybe (of (k.control w.Over)) (reading.export_definition n)) (one_exact (of k.any_word) a_word refl nothing n)
    (maybe_exact grammar.export_text (of (k.control w.Over)) (of hashed_goes_on) (λ e u z s stops. export_begins e u z s) (λ t h. h) n (reading.export_definition n) (export_exact (of hashed_goes_on) n))
    (record { value = None; text = []; spelled = refl }))

export_example : Example export_form
unfolding export_form
export_example = image_example (λ (q : Symbol × Option ExportTree). export q.0 q.1) (Then (one (of k.any_word)) (Maybe grammar.export_text)) (record { value = (a_word, None); text = a_word ∷ []; spelled = record { left = a_word ∷ []; right = []; joined = refl; before = (refl, refl); after = refl } })

merge_or_export : ControlTree → Text
merge_or_export y u = word_then (k.control w.Merge) merge_form y u ⊎ word_then (k.control w.Export) export_form y u

hashed_form : ControlTree → Text
hashed_form y u = word_then (k.control w.Fold) fold_form y u ⊎ merge_or_export y u

hashed_exact : (n : ℕ) → Exact hashed_form (of hashed_goes_on) (reading.hashed n) n
unfolding reading.hashed hashed_form merge_or_export fold_form merge_form
hashed_exact n =
    choose_exact (of (k.control w.Fold)) (word_then (k.control w.Fold) fold_form) merge_or_export hashed_form (of hashed_goes_on) (λ y u s. inl s) (λ y u s. inr s) (λ y u s. s)
    (λ y u z s stops. behind_begins (k.control w.Fold) (control_word w.Fold) refl fold_form (k.control w.Fold) (λ t h. h) y u z s)
    (λ y u z s stops. elim s [
      | inl s ↦ behind_begins_not (k.control w.Merge) (control_word w.Merge) refl merge_form (k.control w.Fold) (apart (k.control w.Merge) (k.control w.Fold) refl) y u z s
      | inr s ↦ behind_begins_not (k.control w.Export) (control_word w.Export) refl export_form (k.control w.Fold) (apart (k.control w.Export) (k.control w.Fold) refl) y u z s
    ])
    n (skip (of (k.control w.Fold)) (fold <$> name)) (choose (of (k.control w.Merge)) (skip (of (k.control w.Merge)) (merge <$> name)) (skip (of (k.control w.Export)) (reading.exporting n)))
    (behind (k.control w.Fold) (control_word w.Fold) refl fold_form (of hashed_goes_on) n (fold <$> name) (image_exact fold name_text (of hashed_goes_on) n name (name_exact (of hashed_goes_on) n)) (image_example fold name_text name_example))
    (choose_exact (of (k.control w.Merge)) (word_then (k.control w.Merge) merge_form) (word_then (k.control w.Export) export_form) merge_or_export (of hashed_goes_on) (λ y u s. inl s) (λ y u s. inr s) (λ y u s. s)
    (λ y u z s stops. behind_begins (k.control w.Merge) (control_word w.Merge) refl merge_form (k.control w.Merge) (λ t h. h) y u z s)
    (λ y u z s stops. behind_begins_not (k.control w.Export) (control_word w.Export) refl export_form (k.control w.Merge) (apart (k.control w.Export) (k.control w.Merge) refl) y u z s)
    n (skip (of (k.control w.Merge)) (merge <$> name)) (skip (of (k.control w.Export)) (reading.exporting n))
    (behind (k.control w.Merge) (control_word w.Merge) refl merge_form (of hashed_goes_on) n (merge <$> name) (image_exact merge name_text (of hashed_goes_on) n name (name_exact (of hashed_goes_on) n)) (image_example merge name_text name_example))
    (behind (k.control w.Export) (control_word w.Export) refl export_form (of hashed_goes_on) n (reading.exporting n) (exporting_exact n) export_example))

hashed_example : Example hashed_form
unfolding hashed_form fold_form
hashed_example = let e = behind_example (k.control w.Fold) (control_word w.Fold) refl fold_form (image_example fold name_text name_example) in record { value = e.value; text = e.text; spelled = inl e.spelled }

-- ---- what stands behind `.create`

table_form : ControlTree → Text
table_form = Image (λ (q : Name × ColumnsTree). create_table q.0 q.1) columned

made_form : ControlTree → Text
made_form = Image create_view grammar.view_text

creation_form : ControlTree → Text
creation_form y u = table_form y u ⊎ made_form y u

view_begins_not : (b : Class) → ((t : Symbol) → of begins_view t ≡ true → of b t ≡ false) → (y : ViewTree) (u z : List Symbol) → grammar.view_text y u → starts (of b) (u ++ z) ≡ false
view_begins_not b off y u z s = turned (u ++ z) (view_begins y u z s) where
  turned : (ts : List Symbol) → starts (of begins_view) ts ≡ true → starts (of b) ts ≡ false
  turned [] h = refl
  turned (t ∷ ts) h = off t h

creation_exact : (more : Symbol → Bool) (n : ℕ) → Exact creation_form more (reading.creation n) n
unfolding reading.creation creation_form table_form made_form
creation_exact more n =
    choose_exact (of (k.control w.Table)) table_form made_form creation_form more (λ y u s. inl s) (λ y u s. inr s) (λ y u s. s)
    (λ y u z s stops. behind_begins (k.control w.Table) (control_word w.Table) refl (λ (q : Name × ColumnsTree). ◌⨾◌ (name_text q.0) (grammar.in_parentheses (columns_text q.1))) (k.control w.Table) (λ t h. h) s.value u z s.spelled)
    (λ y u z s stops. view_begins_not (k.control w.Table) (apart begins_view (k.control w.Table) refl) s.value u z s.spelled)
    n ((λ q. create_table q.0 q.1) <$> reading.table_columns n) (create_view <$> reading.view n)
    (image_exact (λ (q : Name × ColumnsTree). create_table q.0 q.1) columned more n (reading.table_columns n) (columned_exact more n))
    (image_exact create_view grammar.view_text more n (reading.view n) (view_exact more n))

creation_example : Example creation_form
unfolding creation_form table_form
creation_example = let e = image_example (λ (q : Name × ColumnsTree). create_table q.0 q.1) columned columned_example in record { value = e.value; text = e.text; spelled = inl e.spelled }

-- ---- what stands behind `.`

abbrev create : ControlTree → Text
create = word_then (k.control w.Create) creation_form

abbrev ingesting : ControlTree → Text
ingesting = word_then (k.control w.Ingest) ingestion_form

abbrev altering : ControlTree → Text
altering = word_then (k.control w.Alter) policy_form

abbrev merging : ControlTree → Text
merging = word_then (k.dashed d.AlterMerge) merged_form

abbrev showing : ControlTree → Text
showing = word_then (k.control w.Show) showing_form

merging_or_more : ControlTree → Text
merging_or_more y u = merging y u ⊎ showing y u

altering_or_more : ControlTree → Text
altering_or_more y u = altering y u ⊎ merging_or_more y u

ingesting_or_more : ControlTree → Text
ingesting_or_more y u = ingesting y u ⊎ altering_or_more y u

dotted_form : ControlTree → Text
dotted_form y u = create y u ⊎ ingesting_or_more y u

abbrev a_merge : Symbol
a_merge = example_of (kind.DashedWord d.AlterMerge)

module _ (b : Class) where
  merging_begin_not : ((t : Symbol) → of (k.dashed d.AlterMerge) t ≡ true → of b t ≡ false) → ((t : Symbol) → of (k.control w.Show) t ≡ true → of b t ≡ false) → (y : ControlTree) (u z : List Symbol) → merging_or_more y u → starts (of b) (u ++ z) ≡ false
  unfolding merging_or_more
  merging_begin_not merges shows y u z (inl s) = behind_begins_not (k.dashed d.AlterMerge) a_merge refl merged_form b merges y u z s
  merging_begin_not merges shows y u z (inr s) = behind_begins_not (k.control w.Show) (control_word w.Show) refl showing_form b shows y u z s

  altering_begin_not : ((t : Symbol) → of (k.control w.Alter) t ≡ true → of b t ≡ false) → ((t : Symbol) → of (k.dashed d.AlterMerge) t ≡ true → of b t ≡ false) → ((t : Symbol) → of (k.control w.Show) t ≡ true → of b t ≡ false) → (y : ControlTree) (u z : List Symbol) → altering_or_more y u → starts (of b) (u ++ z) ≡ false
  unfolding altering_or_more
  altering_begin_not alters merges shows y u z (inl s) = behind_begins_not (k.control w.Alter) (control_word w.Alter) refl policy_form b alters y u z s
  altering_begin_not alters merges shows y u z (inr s) = merging_begin_not merges shows y u z s

  ingesting_begin_not : ((t : Symbol) → of (k.control w.Ingest) t ≡ true → of b t ≡ false) → ((t : Symbol) → of (k.control w.Alter) t ≡ true → of b t ≡ false) → ((t : Symbol) → of (k.dashed d.AlterMerge) t ≡ true → of b t ≡ false) → ((t : Symbol) → of (k.control w.Show) t ≡ true → of b t ≡ false) → (y : ControlTree) (u z : List Symbol) → ingesting_or_more y u → starts (of b) (u ++ z) ≡ false
  unfolding ingesting_or_more
  ingesting_begin_not ingests alters merges shows y u z (inl s) = behind_begins_not (k.control w.Ingest) (control_word w.Ingest) refl ingestion_form b ingests y u z s
  ingesting_begin_not ingests alters merges shows y u z (inr s) = altering_begin_not alters merges shows y u z s

dotted_exact : (more : Symbol → Bool) (n : ℕ) → Exact dotted_form more (reading.dotted n) n
unfolding reading.dotted dotted_form ingesting_or_more altering_or_more merging_or_more
dotted_exact more n =
    choose_exact (of (k.control w.Create)) create ingesting_or_more dotted_form more (λ y u s. inl s) (λ y u s. inr s) (λ y u s. s)
    (λ y u z s stops. behind_begins (k.control w.Create) (control_word w.Create) refl creation_form (k.control w.Create) (λ t h. h) y u z s)
    (λ y u z s stops. ingesting_begin_not (k.control w.Create) (apart (k.control w.Ingest) (k.control w.Create) refl) (apart (k.control w.Alter) (k.control w.Create) refl) (apart (k.dashed d.AlterMerge) (k.control w.Create) refl) (apart (k.control w.Show) (k.control w.Create) refl) y u z s)
    n (skip (of (k.control w.Create)) (reading.creation n)) others₁
    (behind (k.control w.Create) (control_word w.Create) refl creation_form more n (reading.creation n) (creation_exact more n) creation_example)
    (choose_exact (of (k.control w.Ingest)) ingesting altering_or_more ingesting_or_more more (λ y u s. inl s) (λ y u s. inr s) (λ y u s. s)
    (λ y u z s stops. behind_begins (k.control w.Ingest) (control_word w.Ingest) refl ingestion_form (k.control w.Ingest) (λ t h. h) y u z s)
    (λ y u z s stops. altering_begin_not (k.control w.Ingest) (apart (k.control w.Alter) (k.control w.Ingest) refl) (apart (k.dashed d.AlterMerge) (k.control w.Ingest) refl) (apart (k.control w.Show) (k.control w.Ingest) refl) y u z s)
    n (skip (of (k.control w.Ingest)) (reading.ingestion n)) others₂
    (behind (k.control w.Ingest) (control_word w.Ingest) refl ingestion_form more n (reading.ingestion n) (ingestion_exact more n) ingestion_example)
    (choose_exact (of (k.control w.Alter)) altering merging_or_more altering_or_more more (λ y u s. inl s) (λ y u s. inr s) (λ y u s. s)
    (λ y u z s stops. behind_begins (k.control w.Alter) (control_word w.Alter) refl policy_form (k.control w.Alter) (λ t h. h) y u z s)
    (λ y u z s stops. merging_begin_not (k.control w.Alter) (apart (k.dashed d.AlterMerge) (k.control w.Alter) refl) (apart (k.control w.Show) (k.control w.Alter) refl) y u z s)
    n (skip (of (k.control w.Alter)) reading.policy) others₃
    (behind (k.control w.Alter) (control_word w.Alter) refl policy_form more n reading.policy (policy_exact more n) policy_example)
    (choose_exact (of (k.dashed d.AlterMerge)) merging showing merging_or_more more (λ y u s. inl s) (λ y u s. inr s) (λ y u s. s)
    (λ y u z s stops. behind_begins (k.dashed d.AlterMerge) a_merge refl merged_form (k.dashed d.AlterMerge) (λ t h. h) y u z s)
    (λ y u z s stops. behind_begins_not (k.control w.Show) (control_word w.Show) refl showing_form (k.dashed d.AlterMerge) (apart (k.control w.Show) (k.dashed d.AlterMerge) refl) y u z s)
    n (skip (of (k.dashed d.AlterMerge)) ((λ q. alter_merge q.0 q.1) <$> reading.table_columns n)) (skip (of (k.control w.Show)) reading.showing)
    (behind (k.dashed d.AlterMerge) a_merge refl merged_form more n ((λ q. alter_merge q.0 q.1) <$> reading.table_columns n) (merged_exact more n) merged_example)
    (behind (k.control w.Show) (control_word w.Show) refl showing_form more n reading.showing (showing_exact more n) showing_example)))) where
      others₃ : Parser Symbol ControlTree
      others₃ = choose (of (k.dashed d.AlterMerge)) (skip (of (k.dashed d.AlterMerge)) ((λ q. alter_merge q.0 q.1) <$> reading.table_columns n)) (skip (of (k.control w.Show)) reading.showing)

      others₂ : Parser Symbol ControlTree
      others₂ = choose (of (k.control w.Alter)) (skip (of (k.control w.Alter)) reading.policy) others₃

      others₁ : Parser Symbol ControlTree
      others₁ = choose (of (k.control w.Ingest)) (skip (of (k.control w.Ingest)) (reading.ingestion n)) others₂

dotted_example : Example dotted_form
unfolding dotted_form
dotted_example = let e = behind_example (k.control w.Create) (control_word w.Create) refl creation_form creation_example in record { value = e.value; text = e.text; spelled = inl e.spelled }

-- ---- commands

abbrev dot_then : ControlTree → Text
dot_then c = some (of k.dot) ⨾ dotted_form c

abbrev hash_then : ControlTree → Text
hash_then c = some (of (k.sign p.Hash)) ⨾ hashed_form c

-- what stands behind the sign, constructor by constructor
from_dotted : (c : ControlTree) (u left right : List Symbol) → u ≡ left ++ right → some (of k.dot) left → dotted_form c right → grammar.control_text c u
unfolding dotted_form ingesting_or_more altering_or_more merging_or_more creation_form table_form made_form ingestion_form policy_form merged_form showing_form failures_or_more extents_or_journal
from_dotted c u left right e sign (inl s) = made s.after where
  made : creation_form c s.right → grammar.control_text c u
  made (inl i) = subst (λ v. grammar.control_text v u) (sym i.is) (record { left = left; right = right; joined = e; before = sign; after = record { left = s.left; right = s.right; joined = s.joined; before = s.before; after = i.spelled } })
  made (inr i) = subst (λ v. grammar.control_text v u) (sym i.is) (record { left = left; right = right; joined = e; before = sign; after = record { left = s.left; right = s.right; joined = s.joined; before = s.before; after = i.spelled } })
from_dotted c u left right e sign (inr (inl s)) = let i = s.after in subst (λ v. grammar.control_text v u) (sym i.is) (record { left = left; right = right; joined = e; before = sign; after = record { left = s.left; right = s.right; joined = s.joined; before = s.before; after = i.spelled } })
from_dotted c u left right e sign (inr (inr (inl s))) = let i = s.after in subst (λ v. grammar.control_text v u) (sym i.is) (record { left = left; right = right; joined = e; before = sign; after = record { left = s.left; right = s.right; joined = s.joined; before = s.before; after = i.spelled } })
from_dotted c u left right e sign (inr (inr (inr (inl s)))) = let i = s.after in subst (λ v. grammar.control_text v u) (sym i.is) (record { left = left; right = right; joined = e; before = sign; after = record { left = s.left; right = s.right; joined = s.joined; before = s.before; after = i.spelled } })
from_dotted c u left right e sign (inr (inr (inr (inr s)))) = shown s.after where
  shown : showing_form c s.right → grammar.control_text c u
  shown (inl i) = subst (λ v. grammar.control_text v u) (sym i.is) (record { left = left; right = right; joined = e; before = sign; after = record { left = s.left; right = s.right; joined = s.joined; before = s.before; after = i.spelled } })
  shown (inr (inl i)) = subst (λ v. grammar.control_text v u) (sym i.is) (record { left = left; right = right; joined = e; before = sign; after = record { left = s.left; right = s.right; joined = s.joined; before = s.before; after = record { left = i.spelled.left; right = i.spelled.right; joined = i.spelled.joined; before = i.spelled.before; after = (i.value, i.spelled.after) } } })
  shown (inr (inr (inl i))) = subst (λ v. grammar.control_text v u) (sym i.is) (record { left = left; right = right; joined = e; before = sign; after = record { left = s.left; right = s.right; joined = s.joined; before = s.before; after = i.spelled } })
  shown (inr (inr (inr i))) = subst (λ v. grammar.control_text v u) (sym i.is) (record { left = left; right = right; joined = e; before = sign; after = record { left = s.left; right = s.right; joined = s.joined; before = s.before; after = (i.value, i.spelled) } })

from_hashed : (c : ControlTree) (u left right : List Symbol) → u ≡ left ++ right → some (of (k.sign p.Hash)) left → hashed_form c right → grammar.control_text c u
unfolding hashed_form merge_or_export fold_form merge_form export_form
from_hashed c u left right e sign (inl s) = let i = s.after in subst (λ v. grammar.control_text v u) (sym i.is) (record { left = left; right = right; joined = e; before = sign; after = record { left = s.left; right = s.right; joined = s.joined; before = s.before; after = i.spelled } })
from_hashed c u left right e sign (inr (inl s)) = let i = s.after in subst (λ v. grammar.control_text v u) (sym i.is) (record { left = left; right = right; joined = e; before = sign; after = record { left = s.left; right = s.right; joined = s.joined; before = s.before; after = i.spelled } })
from_hashed c u left right e sign (inr (inr s)) = let i = s.after in subst (λ v. grammar.control_text v u) (sym i.is) (record { left = left; right = right; joined = e; before = sign; after = record { left = s.left; right = s.right; joined = s.joined; before = s.before; after = i.spelled } })

abbrev control_cases : ControlTree → List Symbol → Type 0
control_cases c u = dot_then c u ⊎ hash_then c u

cases_of : (c : ControlTree) (u : List Symbol) → grammar.control_text c u → control_cases c u
unfolding dotted_form ingesting_or_more altering_or_more merging_or_more creation_form table_form made_form ingestion_form policy_form merged_form showing_form failures_or_more extents_or_journal hashed_form merge_or_export fold_form merge_form export_form
cases_of (create_table n cs) u s = inl (record { left = s.left; right = s.right; joined = s.joined; before = s.before; after = inl (record { left = s.after.left; right = s.after.right; joined = s.after.joined; before = s.after.before; after = inl (record { value = (n, cs); is = refl; spelled = s.after.after }) }) })
cases_of (create_view v) u s = inl (record { left = s.left; right = s.right; joined = s.joined; before = s.before; after = inl (record { left = s.after.left; right = s.after.right; joined = s.after.joined; before = s.after.before; after = inr (record { value = v; is = refl; spelled = s.after.after }) }) })
cases_of (ingest n ps t) u s = inl (record { left = s.left; right = s.right; joined = s.joined; before = s.before; after = inr (inl (record { left = s.after.left; right = s.after.right; joined = s.after.joined; before = s.after.before; after = record { value = (n, (ps, t)); is = refl; spelled = s.after.after } })) })
cases_of (set_policy n t) u s = inl (record { left = s.left; right = s.right; joined = s.joined; before = s.before; after = inr (inr (inl (record { left = s.after.left; right = s.after.right; joined = s.after.joined; before = s.after.before; after = record { value = (n, t); is = refl; spelled = s.after.after } }))) })
cases_of (alter_merge n cs) u s = inl (record { left = s.left; right = s.right; joined = s.joined; before = s.before; after = inr (inr (inr (inl (record { left = s.after.left; right = s.after.right; joined = s.after.joined; before = s.after.before; after = record { value = (n, cs); is = refl; spelled = s.after.after } })))) })
cases_of (show_view n) u s = inl (record { left = s.left; right = s.right; joined = s.joined; before = s.before; after = inr (inr (inr (inr (record { left = s.after.left; right = s.after.right; joined = s.after.joined; before = s.after.before; after = inl (record { value = n; is = refl; spelled = s.after.after }) })))) })
cases_of show_failures u s = inl (record { left = s.left; right = s.right; joined = s.joined; before = s.before; after = inr (inr (inr (inr (record { left = s.after.left; right = s.after.right; joined = s.after.joined; before = s.after.before; after = inr (inl (record { value = s.after.after.after.0; is = refl; spelled = record { left = s.after.after.left; right = s.after.after.right; joined = s.after.after.joined; before = s.after.after.before; after = s.after.after.after.1 } })) })))) })
cases_of (show_extents n) u s = inl (record { left = s.left; right = s.right; joined = s.joined; before = s.before; after = inr (inr (inr (inr (record { left = s.after.left; right = s.after.right; joined = s.after.joined; before = s.after.before; after = inr (inr (inl (record { value = n; is = refl; spelled = s.after.after }))) })))) })
cases_of show_journal u s = inl (record { left = s.left; right = s.right; joined = s.joined; before = s.before; after = inr (inr (inr (inr (record { left = s.after.left; right = s.after.right; joined = s.after.joined; before = s.after.before; after = inr (inr (inr (record { value = s.after.after.0; is = refl; spelled = s.after.after.1 }))) })))) })
cases_of (fold n) u s = inr (record { left = s.left; right = s.right; joined = s.joined; before = s.before; after = inl (record { left = s.after.left; right = s.after.right; joined = s.after.joined; before = s.after.before; after = record { value = n; is = refl; spelled = s.after.after } }) })
cases_of (merge n) u s = inr (record { left = s.left; right = s.right; joined = s.joined; before = s.before; after = inr (inl (record { left = s.after.left; right = s.after.right; joined = s.after.joined; before = s.after.before; after = record { value = n; is = refl; spelled = s.after.after } })) })
cases_of (export t e) u s = inr (record { left = s.left; right = s.right; joined = s.joined; before = s.before; after = inr (inr (record { left = s.after.left; right = s.after.right; joined = s.after.joined; before = s.after.before; after = record { value = (t, e); is = refl; spelled = s.after.after } })) })

abbrev dotted_statement : StatementTree → Text
dotted_statement = Image control_tree dot_then

abbrev hashed_statement : StatementTree → Text
hashed_statement = Image control_tree hash_then

abbrev queried : StatementTree → Text
queried = Image query_tree query_text

abbrev hashed_or_query : StatementTree → Text
hashed_or_query y u = hashed_statement y u ⊎ queried y u

abbrev a_dot : Symbol
a_dot = example_of (kind.Punctuation p.Dot)

abbrev a_hash : Symbol
a_hash = example_of (kind.Punctuation p.Hash)

dotted_to : (y : StatementTree) (u : List Symbol) → dotted_statement y u → grammar.statement_text y u
dotted_to y u s = subst (λ v. grammar.statement_text v u) (sym s.is) (from_dotted s.value u s.spelled.left s.spelled.right s.spelled.joined s.spelled.before s.spelled.after)

others_to : (y : StatementTree) (u : List Symbol) → hashed_or_query y u → grammar.statement_text y u
others_to y u (inl s) = subst (λ v. grammar.statement_text v u) (sym s.is) (from_hashed s.value u s.spelled.left s.spelled.right s.spelled.joined s.spelled.before s.spelled.after)
others_to y u (inr s) = subst (λ v. grammar.statement_text v u) (sym s.is) s.spelled

statement_cases : (y : StatementTree) (u : List Symbol) → grammar.statement_text y u → dotted_statement y u ⊎ hashed_or_query y u
statement_cases (query_tree q) u s = inr (inr (record { value = q; is = refl; spelled = s }))
statement_cases (control_tree c) u s = elim (cases_of c u s) [
  | inl h ↦ inl (record { value = c; is = refl; spelled = h })
  | inr h ↦ inr (inl (record { value = c; is = refl; spelled = h }))
]

let_begins : (l : LetTree) (u z : List Symbol) → let_text l u → starts (of begins_query) (u ++ z) ≡ true
let_begins l u z s = ap (λ v. starts (of begins_query) (v ++ z)) (s.joined ∙ ap (λ v. v ++ s.right) s.before.1.1) ∙ part (k.reserved r.Let) begins_query refl s.before.0 s.before.1.0

rows_begin : (q : QueryTree) (u z : List Symbol) → ◌⨾◌ (tabular_text q.tabular) query_end u → starts (of begins_query) (u ++ z) ≡ true
rows_begin q u z s = starts_part k.begins_tabular begins_query (part k.begins_tabular begins_query refl) (u ++ z) (front_leads (of k.begins_tabular) u s.left s.right z s.joined (λ v. tabular_begins q.tabular s.left v s.before))

lets_begin : (ls : List LetTree) (q : QueryTree) (u left right z : List Symbol) → u ≡ left ++ right → Many let_text ls left → ◌⨾◌ (tabular_text q.tabular) query_end right → starts (of begins_query) (u ++ z) ≡ true
lets_begin [] q u left right z e s rows = ap (λ v. starts (of begins_query) (v ++ z)) (e ∙ ap (λ v. v ++ right) s) ∙ rows_begin q right z rows
lets_begin (l ∷ ls) q u left right z e s rows = front_leads (of begins_query) u left right z e (λ v. front_leads (of begins_query) left s.0 s.1 v s.2 (λ x. let_begins l s.0 x s.3))

query_begins : (q : QueryTree) (u z : List Symbol) → query_text q u → starts (of begins_query) (u ++ z) ≡ true
query_begins q u z s = lets_begin q.lets q u s.left s.right z s.joined s.before s.after

query_begins_not : (b : Class) → ((t : Symbol) → of begins_query t ≡ true → of b t ≡ false) → (q : QueryTree) (u z : List Symbol) → query_text q u → starts (of b) (u ++ z) ≡ false
query_begins_not b off q u z s = turned (u ++ z) (query_begins q u z s) where
  turned : (ts : List Symbol) → starts (of begins_query) ts ≡ true → starts (of b) ts ≡ false
  turned [] h = refl
  turned (t ∷ ts) h = off t h

pub statement_exact : (n : ℕ) → Exact grammar.statement_text (of statement_goes_on) (reading.statement n) n
unfolding reading.statement
statement_exact n =
    choose_exact (of k.dot) dotted_statement hashed_or_query grammar.statement_text (of statement_goes_on) dotted_to others_to statement_cases
    (λ y u z s stops. behind_begins k.dot a_dot refl dotted_form k.dot (λ t h. h) s.value u z s.spelled)
    (λ y u z s stops. elim s [
      | inl s ↦ behind_begins_not (k.sign p.Hash) a_hash refl hashed_form k.dot (apart (k.sign p.Hash) k.dot refl) s.value u z s.spelled
      | inr s ↦ query_begins_not k.dot (apart begins_query k.dot refl) s.value u z s.spelled
    ])
    n (control_tree <$> skip (of k.dot) (reading.dotted n)) (choose (of (k.sign p.Hash)) (control_tree <$> skip (of (k.sign p.Hash)) (reading.hashed n)) (query_tree <$> query n))
    (image_exact control_tree dot_then (of statement_goes_on) n (skip (of k.dot) (reading.dotted n))
    (behind k.dot a_dot refl dotted_form (of statement_goes_on) n (reading.dotted n) (dotted_exact (of statement_goes_on) n) dotted_example))
    (choose_exact (of (k.sign p.Hash)) hashed_statement queried hashed_or_query (of statement_goes_on) (λ y u s. inl s) (λ y u s. inr s) (λ y u s. s)
    (λ y u z s stops. behind_begins (k.sign p.Hash) a_hash refl hashed_form (k.sign p.Hash) (λ t h. h) s.value u z s.spelled)
    (λ y u z s stops. query_begins_not (k.sign p.Hash) (apart begins_query (k.sign p.Hash) refl) s.value u z s.spelled)
    n (control_tree <$> skip (of (k.sign p.Hash)) (reading.hashed n)) (query_tree <$> query n)
    (image_exact control_tree hash_then (of statement_goes_on) n (skip (of (k.sign p.Hash)) (reading.hashed n))
    (behind (k.sign p.Hash) a_hash refl hashed_form (of statement_goes_on) n (reading.hashed n)
    (wider_exact hashed_form (of hashed_goes_on) (of statement_goes_on) (within statement_goes_on hashed_goes_on refl) n (reading.hashed n) (hashed_exact n)) hashed_example))
    (image_exact query_tree query_text (of statement_goes_on) n (query n)
    (wider_exact query_text (of query_goes_on) (of statement_goes_on) (within statement_goes_on query_goes_on refl) n (query n) (query_exact n))))
