-- The readers of views, exports and their bodies are exact.
use Rattle.std.proofs.Common.{◌≡◌, ℕ, Bool, true, false, ◌||◌, List, [], ◌∷◌, ◌++◌, ◌⊎◌, inl, inr, Option, Some, None, refl, sym, ◌∙◌, ap, subst, append_assoc, append-nil, arith}
use Rattle.kq_read_control.proofs.PartLaws.{control_word, behind, behind_example, behind_begins, any_follows, list_text, property_list_exact, table_text, table_exact, table_example, then_example}
use Rattle.kq_read_control.specs.ControlReading as reading
use Rattle.kq_read_control.specs.ControlTrees.{PropertiesTree, BodyTree, ViewTree, ExportTree}
use Rattle.kq_read_control.specs.Controls as grammar
use Rattle.kq_read_expressions.proofs.NameLaws.{example_of, a_word, name_exact, name_example, one_leads, front_leads}
use Rattle.kq_read_expressions.specs.Reading.{name}
use Rattle.kq_read_grammar.specs.declared.expression.Name.{Name}
use Rattle.kq_read_grammar.specs.declared.expression.Name.TheVariants as shown
use Rattle.kq_read_grammar.specs.Expressions.{Text, name_text}
use Rattle.kq_read_grammar.specs.Tabulars.{tabular_text}
use Rattle.kq_read_queries.proofs.TabularLaws.{tabular_exact, tabular_example, tabular_begins}
use Rattle.kq_read_queries.proofs.Following.{tabular_goes_on}
use Rattle.kq_read_queries.specs.Reading.{tabular}
use Rattle.kq_read_symbols.specs.declared.kind.Kind.TheVariants as kind
use Rattle.kq_read_symbols.specs.declared.kind.Symbol.{Symbol}
use Rattle.kq_read_symbols.specs.declared.word.ClauseWord.TheVariants as l
use Rattle.kq_read_symbols.specs.declared.word.ControlWord.{ControlWord}
use Rattle.kq_read_symbols.specs.declared.word.ControlWord.TheVariants as w
use Rattle.kq_read_symbols.specs.declared.word.Word.TheVariants as word
use Rattle.kq_read_tokens.specs.declared.kind.DashedWord.TheVariants as d
use Rattle.kq_read_tokens.specs.declared.kind.Punctuation.TheVariants as p
use Rattle.kq_read_symbols.specs.Classes as k
use Rattle.kq_read_symbols.specs.Classes.{Class, of}
use Rattle.kq_read_symbols.specs.Forms.{one, some, ◌⨾◌, Maybe, starts, pure, expect, bind, both, ◌<$>◌, skip, closed}
use Rattle.kq_read_symbols.proofs.Forms.{Bind, Then, Image}
use Rattle.kq_read_symbols.specs.Located.{SpellsLocated}
use Rattle.kq_read_symbols.proofs.ClassLemmas.{apart, within, part}
use Rattle.kq_read_symbols.proofs.Laws.{Exact, Example, nothing, stops_starts, starts_stops, bind_exact, both_exact, image_exact, same_exact, pure_exact, one_exact, choose_exact, maybe_exact, closed_exact, closed_example}
use Rattle.kq_read_symbols.proofs.OtherwiseLaws.{otherwise, choose_otherwise}
use Rattle.kq_read_symbols.proofs.LocatedLaws.{spanned_exact, spanned_example}

-- ---- a view's properties and name

abbrev with_word : Class
with_word = k.control w.With

abbrev viewed_text : Option PropertiesTree × Name → Text
viewed_text q = Maybe grammar.properties_text q.0 ⨾ name_text q.1

-- with these a view's name goes on, which may be the word `with`
abbrev viewed_goes_on : Class
viewed_goes_on x = with_word x || k.open_parenthesis x

abbrev given : Option PropertiesTree × Name → Text
given = Image (λ (q : PropertiesTree × Name). (Some q.0, q.1)) (Then list_text name_text)

abbrev bare : Symbol → Option PropertiesTree × Name → Text
bare t q u = (q ≡ (None, shown.Word t)) × (u ≡ [])

abbrev behind_text : Symbol → Option PropertiesTree × Name → Text
behind_text t q u = given q u ⊎ bare t q u

given_exact : (n : ℕ) → Exact given (of viewed_goes_on) ((λ q. (Some q.0, q.1)) <$> both (reading.property_list n) name) n
given_exact n =
    image_exact (λ (q : PropertiesTree × Name). (Some q.0, q.1)) (Then list_text name_text) (of viewed_goes_on) n (both (reading.property_list n) name)
    (both_exact list_text name_text nothing (of viewed_goes_on) (any_follows name_text (of viewed_goes_on)) n (reading.property_list n) name (property_list_exact nothing n) (name_exact (of viewed_goes_on) n) name_example)

list_begins : (ps : PropertiesTree) (u z : List Symbol) → list_text ps u → starts (of k.open_parenthesis) (u ++ z) ≡ true
list_begins ps u z s = ap (λ v. starts (of k.open_parenthesis) (v ++ z)) (s.joined ∙ ap (λ v. v ++ s.right) s.before.1.1) ∙ s.before.1.0

behind_with_exact : (n : ℕ) (t : Symbol) → Exact (behind_text t) (of viewed_goes_on) (reading.behind_with n t) n
unfolding reading.behind_with
behind_with_exact n t =
    choose_exact (of k.open_parenthesis) given (bare t) (behind_text t) (of viewed_goes_on) (λ y u s. inl s) (λ y u s. inr s) (λ y u s. s)
    (λ y u z s stops. front_leads (of k.open_parenthesis) u s.spelled.left s.spelled.right z s.spelled.joined (λ v. list_begins s.value.0 s.spelled.left v s.spelled.before))
    (λ y u z s stops. ap (λ v. starts (of k.open_parenthesis) (v ++ z)) s.1 ∙ starts_stops (of k.open_parenthesis) (of viewed_goes_on) (within viewed_goes_on k.open_parenthesis refl) z stops)
    n ((λ q. (Some q.0, q.1)) <$> both (reading.property_list n) name) (pure (None, shown.Word t)) (given_exact n)
    (pure_exact (None, shown.Word t) (bare t) (of viewed_goes_on) (refl, refl) (λ y u s. s) n)

abbrev with_form : Option PropertiesTree × Name → Text
with_form = Image (λ (q : Symbol × (Option PropertiesTree × Name)). q.1) (Bind (one (of with_word)) behind_text)

with_exact : (n : ℕ) → Exact with_form (of viewed_goes_on) ((λ q. q.1) <$> bind (expect (of with_word)) (reading.behind_with n)) n
with_exact n =
    image_exact (λ (q : Symbol × (Option PropertiesTree × Name)). q.1) (Bind (one (of with_word)) behind_text) (of viewed_goes_on) n (bind (expect (of with_word)) (reading.behind_with n))
    (bind_exact (one (of with_word)) behind_text nothing (of viewed_goes_on) (λ t. any_follows (behind_text t) (of viewed_goes_on)) n n (λ t u s. omega arith) (expect (of with_word)) (reading.behind_with n) (one_exact (of with_word) (control_word w.With) refl nothing n) (behind_with_exact n) (λ t. record { value = (None, shown.Word t); text = []; spelled = inr (refl, refl) }))

abbrev named : Option PropertiesTree × Name → Text
named = Image (λ m. (None, m)) name_text

-- ---- the two readings are those of the form

from_given : (t : Symbol) (q : Option PropertiesTree × Name) (u left right : List Symbol) → u ≡ left ++ right → one (of with_word) t left → given q right → viewed_text q u
from_given t q u left right e one_with s =
    subst (λ v. viewed_text v u) (sym s.is) (record {
      left = left ++ s.spelled.left;
      right = s.spelled.right;
      joined = e ∙ ap (λ r. left ++ r) s.spelled.joined ∙ sym (append_assoc left s.spelled.left s.spelled.right);
      before = record { left = left; right = s.spelled.left; joined = refl; before = (t, one_with); after = s.spelled.before };
      after = s.spelled.after;
    })

from_bare : (t : Symbol) (q : Option PropertiesTree × Name) (u left right : List Symbol) → u ≡ left ++ right → one (of with_word) t left → bare t q right → viewed_text q u
from_bare t q u left right e one_with s =
    let all : u ≡ t ∷ [] = e ∙ ap (λ r. left ++ r) s.1 ∙ append-nil left ∙ one_with.1 in
    subst (λ v. viewed_text v u) (sym s.0) (record { left = []; right = u; joined = refl; before = refl; after = (part with_word k.bare_name refl t one_with.0, all) })

from_with : (q : Option PropertiesTree × Name) (u : List Symbol) → with_form q u → viewed_text q u
from_with q u s = by_case s.spelled.after where
  by_case : behind_text s.value.0 s.value.1 s.spelled.right → viewed_text q u
  by_case (inl g) = subst (λ v. viewed_text v u) (sym s.is) (from_given s.value.0 s.value.1 u s.spelled.left s.spelled.right s.spelled.joined s.spelled.before g)
  by_case (inr b) = subst (λ v. viewed_text v u) (sym s.is) (from_bare s.value.0 s.value.1 u s.spelled.left s.spelled.right s.spelled.joined s.spelled.before b)

from_named : (q : Option PropertiesTree × Name) (u : List Symbol) → named q u → viewed_text q u
from_named q u s = subst (λ v. viewed_text v u) (sym s.is) (record { left = []; right = u; joined = refl; before = refl; after = s.spelled })

abbrev viewed_cases : Option PropertiesTree × Name → List Symbol → Type 0
viewed_cases q u = with_form q u ⊎ otherwise (of with_word) named (of viewed_goes_on) q u

word_case : (t : Symbol) (u : List Symbol) (b : Bool) → of with_word t ≡ b → one (of k.bare_name) t u → viewed_cases (None, shown.Word t) u
word_case t u true h s = inl (record { value = (t, (None, shown.Word t)); is = refl; spelled = record { left = u; right = []; joined = sym (append-nil u); before = (h, s.1); after = inr (refl, refl) } })
word_case t u false h s = inr (record { value = shown.Word t; is = refl; spelled = s }, ap (starts (of with_word)) s.1 ∙ h)

name_case : (m : Name) (u : List Symbol) → name_text m u → viewed_cases (None, m) u
name_case (shown.Word t) u s = word_case t u (of with_word t) refl s
name_case (shown.Bracketed t x) u s = inr (record { value = shown.Bracketed t x; is = refl; spelled = s }, ap (starts (of with_word)) (s.joined ∙ ap (λ v. v ++ s.right) s.before.1) ∙ apart k.open_bracket with_word refl t s.before.0)

cases_of : (q : Option PropertiesTree × Name) (u : List Symbol) → viewed_text q u → viewed_cases q u
cases_of (None, m) u s = subst (viewed_cases (None, m)) (sym (s.joined ∙ ap (λ v. v ++ s.right) s.before)) (name_case m s.right s.after)
cases_of (Some ps, m) u s =
    let listed_part = s.before.right in
    inl (record {
      value = (s.before.before.0, (Some ps, m));
      is = refl;
      spelled = record {
        left = s.before.left;
        right = s.before.right ++ s.right;
        joined = s.joined ∙ ap (λ v. v ++ s.right) s.before.joined ∙ append_assoc s.before.left s.before.right s.right;
        before = s.before.before.1;
        after = inl (record { value = (ps, m); is = refl; spelled = record { left = s.before.right; right = s.right; joined = refl; before = s.before.after; after = s.after } });
      };
    })

pub viewed_exact : (n : ℕ) → Exact viewed_text (of viewed_goes_on) (reading.viewed n) n
unfolding reading.viewed
viewed_exact n =
    choose_otherwise (of with_word) with_form named viewed_text (of viewed_goes_on) from_with (λ q u s. from_named q u s.0) cases_of
    (λ q u z s stops. front_leads (of with_word) u s.spelled.left s.spelled.right z s.spelled.joined (λ v. one_leads with_word s.value.0 s.spelled.left v s.spelled.before))
    (within viewed_goes_on with_word refl)
    n ((λ q. q.1) <$> bind (expect (of with_word)) (reading.behind_with n)) ((λ m. (None, m)) <$> name) (with_exact n)
    (image_exact (λ m. (None, m)) name_text (of viewed_goes_on) n name (name_exact (of viewed_goes_on) n))
    (record { value = (None, shown.Word a_word); text = a_word ∷ []; spelled = (record { value = shown.Word a_word; is = refl; spelled = (refl, refl) }, refl) })

viewed_example : Example viewed_text
viewed_example = record { value = (None, shown.Word a_word); text = a_word ∷ []; spelled = record { left = []; right = a_word ∷ []; joined = refl; before = refl; after = (refl, refl) } }

-- ---- bodies in braces

abbrev an_open : Symbol
an_open = example_of (kind.Punctuation p.OpenBrace)

abbrev a_close : Symbol
a_close = example_of (kind.Punctuation p.CloseBrace)

abbrev closed_body : BodyTree → Text
closed_body b = SpellsLocated tabular_text b ⨾ some (of k.close_brace)

spanned_tabular_exact : (n : ℕ) → Exact (SpellsLocated tabular_text) (of tabular_goes_on) (reading.spanned_tabular n) n
unfolding reading.spanned_tabular
spanned_tabular_exact n = spanned_exact tabular_text (of k.begins_tabular) (of tabular_goes_on) tabular_begins n (tabular n) (tabular_exact n)

span_example : Example (SpellsLocated tabular_text)
span_example = spanned_example tabular_text (of k.begins_tabular) (of tabular_goes_on) tabular_begins tabular_example

pub body_exact : (more : Symbol → Bool) (n : ℕ) → Exact grammar.braced_text more (reading.body n) n
unfolding reading.body
body_exact more n =
    behind k.open_brace an_open refl closed_body more n (closed (reading.spanned_tabular n) (of k.close_brace))
    (closed_exact (of k.close_brace) a_close refl (SpellsLocated tabular_text) (of tabular_goes_on) more (apart k.close_brace tabular_goes_on refl) n (reading.spanned_tabular n) (spanned_tabular_exact n))
    (closed_example (of k.close_brace) a_close refl (SpellsLocated tabular_text) (of tabular_goes_on) span_example)

pub body_example : Example grammar.braced_text
body_example = behind_example k.open_brace an_open refl closed_body (closed_example (of k.close_brace) a_close refl (SpellsLocated tabular_text) (of tabular_goes_on) span_example)

-- ---- exports

abbrev over_text : Name → Text
over_text n = some (of (k.control w.Over)) ⨾ name_text n

abbrev export_form : ExportTree → Text
export_form = Image (λ (q : Name × BodyTree). record { table = q.0; body = q.1 }) (Then over_text grammar.braced_text)

pub export_exact : (more : Symbol → Bool) (n : ℕ) → Exact grammar.export_text more (reading.export_definition n) n
unfolding reading.export_definition
export_exact more n =
    same_exact export_form grammar.export_text more (λ y u s. subst (λ v. grammar.export_text v u) (sym s.is) s.spelled) (λ y u s. record { value = (y.table, y.body); is = refl; spelled = s }) n (reading.export_definition n)
    (image_exact (λ (q : Name × BodyTree). record { table = q.0; body = q.1 }) (Then over_text grammar.braced_text) more n (both (skip (of (k.control w.Over)) name) (reading.body n))
    (both_exact over_text grammar.braced_text nothing more (any_follows grammar.braced_text more) n (skip (of (k.control w.Over)) name) (reading.body n)
    (behind (k.control w.Over) (control_word w.Over) refl name_text nothing n name (name_exact nothing n) name_example)
    (body_exact more n) body_example))

pub export_begins : (e : ExportTree) (u z : List Symbol) → grammar.export_text e u → starts (of (k.control w.Over)) (u ++ z) ≡ true
export_begins e u z s = front_leads (of (k.control w.Over)) u s.left s.right z s.joined (λ v. behind_begins (k.control w.Over) (control_word w.Over) refl name_text (k.control w.Over) (λ t h. h) e.table s.left v s.before)

-- ---- views

abbrev made : Option PropertiesTree × Name → Text
made q = some (of (k.dashed d.MaterializedView)) ⨾ viewed_text q

abbrev on_text : Name → Text
on_text n = some (of (k.clause l.On)) ⨾ table_text n

abbrev a_made : Symbol
a_made = example_of (kind.DashedWord d.MaterializedView)

abbrev an_on : Symbol
an_on = example_of (kind.Word (word.Clause l.On))

abbrev tail_text : Name × BodyTree → Text
tail_text = Then on_text grammar.braced_text

abbrev named_text : (Option PropertiesTree × Name) × (Name × BodyTree) → Text
named_text = Then made tail_text

abbrev unless_text : Option Symbol × ((Option PropertiesTree × Name) × (Name × BodyTree)) → Text
unless_text = Then (Maybe (one (of (k.control w.IfNotExists)))) named_text

abbrev view_parts : Option Symbol × (Option Symbol × ((Option PropertiesTree × Name) × (Name × BodyTree))) → Text
view_parts = Then (Maybe (one (of (k.control w.Async)))) unless_text

word_if_exact : (a : ControlWord) → of (k.control a) (control_word a) ≡ true → (n : ℕ) → Exact (Maybe (one (of (k.control a)))) (of (k.control a)) (reading.word_if a) n
unfolding reading.word_if
word_if_exact a h n = maybe_exact (one (of (k.control a))) (of (k.control a)) (of (k.control a)) (λ t u z s stops. one_leads (k.control a) t u z s) (λ t h. h) n (expect (of (k.control a))) (one_exact (of (k.control a)) (control_word a) h (of (k.control a)) n)

named_begins : (y : (Option PropertiesTree × Name) × (Name × BodyTree)) (u z : List Symbol) → named_text y u → starts (of (k.dashed d.MaterializedView)) (u ++ z) ≡ true
named_begins y u z s = front_leads (of (k.dashed d.MaterializedView)) u s.left s.right z s.joined (λ v. behind_begins (k.dashed d.MaterializedView) a_made refl viewed_text (k.dashed d.MaterializedView) (λ t h. h) y.0 s.left v s.before)

tail_begins : (y : Name × BodyTree) (u z : List Symbol) → tail_text y u → starts (of (k.clause l.On)) (u ++ z) ≡ true
tail_begins y u z s = front_leads (of (k.clause l.On)) u s.left s.right z s.joined (λ v. behind_begins (k.clause l.On) an_on refl table_text (k.clause l.On) (λ t h. h) y.0 s.left v s.before)

abbrev begins_unless : Class
begins_unless x = k.control w.IfNotExists x || k.dashed d.MaterializedView x

unless_begins : (y : Option Symbol × ((Option PropertiesTree × Name) × (Name × BodyTree))) (u z : List Symbol) → unless_text y u → starts (of begins_unless) (u ++ z) ≡ true
unless_begins (None, y) u z s =
    let all : u ≡ s.right = s.joined ∙ ap (λ v. v ++ s.right) s.before in
    ap (λ v. starts (of begins_unless) (v ++ z)) all ∙ starts_part (s.right ++ z) (named_begins y s.right z s.after) where
      starts_part : (ts : List Symbol) → starts (of (k.dashed d.MaterializedView)) ts ≡ true → starts (of begins_unless) ts ≡ true
      starts_part [] h = let no : false ≡ true = h in cc
      starts_part (t ∷ ts) h = part (k.dashed d.MaterializedView) begins_unless refl t h
unless_begins (Some t, y) u z s = ap (λ v. starts (of begins_unless) (v ++ z)) (s.joined ∙ ap (λ v. v ++ s.right) s.before.1) ∙ part (k.control w.IfNotExists) begins_unless refl t s.before.0

tail_exact : (more : Symbol → Bool) (n : ℕ) → Exact tail_text more (both (skip (of (k.clause l.On)) reading.table_name) (reading.body n)) n
tail_exact more n =
    both_exact on_text grammar.braced_text nothing more (any_follows grammar.braced_text more) n (skip (of (k.clause l.On)) reading.table_name) (reading.body n)
    (behind (k.clause l.On) an_on refl table_text nothing n reading.table_name (table_exact nothing n) table_example)
    (body_exact more n) body_example

tail_example : Example tail_text
tail_example = then_example on_text grammar.braced_text (behind_example (k.clause l.On) an_on refl table_text table_example) body_example

named_exact : (more : Symbol → Bool) (n : ℕ) → Exact named_text more (both (skip (of (k.dashed d.MaterializedView)) (reading.viewed n)) (both (skip (of (k.clause l.On)) reading.table_name) (reading.body n))) n
named_exact more n =
    both_exact made tail_text (of viewed_goes_on) more (λ y v z s stops. stops_starts (of (k.clause l.On)) (of viewed_goes_on) (apart (k.clause l.On) viewed_goes_on refl) (v ++ z) (tail_begins y v z s)) n
    (skip (of (k.dashed d.MaterializedView)) (reading.viewed n)) (both (skip (of (k.clause l.On)) reading.table_name) (reading.body n))
    (behind (k.dashed d.MaterializedView) a_made refl viewed_text (of viewed_goes_on) n (reading.viewed n) (viewed_exact n) viewed_example)
    (tail_exact more n) tail_example

named_example : Example named_text
named_example = then_example made tail_text (behind_example (k.dashed d.MaterializedView) a_made refl viewed_text viewed_example) tail_example

unless_exact : (more : Symbol → Bool) (n : ℕ) → Exact unless_text more (both (reading.word_if w.IfNotExists) (both (skip (of (k.dashed d.MaterializedView)) (reading.viewed n)) (both (skip (of (k.clause l.On)) reading.table_name) (reading.body n)))) n
unless_exact more n =
    both_exact (Maybe (one (of (k.control w.IfNotExists)))) named_text (of (k.control w.IfNotExists)) more
    (λ y v z s stops. stops_starts (of (k.dashed d.MaterializedView)) (of (k.control w.IfNotExists)) (apart (k.dashed d.MaterializedView) (k.control w.IfNotExists) refl) (v ++ z) (named_begins y v z s)) n
    (reading.word_if w.IfNotExists) (both (skip (of (k.dashed d.MaterializedView)) (reading.viewed n)) (both (skip (of (k.clause l.On)) reading.table_name) (reading.body n)))
    (word_if_exact w.IfNotExists refl n) (named_exact more n) named_example

nothing_example : {A : Type 0} (form : A → Text) → Example (Maybe form)
nothing_example form = record { value = None; text = []; spelled = refl }

unless_example : Example unless_text
unless_example = then_example (Maybe (one (of (k.control w.IfNotExists)))) named_text (nothing_example (one (of (k.control w.IfNotExists)))) named_example

abbrev view_of : Option Symbol × (Option Symbol × ((Option PropertiesTree × Name) × (Name × BodyTree))) → ViewTree
view_of q = record { at_leisure = q.0; unless_there = q.1.0; properties = q.1.1.0.0; name = q.1.1.0.1; table = q.1.1.1.0; body = q.1.1.1.1 }

pub view_exact : (more : Symbol → Bool) (n : ℕ) → Exact grammar.view_text more (reading.view n) n
unfolding reading.view
view_exact more n =
    same_exact (Image view_of view_parts) grammar.view_text more (λ y u s. subst (λ v. grammar.view_text v u) (sym s.is) s.spelled)
    (λ y u s. record { value = (y.at_leisure, (y.unless_there, ((y.properties, y.name), (y.table, y.body)))); is = refl; spelled = s }) n (reading.view n)
    (image_exact view_of view_parts more n (both (reading.word_if w.Async) (both (reading.word_if w.IfNotExists) (both (skip (of (k.dashed d.MaterializedView)) (reading.viewed n)) (both (skip (of (k.clause l.On)) reading.table_name) (reading.body n)))))
    (both_exact (Maybe (one (of (k.control w.Async)))) unless_text (of (k.control w.Async)) more
    (λ y v z s stops. stops_starts (of begins_unless) (of (k.control w.Async)) (apart begins_unless (k.control w.Async) refl) (v ++ z) (unless_begins y v z s)) n
    (reading.word_if w.Async) (both (reading.word_if w.IfNotExists) (both (skip (of (k.dashed d.MaterializedView)) (reading.viewed n)) (both (skip (of (k.clause l.On)) reading.table_name) (reading.body n))))
    (word_if_exact w.Async refl n) (unless_exact more n) unless_example))

pub view_example : Example grammar.view_text
view_example =
    let e = then_example (Maybe (one (of (k.control w.Async)))) unless_text (nothing_example (one (of (k.control w.Async)))) unless_example in
    record { value = view_of e.value; text = e.text; spelled = e.spelled }

abbrev pub begins_view : Class
begins_view x = k.control w.Async x || begins_unless x

starts_view : (ts : List Symbol) → starts (of begins_unless) ts ≡ true → starts (of begins_view) ts ≡ true
starts_view [] h = let no : false ≡ true = h in cc
starts_view (t ∷ ts) h = part begins_unless begins_view refl t h

parts_begin : (y : Option Symbol × (Option Symbol × ((Option PropertiesTree × Name) × (Name × BodyTree)))) (u z : List Symbol) → view_parts y u → starts (of begins_view) (u ++ z) ≡ true
parts_begin (None, y) u z s =
    let all : u ≡ s.right = s.joined ∙ ap (λ v. v ++ s.right) s.before in
    ap (λ v. starts (of begins_view) (v ++ z)) all ∙ starts_view (s.right ++ z) (unless_begins y s.right z s.after)
parts_begin (Some t, y) u z s = ap (λ v. starts (of begins_view) (v ++ z)) (s.joined ∙ ap (λ v. v ++ s.right) s.before.1) ∙ part (k.control w.Async) begins_view refl t s.before.0

pub view_begins : (y : ViewTree) (u z : List Symbol) → grammar.view_text y u → starts (of begins_view) (u ++ z) ≡ true
view_begins y u z s = parts_begin (y.at_leisure, (y.unless_there, ((y.properties, y.name), (y.table, y.body)))) u z s
