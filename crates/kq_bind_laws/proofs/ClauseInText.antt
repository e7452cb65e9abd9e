-- The faults of what operators and sources are made of stand in the order of its text.
use Rattle.std.proofs.Common.{◌≡◌, ◌⊎◌, inl, inr, ℕ, ◌+◌, Bool, true, false, not, List, [], ◌∷◌, ◌++◌, map, append-nil, append_assoc, Option, Some, None, Ok, Err, refl, sym, ap, ◌∙◌, subst}
use Rattle.std.specs.Prelude.{◌&&◌, ◌||◌}
use Rattle.kq_bind_query.specs.kq_bind_operators.Operators.{new_name, old_name}
use Rattle.kq_bind_aggregates.specs.Arguments.{Argued, all_argued}
use Rattle.kq_bind_aggregates.specs.declared.function.AggregateFunction.{AggregateFunction}
use Rattle.kq_bind_aggregates.specs.Functions.{aggregate_named}
use Rattle.kq_bind_aggregates.specs.Gathered.{Gathering, aggregate_made}
use Rattle.kq_bind_aggregates.specs.Made.{made}
use Rattle.kq_bind_clauses.specs.Joins.{is_key}
use Rattle.kq_bind_clauses.specs.Ranges.{step_type, as_long}
use Rattle.kq_bind_clauses.specs.Tables.{put_column, signed_in, place_of as cell_place}
use Rattle.kq_bind_columns.specs.Chosen.{has_number, place_in, choose, chosen}
use Rattle.kq_bind_columns.specs.Defaults.{first_token}
use Rattle.kq_bind_columns.specs.Items.{field, Making, operand, item_made}
use Rattle.kq_bind_columns.specs.Naming.{is_taken}
use Rattle.kq_bind_columns.specs.Printed.{item_printed}
use Rattle.kq_bind_expressions.specs.Bound.{bound}
use Rattle.kq_bind_expressions.specs.Lookup.{first_named}
use Rattle.kq_bind_expressions.specs.Names.{Names}
use Rattle.kq_bind_expressions.specs.Verdicts.{Fault, Verdict, unsupported, unknown, mistyped, and_then}
use Rattle.kq_plan_expressions.specs.Terms.{Bound}
use Rattle.kq_read_grammar.specs.Clauses.{listed, names as names_text, item_text, items, key_text, argument_text, arguments_text, given_text, aggregate_text, renaming_text, join_key_text, column_text, columns_text, cell_text, more_cells, cells_text}
use Rattle.kq_read_grammar.specs.declared.clause.Cell.{Cell}
use Rattle.kq_read_grammar.specs.declared.clause.Column.{Column}
use Rattle.kq_read_grammar.specs.declared.clause.JoinKey.{JoinKey}
use Rattle.kq_read_grammar.specs.declared.clause.JoinKey.TheVariants as key
use Rattle.kq_read_grammar.specs.declared.expression.Name.{Name}
use Rattle.kq_read_grammar.specs.declared.expression.Name.TheVariants as shown
use Rattle.kq_read_grammar.specs.Expressions.{name_text, spells}
use Rattle.kq_read_grammar.specs.Trees.{Tree, name, literal, group, call, path, signed, compare, within, between, chain, ItemTree, plain, named, KeyTree, ArgumentTree, value, all, AggregateTree}
use Rattle.kq_read_meanings.specs.Literals.{literal_value}
use Rattle.kq_read_meanings.specs.Names.{name_said, name_place}
use Rattle.kq_read_meanings.specs.Pieces.{piece}
use Rattle.kq_read_meanings.specs.Types.{ty_of}
use Rattle.kq_read_symbols.specs.Classes as k
use Rattle.kq_read_symbols.specs.Classes.{of}
use Rattle.kq_read_symbols.specs.Forms.{one, some, ◌⨾◌, Many, Maybe}
use Rattle.kq_read_symbols.specs.declared.kind.Symbol.{Symbol}
use Rattle.kq_value.specs.declared.schema.Field.{Field}
use Rattle.kq_value.specs.declared.ty.Ty.{Ty}
use Rattle.kq_value.specs.declared.ty.Ty.TheVariants as ty
use Rattle.kq_value.specs.Ty.{same_ty}
use Rattle.kq_bind_laws.specs.ClauseFaults.{dynamic_key, value_faults, not_of, typed_faults, type_faults, key_faults, repeated, item_faults, items_faults, printed_faults, argument_faults, called_faults, given_faults, aggregate_faults, aggregates_faults, unfound, choice_faults, choices_faults, renaming_faults, unmatched, on_faults, all_on_faults, where_all, first_misfit, last_misfit, step_misfit, range_faults, column_faults, columns_faults, cell_faults, cells_faults}
use Rattle.kq_bind_laws.specs.Faults.{faults_in}
use Rattle.kq_bind_laws.specs.Told.{TellsFirst, unless_there, if_so, where_there, where_bound, place_of, InText, none}
use Rattle.kq_bind_laws.proofs.ClauseFaults.{choices_tell}
use Rattle.kq_bind_laws.proofs.Faults.{tree_tells}
use Rattle.kq_bind_laws.proofs.InText.{both, behind, before, AllAt, at_one, at_name, unless_at, bound_at, tree_in}

-- ---- what is looked for where something is

pub where_in : {A : Type 0} (v : Verdict A) (faults : A → List Fault) (ts : List Symbol) → ((x : A) → InText (faults x) ts) → InText (where_bound v faults) ts
where_in (Ok x) faults ts h = h x
where_in (Err e) faults ts h = none

there_in : {A : Type 0} (o : Option A) (faults : A → List Fault) (ts : List Symbol) → ((x : A) → InText (faults x) ts) → InText (where_there o faults) ts
there_in (Some x) faults ts h = h x
there_in None faults ts h = none

there_at : {A : Type 0} (at : ℕ) (o : Option A) (faults : A → List Fault) → ((x : A) → AllAt at (faults x)) → AllAt at (where_there o faults)
there_at at (Some x) faults h = h x
there_at at None faults h = tt

pub if_at : (b : Bool) (e : Fault) → AllAt (place_of e) (if_so b e)
if_at true e = (refl, tt)
if_at false e = tt

pub both_at : (at : ℕ) (es fs : List Fault) → AllAt at es → AllAt at fs → AllAt at (es ++ fs)
both_at at [] fs h m = m
both_at at (e ∷ es) fs h m = (h.0, both_at at es fs h.1 m)

-- ---- the first symbol

-- these symbols begin at this place
abbrev Begins : ℕ → List Symbol → Type 0
Begins at ts = (t : Symbol) × (more : List Symbol) × (ts ≡ t ∷ more) × (t.from ≡ at)

begins_left : (at : ℕ) (ts a b : List Symbol) → ts ≡ a ++ b → Begins at a → Begins at ts
begins_left at ts a b e (t, more, is, there) = (t, more ++ b, e ∙ ap (λ (z : List Symbol). z ++ b) is, there)

begins_with : (t : Symbol) (ts : List Symbol) → ts ≡ t ∷ [] → Begins t.from ts
begins_with t ts e = (t, [], e, refl)

name_begins : (n : Name) (ts : List Symbol) → name_text n ts → Begins (name_place n) ts
name_begins (shown.Word t) ts h = begins_with t ts h.1
name_begins (shown.Bracketed t s) ts h = begins_left t.from ts h.left h.right h.joined (begins_with t h.left h.before.1)

begins : (e : Tree) (ts : List Symbol) → spells e ts → Begins (first_token e) ts
begins (name n) ts h = name_begins n ts h
begins (literal t) ts h = begins_with t ts h.1
begins (group t e) ts h = begins_left t.from ts h.left h.right h.joined (begins_with t h.left h.before.1)
begins (call t es) ts h = begins_left t.from ts h.left h.right h.joined (begins_with t h.left h.before.1)
begins (path e p ps) ts h = begins_left (first_token e) ts h.left h.right h.joined (begins e h.left h.before.1)
begins (signed t e) ts h = begins_left t.from ts h.left h.right h.joined (begins_with t h.left h.before.1)
begins (compare a t b) ts h = begins_left (first_token a) ts h.left h.right h.joined (begins a h.left h.before.1)
begins (within a t e es) ts h = begins_left (first_token a) ts h.left h.right h.joined (begins a h.left h.before.1)
begins (between a t b c) ts h = begins_left (first_token a) ts h.left h.right h.joined (begins a h.left h.before.1)
begins (chain l a t b ls) ts h = begins_left (first_token a) ts h.left h.right h.joined (begins a h.left h.before.1)

begun_in : (es : List Fault) (at : ℕ) (ts : List Symbol) → Begins at ts → AllAt at es → InText es ts
begun_in es at ts (t, more, is, there) h = at_one es t ts more is (subst (λ (i : ℕ). AllAt i es) (sym there) h)

-- faults at the first symbol, where there are no others, or none of these
either_in : (es fs : List Fault) (at : ℕ) (ts : List Symbol) → Begins at ts → AllAt at es → InText fs ts → (es ≡ []) ⊎ (fs ≡ []) → InText (es ++ fs) ts
either_in es fs at ts first h rest (inl gone) = subst (λ (z : List Fault). InText (z ++ fs) ts) (sym gone) rest
either_in es fs at ts first h rest (inr gone) =
    subst (λ (z : List Fault). InText (es ++ z) ts) (sym gone) (subst (λ (z : List Fault). InText z ts) (sym (append-nil es)) (begun_in es at ts first h))

one_or_other : {A : Type 0} (v : Verdict A) (own : A → List Fault) (fs : List Fault) → TellsFirst v fs → (where_bound v own ≡ []) ⊎ (fs ≡ [])
one_or_other (Ok x) own fs gone = inr gone
one_or_other (Err e) own fs here = inl refl

-- ---- values

value_own : (s : Names) (cs : List Field) (e : Tree) (own : Bound → List Fault) (ts : List Symbol) → ((x : Bound) → AllAt (first_token e) (own x)) → spells e ts
    → InText (where_bound (bound s cs e) own ++ faults_in s cs e) ts
value_own s cs e own ts at h =
    either_in (where_bound (bound s cs e) own) (faults_in s cs e) (first_token e) ts (begins e ts h) (bound_at (first_token e) (bound s cs e) own at) (tree_in s cs e ts h)
    (one_or_other (bound s cs e) own (faults_in s cs e) (tree_tells s cs e))

pub value_in : (s : Names) (cs : List Field) (keys : Bool) (e : Tree) (ts : List Symbol) → spells e ts → InText (value_faults s cs keys e) ts
value_in s cs keys e ts h = value_own s cs e (dynamic_key keys (first_token e)) ts (λ x. if_at (keys && same_ty x.1 ty.Dynamic) (mistyped (first_token e))) h

pub typed_in : (s : Names) (cs : List Field) (t : Ty) (e : Tree) (ts : List Symbol) → spells e ts → InText (typed_faults s cs t e) ts
typed_in s cs t e ts h = value_own s cs e (not_of t (first_token e)) ts (λ x. if_at (not (same_ty x.1 t)) (mistyped (first_token e))) h

pub type_in : (text : List ℕ) (t : Symbol) (ts more : List Symbol) → ts ≡ t ∷ more → InText (type_faults text t) ts
type_in text t ts more is = at_one (type_faults text t) t ts more is (unless_at (ty_of (piece text t)) (unsupported t.from))

pub key_in : (s : Names) (cs : List Field) (q : KeyTree) (ts : List Symbol) → key_text q ts → InText (value_faults s cs true q.value) ts
key_in s cs q ts h = before ts h.left h.right (value_faults s cs true q.value) h.joined (value_in s cs true q.value h.left h.before)

more_keys : (s : Names) (cs : List Field) (qs : List KeyTree) (ts : List Symbol) → Many (λ y. some (of k.comma) ⨾ key_text y) qs ts → InText (key_faults s cs qs) ts
more_keys s cs [] ts h = none
more_keys s cs (q ∷ qs) ts h =
    let one = h.3 in
    both ts h.0 h.1 (value_faults s cs true q.value) (key_faults s cs qs) h.2 (behind h.0 one.left one.right (value_faults s cs true q.value) one.joined (key_in s cs q one.right one.after))
    (more_keys s cs qs h.1 h.4)

pub keys_in : (s : Names) (cs : List Field) (q : KeyTree) (qs : List KeyTree) (ts : List Symbol) → listed key_text (q, qs) ts → InText (key_faults s cs (q ∷ qs)) ts
keys_in s cs q qs ts h = both ts h.left h.right (value_faults s cs true q.value) (key_faults s cs qs) h.joined (key_in s cs q h.left h.before) (more_keys s cs qs h.right h.after)

-- ---- items

repeated_at : (text : List ℕ) (cs : List Field) (n : Name) → AllAt (name_place n) (repeated text cs n)
repeated_at text cs n = if_at (is_taken cs (name_said text n)) (mistyped (name_place n))

item_in : (s : Names) (cs : List Field) (keys : Bool) (fields : List Field) (i : ItemTree) (ts : List Symbol) → item_text i ts → InText (item_faults s cs keys fields i) ts
item_in s cs keys fields (plain e) ts h = value_in s cs keys e ts h
item_in s cs keys fields (named n e) ts h =
    let own = where_bound (operand s cs keys e) (λ x. repeated s.text fields n) in
    both ts h.left h.right own (value_faults s cs keys e) h.joined
    (at_name own n h.left h.before (bound_at (name_place n) (operand s cs keys e) (λ x. repeated s.text fields n) (λ x. repeated_at s.text fields n)))
    (behind h.right h.after.left h.after.right (value_faults s cs keys e) h.after.joined (value_in s cs keys e h.after.right h.after.after))

more_items : (s : Names) (cs avoided : List Field) (keys : Bool) (m : Making) (is : List ItemTree) (ts : List Symbol) → Many (λ y. some (of k.comma) ⨾ item_text y) is ts
    → InText (items_faults s cs avoided keys m is) ts
more_items s cs avoided keys m [] ts h = none
more_items s cs avoided keys m (i ∷ is) ts h =
    let one = h.3 in
    both ts h.0 h.1 (item_faults s cs keys m.fields i) (where_bound (item_made s cs avoided keys m i) (λ n. items_faults s cs avoided keys n is)) h.2
    (behind h.0 one.left one.right (item_faults s cs keys m.fields i) one.joined (item_in s cs keys m.fields i one.right one.after))
    (where_in (item_made s cs avoided keys m i) (λ n. items_faults s cs avoided keys n is) h.1 (λ n. more_items s cs avoided keys n is h.1 h.4))

pub items_in : (s : Names) (cs avoided : List Field) (keys : Bool) (m : Making) (i : ItemTree) (is : List ItemTree) (ts : List Symbol) → items (i, is) ts
    → InText (items_faults s cs avoided keys m (i ∷ is)) ts
items_in s cs avoided keys m i is ts h =
    both ts h.left h.right (item_faults s cs keys m.fields i) (where_bound (item_made s cs avoided keys m i) (λ n. items_faults s cs avoided keys n is)) h.joined
    (item_in s cs keys m.fields i h.left h.before)
    (where_in (item_made s cs avoided keys m i) (λ n. items_faults s cs avoided keys n is) h.right (λ n. more_items s cs avoided keys n is h.right h.after))

more_printed : (s : Names) (place : ℕ) (m : Making) (is : List ItemTree) (ts : List Symbol) → Many (λ y. some (of k.comma) ⨾ item_text y) is ts → InText (printed_faults s place m is) ts
more_printed s place m [] ts h = none
more_printed s place m (i ∷ is) ts h =
    let one = h.3 in
    both ts h.0 h.1 (item_faults s [] false m.fields i) (where_bound (item_printed s place m i) (λ n. printed_faults s (place + 1) n is)) h.2
    (behind h.0 one.left one.right (item_faults s [] false m.fields i) one.joined (item_in s [] false m.fields i one.right one.after))
    (where_in (item_printed s place m i) (λ n. printed_faults s (place + 1) n is) h.1 (λ n. more_printed s (place + 1) n is h.1 h.4))

pub printed_in : (s : Names) (place : ℕ) (m : Making) (i : ItemTree) (is : List ItemTree) (ts : List Symbol) → items (i, is) ts → InText (printed_faults s place m (i ∷ is)) ts
printed_in s place m i is ts h =
    both ts h.left h.right (item_faults s [] false m.fields i) (where_bound (item_printed s place m i) (λ n. printed_faults s (place + 1) n is)) h.joined
    (item_in s [] false m.fields i h.left h.before)
    (where_in (item_printed s place m i) (λ n. printed_faults s (place + 1) n is) h.right (λ n. more_printed s (place + 1) n is h.right h.after))

-- ---- aggregates

argument_in : (s : Names) (cs : List Field) (a : ArgumentTree) (more : List ArgumentTree) (ts u v : List Symbol) → ts ≡ u ++ v → argument_text a u → InText (argument_faults s cs more) v
    → InText (argument_faults s cs (a ∷ more)) ts
argument_in s cs (value e) more ts u v is h rest = both ts u v (faults_in s cs e) (argument_faults s cs more) is (tree_in s cs e u h) rest
argument_in s cs (all t) more ts u v is h rest = behind ts u v (argument_faults s cs more) is rest

more_arguments : (s : Names) (cs : List Field) (more : List ArgumentTree) (ts : List Symbol) → Many (λ y. some (of k.comma) ⨾ argument_text y) more ts → InText (argument_faults s cs more) ts
more_arguments s cs [] ts h = none
more_arguments s cs (a ∷ more) ts h =
    let one = h.3 in
    subst (InText (argument_faults s cs (a ∷ more))) (sym h.2)
    (subst (λ (z : List Symbol). InText (argument_faults s cs (a ∷ more)) (z ++ h.1)) (sym one.joined)
    (subst (InText (argument_faults s cs (a ∷ more))) (sym (append_assoc one.left one.right h.1))
    (behind (one.left ++ (one.right ++ h.1)) one.left (one.right ++ h.1) (argument_faults s cs (a ∷ more)) refl
    (argument_in s cs a more (one.right ++ h.1) one.right h.1 refl one.after (more_arguments s cs more h.1 h.4)))))

arguments_in : (s : Names) (cs : List Field) (more : List ArgumentTree) (ts : List Symbol) → arguments_text more ts → InText (argument_faults s cs more) ts
arguments_in s cs [] ts h = none
arguments_in s cs (a ∷ more) ts h = argument_in s cs a more ts h.left h.right h.joined h.before (more_arguments s cs more h.right h.after)

called_at : (at : ℕ) (cs : List Field) (starred : List ℕ) (o : Option AggregateFunction) (given : Verdict (List Argued)) → AllAt at (called_faults at cs starred o given)
called_at at cs starred None given = (refl, tt)
called_at at cs starred (Some f) given = bound_at at given (λ x. unless_there (made f cs starred x) (mistyped at)) (λ x. unless_at (made f cs starred x) (mistyped at))

given_in : (text : List ℕ) (cs fields : List Field) (starred : List ℕ) (o : Option AggregateFunction) (v : Verdict (List Argued)) (n : Option Name) (ts : List Symbol) → Maybe given_text n ts
    → InText (where_there o (λ f. where_bound v (λ x. where_there (made f cs starred x) (λ y. given_faults text fields n)))) ts
given_in text cs fields starred o v n ts h =
    there_in o (λ f. where_bound v (λ x. where_there (made f cs starred x) (λ y. given_faults text fields n))) ts
    (λ f. where_in v (λ x. where_there (made f cs starred x) (λ y. given_faults text fields n)) ts
    (λ x. there_in (made f cs starred x) (λ y. given_faults text fields n) ts (λ y. by n h)))
  where
    by : (m : Option Name) → Maybe given_text m ts → InText (given_faults text fields m) ts
    by None g = none
    by (Some m) g = before ts g.left g.right (repeated text fields m) g.joined (at_name (repeated text fields m) m g.left g.before (repeated_at text fields m))

aggregate_in : (s : Names) (cs : List Field) (starred : List ℕ) (fields : List Field) (a : AggregateTree) (ts : List Symbol) → aggregate_text a ts → InText (aggregate_faults s cs starred fields a) ts
aggregate_in s cs starred fields a ts h =
    let o = aggregate_named (piece s.text a.function) in
    let v = all_argued s cs a.arguments in
    let called = called_faults a.function.from cs starred o v in
    let args = argument_faults s cs a.arguments in
    let inner = h.after in
    let open_on = inner.after in
    let list = open_on.after in
    both ts h.left h.right (where_there o (λ f. where_bound v (λ x. where_there (made f cs starred x) (λ y. given_faults s.text fields a.given)))) (called ++ args) h.joined
    (given_in s.text cs fields starred o v a.given h.left h.before)
    (both h.right inner.left inner.right called args inner.joined (at_one called a.function inner.left [] inner.before.1 (called_at a.function.from cs starred o v))
    (behind inner.right open_on.left open_on.right args open_on.joined
    (before open_on.right list.left list.right args list.joined (arguments_in s cs a.arguments list.left list.before))))

more_aggregates : (s : Names) (cs : List Field) (starred : List ℕ) (g : Gathering) (more : List AggregateTree) (ts : List Symbol) → Many (λ y. some (of k.comma) ⨾ aggregate_text y) more ts
    → InText (aggregates_faults s cs starred g more) ts
more_aggregates s cs starred g [] ts h = none
more_aggregates s cs starred g (a ∷ more) ts h =
    let one = h.3 in
    both ts h.0 h.1 (aggregate_faults s cs starred g.fields a) (where_bound (aggregate_made s cs starred g a) (λ x. aggregates_faults s cs starred x more)) h.2
    (behind h.0 one.left one.right (aggregate_faults s cs starred g.fields a) one.joined (aggregate_in s cs starred g.fields a one.right one.after))
    (where_in (aggregate_made s cs starred g a) (λ x. aggregates_faults s cs starred x more) h.1 (λ x. more_aggregates s cs starred x more h.1 h.4))

pub aggregates_in : (s : Names) (cs : List Field) (starred : List ℕ) (g : Gathering) (a : AggregateTree) (more : List AggregateTree) (ts : List Symbol) → listed aggregate_text (a, more) ts
    → InText (aggregates_faults s cs starred g (a ∷ more)) ts
aggregates_in s cs starred g a more ts h =
    both ts h.left h.right (aggregate_faults s cs starred g.fields a) (where_bound (aggregate_made s cs starred g a) (λ x. aggregates_faults s cs starred x more)) h.joined
    (aggregate_in s cs starred g.fields a h.left h.before)
    (where_in (aggregate_made s cs starred g a) (λ x. aggregates_faults s cs starred x more) h.right (λ x. more_aggregates s cs starred x more h.right h.after))

-- ---- names of columns

unfound_at : (text : List ℕ) (cs : List Field) (n : Name) → AllAt (name_place n) (unfound text cs n)
unfound_at text cs n = unless_at (first_named 0 cs (name_said text n)) (unknown (name_place n))

choice_at : (text : List ℕ) (cs : List Field) (keys : Bool) (is : List ℕ) (n : Name) → AllAt (name_place n) (choice_faults text cs keys is n)
choice_at text cs keys is n =
    both_at (name_place n) (unfound text cs n) (where_there (first_named 0 cs (name_said text n)) (λ p. if_so (has_number is p.0 || (keys && same_ty p.1 ty.Dynamic)) (mistyped (name_place n))))
    (unfound_at text cs n)
    (there_at (name_place n) (first_named 0 cs (name_said text n)) (λ p. if_so (has_number is p.0 || (keys && same_ty p.1 ty.Dynamic)) (mistyped (name_place n)))
    (λ p. if_at (has_number is p.0 || (keys && same_ty p.1 ty.Dynamic)) (mistyped (name_place n))))

-- names that are chosen one after another, each from one of some forms
module _ {A : Type 0} (text : List ℕ) (form : A → List Symbol → Type 0) (of_form : A → Name) (stands : (fs : List Fault) (x : A) (ts : List Symbol) → form x ts → AllAt (name_place (of_form x)) fs → InText fs ts) where
  more_choices : (cs : List Field) (keys : Bool) (is : List ℕ) (xs : List A) (ts : List Symbol) → Many (λ y. some (of k.comma) ⨾ form y) xs ts → InText (choices_faults text cs keys is (map of_form xs)) ts
  more_choices cs keys is [] ts h = none
  more_choices cs keys is (x ∷ xs) ts h =
      let one = h.3 in
      let n = of_form x in
      both ts h.0 h.1 (choice_faults text cs keys is n) (where_bound (and_then (place_in text cs n) (choose keys (name_place n) is)) (λ js. choices_faults text cs keys js (map of_form xs))) h.2
      (behind h.0 one.left one.right (choice_faults text cs keys is n) one.joined (stands (choice_faults text cs keys is n) x one.right one.after (choice_at text cs keys is n)))
      (where_in (and_then (place_in text cs n) (choose keys (name_place n) is)) (λ js. choices_faults text cs keys js (map of_form xs)) h.1 (λ js. more_choices cs keys js xs h.1 h.4))

  pub all_choices : (cs : List Field) (keys : Bool) (is : List ℕ) (x : A) (xs : List A) (ts : List Symbol) → listed form (x, xs) ts → InText (choices_faults text cs keys is (map of_form (x ∷ xs))) ts
  all_choices cs keys is x xs ts h =
      let n = of_form x in
      both ts h.left h.right (choice_faults text cs keys is n) (where_bound (and_then (place_in text cs n) (choose keys (name_place n) is)) (λ js. choices_faults text cs keys js (map of_form xs))) h.joined
      (stands (choice_faults text cs keys is n) x h.left h.before (choice_at text cs keys is n))
      (where_in (and_then (place_in text cs n) (choose keys (name_place n) is)) (λ js. choices_faults text cs keys js (map of_form xs)) h.right (λ js. more_choices cs keys js xs h.right h.after))

  more_renamings : (taken : List Field) (xs : List A) (ts : List Symbol) → Many (λ y. some (of k.comma) ⨾ form y) xs ts → InText (renaming_faults text taken (map of_form xs)) ts
  more_renamings taken [] ts h = none
  more_renamings taken (x ∷ xs) ts h =
      let one = h.3 in
      let n = of_form x in
      both ts h.0 h.1 (repeated text taken n) (renaming_faults text (taken ++ field (name_said text n) ty.Long ∷ []) (map of_form xs)) h.2
      (behind h.0 one.left one.right (repeated text taken n) one.joined (stands (repeated text taken n) x one.right one.after (repeated_at text taken n)))
      (more_renamings (taken ++ field (name_said text n) ty.Long ∷ []) xs h.1 h.4)

  pub all_renamings : (taken : List Field) (x : A) (xs : List A) (ts : List Symbol) → listed form (x, xs) ts → InText (renaming_faults text taken (map of_form (x ∷ xs))) ts
  all_renamings taken x xs ts h =
      let n = of_form x in
      both ts h.left h.right (repeated text taken n) (renaming_faults text (taken ++ field (name_said text n) ty.Long ∷ []) (map of_form xs)) h.joined
      (stands (repeated text taken n) x h.left h.before (repeated_at text taken n)) (more_renamings (taken ++ field (name_said text n) ty.Long ∷ []) xs h.right h.after)

same_names : (ns : List Name) → map (λ (n : Name). n) ns ≡ ns
same_names [] = refl
same_names (n ∷ ns) = ap (λ (z : List Name). n ∷ z) (same_names ns)

pub choices_in : (text : List ℕ) (cs : List Field) (keys : Bool) (n : Name) (ns : List Name) (ts : List Symbol) → names_text (n, ns) ts → InText (choices_faults text cs keys [] (n ∷ ns)) ts
choices_in text cs keys n ns ts h =
    subst (λ (z : List Name). InText (choices_faults text cs keys [] z) ts) (same_names (n ∷ ns))
    (all_choices text name_text (λ (m : Name). m) (λ fs m us g at. at_name fs m us g at) cs keys [] n ns ts h)

new_stands : (fs : List Fault) (p : Name × Name) (ts : List Symbol) → renaming_text p ts → AllAt (name_place (new_name p)) fs → InText fs ts
new_stands fs p ts h at = before ts h.left h.right fs h.joined (at_name fs (new_name p) h.left h.before at)

old_stands : (fs : List Fault) (p : Name × Name) (ts : List Symbol) → renaming_text p ts → AllAt (name_place (old_name p)) fs → InText fs ts
old_stands fs p ts h at = behind ts h.left h.right fs h.joined (behind h.right h.after.left h.after.right fs h.after.joined (at_name fs (old_name p) h.after.right h.after.after at))

-- new names are tested where there is no fault among the old ones
pub renames_in : (text : List ℕ) (cs : List Field) (taken : List ℕ → List Field) (p : Name × Name) (ps : List (Name × Name)) (ts : List Symbol) → listed renaming_text (p, ps) ts
    → InText (where_bound (chosen text cs false [] (map old_name (p ∷ ps))) (λ is. renaming_faults text (taken is) (map new_name (p ∷ ps))) ++ choices_faults text cs false [] (map old_name (p ∷ ps))) ts
renames_in text cs taken p ps ts h =
    by (chosen text cs false [] (map old_name (p ∷ ps))) (choices_tell text cs false [] (map old_name (p ∷ ps))) (all_choices text renaming_text old_name old_stands cs false [] p ps ts h)
    (λ is. all_renamings text renaming_text new_name new_stands (taken is) p ps ts h)
  where
    by : (v : Verdict (List ℕ)) → TellsFirst v (choices_faults text cs false [] (map old_name (p ∷ ps))) → InText (choices_faults text cs false [] (map old_name (p ∷ ps))) ts
        → ((is : List ℕ) → InText (renaming_faults text (taken is) (map new_name (p ∷ ps))) ts)
        → InText (where_bound v (λ is. renaming_faults text (taken is) (map new_name (p ∷ ps))) ++ choices_faults text cs false [] (map old_name (p ∷ ps))) ts
    by (Ok is) gone olds news =
        subst (λ (z : List Fault). InText (renaming_faults text (taken is) (map new_name (p ∷ ps)) ++ z) ts) (sym gone)
        (subst (λ (z : List Fault). InText z ts) (sym (append-nil (renaming_faults text (taken is) (map new_name (p ∷ ps))))) (news is))
    by (Err e) here olds news = olds

-- ---- keys of joins

unmatched_at : (at : ℕ) (l r : Option (ℕ × Ty)) → AllAt at (unmatched at l r)
unmatched_at at l r =
    there_at at l (λ p. where_there r (λ q. if_so (not (is_key p.1 q.1)) (mistyped at)))
    (λ p. there_at at r (λ q. if_so (not (is_key p.1 q.1)) (mistyped at)) (λ q. if_at (not (is_key p.1 q.1)) (mistyped at)))

on_in : (text : List ℕ) (ls rs : List Field) (j : JoinKey) (ts : List Symbol) → join_key_text j ts → InText (on_faults text ls rs j) ts
on_in text ls rs (key.Both n) ts h =
    let own = unmatched (name_place n) (first_named 0 ls (name_said text n)) (first_named 0 rs (name_said text n)) in
    at_name (unfound text ls n ++ (unfound text rs n ++ own)) n ts h
    (both_at (name_place n) (unfound text ls n) (unfound text rs n ++ own) (unfound_at text ls n)
    (both_at (name_place n) (unfound text rs n) own (unfound_at text rs n) (unmatched_at (name_place n) (first_named 0 ls (name_said text n)) (first_named 0 rs (name_said text n)))))
on_in text ls rs (key.LeftRight a t b) ts h =
    let own = unmatched t.from (first_named 0 ls (name_said text a)) (first_named 0 rs (name_said text b)) in
    let left = h.before.after in
    let right = h.after.after.after in
    both ts h.left h.right (unfound text ls a) (own ++ unfound text rs b) h.joined
    (behind h.left h.before.left h.before.right (unfound text ls a) h.before.joined (behind h.before.right left.left left.right (unfound text ls a) left.joined (at_name (unfound text ls a) a left.right left.after (unfound_at text ls a))))
    (both h.right h.after.left h.after.right own (unfound text rs b) h.after.joined
    (at_one own t h.after.left [] h.after.before.1 (unmatched_at t.from (first_named 0 ls (name_said text a)) (first_named 0 rs (name_said text b))))
    (behind h.after.right h.after.after.left h.after.after.right (unfound text rs b) h.after.after.joined
    (behind h.after.after.right right.left right.right (unfound text rs b) right.joined (at_name (unfound text rs b) b right.right right.after (unfound_at text rs b)))))
on_in text ls rs (key.RightLeft b t a) ts h =
    let own = unmatched t.from (first_named 0 ls (name_said text a)) (first_named 0 rs (name_said text b)) in
    let left = h.before.after in
    let right = h.after.after.after in
    both ts h.left h.right (unfound text rs b) (own ++ unfound text ls a) h.joined
    (behind h.left h.before.left h.before.right (unfound text rs b) h.before.joined (behind h.before.right left.left left.right (unfound text rs b) left.joined (at_name (unfound text rs b) b left.right left.after (unfound_at text rs b))))
    (both h.right h.after.left h.after.right own (unfound text ls a) h.after.joined
    (at_one own t h.after.left [] h.after.before.1 (unmatched_at t.from (first_named 0 ls (name_said text a)) (first_named 0 rs (name_said text b))))
    (behind h.after.right h.after.after.left h.after.after.right (unfound text ls a) h.after.after.joined
    (behind h.after.after.right right.left right.right (unfound text ls a) right.joined (at_name (unfound text ls a) a right.right right.after (unfound_at text ls a)))))

more_on : (text : List ℕ) (ls rs : List Field) (js : List JoinKey) (ts : List Symbol) → Many (λ y. some (of k.comma) ⨾ join_key_text y) js ts → InText (all_on_faults text ls rs js) ts
more_on text ls rs [] ts h = none
more_on text ls rs (j ∷ js) ts h =
    let one = h.3 in
    both ts h.0 h.1 (on_faults text ls rs j) (all_on_faults text ls rs js) h.2 (behind h.0 one.left one.right (on_faults text ls rs j) one.joined (on_in text ls rs j one.right one.after)) (more_on text ls rs js h.1 h.4)

pub all_on_in : (text : List ℕ) (ls rs : List Field) (j : JoinKey) (js : List JoinKey) (ts : List Symbol) → listed join_key_text (j, js) ts → InText (all_on_faults text ls rs (j ∷ js)) ts
all_on_in text ls rs j js ts h = both ts h.left h.right (on_faults text ls rs j) (all_on_faults text ls rs js) h.joined (on_in text ls rs j h.left h.before) (more_on text ls rs js h.right h.after)

-- ---- ranges

all_at : (at : ℕ) (x y z : Verdict Bound) (faults : Bound → Bound → Bound → List Fault) → ((a b c : Bound) → AllAt at (faults a b c)) → AllAt at (where_all x y z faults)
all_at at x y z faults h =
    bound_at at x (λ a. where_bound y (λ b. where_bound z (λ c. faults (as_long a) (as_long b) (as_long c))))
    (λ a. bound_at at y (λ b. where_bound z (λ c. faults (as_long a) (as_long b) (as_long c))) (λ b. bound_at at z (λ c. faults (as_long a) (as_long b) (as_long c)) (λ c. h (as_long a) (as_long b) (as_long c))))

first_or : (x y z : Verdict Bound) (faults : Bound → Bound → Bound → List Fault) (fs : List Fault) → TellsFirst x fs → (where_all x y z faults ≡ []) ⊎ (fs ≡ [])
first_or (Ok a) y z faults fs gone = inr gone
first_or (Err e) y z faults fs here = inl refl

second_or : (x y z : Verdict Bound) (faults : Bound → Bound → Bound → List Fault) (fs : List Fault) → TellsFirst y fs → (where_all x y z faults ≡ []) ⊎ (fs ≡ [])
second_or (Err e) y z faults fs here = inl refl
second_or (Ok a) (Ok b) z faults fs gone = inr gone
second_or (Ok a) (Err e) z faults fs here = inl refl

third_or : (x y z : Verdict Bound) (faults : Bound → Bound → Bound → List Fault) (fs : List Fault) → TellsFirst z fs → (where_all x y z faults ≡ []) ⊎ (fs ≡ [])
third_or (Err e) y z faults fs here = inl refl
third_or (Ok a) (Err e) z faults fs here = inl refl
third_or (Ok a) (Ok b) (Ok c) faults fs gone = inr gone
third_or (Ok a) (Ok b) (Err e) faults fs here = inl refl

pub range_in : (s : Names) (a b c : Tree) (ts : List Symbol) {u v w : List Symbol → Type 0} → ((u ⨾ spells a) ⨾ (v ⨾ spells b) ⨾ (w ⨾ spells c)) ts → InText (range_faults s a b c) ts
range_in s a b c ts h =
    let x = bound s [] a in
    let y = bound s [] b in
    let z = bound s [] c in
    let first = where_all x y z (first_misfit (first_token a)) in
    let last = where_all x y z (last_misfit (first_token b)) in
    let step = where_all x y z (step_misfit (first_token c)) in
    let from = h.before in
    let to = h.after.before in
    let by = h.after.after in
    both ts h.left h.right (first ++ faults_in s [] a) ((last ++ faults_in s [] b) ++ (step ++ faults_in s [] c)) h.joined
    (behind h.left from.left from.right (first ++ faults_in s [] a) from.joined
    (either_in first (faults_in s [] a) (first_token a) from.right (begins a from.right from.after)
    (all_at (first_token a) x y z (first_misfit (first_token a)) (λ i j m. unless_at (step_type i.1) (mistyped (first_token a)))) (tree_in s [] a from.right from.after)
    (first_or x y z (first_misfit (first_token a)) (faults_in s [] a) (tree_tells s [] a))))
    (both h.right h.after.left h.after.right (last ++ faults_in s [] b) (step ++ faults_in s [] c) h.after.joined
    (behind h.after.left to.left to.right (last ++ faults_in s [] b) to.joined
    (either_in last (faults_in s [] b) (first_token b) to.right (begins b to.right to.after)
    (all_at (first_token b) x y z (last_misfit (first_token b)) (λ i j m. if_at (not (same_ty j.1 i.1)) (mistyped (first_token b)))) (tree_in s [] b to.right to.after)
    (second_or x y z (last_misfit (first_token b)) (faults_in s [] b) (tree_tells s [] b))))
    (behind h.after.right by.left by.right (step ++ faults_in s [] c) by.joined
    (either_in step (faults_in s [] c) (first_token c) by.right (begins c by.right by.after)
    (all_at (first_token c) x y z (step_misfit (first_token c)) (λ i j m. there_at (first_token c) (step_type i.1) (λ t. not_of t (first_token c) m) (λ t. if_at (not (same_ty m.1 t)) (mistyped (first_token c)))))
    (tree_in s [] c by.right by.after) (third_or x y z (step_misfit (first_token c)) (faults_in s [] c) (tree_tells s [] c)))))

-- ---- datatables

column_in : (text : List ℕ) (fields : List Field) (c : Column) (ts : List Symbol) → column_text c ts → InText (column_faults text fields c) ts
column_in text fields c ts h =
    both ts h.left h.right (repeated text fields c.name) (type_faults text c.ty) h.joined (at_name (repeated text fields c.name) c.name h.left h.before (repeated_at text fields c.name))
    (behind h.right h.after.left h.after.right (type_faults text c.ty) h.after.joined (type_in text c.ty h.after.right [] h.after.after.1))

more_columns : (text : List ℕ) (fields : List Field) (cs : List Column) (ts : List Symbol) → Many (λ y. some (of k.comma) ⨾ column_text y) cs ts → InText (columns_faults text fields cs) ts
more_columns text fields [] ts h = none
more_columns text fields (c ∷ cs) ts h =
    let one = h.3 in
    both ts h.0 h.1 (column_faults text fields c) (where_bound (put_column text fields c) (λ more. columns_faults text more cs)) h.2
    (behind h.0 one.left one.right (column_faults text fields c) one.joined (column_in text fields c one.right one.after))
    (where_in (put_column text fields c) (λ more. columns_faults text more cs) h.1 (λ more. more_columns text more cs h.1 h.4))

pub columns_in : (text : List ℕ) (fields : List Field) (c : Column) (cs : List Column) (ts : List Symbol) → columns_text (c, cs) ts → InText (columns_faults text fields (c ∷ cs)) ts
columns_in text fields c cs ts h =
    both ts h.left h.right (column_faults text fields c) (where_bound (put_column text fields c) (λ more. columns_faults text more cs)) h.joined (column_in text fields c h.left h.before)
    (where_in (put_column text fields c) (λ more. columns_faults text more cs) h.right (λ more. more_columns text more cs h.right h.after))

cell_in : (text : List ℕ) (t : Ty) (c : Cell) (ts : List Symbol) → cell_text c ts → InText (cell_faults text t c) ts
cell_in text t c ts h = by c.minus h.before where
  by : (m : Option Symbol) → Maybe (one (of k.minus)) m h.left
      → InText (where_there (literal_value text c.literal) (λ v. unless_there (signed_in t c v) (mistyped (cell_place m c.literal))) ++ unless_there (literal_value text c.literal) (unsupported c.literal.from)) ts
  by None g =
      let own = where_there (literal_value text c.literal) (λ v. unless_there (signed_in t c v) (mistyped c.literal.from)) in
      let lost = unless_there (literal_value text c.literal) (unsupported c.literal.from) in
      behind ts h.left h.right (own ++ lost) h.joined
      (at_one (own ++ lost) c.literal h.right [] h.after.1
      (both_at c.literal.from own lost
      (there_at c.literal.from (literal_value text c.literal) (λ v. unless_there (signed_in t c v) (mistyped c.literal.from)) (λ v. unless_at (signed_in t c v) (mistyped c.literal.from)))
      (unless_at (literal_value text c.literal) (unsupported c.literal.from))))
  by (Some m) g =
      let own = where_there (literal_value text c.literal) (λ v. unless_there (signed_in t c v) (mistyped m.from)) in
      let lost = unless_there (literal_value text c.literal) (unsupported c.literal.from) in
      both ts h.left h.right own lost h.joined
      (at_one own m h.left [] g.1 (there_at m.from (literal_value text c.literal) (λ v. unless_there (signed_in t c v) (mistyped m.from)) (λ v. unless_at (signed_in t c v) (mistyped m.from))))
      (at_one lost c.literal h.right [] h.after.1 (unless_at (literal_value text c.literal) (unsupported c.literal.from)))

more_in : (text : List ℕ) (cs left : List Field) (xs : List Cell) (ts : List Symbol) → more_cells xs ts → InText (cells_faults text cs left xs) ts
more_in text cs [] [] ts h = none
more_in text cs [] (x ∷ xs) ts h = none
more_in text cs (c ∷ []) [] ts h = none
more_in text cs (c ∷ d ∷ left) [] ts h = none
more_in text cs (c ∷ []) (x ∷ xs) ts h =
    let fs = cell_faults text c.ty x ++ cells_faults text cs cs xs in
    behind ts h.left h.right fs h.joined
    (both h.right h.after.left h.after.right (cell_faults text c.ty x) (cells_faults text cs cs xs) h.after.joined (cell_in text c.ty x h.after.left h.after.before) (more_in text cs cs xs h.after.right h.after.after))
more_in text cs (c ∷ d ∷ left) (x ∷ xs) ts h =
    let fs = cell_faults text c.ty x ++ cells_faults text cs (d ∷ left) xs in
    behind ts h.left h.right fs h.joined
    (both h.right h.after.left h.after.right (cell_faults text c.ty x) (cells_faults text cs (d ∷ left) xs) h.after.joined (cell_in text c.ty x h.after.left h.after.before)
    (more_in text cs (d ∷ left) xs h.after.right h.after.after))

pub cells_in : (text : List ℕ) (cs left : List Field) (xs : List Cell) (ts : List Symbol) → cells_text xs ts → InText (cells_faults text cs left xs) ts
cells_in text cs [] [] ts h = none
cells_in text cs [] (x ∷ xs) ts h = none
cells_in text cs (c ∷ []) [] ts h = none
cells_in text cs (c ∷ d ∷ left) [] ts h = none
cells_in text cs (c ∷ []) (x ∷ xs) ts h =
    both ts h.left h.right (cell_faults text c.ty x) (cells_faults text cs cs xs) h.joined (cell_in text c.ty x h.left h.before) (more_in text cs cs xs h.right h.after)
cells_in text cs (c ∷ d ∷ left) (x ∷ xs) ts h =
    both ts h.left h.right (cell_faults text c.ty x) (cells_faults text cs (d ∷ left) xs) h.joined (cell_in text c.ty x h.left h.before) (more_in text cs (d ∷ left) xs h.right h.after)
