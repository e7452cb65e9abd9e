-- The readers of names in lists, items, groupings and keys are exact.
use Rattle.std.proofs.Common.{◌≡◌, ℕ, Bool, true, false, ◌||◌, List, [], ◌∷◌, ◌++◌, Option, Some, None, refl, sym, ◌∙◌, ap, subst, append-nil, arith}
use Rattle.kq_read_clauses.proofs.Following.{names_go_on, item_goes_on, items_go_on, grouping_goes_on, key_goes_on, keys_go_on}
use Rattle.kq_read_clauses.specs.Reading as reading
use Rattle.kq_read_expressions.specs.Reading.{name as read_name, expression}
use Rattle.kq_read_grammar.specs.Clauses as grammar
use Rattle.kq_read_grammar.specs.Expressions.{Text, name_text, spells}
use Rattle.kq_read_grammar.proofs.Precedences.{goes_on}
use Rattle.kq_read_grammar.specs.Trees.{Tree, name, ItemTree, plain, named, KeyTree}
use Rattle.kq_read_grammar.specs.Views.{is_bare, item_of}
use Rattle.kq_read_symbols.specs.declared.kind.Kind.TheVariants as kind
use Rattle.kq_read_symbols.specs.declared.kind.Symbol.{Symbol}
use Rattle.kq_read_symbols.specs.declared.word.ClauseWord.TheVariants as w
use Rattle.kq_read_symbols.specs.declared.word.ReservedWord.TheVariants as r
use Rattle.kq_read_symbols.specs.declared.word.Word.TheVariants as word
use Rattle.kq_read_tokens.specs.declared.kind.Operator.TheVariants as operator
use Rattle.kq_read_symbols.specs.Classes as k
use Rattle.kq_read_symbols.specs.Classes.{Class, of}
use Rattle.kq_read_symbols.specs.Forms.{Parser, one, some, ◌⨾◌, Maybe, expect, bind, both, maybe, skip}
use Rattle.kq_read_symbols.proofs.Forms.{Stops, Bind, Then, Image}
use Rattle.kq_read_symbols.proofs.ClassLemmas.{apart, within}
use Rattle.kq_read_symbols.proofs.Laws.{Exact, Example, Follows, Leads, nothing, stops_within, bind_exact, both_exact, image_exact, same_exact, wider_exact, pure_exact, one_exact, maybe_exact, maybe_follows, skip_exact, skip_leads, skip_example}
use Rattle.kq_read_expressions.proofs.NameLaws.{example_of, one_leads, name_exact, name_example, name_leads}
use Rattle.kq_read_expressions.proofs.ExpressionLaws.{expression_exact, expression_example}
use Rattle.kq_read_clauses.proofs.ListLaws.{Begins, then_follows, listed_exact, listed_example, listed_begins}

-- ---- names

pub names_exact : (n : ℕ) → Exact grammar.names (of names_go_on) (reading.names n) n
unfolding reading.names
names_exact n = listed_exact name_text nothing (of names_go_on) (λ t h. refl) (λ t h. refl) (λ t h. h) n read_name (name_exact nothing n) name_example

pub names_example : Example grammar.names
names_example = listed_example name_text name_example

pub names_begin : Begins k.begins_name grammar.names
names_begin = listed_begins name_text k.begins_name name_leads

-- ---- items

abbrev assigned : Tree → Text
assigned e = ◌⨾◌ (some (of k.assign)) (spells e)

abbrev given_form : Bool → Option Tree → Text
given_form true = Maybe assigned
given_form false = λ o u. (o ≡ None) × (u ≡ [])

assigned_leads : Leads (of k.assign) true assigned (of item_goes_on)
assigned_leads e u z s stops = skip_leads (of k.assign) (example_of (kind.Operator operator.Assign)) refl spells nothing e u z s

given_exact : (n : ℕ) (b : Bool) → Exact (given_form b) (of item_goes_on) (reading.given b n) n
given_exact n true =
    maybe_exact assigned (of k.assign) (of item_goes_on) assigned_leads (within item_goes_on k.assign refl) n (skip (of k.assign) (expression n))
    (skip_exact (of k.assign) (example_of (kind.Operator operator.Assign)) refl spells (of item_goes_on) n n (omega arith) (expression n)
    (wider_exact spells (of (goes_on 0)) (of item_goes_on) (within item_goes_on (goes_on 0) refl) n (expression n) (expression_exact n)) expression_example)
given_exact n false = pure_exact None (given_form false) (of item_goes_on) (refl, refl) (λ o u s. s) n

given_follows : (b : Bool) → Follows (of (goes_on 0)) (given_form b) (of item_goes_on)
given_follows true = maybe_follows assigned (of k.assign) (of item_goes_on) assigned_leads (within item_goes_on k.assign refl) (of (goes_on 0)) (apart k.assign (goes_on 0) refl) (within item_goes_on (goes_on 0) refl)
given_follows false = λ o v z s stops. subst (λ l. Stops (of (goes_on 0)) (l ++ z)) (sym s.1) (stops_within spells (of (goes_on 0)) (of item_goes_on) (within item_goes_on (goes_on 0) refl) z stops)

given_nothing : (b : Bool) → given_form b None []
given_nothing true = refl
given_nothing false = (refl, refl)

abbrev item_parts : Tree × Option Tree → Text
item_parts = Bind spells (λ e. given_form (is_bare e))

abbrev item_form : ItemTree → Text
item_form = Image (λ (p : Tree × Option Tree). item_of p.0 p.1) item_parts

to_item_at : (e : Tree) (o : Option Tree) (u : List Symbol) → item_parts (e, o) u → grammar.item_text (item_of e o) u
to_item_at e None u s = to_plain (is_bare e) s.after where
  to_plain : (b : Bool) → given_form b None s.right → spells e u
  to_plain true h = subst (spells e) (sym (s.joined ∙ ap (λ r. s.left ++ r) h ∙ append-nil s.left)) s.before
  to_plain false h = subst (spells e) (sym (s.joined ∙ ap (λ r. s.left ++ r) h.1 ∙ append-nil s.left)) s.before
to_item_at (name t) (Some f) u s = record { left = s.left; right = s.right; joined = s.joined; before = s.before; after = s.after }
to_item_at _ (Some f) u s = let no : Some f ≡ None = s.after.0 in cc

to_item : (y : ItemTree) (u : List Symbol) → item_form y u → grammar.item_text y u
to_item y u s = subst (λ w. grammar.item_text w u) (sym s.is) (to_item_at s.value.0 s.value.1 u s.spelled)

from_item : (y : ItemTree) (u : List Symbol) → grammar.item_text y u → item_form y u
from_item (plain e) u s = record { value = (e, None); is = refl; spelled = record { left = u; right = []; joined = sym (append-nil u); before = s; after = given_nothing (is_bare e) } }
from_item (named t e) u s = record { value = (name t, Some e); is = refl; spelled = record { left = s.left; right = s.right; joined = s.joined; before = s.before; after = s.after } }

pub item_exact : (n : ℕ) → Exact grammar.item_text (of item_goes_on) (reading.item n) n
unfolding reading.item
item_exact n =
    same_exact item_form grammar.item_text (of item_goes_on) to_item from_item n (reading.item n)
    (image_exact (λ (p : Tree × Option Tree). item_of p.0 p.1) item_parts (of item_goes_on) n (bind (expression n) (λ e. reading.given (is_bare e) n))
    (bind_exact spells (λ e. given_form (is_bare e)) (of (goes_on 0)) (of item_goes_on) (λ e. given_follows (is_bare e)) n n (λ e u s. omega arith) (expression n) (λ e. reading.given (is_bare e) n) (expression_exact n) (λ e. given_exact n (is_bare e)) (λ e. record { value = None; text = []; spelled = given_nothing (is_bare e) })))

pub item_example : Example grammar.item_text
item_example = record { value = plain expression_example.value; text = expression_example.text; spelled = expression_example.spelled }

pub items_exact : (n : ℕ) → Exact grammar.items (of items_go_on) (reading.items n) n
unfolding reading.items
items_exact n = listed_exact grammar.item_text (of item_goes_on) (of items_go_on) (apart k.comma item_goes_on refl) (within items_go_on item_goes_on refl) (within items_go_on k.comma refl) n (reading.item n) (item_exact n) item_example

pub items_example : Example grammar.items
items_example = listed_example grammar.item_text item_example

-- ---- groupings

pub grouping_exact : (n : ℕ) → Exact grammar.grouping_text (of grouping_goes_on) (reading.grouping n) n
unfolding reading.grouping
grouping_exact n = skip_exact (of (k.reserved r.By)) (example_of (kind.Word (word.Reserved r.By))) refl grammar.items (of grouping_goes_on) n n (omega arith) (reading.items n) (items_exact n) items_example

pub grouping_example : Example grammar.grouping_text
grouping_example = skip_example (of (k.reserved r.By)) (example_of (kind.Word (word.Reserved r.By))) refl grammar.items nothing items_example

pub grouping_begins : Begins (k.reserved r.By) grammar.grouping_text
grouping_begins = skip_leads (of (k.reserved r.By)) (example_of (kind.Word (word.Reserved r.By))) refl grammar.items nothing

-- ---- keys

-- with these the front of a key goes on, up to its direction
abbrev direction_goes_on : Class
direction_goes_on x = k.direction x || goes_on 0 x

abbrev nulls_word : Symbol
nulls_word = example_of (kind.Word (word.Clause w.Nulls))

extreme_example : Example (one (of k.extreme))
extreme_example = record { value = example_of (kind.Word (word.Clause w.First)); text = example_of (kind.Word (word.Clause w.First)) ∷ []; spelled = (refl, refl) }

nulls_exact : (more : Symbol → Bool) (n : ℕ) → Exact grammar.nulls_text more reading.nulls n
unfolding reading.nulls
nulls_exact more n =
    skip_exact (of (k.clause w.Nulls)) nulls_word refl (one (of k.extreme)) more n n (omega arith) (expect (of k.extreme))
    (one_exact (of k.extreme) (example_of (kind.Word (word.Clause w.First))) refl more n) extreme_example

nulls_leads : Leads (of (k.clause w.Nulls)) true grammar.nulls_text (of key_goes_on)
nulls_leads t u z s stops = skip_leads (of (k.clause w.Nulls)) nulls_word refl (one (of k.extreme)) nothing t u z s

direction_leads : Leads (of k.direction) true (one (of k.direction)) (of direction_goes_on)
direction_leads t u z s stops = one_leads k.direction t u z s

abbrev direction_form : Option Symbol → Text
direction_form = Maybe (one (of k.direction))

abbrev nulls_form : Option Symbol → Text
nulls_form = Maybe grammar.nulls_text

abbrev after_value : Option Symbol × Option Symbol → Text
after_value = Then direction_form nulls_form

nulls_follow : Follows (of direction_goes_on) nulls_form (of key_goes_on)
nulls_follow = maybe_follows grammar.nulls_text (of (k.clause w.Nulls)) (of key_goes_on) nulls_leads (within key_goes_on (k.clause w.Nulls) refl) (of direction_goes_on) (apart (k.clause w.Nulls) direction_goes_on refl) (within key_goes_on direction_goes_on refl)

value_followed : Follows (of (goes_on 0)) after_value (of key_goes_on)
value_followed =
    then_follows direction_form nulls_form (of (goes_on 0)) (of direction_goes_on) (of key_goes_on)
    (maybe_follows (one (of k.direction)) (of k.direction) (of direction_goes_on) direction_leads (within direction_goes_on k.direction refl) (of (goes_on 0)) (apart k.direction (goes_on 0) refl) (within direction_goes_on (goes_on 0) refl))
    nulls_follow

abbrev read_after_value : Parser Symbol (Option Symbol × Option Symbol)
read_after_value = both (maybe (of k.direction) (expect (of k.direction))) (maybe (of (k.clause w.Nulls)) reading.nulls)

after_value_exact : (n : ℕ) → Exact after_value (of key_goes_on) read_after_value n
after_value_exact n =
    both_exact direction_form nulls_form (of direction_goes_on) (of key_goes_on) nulls_follow n (maybe (of k.direction) (expect (of k.direction))) (maybe (of (k.clause w.Nulls)) reading.nulls)
    (maybe_exact (one (of k.direction)) (of k.direction) (of direction_goes_on) direction_leads (within direction_goes_on k.direction refl) n (expect (of k.direction))
    (one_exact (of k.direction) (example_of (kind.Word (word.Clause w.Asc))) refl (of direction_goes_on) n))
    (maybe_exact grammar.nulls_text (of (k.clause w.Nulls)) (of key_goes_on) nulls_leads (within key_goes_on (k.clause w.Nulls) refl) n reading.nulls (nulls_exact (of key_goes_on) n))
    (record { value = None; text = []; spelled = refl })

abbrev key_parts : Tree × (Option Symbol × Option Symbol) → Text
key_parts = Then spells after_value

abbrev key_of : Tree × (Option Symbol × Option Symbol) → KeyTree
key_of p = record { value = p.0; direction = p.1.0; nulls = p.1.1 }

pub key_exact : (n : ℕ) → Exact grammar.key_text (of key_goes_on) (reading.key n) n
unfolding reading.key
key_exact n =
    same_exact (Image key_of key_parts) grammar.key_text (of key_goes_on)
    (λ q u s. subst (λ w. grammar.key_text w u) (sym s.is) s.spelled)
    (λ q u s. record { value = (q.value, (q.direction, q.nulls)); is = refl; spelled = s })
    n (reading.key n)
    (image_exact key_of key_parts (of key_goes_on) n (both (expression n) read_after_value)
    (both_exact spells after_value (of (goes_on 0)) (of key_goes_on) value_followed n (expression n) read_after_value (expression_exact n) (after_value_exact n)
    (record { value = (None, None); text = []; spelled = record { left = []; right = []; joined = refl; before = refl; after = refl } })))

pub key_example : Example grammar.key_text
key_example = record {
  value = record { value = expression_example.value; direction = None; nulls = None };
  text = expression_example.text ++ [];
  spelled = record { left = expression_example.text; right = []; joined = refl; before = expression_example.spelled; after = record { left = []; right = []; joined = refl; before = refl; after = refl } };
}

pub keys_exact : (n : ℕ) → Exact (grammar.listed grammar.key_text) (of keys_go_on) (reading.keys n) n
unfolding reading.keys
keys_exact n = listed_exact grammar.key_text (of key_goes_on) (of keys_go_on) (apart k.comma key_goes_on refl) (within keys_go_on key_goes_on refl) (within keys_go_on k.comma refl) n (reading.key n) (key_exact n) key_example

pub keys_example : Example (grammar.listed grammar.key_text)
keys_example = listed_example grammar.key_text key_example
