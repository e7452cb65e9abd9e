-- The readers of lets and queries are exact.
use Rattle.std.proofs.Common.{◌≡◌, ℕ, Bool, true, List, [], ◌∷◌, ◌++◌, inl, inr, Option, Some, None, refl, sym, subst, arith}
use Rattle.kq_read_expressions.specs.Reading.{name, expression}
use Rattle.kq_read_grammar.specs.declared.expression.Name.{Name}
use Rattle.kq_read_grammar.specs.declared.expression.Name.TheVariants as shown
use Rattle.kq_read_grammar.specs.Expressions.{Text, name_text, spells}
use Rattle.kq_read_grammar.proofs.Precedences.{goes_on}
use Rattle.kq_read_grammar.specs.Tabulars.{tabular_text, scalar_right, tabular_right, let_text, query_end, query_text}
use Rattle.kq_read_grammar.specs.Trees.{Tree, TabularTree, pipeline, table, no_operator, LetTree, QueryTree}
use Rattle.kq_read_grammar.specs.Trees.Tree.{name as name_tree}
use Rattle.kq_read_queries.proofs.Following.{tabular_goes_on, query_goes_on}
use Rattle.kq_read_queries.specs.Reading as reading
use Rattle.kq_read_symbols.specs.declared.kind.Kind.TheVariants as kind
use Rattle.kq_read_symbols.specs.declared.kind.Symbol.{Symbol}
use Rattle.kq_read_symbols.specs.declared.word.ReservedWord.TheVariants as r
use Rattle.kq_read_symbols.specs.declared.word.Word.TheVariants as word
use Rattle.kq_read_tokens.specs.declared.kind.Punctuation.TheVariants as sign
use Rattle.kq_read_symbols.specs.Choices.{Right, either, Chosen}
use Rattle.kq_read_symbols.specs.Classes as k
use Rattle.kq_read_symbols.specs.Classes.{Class, of}
use Rattle.kq_read_symbols.specs.Forms.{one, some, ◌⨾◌, Many, Maybe, starts, expect, both, many, maybe, skip, closed}
use Rattle.kq_read_symbols.proofs.Forms.{Then, Image}
use Rattle.kq_read_symbols.proofs.ClassLemmas.{apart, within}
use Rattle.kq_read_symbols.proofs.Either.{either_meets, decides}
use Rattle.kq_read_symbols.proofs.Laws.{Exact, Example, Follows, Leads, nothing, both_exact, image_exact, same_exact, one_exact, many_exact, maybe_exact, maybe_follows, skip_exact, skip_example, closed_exact}
use Rattle.kq_read_expressions.proofs.NameLaws.{example_of, a_word, one_leads, name_exact, name_example}
use Rattle.kq_read_expressions.proofs.ExpressionLaws.{expression_exact}
use Rattle.kq_read_expressions.proofs.SemicolonLaws.{ended, ended_same, no_semicolon}
use Rattle.kq_read_queries.proofs.FreeLaws.{free_tabular}
use Rattle.kq_read_queries.proofs.PartLaws.{skip_begins, then_begins, begun_follows, anything_follows, then_example, a_sign}
use Rattle.kq_read_queries.proofs.TabularLaws.{tabular_exact, tabular_example, tabular_begins}

abbrev a_semicolon : Symbol
a_semicolon = example_of (kind.Punctuation sign.Semicolon)

-- ---- the right side of a let

scalar_exact : (n : ℕ) → Exact scalar_right nothing (closed (expression n) (of k.semicolon)) n
scalar_exact n = closed_exact (of k.semicolon) a_semicolon refl spells (of (goes_on 0)) nothing (apart k.semicolon (goes_on 0) refl) n (expression n) (expression_exact n)

rows_exact : (n : ℕ) → Exact tabular_right nothing (closed (reading.tabular n) (of k.semicolon)) n
rows_exact n = closed_exact (of k.semicolon) a_semicolon refl tabular_text (of tabular_goes_on) nothing (apart k.semicolon tabular_goes_on refl) n (reading.tabular n) (tabular_exact n)

-- both end at the first semicolon
same_text : (x : Tree) (y : TabularTree) (u v z w : List Symbol) → scalar_right x u → tabular_right y v → u ++ z ≡ v ++ w → u ≡ v
same_text x y u v z w a b e = ended_same u v z w (ended (spells x) (no_semicolon x) u a) (ended (tabular_text y) (free_tabular y) v b) e

abbrev right_text : Right Tree TabularTree → Text
right_text = Chosen scalar_right tabular_right

right_exact : (more : Symbol → Bool) (n : ℕ) → Exact right_text more (reading.right n) n
unfolding reading.right
right_exact more n = record {
  meets = λ ts l. either_meets scalar_right tabular_right same_text
      (decides scalar_right (λ n. closed (expression n) (of k.semicolon)) scalar_exact)
      (decides tabular_right (λ n. closed (reading.tabular n) (of k.semicolon)) rows_exact)
      more ts (closed (expression n) (of k.semicolon) ts) (closed (reading.tabular n) (of k.semicolon) ts) ((scalar_exact n).meets ts l) ((rows_exact n).meets ts l);
}

-- a name is both
right_example : Example right_text
right_example = record {
  value = either (name_tree (shown.Word a_word)) (pipeline (table (shown.Word a_word)) no_operator);
  text = a_word ∷ a_semicolon ∷ [];
  spelled = (
    record { left = a_word ∷ []; right = a_semicolon ∷ []; joined = refl; before = (refl, refl); after = (a_semicolon, (refl, refl)) },
    record { left = a_word ∷ []; right = a_semicolon ∷ []; joined = refl; before = record { left = a_word ∷ []; right = []; joined = refl; before = (refl, refl); after = refl }; after = (a_semicolon, (refl, refl)) },
  );
}

-- ---- lets

abbrev a_let : Symbol
a_let = example_of (kind.Word (word.Reserved r.Let))

abbrev assigned_right : Right Tree TabularTree → Text
assigned_right x = some (of k.assign) ⨾ right_text x

abbrev let_parts : Name × Right Tree TabularTree → Text
let_parts = Then name_text assigned_right

abbrev behind_let : Name × Right Tree TabularTree → Text
behind_let p = some (of (k.reserved r.Let)) ⨾ let_parts p

abbrev let_of : Name × Right Tree TabularTree → LetTree
let_of p = record { name = p.0; right = p.1 }

assigned_example : Example assigned_right
assigned_example = skip_example (of k.assign) a_sign refl right_text nothing right_example

let_parts_example : Example let_parts
let_parts_example = then_example name_text assigned_right name_example assigned_example

statement_exact : (more : Symbol → Bool) (n : ℕ) → Exact let_text more (reading.statement n) n
unfolding reading.statement
statement_exact more n =
    same_exact (Image let_of behind_let) let_text more
    (λ y u s. subst (λ w. let_text w u) (sym s.is) s.spelled)
    (λ y u s. record { value = (y.name, y.right); is = refl; spelled = s })
    n (reading.statement n)
    (image_exact let_of behind_let more n (skip (of (k.reserved r.Let)) (both name (skip (of k.assign) (reading.right n))))
    (skip_exact (of (k.reserved r.Let)) a_let refl let_parts more n n (omega arith) (both name (skip (of k.assign) (reading.right n)))
    (both_exact name_text assigned_right nothing more (anything_follows assigned_right more) n name (skip (of k.assign) (reading.right n)) (name_exact nothing n)
    (skip_exact (of k.assign) a_sign refl right_text more n n (omega arith) (reading.right n) (right_exact more n) right_example)
    assigned_example)
    let_parts_example))

let_leads : (y : LetTree) (u z : List Symbol) → let_text y u → starts (of (k.reserved r.Let)) (u ++ z) ≡ true
let_leads y u z s = skip_begins (k.reserved r.Let) let_parts (y.name, y.right) u z s

-- ---- queries

abbrev end_form : Option Symbol → Text
end_form = Maybe (one (of k.semicolon))

abbrev rows_and_end : TabularTree × Option Symbol → Text
rows_and_end = Then tabular_text end_form

abbrev query_parts : List LetTree × (TabularTree × Option Symbol) → Text
query_parts = Then (Many let_text) rows_and_end

abbrev query_of : List LetTree × (TabularTree × Option Symbol) → QueryTree
query_of p = record { lets = p.0; tabular = p.1.0 }

to_end : (o : Option Symbol) (u : List Symbol) → end_form o u → query_end u
to_end None u s = inl s
to_end (Some t) u s = inr (t, s)

from_end : (u : List Symbol) → query_end u → (o : Option Symbol) × end_form o u
from_end u (inl e) = (None, e)
from_end u (inr s) = (Some s.0, s.1)

to_query : (y : QueryTree) (u : List Symbol) → Image query_of query_parts y u → query_text y u
to_query y u h =
    let s = h.spelled in
    subst (λ w. query_text w u) (sym h.is)
    (record { left = s.left; right = s.right; joined = s.joined; before = s.before; after = record { left = s.after.left; right = s.after.right; joined = s.after.joined; before = s.after.before; after = to_end h.value.1.1 s.after.right s.after.after } })

from_query : (y : QueryTree) (u : List Symbol) → query_text y u → Image query_of query_parts y u
from_query y u s =
    let end = from_end s.after.right s.after.after in
    record {
      value = (y.lets, (y.tabular, end.0));
      is = refl;
      spelled = record { left = s.left; right = s.right; joined = s.joined; before = s.before; after = record { left = s.after.left; right = s.after.right; joined = s.after.joined; before = s.after.before; after = end.1 } };
    }

end_leads : Leads (of k.semicolon) true (one (of k.semicolon)) (of query_goes_on)
end_leads y u z s stops = one_leads k.semicolon y u z s

rows_and_end_example : Example rows_and_end
rows_and_end_example = record { value = (tabular_example.value, None); text = tabular_example.text ++ []; spelled = record { left = tabular_example.text; right = []; joined = refl; before = tabular_example.spelled; after = refl } }

rows_and_end_exact : (n : ℕ) → Exact rows_and_end (of query_goes_on) (both (reading.tabular n) (maybe (of k.semicolon) (expect (of k.semicolon)))) n
rows_and_end_exact n =
    both_exact tabular_text end_form (of tabular_goes_on) (of query_goes_on) (maybe_follows (one (of k.semicolon)) (of k.semicolon) (of query_goes_on) end_leads (within query_goes_on k.semicolon refl) (of tabular_goes_on) (apart k.semicolon tabular_goes_on refl) (within query_goes_on tabular_goes_on refl)) n (reading.tabular n) (maybe (of k.semicolon) (expect (of k.semicolon))) (tabular_exact n)
    (maybe_exact (one (of k.semicolon)) (of k.semicolon) (of query_goes_on) end_leads (within query_goes_on k.semicolon refl) n (expect (of k.semicolon)) (one_exact (of k.semicolon) a_semicolon refl (of query_goes_on) n))
    (record { value = None; text = []; spelled = refl })

-- after lets comes no other
rows_follow : Follows (of (k.reserved r.Let)) rows_and_end (of query_goes_on)
rows_follow = begun_follows k.begins_tabular (k.reserved r.Let) (apart k.begins_tabular (k.reserved r.Let) refl) rows_and_end (then_begins k.begins_tabular tabular_text end_form tabular_begins) (of query_goes_on)

pub query_exact : (n : ℕ) → Exact query_text (of query_goes_on) (reading.query n) n
unfolding reading.query
query_exact n =
    same_exact (Image query_of query_parts) query_text (of query_goes_on) to_query from_query n (reading.query n)
    (image_exact query_of query_parts (of query_goes_on) n (both (many (of (k.reserved r.Let)) (reading.statement n) n) (both (reading.tabular n) (maybe (of k.semicolon) (expect (of k.semicolon)))))
    (both_exact (Many let_text) rows_and_end (of (k.reserved r.Let)) (of query_goes_on) rows_follow n (many (of (k.reserved r.Let)) (reading.statement n) n) (both (reading.tabular n) (maybe (of k.semicolon) (expect (of k.semicolon))))
    (many_exact let_text (of (k.reserved r.Let)) nothing (of (k.reserved r.Let)) let_leads (λ t h. refl) (λ t h. refl) (λ t h. h) n n (omega arith) (reading.statement n) (statement_exact nothing n))
    (rows_and_end_exact n)
    rows_and_end_example))
