-- The readers of renamings and of what a join matches are exact.
use Rattle.std.proofs.Common.{◌≡◌, ℕ, Bool, true, false, List, [], ◌∷◌, ◌++◌, ◌⊎◌, inl, inr, refl, sym, subst, arith}
use Rattle.kq_read_clauses.proofs.Following.{renamings_go_on, join_keys_go_on}
use Rattle.kq_read_clauses.specs.Reading as reading
use Rattle.kq_read_expressions.specs.Reading.{name}
use Rattle.kq_read_grammar.specs.declared.clause.JoinKey.{JoinKey}
use Rattle.kq_read_grammar.specs.declared.clause.JoinKey.TheVariants as pair
use Rattle.kq_read_grammar.specs.declared.expression.Name.{Name}
use Rattle.kq_read_grammar.specs.declared.expression.Name.TheVariants as shown
use Rattle.kq_read_grammar.specs.Clauses as grammar
use Rattle.kq_read_grammar.specs.Expressions.{Text, name_text}
use Rattle.kq_read_symbols.specs.declared.kind.Kind.TheVariants as kind
use Rattle.kq_read_symbols.specs.declared.kind.Quoted.TheVariants as quoted
use Rattle.kq_read_symbols.specs.declared.kind.Symbol.{Symbol}
use Rattle.kq_read_symbols.specs.declared.word.JoinKind.TheVariants as join
use Rattle.kq_read_symbols.specs.declared.word.Word.TheVariants as word
use Rattle.kq_read_tokens.specs.declared.kind.Operator.TheVariants as operator
use Rattle.kq_read_tokens.specs.declared.kind.Punctuation.TheVariants as sign
use Rattle.kq_read_tokens.specs.declared.kind.Side.{Side}
use Rattle.kq_read_tokens.specs.declared.kind.Side.TheVariants as side
use Rattle.kq_read_symbols.specs.Classes as k
use Rattle.kq_read_symbols.specs.Classes.{of}
use Rattle.kq_read_symbols.specs.Forms.{Parser, one, some, ◌⨾◌, starts, expect, both, ◌<$>◌, choose, skip, closed}
use Rattle.kq_read_symbols.proofs.Forms.{Then, Image}
use Rattle.kq_read_symbols.proofs.ClassLemmas.{apart}
use Rattle.kq_read_symbols.proofs.Laws.{Exact, Example, nothing, stops_nothing, both_exact, image_exact, one_exact, choose_exact, skip_exact, skip_leads, skip_example, closed_exact, closed_example}
use Rattle.kq_read_expressions.proofs.NameLaws.{example_of, starts_apart, one_leads, name_exact, name_example, name_leads}
use Rattle.kq_read_clauses.proofs.ListLaws.{Begins, front_begins, listed_exact, listed_example}

-- ---- renamings

abbrev old_name : Name → Text
old_name m = some (of k.assign) ⨾ name_text m

pub renaming_exact : (more : Symbol → Bool) (n : ℕ) → Exact grammar.renaming_text more reading.renaming n
unfolding reading.renaming
renaming_exact more n =
    both_exact name_text old_name nothing more (λ y v z s stops. stops_nothing (v ++ z)) n name (skip (of k.assign) name) (name_exact nothing n)
    (skip_exact (of k.assign) (example_of (kind.Operator operator.Assign)) refl name_text more n n (omega arith) name (name_exact more n) name_example)
    (skip_example (of k.assign) (example_of (kind.Operator operator.Assign)) refl name_text nothing name_example)

pub renaming_example : Example grammar.renaming_text
renaming_example =
    let old = skip_example (of k.assign) (example_of (kind.Operator operator.Assign)) refl name_text nothing name_example in
    record { value = (name_example.value, old.value); text = name_example.text ++ old.text; spelled = record { left = name_example.text; right = old.text; joined = refl; before = name_example.spelled; after = old.spelled } }

pub renamings_exact : (n : ℕ) → Exact (grammar.listed grammar.renaming_text) (of renamings_go_on) (reading.renamings n) n
unfolding reading.renamings
renamings_exact n = listed_exact grammar.renaming_text nothing (of renamings_go_on) (λ t h. refl) (λ t h. refl) (λ t h. h) n reading.renaming (renaming_exact nothing n) renaming_example

pub renamings_example : Example (grammar.listed grammar.renaming_text)
renamings_example = listed_example grammar.renaming_text renaming_example

-- ---- a join's kind

abbrev quoted_in : Symbol → Text
quoted_in s = one (of k.quoted_join_kind) s ⨾ some (of k.close_bracket)

abbrev bracketed_kind : Name → Text
bracketed_kind = Image (λ (p : Symbol × Symbol). shown.Bracketed p.0 p.1) (Then (one (of k.open_bracket)) quoted_in)

abbrev worded_kind : Name → Text
worded_kind = Image shown.Word (one (of k.join_kind))

from_bracketed_kind : (y : Name) (u : List Symbol) → bracketed_kind y u → grammar.join_kind_text y u
from_bracketed_kind y u s = subst (λ w. grammar.join_kind_text w u) (sym s.is) s.spelled

from_worded_kind : (y : Name) (u : List Symbol) → worded_kind y u → grammar.join_kind_text y u
from_worded_kind y u s = subst (λ w. grammar.join_kind_text w u) (sym s.is) s.spelled

kind_cases : (y : Name) (u : List Symbol) → grammar.join_kind_text y u → bracketed_kind y u ⊎ worded_kind y u
kind_cases (shown.Word t) u s = inr (record { value = t; is = refl; spelled = s })
kind_cases (shown.Bracketed t x) u s = inl (record { value = (t, x); is = refl; spelled = s })

abbrev a_quoted_kind : Symbol
a_quoted_kind = example_of (kind.String (quoted.JoinKind join.Inner))

abbrev a_kind : Symbol
a_kind = example_of (kind.Word (word.Join join.Inner))

abbrev read_bracketed_kind : Parser Symbol (Symbol × Symbol)
read_bracketed_kind = both (expect (of k.open_bracket)) (closed (expect (of k.quoted_join_kind)) (of k.close_bracket))

bracketed_kind_exact : (more : Symbol → Bool) (n : ℕ) → Exact bracketed_kind more ((λ p. shown.Bracketed p.0 p.1) <$> read_bracketed_kind) n
bracketed_kind_exact more n =
    image_exact (λ (p : Symbol × Symbol). shown.Bracketed p.0 p.1) (Then (one (of k.open_bracket)) quoted_in) more n read_bracketed_kind
    (both_exact (one (of k.open_bracket)) quoted_in nothing more (λ y v z s stops. stops_nothing (v ++ z)) n (expect (of k.open_bracket)) (closed (expect (of k.quoted_join_kind)) (of k.close_bracket)) (one_exact (of k.open_bracket) (example_of (kind.Punctuation sign.OpenBracket)) refl nothing n)
    (closed_exact (of k.close_bracket) (example_of (kind.Punctuation sign.CloseBracket)) refl (one (of k.quoted_join_kind)) nothing more (λ t h. refl) n (expect (of k.quoted_join_kind)) (one_exact (of k.quoted_join_kind) a_quoted_kind refl nothing n))
    (closed_example (of k.close_bracket) (example_of (kind.Punctuation sign.CloseBracket)) refl (one (of k.quoted_join_kind)) nothing (record { value = a_quoted_kind; text = a_quoted_kind ∷ []; spelled = (refl, refl) })))

bracketed_kind_begins : Begins k.open_bracket bracketed_kind
bracketed_kind_begins y u z s = front_begins k.open_bracket (one (of k.open_bracket) s.value.0) (quoted_in s.value.1) true (one_leads k.open_bracket s.value.0) u z s.spelled

pub join_kind_exact : (more : Symbol → Bool) (n : ℕ) → Exact grammar.join_kind_text more reading.join_kind n
unfolding reading.join_kind
join_kind_exact more n =
    choose_exact (of k.open_bracket) bracketed_kind worded_kind grammar.join_kind_text more from_bracketed_kind from_worded_kind kind_cases
    (λ y u z s stops. bracketed_kind_begins y u z s)
    (λ y u z s stops. starts_apart k.join_kind k.open_bracket (apart k.join_kind k.open_bracket refl) (u ++ z) (one_leads k.join_kind s.value u z s.spelled))
    n ((λ p. shown.Bracketed p.0 p.1) <$> read_bracketed_kind) (shown.Word <$> expect (of k.join_kind))
    (bracketed_kind_exact more n)
    (image_exact shown.Word (one (of k.join_kind)) more n (expect (of k.join_kind)) (one_exact (of k.join_kind) a_kind refl more n))

pub join_kind_example : Example grammar.join_kind_text
join_kind_example = record { value = shown.Word a_kind; text = a_kind ∷ []; spelled = (refl, refl) }

-- ---- what a join matches

abbrev sided : Side → Name → Text
sided x m = some (of (k.side x)) ⨾ some (of k.dot) ⨾ name_text m

abbrev a_dot : Symbol
a_dot = example_of (kind.Punctuation sign.Dot)

abbrev an_equals : Symbol
an_equals = example_of (kind.Operator operator.Equal)

abbrev behind_dot : Name → Text
behind_dot m = some (of k.dot) ⨾ name_text m

module _ (x : Side) (t₀ : Symbol) (is_t₀ : of (k.side x) t₀ ≡ true) where
  sided_exact : (more : Symbol → Bool) (n : ℕ) → Exact (sided x) more (reading.sided x) n
  sided_exact more n =
      skip_exact (of (k.side x)) t₀ is_t₀ behind_dot more n n (omega arith) (skip (of k.dot) name)
      (skip_exact (of k.dot) a_dot refl name_text more n n (omega arith) name (name_exact more n) name_example)
      (skip_example (of k.dot) a_dot refl name_text nothing name_example)

  sided_example : Example (sided x)
  sided_example = skip_example (of (k.side x)) t₀ is_t₀ behind_dot nothing (skip_example (of k.dot) a_dot refl name_text nothing name_example)

abbrev behind_side : Side → Symbol × Name → Text
behind_side y = Then (one (of k.equals)) (sided y)

abbrev sides : Side → Side → Name × (Symbol × Name) → Text
sides x y = Then (sided x) (behind_side y)

module _ (x y : Side) (t₀ s₀ : Symbol) (is_t₀ : of (k.side x) t₀ ≡ true) (is_s₀ : of (k.side y) s₀ ≡ true) where
  behind_side_example : Example (behind_side y)
  behind_side_example =
      let e = sided_example y s₀ is_s₀ in
      record { value = (an_equals, e.value); text = an_equals ∷ e.text; spelled = record { left = an_equals ∷ []; right = e.text; joined = refl; before = (refl, refl); after = e.spelled } }

  sides_exact : (more : Symbol → Bool) (n : ℕ) → Exact (sides x y) more (reading.sides x y) n
  sides_exact more n =
      both_exact (sided x) (behind_side y) nothing more (λ m v z s stops. stops_nothing (v ++ z)) n (reading.sided x) (both (expect (of k.equals)) (reading.sided y)) (sided_exact x t₀ is_t₀ nothing n)
      (both_exact (one (of k.equals)) (sided y) nothing more (λ m v z s stops. stops_nothing (v ++ z)) n (expect (of k.equals)) (reading.sided y) (one_exact (of k.equals) an_equals refl nothing n) (sided_exact y s₀ is_s₀ more n) (sided_example y s₀ is_s₀))
      behind_side_example

  sides_begin : Begins (k.side x) (sides x y)
  sides_begin p u z s = front_begins (k.side x) (sided x p.0) (behind_side y p.1) true (λ v z s. skip_leads (of (k.side x)) t₀ is_t₀ behind_dot nothing p.0 v z s) u z s

abbrev left_right : Name × (Symbol × Name) → JoinKey
left_right p = pair.LeftRight p.0 p.1.0 p.1.1

abbrev right_left : Name × (Symbol × Name) → JoinKey
right_left p = pair.RightLeft p.0 p.1.0 p.1.1

abbrev left_right_form : JoinKey → Text
left_right_form = Image left_right (sides side.Left side.Right)

abbrev right_left_form : JoinKey → Text
right_left_form = Image right_left (sides side.Right side.Left)

abbrev both_form : JoinKey → Text
both_form = Image pair.Both name_text

abbrev others_form : JoinKey → Text
others_form y u = right_left_form y u ⊎ both_form y u

from_left_right : (y : JoinKey) (u : List Symbol) → left_right_form y u → grammar.join_key_text y u
from_left_right y u s = subst (λ w. grammar.join_key_text w u) (sym s.is) s.spelled

from_others : (y : JoinKey) (u : List Symbol) → others_form y u → grammar.join_key_text y u
from_others y u (inl s) = subst (λ w. grammar.join_key_text w u) (sym s.is) s.spelled
from_others y u (inr s) = subst (λ w. grammar.join_key_text w u) (sym s.is) s.spelled

join_key_cases : (y : JoinKey) (u : List Symbol) → grammar.join_key_text y u → left_right_form y u ⊎ others_form y u
join_key_cases (pair.Both m) u s = inr (inr (record { value = m; is = refl; spelled = s }))
join_key_cases (pair.LeftRight a t b) u s = inl (record { value = (a, (t, b)); is = refl; spelled = s })
join_key_cases (pair.RightLeft a t b) u s = inr (inl (record { value = (a, (t, b)); is = refl; spelled = s }))

abbrev a_left : Symbol
a_left = example_of (kind.Side side.Left)

abbrev a_right : Symbol
a_right = example_of (kind.Side side.Right)

left_right_begins : Begins (k.side side.Left) left_right_form
left_right_begins y u z s = sides_begin side.Left side.Right a_left a_right refl refl s.value u z s.spelled

right_left_begins : Begins (k.side side.Right) right_left_form
right_left_begins y u z s = sides_begin side.Right side.Left a_right a_left refl refl s.value u z s.spelled

others_begin : (y : JoinKey) (u z : List Symbol) → others_form y u → starts (of (k.side side.Left)) (u ++ z) ≡ false
others_begin y u z (inl s) = starts_apart (k.side side.Right) (k.side side.Left) (apart (k.side side.Right) (k.side side.Left) refl) (u ++ z) (right_left_begins y u z s)
others_begin y u z (inr s) = starts_apart k.begins_name (k.side side.Left) (apart k.begins_name (k.side side.Left) refl) (u ++ z) (name_leads s.value u z s.spelled)

pub join_key_exact : (more : Symbol → Bool) (n : ℕ) → Exact grammar.join_key_text more reading.join_key n
unfolding reading.join_key reading.left_right reading.right_left
join_key_exact more n =
    choose_exact (of (k.side side.Left)) left_right_form others_form grammar.join_key_text more from_left_right from_others join_key_cases
    (λ y u z s stops. left_right_begins y u z s) (λ y u z s stops. others_begin y u z s)
    n reading.left_right (choose (of (k.side side.Right)) reading.right_left (pair.Both <$> name))
    (image_exact left_right (sides side.Left side.Right) more n (reading.sides side.Left side.Right) (sides_exact side.Left side.Right a_left a_right refl refl more n))
    (choose_exact (of (k.side side.Right)) right_left_form both_form others_form more (λ y u s. inl s) (λ y u s. inr s) (λ y u s. s)
    (λ y u z s stops. right_left_begins y u z s)
    (λ y u z s stops. starts_apart k.begins_name (k.side side.Right) (apart k.begins_name (k.side side.Right) refl) (u ++ z) (name_leads s.value u z s.spelled))
    n reading.right_left (pair.Both <$> name)
    (image_exact right_left (sides side.Right side.Left) more n (reading.sides side.Right side.Left) (sides_exact side.Right side.Left a_right a_left refl refl more n))
    (image_exact pair.Both name_text more n name (name_exact more n)))

pub join_key_example : Example grammar.join_key_text
join_key_example = record { value = pair.Both name_example.value; text = name_example.text; spelled = name_example.spelled }

pub join_keys_exact : (n : ℕ) → Exact (grammar.listed grammar.join_key_text) (of join_keys_go_on) (reading.join_keys n) n
unfolding reading.join_keys
join_keys_exact n = listed_exact grammar.join_key_text nothing (of join_keys_go_on) (λ t h. refl) (λ t h. refl) (λ t h. h) n reading.join_key (join_key_exact nothing n) join_key_example

pub join_keys_example : Example (grammar.listed grammar.join_key_text)
join_keys_example = listed_example grammar.join_key_text join_key_example
