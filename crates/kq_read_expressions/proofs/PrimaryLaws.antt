-- The readers of what binds most tightly are exact: names, literals, calls and parentheses.
use Rattle.std.proofs.Common.{◌≡◌, ℕ, suc, ◌≤◌, Bool, true, false, if◌then◌else◌, ◌||◌, List, [], ◌∷◌, ◌++◌, length, ◌⊎◌, inl, inr, Option, Some, None, Ok, Err, refl, sym, ◌∙◌, ap, subst, append-nil, arith}
use Rattle.kq_read_grammar.specs.declared.expression.Name.{Name}
use Rattle.kq_read_grammar.specs.declared.expression.Name.TheVariants as shown
use Rattle.kq_read_grammar.specs.Expressions.{Text, name_text, spells, spells_all, spells_more}
use Rattle.kq_read_grammar.proofs.Precedences.{goes_on}
use Rattle.kq_read_grammar.specs.Trees.{Tree, literal, group, call, path, signed, compare, within, between, chain, Trees, no_tree, and_tree}
use Rattle.kq_read_grammar.specs.Trees.Tree.{name}
use Rattle.kq_read_grammar.specs.Views.{trees_of}
use Rattle.kq_read_symbols.specs.declared.kind.Kind.TheVariants as kind
use Rattle.kq_read_symbols.specs.declared.kind.Symbol.{Symbol}
use Rattle.kq_read_tokens.specs.declared.kind.Punctuation.TheVariants as sign
use Rattle.kq_read_symbols.specs.Classes as k
use Rattle.kq_read_symbols.specs.Classes.{Class, of}
use Rattle.kq_read_symbols.specs.Forms.{Parser, Outcome, one, some, ◌⨾◌, Many, Maybe, Separated, pure, starts, expect, bind, both, ◌<$>◌, choose, and_then, closed, separated}
use Rattle.kq_read_symbols.proofs.Forms.{Meets, Bind, Then, Image}
use Rattle.kq_read_symbols.proofs.ClassLemmas.{apart, within as within_class, part}
use Rattle.kq_read_symbols.proofs.Laws.{Exact, Example, nothing, stops_nothing, bind_exact, both_less, image_exact, pure_exact, one_exact, choose_exact, maybe_exact, skip_exact, skip_leads, skip_example, closed_exact, closed_example, separated_exact, starts_stops}
use Rattle.kq_read_expressions.specs.Reading.{bracketed_name, stands_alone, worded_of, arguments, in_parentheses, arguments_of, worded, grouped, primary}
use Rattle.kq_read_expressions.proofs.NameLaws.{example_of, a_word, starts_apart, one_leads, front_leads, bracketed_text, bracketed_exact, bracketed_leads, from_bracketed_text}
use Rattle.kq_read_expressions.proofs.LevelLaws.{at, too_tight}
use Rattle.kq_read_expressions.proofs.LeadLaws.{expression_leads}

-- ---- lists of expressions

abbrev more_one : Tree → Text
more_one e = some (of k.comma) ⨾ spells e

to_more : (es : List Tree) (u : List Symbol) → Many more_one es u → spells_more (trees_of es) u
to_more [] u s = s
to_more (e ∷ es) u s = record { left = s.0; right = s.1; joined = s.2; before = s.3; after = to_more es s.1 s.4 }

from_more : (es : Trees) (u : List Symbol) → spells_more es u → (xs : List Tree) × (es ≡ trees_of xs) × Many more_one xs u
from_more no_tree u s = ([], refl, s)
from_more (and_tree e es) u s = let rest = from_more es s.right s.after in (e ∷ rest.0, ap (λ m. and_tree e m) rest.1, (s.left, s.right, s.joined, s.before, rest.2))

-- one expression or more
abbrev pub some_text : Tree → Trees → Text
some_text e es = spells e ⨾ spells_more es

pub to_separated : (p : Tree × List Tree) (u : List Symbol) → Separated (of k.comma) spells p u → some_text p.0 (trees_of p.1) u
to_separated p u s = record { left = s.left; right = s.right; joined = s.joined; before = s.before; after = to_more p.1 s.right s.after }

pub from_separated : (e : Tree) (es : Trees) (u : List Symbol) → some_text e es u → (xs : List Tree) × (es ≡ trees_of xs) × Separated (of k.comma) spells (e, xs) u
from_separated e es u s = let rest = from_more es s.right s.after in (rest.0, rest.1, record { left = s.left; right = s.right; joined = s.joined; before = s.before; after = rest.2 })

abbrev some_trees : Trees → Text
some_trees = Image (λ (p : Tree × List Tree). and_tree p.0 (trees_of p.1)) (Separated (of k.comma) spells)

abbrev no_trees : Trees → Text
no_trees es u = (es ≡ no_tree) × (u ≡ [])

to_some_trees : (es : Trees) (u : List Symbol) → some_trees es u → spells_all es u
to_some_trees es u s = subst (λ w. spells_all w u) (sym s.is) (to_separated s.value u s.spelled)

to_no_trees : (es : Trees) (u : List Symbol) → no_trees es u → spells_all es u
to_no_trees es u s = subst (λ w. spells_all w u) (sym s.0) s.1

trees_cases : (es : Trees) (u : List Symbol) → spells_all es u → some_trees es u ⊎ no_trees es u
trees_cases no_tree u s = inr (refl, s)
trees_cases (and_tree e es) u s = let rest = from_separated e es u s in inl (record { value = (e, rest.0); is = ap (λ m. and_tree e m) rest.1; spelled = rest.2 })

-- with these a list of expressions goes on, or would
abbrev pub in_list : Class
in_list x = k.begins_expression x || goes_on 0 x || k.comma x

pub one_spelled : Example spells
one_spelled = record { value = name (shown.Word a_word); text = a_word ∷ []; spelled = (refl, refl) }

abbrev pub opening : Symbol
opening = example_of (kind.Punctuation sign.OpenParenthesis)

abbrev pub closing : Symbol
closing = example_of (kind.Punctuation sign.CloseParenthesis)

-- ---- forms

abbrev listed_text : Trees → Text
listed_text es = spells_all es ⨾ some (of k.close_parenthesis)

abbrev in_brackets : Trees → Text
in_brackets es = some (of k.open_parenthesis) ⨾ listed_text es

abbrev arguments_form : Bool → Option Trees → Text
arguments_form true = Maybe in_brackets
arguments_form false = Image Some in_brackets

abbrev worded_parts : Symbol × Option Trees → Text
worded_parts = Bind (one (of k.any_word)) (λ t. arguments_form (of stands_alone t))

abbrev worded_form : Tree → Text
worded_form = Image (λ (p : Symbol × Option Trees). worded_of p.0 p.1) worded_parts

abbrev group_parts : Symbol × Tree → Text
group_parts = Then (one (of k.open_parenthesis)) (λ e. spells e ⨾ some (of k.close_parenthesis))

abbrev group_form : Tree → Text
group_form = Image (λ (p : Symbol × Tree). group p.0 p.1) group_parts

abbrev bracketed_form : Tree → Text
bracketed_form = Image name bracketed_text

-- a literal that is no word
abbrev plain_literal : Class
plain_literal x = if k.any_word x then false else k.literal x

-- a literal that is a word
abbrev worded_literal : Class
worded_literal x = if k.any_word x then k.literal x else false

abbrev literal_form : Tree → Text
literal_form = Image literal (one (of plain_literal))

abbrev words_or_literals : Tree → Text
words_or_literals e u = worded_form e u ⊎ literal_form e u

abbrev no_groups : Tree → Text
no_groups e u = bracketed_form e u ⊎ words_or_literals e u

-- ---- from the forms

to_group : (e : Tree) (u : List Symbol) → group_form e u → at 7 e u
to_group e u s = subst (λ w. at 7 w u) (sym s.is) (omega arith, s.spelled)

bare_or_truth : (a b : Bool) → (a || b) ≡ true → a ≡ false → b ≡ true
bare_or_truth true b h e = let no : true ≡ false = e in cc
bare_or_truth false b h e = h

alone_text : (b : Bool) (t : Symbol) (u : List Symbol) → of k.bare_name t ≡ b → of stands_alone t ≡ true → u ≡ t ∷ [] → spells (if b then name (shown.Word t) else literal t) u
alone_text true t u h a e = (h, e)
alone_text false t u h a e = (part k.truth k.literal refl t (bare_or_truth (of k.bare_name t) (of k.truth t) a h), e)

alone_at : (b : Bool) (t : Symbol) (u : List Symbol) → spells (if b then name (shown.Word t) else literal t) u → at 7 (if b then name (shown.Word t) else literal t) u
alone_at true t u s = (omega arith, s)
alone_at false t u s = (omega arith, s)

without_arguments : (b : Bool) (right : List Symbol) → arguments_form b None right → (b ≡ true) × (right ≡ [])
without_arguments true right s = (refl, s)
without_arguments false right s = let no : None ≡ Some s.value = s.is in cc

with_arguments : (b : Bool) (es : Trees) (right : List Symbol) → arguments_form b (Some es) right → in_brackets es right
with_arguments true es right s = s
with_arguments false es right s = let same : s.value ≡ es = cc in subst (λ w. in_brackets w right) same s.spelled

to_worded_at : (t : Symbol) (o : Option Trees) (u : List Symbol) → worded_parts (t, o) u → at 7 (worded_of t o) u
to_worded_at t None u s =
    let end = without_arguments (of stands_alone t) s.right s.after in
    let all : u ≡ t ∷ [] = s.joined ∙ ap (λ r. s.left ++ r) end.1 ∙ append-nil s.left ∙ s.before.1 in
    alone_at (of k.bare_name t) t u (alone_text (of k.bare_name t) t u refl end.0 all)
to_worded_at t (Some es) u s = (omega arith, record { left = s.left; right = s.right; joined = s.joined; before = s.before; after = with_arguments (of stands_alone t) es s.right s.after })

to_no_groups : (e : Tree) (u : List Symbol) → no_groups e u → at 7 e u
to_no_groups e u (inl s) = subst (λ w. at 7 w u) (sym s.is) (omega arith, from_bracketed_text s.value u s.spelled)
to_no_groups e u (inr (inl s)) = subst (λ w. at 7 w u) (sym s.is) (to_worded_at s.value.0 s.value.1 u s.spelled)
to_no_groups e u (inr (inr s)) = subst (λ w. at 7 w u) (sym s.is) (omega arith, (part plain_literal k.literal refl s.value s.spelled.0, s.spelled.1))

-- ---- to the forms

alone_form : (b : Bool) → b ≡ true → arguments_form b None []
alone_form true e = refl
alone_form false e = let no : false ≡ true = e in cc

arguments_in : (b : Bool) (es : Trees) (right : List Symbol) → in_brackets es right → arguments_form b (Some es) right
arguments_in true es right s = s
arguments_in false es right s = record { value = es; is = refl; spelled = s }

alone_parts : (t : Symbol) (u : List Symbol) → of k.any_word t ≡ true → of stands_alone t ≡ true → u ≡ t ∷ [] → worded_parts (t, None) u
alone_parts t u is_word alone e = record { left = u; right = []; joined = sym (append-nil u); before = (is_word, e); after = alone_form (of stands_alone t) alone }

name_form : (t : Symbol) (u : List Symbol) → one (of k.bare_name) t u → worded_form (name (shown.Word t)) u
name_form t u s = record {
  value = (t, None);
  is = sym (ap (λ b. if b then name (shown.Word t) else literal t) s.0);
  spelled = alone_parts t u (part k.bare_name k.any_word refl t s.0) (part k.bare_name stands_alone refl t s.0) s.1;
}

truth_form : (t : Symbol) (u : List Symbol) → of k.truth t ≡ true → u ≡ t ∷ [] → worded_form (literal t) u
truth_form t u h e = record {
  value = (t, None);
  is = sym (ap (λ b. if b then name (shown.Word t) else literal t) (apart k.truth k.bare_name refl t h));
  spelled = alone_parts t u (part k.truth k.any_word refl t h) (part k.truth stands_alone refl t h) e;
}

literal_cases : (b : Bool) (t : Symbol) (u : List Symbol) → of k.any_word t ≡ b → one (of k.literal) t u → words_or_literals (literal t) u
literal_cases true t u h s = inl (truth_form t u (part worded_literal k.truth refl t (ap (λ b. if b then of k.literal t else false) h ∙ s.0)) s.1)
literal_cases false t u h s = inr (record { value = t; is = refl; spelled = (ap (λ b. if b then false else of k.literal t) h ∙ s.0, s.1) })

name_cases : (n : Name) (u : List Symbol) → name_text n u → no_groups (name n) u
name_cases (shown.Word t) u s = inr (inl (name_form t u s))
name_cases (shown.Bracketed t x) u s = inl (record { value = shown.Bracketed t x; is = refl; spelled = s })

call_form : (t : Symbol) (es : Trees) (u : List Symbol) → spells (call t es) u → worded_form (call t es) u
call_form t es u s = record { value = (t, Some es); is = refl; spelled = record { left = s.left; right = s.right; joined = s.joined; before = s.before; after = arguments_in (of stands_alone t) es s.right s.after } }

primary_cases : (e : Tree) (u : List Symbol) → at 7 e u → group_form e u ⊎ no_groups e u
primary_cases (name n) u s = inr (name_cases n u s.1)
primary_cases (literal t) u s = inr (inr (literal_cases (of k.any_word t) t u refl s.1))
primary_cases (group t e) u s = inl (record { value = (t, e); is = refl; spelled = s.1 })
primary_cases (call t es) u s = inr (inr (inl (call_form t es u s.1)))
primary_cases (path f x xs) u s = absurd (omega arith)
primary_cases (signed t f) u s = absurd (omega arith)
primary_cases (compare a t b) u s = absurd (omega arith)
primary_cases (within a t b es) u s = absurd (omega arith)
primary_cases (between a t b c) u s = absurd (omega arith)
primary_cases (chain l f t g ls) u s = absurd (too_tight l 7 (omega arith) s.0)

-- ---- what the forms start with

group_leads : (e : Tree) (u z : List Symbol) → group_form e u → starts (of k.open_parenthesis) (u ++ z) ≡ true
group_leads e u z s = front_leads (of k.open_parenthesis) u s.spelled.left s.spelled.right z s.spelled.joined (λ w. one_leads k.open_parenthesis s.value.0 s.spelled.left w s.spelled.before)

worded_leads : (e : Tree) (u z : List Symbol) → worded_form e u → starts (of k.any_word) (u ++ z) ≡ true
worded_leads e u z s = front_leads (of k.any_word) u s.spelled.left s.spelled.right z s.spelled.joined (λ w. one_leads k.any_word s.value.0 s.spelled.left w s.spelled.before)

literal_leads : (e : Tree) (u z : List Symbol) → literal_form e u → starts (of plain_literal) (u ++ z) ≡ true
literal_leads e u z s = one_leads plain_literal s.value u z s.spelled

words_lead_not : (b : Class) → ((t : Symbol) → of k.any_word t ≡ true → of b t ≡ false) → ((t : Symbol) → of plain_literal t ≡ true → of b t ≡ false) → (e : Tree) (u z : List Symbol) → words_or_literals e u → starts (of b) (u ++ z) ≡ false
words_lead_not b off_word off_literal e u z (inl s) = starts_apart k.any_word b off_word (u ++ z) (worded_leads e u z s)
words_lead_not b off_word off_literal e u z (inr s) = starts_apart plain_literal b off_literal (u ++ z) (literal_leads e u z s)

no_groups_lead : (e : Tree) (u z : List Symbol) → no_groups e u → starts (of k.open_parenthesis) (u ++ z) ≡ false
no_groups_lead e u z (inl s) = starts_apart k.open_bracket k.open_parenthesis (apart k.open_bracket k.open_parenthesis refl) (u ++ z) (bracketed_leads s.value u z s.spelled)
no_groups_lead e u z (inr s) = words_lead_not k.open_parenthesis (apart k.any_word k.open_parenthesis refl) (apart plain_literal k.open_parenthesis refl) e u z s

-- ---- a literal behind a test for words

module _ (p : Parser Symbol Tree) where
  abbrev with_all : Parser Symbol Tree
  with_all = choose (of k.any_word) p (literal <$> expect (of k.literal))

  abbrev with_plain : Parser Symbol Tree
  with_plain = choose (of k.any_word) p (literal <$> expect (of plain_literal))

  abbrev literal_if : Symbol → List Symbol → Bool → Outcome Symbol Tree
  literal_if t ts c = and_then (if c then Ok (t, ts) else Err (t ∷ ts)) (λ x. pure (literal x))

  agree_at : (b : Bool) (t : Symbol) (ts : List Symbol) → of k.any_word t ≡ b → (if b then p (t ∷ ts) else literal_if t ts (of plain_literal t)) ≡ (if b then p (t ∷ ts) else literal_if t ts (of k.literal t))
  agree_at true t ts h = refl
  agree_at false t ts h = ap (literal_if t ts) (ap (λ c. if c then false else of k.literal t) h)

  agree : (ts : List Symbol) → with_plain ts ≡ with_all ts
  agree [] = refl
  agree (t ∷ ts) = agree_at (of k.any_word t) t ts refl

pub agree_exact : {A : Type 0} (form : A → Text) (more : Symbol → Bool) (n : ℕ) (p q : Parser Symbol A) → ((ts : List Symbol) → p ts ≡ q ts) → Exact form more p n → Exact form more q n
agree_exact form more n p q same exact = record { meets = λ ts l. subst (λ o. Meets form more ts o) (same ts) (exact.meets ts l) }

-- ---- the readers

module _ (rec : Parser Symbol Tree) (f n : ℕ) (le : suc n ≤ f) (rec_exact : Exact spells (of (goes_on 0)) rec n) where
  pub separated_trees : Exact (Separated (of k.comma) spells) (of in_list) (separated (of k.comma) rec f) n
  separated_trees = separated_exact (of k.comma) (example_of (kind.Punctuation sign.Comma)) refl spells (of (goes_on 0)) (of in_list) (apart k.comma (goes_on 0) refl) (within_class in_list (goes_on 0) refl) (within_class in_list k.comma refl) f n (omega arith) rec rec_exact one_spelled

  arguments_exact : Exact spells_all (of in_list) (arguments rec f) n
  unfolding arguments
  arguments_exact =
      choose_exact (of k.begins_expression) some_trees no_trees spells_all (of in_list) to_some_trees to_no_trees trees_cases
      (λ es u z s stops. front_leads (of k.begins_expression) u s.spelled.left s.spelled.right z s.spelled.joined (λ w. expression_leads s.value.0 s.spelled.left w s.spelled.before))
      (λ es u z s stops. ap (λ l. starts (of k.begins_expression) (l ++ z)) s.1 ∙ starts_stops (of k.begins_expression) (of in_list) (within_class in_list k.begins_expression refl) z stops)
      n ((λ p. and_tree p.0 (trees_of p.1)) <$> separated (of k.comma) rec f) (pure no_tree)
      (image_exact (λ (p : Tree × List Tree). and_tree p.0 (trees_of p.1)) (Separated (of k.comma) spells) (of in_list) n (separated (of k.comma) rec f) separated_trees)
      (pure_exact no_tree no_trees (of in_list) (refl, refl) (λ es u s. s) n)

  no_argument : Example listed_text
  no_argument = closed_example (of k.close_parenthesis) closing refl spells_all (of in_list) (record { value = no_tree; text = []; spelled = refl })

  in_parentheses_exact : Exact in_brackets (of (goes_on 7)) (in_parentheses rec f) (suc n)
  unfolding in_parentheses
  in_parentheses_exact =
      skip_exact (of k.open_parenthesis) opening refl listed_text (of (goes_on 7)) (suc n) n (omega arith) (closed (arguments rec f) (of k.close_parenthesis))
      (closed_exact (of k.close_parenthesis) closing refl spells_all (of in_list) (of (goes_on 7)) (apart k.close_parenthesis in_list refl) n (arguments rec f) arguments_exact)
      no_argument

  arguments_of_exact : (b : Bool) → Exact (arguments_form b) (of (goes_on 7)) (arguments_of rec f b) (suc n)
  arguments_of_exact true = maybe_exact in_brackets (of k.open_parenthesis) (of (goes_on 7)) (λ es u z s stops. skip_leads (of k.open_parenthesis) opening refl listed_text nothing es u z s) (within_class (goes_on 7) k.open_parenthesis refl) (suc n) (in_parentheses rec f) in_parentheses_exact
  arguments_of_exact false = image_exact Some in_brackets (of (goes_on 7)) (suc n) (in_parentheses rec f) in_parentheses_exact

  arguments_example : (b : Bool) → Example (arguments_form b)
  arguments_example true = record { value = None; text = []; spelled = refl }
  arguments_example false =
      let e = skip_example (of k.open_parenthesis) opening refl listed_text nothing no_argument in
      record { value = Some e.value; text = e.text; spelled = record { value = e.value; is = refl; spelled = e.spelled } }

  worded_exact : Exact worded_form (of (goes_on 7)) (worded rec f) (suc n)
  unfolding worded
  worded_exact =
      image_exact (λ (p : Symbol × Option Trees). worded_of p.0 p.1) worded_parts (of (goes_on 7)) (suc n) (bind (expect (of k.any_word)) (λ t. arguments_of rec f (of stands_alone t)))
      (bind_exact (one (of k.any_word)) (λ t. arguments_form (of stands_alone t)) nothing (of (goes_on 7)) (λ x y v z s stops. stops_nothing (v ++ z)) (suc n) (suc n) (λ t u s. omega arith) (expect (of k.any_word)) (λ t. arguments_of rec f (of stands_alone t)) (one_exact (of k.any_word) a_word refl nothing (suc n)) (λ t. arguments_of_exact (of stands_alone t)) (λ t. arguments_example (of stands_alone t)))

  grouped_exact : Exact group_form (of (goes_on 7)) (grouped rec f) (suc n)
  unfolding grouped
  grouped_exact =
      image_exact (λ (p : Symbol × Tree). group p.0 p.1) group_parts (of (goes_on 7)) (suc n) (both (expect (of k.open_parenthesis)) (closed rec (of k.close_parenthesis)))
      (both_less (one (of k.open_parenthesis)) (λ e. spells e ⨾ some (of k.close_parenthesis)) nothing (of (goes_on 7)) (λ y v z s stops. stops_nothing (v ++ z)) (suc n) n (λ t u s. omega (arith, ap length s.1)) (expect (of k.open_parenthesis)) (closed rec (of k.close_parenthesis)) (one_exact (of k.open_parenthesis) opening refl nothing (suc n))
      (closed_exact (of k.close_parenthesis) closing refl spells (of (goes_on 0)) (of (goes_on 7)) (apart k.close_parenthesis (goes_on 0) refl) n rec rec_exact)
      (closed_example (of k.close_parenthesis) closing refl spells (of (goes_on 0)) one_spelled))

  words_exact : Exact words_or_literals (of (goes_on 7)) (choose (of k.any_word) (worded rec f) (literal <$> expect (of k.literal))) (suc n)
  words_exact =
      agree_exact words_or_literals (of (goes_on 7)) (suc n) (with_plain (worded rec f)) (with_all (worded rec f)) (agree (worded rec f))
      (choose_exact (of k.any_word) worded_form literal_form words_or_literals (of (goes_on 7)) (λ e u s. inl s) (λ e u s. inr s) (λ e u s. s)
      (λ e u z s stops. worded_leads e u z s)
      (λ e u z s stops. starts_apart plain_literal k.any_word (apart plain_literal k.any_word refl) (u ++ z) (literal_leads e u z s))
      (suc n) (worded rec f) (literal <$> expect (of plain_literal))
      worded_exact
      (image_exact literal (one (of plain_literal)) (of (goes_on 7)) (suc n) (expect (of plain_literal)) (one_exact (of plain_literal) (example_of kind.WholeNumber) refl (of (goes_on 7)) (suc n))))

  no_groups_exact : Exact no_groups (of (goes_on 7)) (choose (of k.open_bracket) (name <$> bracketed_name) (choose (of k.any_word) (worded rec f) (literal <$> expect (of k.literal)))) (suc n)
  no_groups_exact =
      choose_exact (of k.open_bracket) bracketed_form words_or_literals no_groups (of (goes_on 7)) (λ e u s. inl s) (λ e u s. inr s) (λ e u s. s)
      (λ e u z s stops. bracketed_leads s.value u z s.spelled)
      (λ e u z s stops. words_lead_not k.open_bracket (apart k.any_word k.open_bracket refl) (apart plain_literal k.open_bracket refl) e u z s)
      (suc n) (name <$> bracketed_name) (choose (of k.any_word) (worded rec f) (literal <$> expect (of k.literal)))
      (image_exact name bracketed_text (of (goes_on 7)) (suc n) bracketed_name (bracketed_exact (of (goes_on 7)) (suc n)))
      words_exact

  pub primary_exact : Exact (at 7) (of (goes_on 7)) (primary rec f) (suc n)
  unfolding primary
  primary_exact =
      choose_exact (of k.open_parenthesis) group_form no_groups (at 7) (of (goes_on 7)) to_group to_no_groups primary_cases
      (λ e u z s stops. group_leads e u z s)
      (λ e u z s stops. no_groups_lead e u z s)
      (suc n) (grouped rec f) (choose (of k.open_bracket) (name <$> bracketed_name) (choose (of k.any_word) (worded rec f) (literal <$> expect (of k.literal))))
      grouped_exact no_groups_exact
