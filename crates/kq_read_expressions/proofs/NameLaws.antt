-- The readers of names are exact.
use Rattle.std.proofs.Common.{◌≡◌, ℕ, Bool, true, false, List, [], ◌∷◌, ◌++◌, ◌⊎◌, inl, inr, refl, sym, ◌∙◌, ap, subst, append_assoc}
use Rattle.kq_read_grammar.specs.declared.expression.Name.{Name}
use Rattle.kq_read_grammar.specs.declared.expression.Name.TheVariants as shown
use Rattle.kq_read_grammar.specs.Expressions.{Text, name_text}
use Rattle.kq_read_symbols.specs.declared.kind.Kind.{Kind}
use Rattle.kq_read_symbols.specs.declared.kind.Kind.TheVariants as kind
use Rattle.kq_read_symbols.specs.declared.kind.Quoted.TheVariants as quoted
use Rattle.kq_read_symbols.specs.declared.kind.Symbol.{Symbol}
use Rattle.kq_read_symbols.specs.declared.word.Word.TheVariants as word
use Rattle.kq_read_tokens.specs.declared.kind.Punctuation.TheVariants as sign
use Rattle.kq_read_symbols.specs.Classes as k
use Rattle.kq_read_symbols.specs.Classes.{Class, of}
use Rattle.kq_read_symbols.specs.Forms.{one, some, ◌⨾◌, starts, expect, both, ◌<$>◌, closed}
use Rattle.kq_read_symbols.proofs.Forms.{Then, Image}
use Rattle.kq_read_symbols.proofs.ClassLemmas.{apart, part}
use Rattle.kq_read_symbols.proofs.Laws.{Exact, Example, nothing, stops_nothing, both_exact, image_exact, same_exact, one_exact, choose_exact, closed_exact, closed_example}
use Rattle.kq_read_expressions.specs.Reading.{bracketed_name, name}

abbrev pub example_of : Kind → Symbol
example_of x = record { kind = x; from = 0; to = 0 }

-- a word that isn't reserved
abbrev pub a_word : Symbol
a_word = example_of (kind.Word word.Other)

-- ---- what texts start with

pub starts_part : (a b : Class) → ((t : Symbol) → of a t ≡ true → of b t ≡ true) → (ts : List Symbol) → starts (of a) ts ≡ true → starts (of b) ts ≡ true
starts_part a b sub [] h = h
starts_part a b sub (t ∷ ts) h = sub t h

pub starts_apart : (a b : Class) → ((t : Symbol) → of a t ≡ true → of b t ≡ false) → (ts : List Symbol) → starts (of a) ts ≡ true → starts (of b) ts ≡ false
starts_apart a b off [] h = refl
starts_apart a b off (t ∷ ts) h = off t h

pub one_leads : (a : Class) (t : Symbol) (u z : List Symbol) → one (of a) t u → starts (of a) (u ++ z) ≡ true
one_leads a t u z s = ap (λ l. starts (of a) (l ++ z)) s.1 ∙ s.0

-- what the front of a text starts with
pub front_leads : (is : Symbol → Bool) (u left right z : List Symbol) → u ≡ left ++ right → ((w : List Symbol) → starts is (left ++ w) ≡ true) → starts is (u ++ z) ≡ true
front_leads is u left right z e h = ap (λ l. starts is (l ++ z)) e ∙ ap (starts is) (append_assoc left right z) ∙ h (right ++ z)

-- ---- names in brackets

abbrev text_in : Symbol → Text
text_in s = one (of k.text) s ⨾ some (of k.close_bracket)

-- the texts of a name in brackets
abbrev pub bracketed_text : Name → Text
bracketed_text (shown.Word t) = λ ts. ⊥
bracketed_text (shown.Bracketed t s) = one (of k.open_bracket) t ⨾ text_in s

abbrev bracketed_form : Name → Text
bracketed_form = Image (λ (p : Symbol × Symbol). shown.Bracketed p.0 p.1) (Then (one (of k.open_bracket)) text_in)

to_bracketed : (y : Name) (u : List Symbol) → bracketed_form y u → bracketed_text y u
to_bracketed y u s = subst (λ w. bracketed_text w u) (sym s.is) s.spelled

from_bracketed : (y : Name) (u : List Symbol) → bracketed_text y u → bracketed_form y u
from_bracketed (shown.Word t) u s = absurd s
from_bracketed (shown.Bracketed t x) u s = record { value = (t, x); is = refl; spelled = s }

pub bracketed_exact : (more : Symbol → Bool) (n : ℕ) → Exact bracketed_text more bracketed_name n
unfolding bracketed_name
bracketed_exact more n =
    same_exact bracketed_form bracketed_text more to_bracketed from_bracketed n ((λ p. shown.Bracketed p.0 p.1) <$> both (expect (of k.open_bracket)) (closed (expect (of k.text)) (of k.close_bracket)))
    (image_exact (λ (p : Symbol × Symbol). shown.Bracketed p.0 p.1) (Then (one (of k.open_bracket)) text_in) more n (both (expect (of k.open_bracket)) (closed (expect (of k.text)) (of k.close_bracket)))
    (both_exact (one (of k.open_bracket)) text_in nothing more (λ y v z s stops. stops_nothing (v ++ z)) n (expect (of k.open_bracket)) (closed (expect (of k.text)) (of k.close_bracket)) (one_exact (of k.open_bracket) (example_of (kind.Punctuation sign.OpenBracket)) refl nothing n)
    (closed_exact (of k.close_bracket) (example_of (kind.Punctuation sign.CloseBracket)) refl (one (of k.text)) nothing more (λ t h. refl) n (expect (of k.text)) (one_exact (of k.text) (example_of (kind.String quoted.Other)) refl nothing n))
    (closed_example (of k.close_bracket) (example_of (kind.Punctuation sign.CloseBracket)) refl (one (of k.text)) nothing (record { value = example_of (kind.String quoted.Other); text = example_of (kind.String quoted.Other) ∷ []; spelled = (refl, refl) }))))

pub bracketed_leads : (y : Name) (u z : List Symbol) → bracketed_text y u → starts (of k.open_bracket) (u ++ z) ≡ true
bracketed_leads (shown.Word t) u z s = absurd s
bracketed_leads (shown.Bracketed t x) u z s = front_leads (of k.open_bracket) u s.left s.right z s.joined (λ w. one_leads k.open_bracket t s.left w s.before)

-- ---- names

abbrev bare_form : Name → Text
bare_form = Image shown.Word (one (of k.bare_name))

pub from_bracketed_text : (y : Name) (u : List Symbol) → bracketed_text y u → name_text y u
from_bracketed_text (shown.Word t) u s = absurd s
from_bracketed_text (shown.Bracketed t x) u s = s

from_bare : (y : Name) (u : List Symbol) → bare_form y u → name_text y u
from_bare y u s = subst (λ w. name_text w u) (sym s.is) s.spelled

name_cases : (y : Name) (u : List Symbol) → name_text y u → bracketed_text y u ⊎ bare_form y u
name_cases (shown.Word t) u s = inr (record { value = t; is = refl; spelled = s })
name_cases (shown.Bracketed t x) u s = inl s

pub name_exact : (more : Symbol → Bool) (n : ℕ) → Exact name_text more name n
unfolding name
name_exact more n =
    choose_exact (of k.open_bracket) bracketed_text bare_form name_text more from_bracketed_text from_bare name_cases
    (λ y u z s stops. bracketed_leads y u z s)
    (λ y u z s stops. starts_apart k.bare_name k.open_bracket (apart k.bare_name k.open_bracket refl) (u ++ z) (one_leads k.bare_name s.value u z s.spelled))
    n bracketed_name (shown.Word <$> expect (of k.bare_name))
    (bracketed_exact more n)
    (image_exact shown.Word (one (of k.bare_name)) more n (expect (of k.bare_name)) (one_exact (of k.bare_name) a_word refl more n))

pub name_example : Example name_text
name_example = record { value = shown.Word a_word; text = a_word ∷ []; spelled = (refl, refl) }

pub name_leads : (y : Name) (u z : List Symbol) → name_text y u → starts (of k.begins_name) (u ++ z) ≡ true
name_leads (shown.Word t) u z s = starts_part k.bare_name k.begins_name (part k.bare_name k.begins_name refl) (u ++ z) (one_leads k.bare_name t u z s)
name_leads (shown.Bracketed t x) u z s = starts_part k.open_bracket k.begins_name (part k.open_bracket k.begins_name refl) (u ++ z) (bracketed_leads (shown.Bracketed t x) u z s)
