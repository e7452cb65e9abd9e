-- The readers of paths and of signed operands are exact.
use Rattle.std.proofs.Common.{◌≡◌, ℕ, suc, ◌≤◌, true, List, [], ◌∷◌, ◌++◌, length, ◌⊎◌, inl, inr, refl, sym, ◌∙◌, ap, subst, append-nil, arith}
use Rattle.kq_read_grammar.specs.declared.expression.Name.{Name}
use Rattle.kq_read_grammar.specs.Expressions.{Text, name_text, spells, spells_step, spells_steps}
use Rattle.kq_read_grammar.specs.Precedences.{binding, step_sign}
use Rattle.kq_read_grammar.proofs.Precedences.{goes_on}
use Rattle.kq_read_grammar.specs.Trees.{Tree, literal, group, call, path, signed as signed_tree, compare, within, between, chain, OneStep, member, index, Steps, no_step, and_step}
use Rattle.kq_read_grammar.specs.Trees.Tree.{name as name_tree}
use Rattle.kq_read_grammar.specs.Views.{steps_of, path_of}
use Rattle.kq_read_symbols.specs.declared.kind.Kind.TheVariants as kind
use Rattle.kq_read_symbols.specs.declared.kind.Symbol.{Symbol}
use Rattle.kq_read_tokens.specs.declared.kind.Operator.TheVariants as operator
use Rattle.kq_read_tokens.specs.declared.kind.Punctuation.TheVariants as sign
use Rattle.kq_read_symbols.specs.Classes as k
use Rattle.kq_read_symbols.specs.Classes.{Class, of}
use Rattle.kq_read_symbols.specs.Forms.{Parser, one, some, ◌⨾◌, Many, starts, expect, both, ◌<$>◌, many, closed}
use Rattle.kq_read_symbols.proofs.Forms.{Then, Image}
use Rattle.kq_read_symbols.proofs.ClassLemmas.{apart, within as within_class, part}
use Rattle.kq_read_symbols.proofs.Laws.{Exact, nothing, stops_nothing, both_less, both_exact, image_exact, same_exact, wider_exact, one_exact, choose_exact, many_exact, many_follows, closed_exact, closed_example}
use Rattle.kq_read_expressions.specs.Reading.{name, primary, step, postfix, signed}
use Rattle.kq_read_expressions.proofs.NameLaws.{example_of, starts_part, starts_apart, one_leads, front_leads, name_exact, name_example}
use Rattle.kq_read_expressions.proofs.LevelLaws.{at, at_example, order, too_tight}
use Rattle.kq_read_expressions.proofs.LeadLaws.{begins_operand, operand_leads}
use Rattle.kq_read_expressions.proofs.PrimaryLaws.{one_spelled, primary_exact}

-- ---- one step

abbrev a_dot : Symbol
a_dot = example_of (kind.Punctuation sign.Dot)

abbrev opening : Symbol
opening = example_of (kind.Punctuation sign.OpenBracket)

abbrev closing : Symbol
closing = example_of (kind.Punctuation sign.CloseBracket)

abbrev index_text : Tree → Text
index_text e = spells e ⨾ some (of k.close_bracket)

abbrev member_parts : Symbol × Name → Text
member_parts = Then (one (of k.dot)) name_text

abbrev member_form : OneStep → Text
member_form = Image (λ (p : Symbol × Name). member p.0 p.1) member_parts

abbrev index_parts : Symbol × Tree → Text
index_parts = Then (one (of k.open_bracket)) index_text

abbrev index_form : OneStep → Text
index_form = Image (λ (p : Symbol × Tree). index p.0 p.1) index_parts

to_member : (x : OneStep) (u : List Symbol) → member_form x u → spells_step x u
to_member x u s = subst (λ w. spells_step w u) (sym s.is) s.spelled

to_index : (x : OneStep) (u : List Symbol) → index_form x u → spells_step x u
to_index x u s = subst (λ w. spells_step w u) (sym s.is) s.spelled

step_cases : (x : OneStep) (u : List Symbol) → spells_step x u → member_form x u ⊎ index_form x u
step_cases (member t n) u s = inl (record { value = (t, n); is = refl; spelled = s })
step_cases (index t e) u s = inr (record { value = (t, e); is = refl; spelled = s })

member_leads : (x : OneStep) (u z : List Symbol) → member_form x u → starts (of k.dot) (u ++ z) ≡ true
member_leads x u z s = front_leads (of k.dot) u s.spelled.left s.spelled.right z s.spelled.joined (λ w. one_leads k.dot s.value.0 s.spelled.left w s.spelled.before)

index_leads : (x : OneStep) (u z : List Symbol) → index_form x u → starts (of k.open_bracket) (u ++ z) ≡ true
index_leads x u z s = front_leads (of k.open_bracket) u s.spelled.left s.spelled.right z s.spelled.joined (λ w. one_leads k.open_bracket s.value.0 s.spelled.left w s.spelled.before)

step_leads : (x : OneStep) (u z : List Symbol) → spells_step x u → starts (of step_sign) (u ++ z) ≡ true
step_leads (member t n) u z s = starts_part k.dot step_sign (part k.dot step_sign refl) (u ++ z) (front_leads (of k.dot) u s.left s.right z s.joined (λ w. one_leads k.dot t s.left w s.before))
step_leads (index t e) u z s = starts_part k.open_bracket step_sign (part k.open_bracket step_sign refl) (u ++ z) (front_leads (of k.open_bracket) u s.left s.right z s.joined (λ w. one_leads k.open_bracket t s.left w s.before))

-- ---- steps

to_steps : (xs : List OneStep) (u : List Symbol) → Many spells_step xs u → spells_steps (steps_of xs) u
to_steps [] u s = s
to_steps (x ∷ xs) u s = record { left = s.0; right = s.1; joined = s.2; before = s.3; after = to_steps xs s.1 s.4 }

from_steps : (xs : Steps) (u : List Symbol) → spells_steps xs u → (ys : List OneStep) × (xs ≡ steps_of ys) × Many spells_step ys u
from_steps no_step u s = ([], refl, s)
from_steps (and_step x xs) u s = let rest = from_steps xs s.right s.after in (x ∷ rest.0, ap (λ m. and_step x m) rest.1, (s.left, s.right, s.joined, s.before, rest.2))

abbrev path_parts : Tree × List OneStep → Text
path_parts = Then (at 7) (Many spells_step)

abbrev path_form : Tree → Text
path_form = Image (λ (p : Tree × List OneStep). path_of p.0 p.1) path_parts

to_path_at : (e : Tree) (xs : List OneStep) (u : List Symbol) → path_parts (e, xs) u → at 6 (path_of e xs) u
to_path_at e [] u s =
    let all : u ≡ s.left = s.joined ∙ ap (λ r. s.left ++ r) s.after ∙ append-nil s.left in
    let le : 6 ≤ binding e = omega (arith, s.before.0) in
    (le, subst (spells e) (sym all) s.before.1)
to_path_at e (x ∷ xs) u s = (omega arith, record { left = s.left; right = s.right; joined = s.joined; before = s.before; after = record { left = s.after.0; right = s.after.1; joined = s.after.2; before = s.after.3; after = to_steps xs s.after.1 s.after.4 } })

to_path : (y : Tree) (u : List Symbol) → path_form y u → at 6 y u
to_path y u s = subst (λ w. at 6 w u) (sym s.is) (to_path_at s.value.0 s.value.1 u s.spelled)

path_here : (y : Tree) (u : List Symbol) → 6 ≡ binding y → at 6 y u → path_form y u
path_here (name_tree n) u e s = absurd (omega arith)
path_here (literal t) u e s = absurd (omega arith)
path_here (group t f) u e s = absurd (omega arith)
path_here (call t es) u e s = absurd (omega arith)
path_here (path f x xs) u e s =
    let rest = from_steps xs s.1.after.right s.1.after.after in
    record {
      value = (f, x ∷ rest.0);
      is = ap (λ m. path f x m) rest.1;
      spelled = record { left = s.1.left; right = s.1.right; joined = s.1.joined; before = s.1.before; after = (s.1.after.left, s.1.after.right, s.1.after.joined, s.1.after.before, rest.2) };
    }
path_here (signed_tree t f) u e s = absurd (omega arith)
path_here (compare a t b) u e s = absurd (omega arith)
path_here (within a t b es) u e s = absurd (omega arith)
path_here (between a t b c) u e s = absurd (omega arith)
path_here (chain l f t g ls) u e s = absurd (too_tight l 6 (omega arith) (omega (arith, e)))

from_path : (y : Tree) (u : List Symbol) → at 6 y u → path_form y u
from_path y u s = elim (order 6 (binding y) s.0) [
  | inl h ↦ record { value = (y, []); is = refl; spelled = record { left = u; right = []; joined = sym (append-nil u); before = (h, s.1); after = refl } }
  | inr e ↦ path_here y u e s
]

-- ---- signs

abbrev sign_parts : Symbol × Tree → Text
sign_parts = Then (one (of k.additive)) (at 6)

abbrev sign_form : Tree → Text
sign_form = Image (λ (p : Symbol × Tree). signed_tree p.0 p.1) sign_parts

to_sign : (y : Tree) (u : List Symbol) → sign_form y u → at 5 y u
to_sign y u s = subst (λ w. at 5 w u) (sym s.is) (omega arith, s.spelled)

to_unsigned : (y : Tree) (u : List Symbol) → at 6 y u → at 5 y u
to_unsigned y u s = (omega (arith, s.0), s.1)

sign_cases : (y : Tree) (u : List Symbol) → at 5 y u → sign_form y u ⊎ at 6 y u
sign_cases (name_tree n) u s = inr (omega arith, s.1)
sign_cases (literal t) u s = inr (omega arith, s.1)
sign_cases (group t f) u s = inr (omega arith, s.1)
sign_cases (call t es) u s = inr (omega arith, s.1)
sign_cases (path f x xs) u s = inr (omega arith, s.1)
sign_cases (signed_tree t f) u s = inl (record { value = (t, f); is = refl; spelled = s.1 })
sign_cases (compare a t b) u s = absurd (omega arith)
sign_cases (within a t b es) u s = absurd (omega arith)
sign_cases (between a t b c) u s = absurd (omega arith)
sign_cases (chain l f t g ls) u s = absurd (too_tight l 5 (omega arith) s.0)

sign_leads : (y : Tree) (u z : List Symbol) → sign_form y u → starts (of k.additive) (u ++ z) ≡ true
sign_leads y u z s = front_leads (of k.additive) u s.spelled.left s.spelled.right z s.spelled.joined (λ w. one_leads k.additive s.value.0 s.spelled.left w s.spelled.before)

-- ---- the readers

module _ (rec : Parser Symbol Tree) (f n : ℕ) (le : suc n ≤ f) (rec_exact : Exact spells (of (goes_on 0)) rec n) where
  step_exact : Exact spells_step (of (goes_on 7)) (step rec f) (suc n)
  unfolding step
  step_exact =
      choose_exact (of k.dot) member_form index_form spells_step (of (goes_on 7)) to_member to_index step_cases
      (λ x u z s stops. member_leads x u z s)
      (λ x u z s stops. starts_apart k.open_bracket k.dot (apart k.open_bracket k.dot refl) (u ++ z) (index_leads x u z s))
      (suc n) ((λ p. member p.0 p.1) <$> both (expect (of k.dot)) name) ((λ p. index p.0 p.1) <$> both (expect (of k.open_bracket)) (closed rec (of k.close_bracket)))
      (image_exact (λ (p : Symbol × Name). member p.0 p.1) member_parts (of (goes_on 7)) (suc n) (both (expect (of k.dot)) name)
      (both_exact (one (of k.dot)) name_text nothing (of (goes_on 7)) (λ y v z s stops. stops_nothing (v ++ z)) (suc n) (expect (of k.dot)) name (one_exact (of k.dot) a_dot refl nothing (suc n)) (name_exact (of (goes_on 7)) (suc n)) name_example))
      (image_exact (λ (p : Symbol × Tree). index p.0 p.1) index_parts (of (goes_on 7)) (suc n) (both (expect (of k.open_bracket)) (closed rec (of k.close_bracket)))
      (both_less (one (of k.open_bracket)) index_text nothing (of (goes_on 7)) (λ y v z s stops. stops_nothing (v ++ z)) (suc n) n (λ t u s. omega (arith, ap length s.1)) (expect (of k.open_bracket)) (closed rec (of k.close_bracket)) (one_exact (of k.open_bracket) opening refl nothing (suc n))
      (closed_exact (of k.close_bracket) closing refl spells (of (goes_on 0)) (of (goes_on 7)) (apart k.close_bracket (goes_on 0) refl) n rec rec_exact)
      (closed_example (of k.close_bracket) closing refl spells (of (goes_on 0)) one_spelled)))

  postfix_exact : Exact (at 6) (of (goes_on 6)) (postfix rec f) (suc n)
  unfolding postfix
  postfix_exact =
      same_exact path_form (at 6) (of (goes_on 6)) to_path from_path (suc n) ((λ p. path_of p.0 p.1) <$> both (primary rec f) (many (of step_sign) (step rec f) f))
      (image_exact (λ (p : Tree × List OneStep). path_of p.0 p.1) path_parts (of (goes_on 6)) (suc n) (both (primary rec f) (many (of step_sign) (step rec f) f))
      (both_exact (at 7) (Many spells_step) (of (goes_on 7)) (of (goes_on 6)) (many_follows spells_step (of step_sign) (of (goes_on 7)) (of (goes_on 6)) step_leads (apart step_sign (goes_on 7) refl) (within_class (goes_on 6) (goes_on 7) refl) (within_class (goes_on 6) step_sign refl)) (suc n) (primary rec f) (many (of step_sign) (step rec f) f)
      (primary_exact rec f n le rec_exact)
      (many_exact spells_step (of step_sign) (of (goes_on 7)) (of (goes_on 6)) step_leads (apart step_sign (goes_on 7) refl) (within_class (goes_on 6) (goes_on 7) refl) (within_class (goes_on 6) step_sign refl) f (suc n) le (step rec f) step_exact)
      (record { value = []; text = []; spelled = refl })))

  pub signed_exact : Exact (at 5) (of (goes_on 5)) (signed rec f) (suc n)
  unfolding signed
  signed_exact =
      let wide = wider_exact (at 6) (of (goes_on 6)) (of (goes_on 5)) (within_class (goes_on 5) (goes_on 6) refl) (suc n) (postfix rec f) postfix_exact in
      choose_exact (of k.additive) sign_form (at 6) (at 5) (of (goes_on 5)) to_sign to_unsigned sign_cases
      (λ y u z s stops. sign_leads y u z s)
      (λ y u z s stops. starts_apart begins_operand k.additive (apart begins_operand k.additive refl) (u ++ z) (operand_leads y u z s.0 s.1))
      (suc n) ((λ p. signed_tree p.0 p.1) <$> both (expect (of k.additive)) (postfix rec f)) (postfix rec f)
      (image_exact (λ (p : Symbol × Tree). signed_tree p.0 p.1) sign_parts (of (goes_on 5)) (suc n) (both (expect (of k.additive)) (postfix rec f))
      (both_exact (one (of k.additive)) (at 6) nothing (of (goes_on 5)) (λ y v z s stops. stops_nothing (v ++ z)) (suc n) (expect (of k.additive)) (postfix rec f) (one_exact (of k.additive) (example_of (kind.Operator operator.Plus)) refl nothing (suc n)) wide (at_example 6 (omega arith))))
      wide
