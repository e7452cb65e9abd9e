-- Terms are told apart as ghost values, so that what is told of an exporter has a code: the plans of its exports are made of them.
use Rattle.std.specs.Prelude.{◌≡◌, ℕ, Bool, true, false, nat_eq, refl}
use Rattle.std.specs.Coded.{Coded}
use Rattle.std.proofs.Common.{ap, sym, ◌∙◌}
use Rattle.std.proofs.lemmas.Bool.{eq-eqb}
use base.Stored.{Gv, gnil, gnum, gcons, num}
use Rattle.kq_value.specs.contracts.value.Value as value
use Rattle.kq_plan_functions.specs.contracts.function.Function as function
use Rattle.kq_plan_expressions.specs.Terms.{Term, literal, column, cell, call, Terms, no_term, and_term}

abbrev head : Gv → Gv
head gnil = gnil
head (gnum n) = gnil
head (gcons a g) = a

abbrev tail : Gv → Gv
tail gnil = gnil
tail (gnum n) = gnil
tail (gcons a g) = g

abbrev is_pair : Gv → Bool
is_pair gnil = false
is_pair (gnum n) = false
is_pair (gcons a g) = true

abbrev mutual
  pub term_gv : Term → Gv
  term_gv (literal v) = gcons (gnum 0) (value.the_row.coded.code v)
  term_gv (column i) = gcons (gnum 1) (gnum i)
  term_gv (cell i) = gcons (gnum 2) (gnum i)
  term_gv (call f es) = gcons (gnum 3) (gcons (function.the_row.coded.code f) (terms_gv es))

  pub terms_gv : Terms → Gv
  terms_gv no_term = gnil
  terms_gv (and_term e es) = gcons (term_gv e) (terms_gv es)

differ : false ≡ true → ⊥
differ e = cc

apart : (n m : ℕ) (a b : Gv) → nat_eq n m ≡ false → gcons (gnum n) a ≡ gcons (gnum m) b → ⊥
apart n m a b other e = differ (sym other ∙ eq-eqb n m (ap (λ g. num (head g)) e))

mutual
  pub term_inj : (s t : Term) → term_gv s ≡ term_gv t → s ≡ t
  term_inj (literal v) (literal w) e = ap literal (value.the_row.coded.inj v w (ap tail e))
  term_inj (literal v) (column j) e = absurd (apart 0 1 _ _ refl e)
  term_inj (literal v) (cell j) e = absurd (apart 0 2 _ _ refl e)
  term_inj (literal v) (call g fs) e = absurd (apart 0 3 _ _ refl e)
  term_inj (column i) (literal w) e = absurd (apart 1 0 _ _ refl e)
  term_inj (column i) (column j) e = ap column (ap (λ g. num (tail g)) e)
  term_inj (column i) (cell j) e = absurd (apart 1 2 _ _ refl e)
  term_inj (column i) (call g fs) e = absurd (apart 1 3 _ _ refl e)
  term_inj (cell i) (literal w) e = absurd (apart 2 0 _ _ refl e)
  term_inj (cell i) (column j) e = absurd (apart 2 1 _ _ refl e)
  term_inj (cell i) (cell j) e = ap cell (ap (λ g. num (tail g)) e)
  term_inj (cell i) (call g fs) e = absurd (apart 2 3 _ _ refl e)
  term_inj (call f es) (literal w) e = absurd (apart 3 0 _ _ refl e)
  term_inj (call f es) (column j) e = absurd (apart 3 1 _ _ refl e)
  term_inj (call f es) (cell j) e = absurd (apart 3 2 _ _ refl e)
  term_inj (call f es) (call g fs) e = λ i. call (function.the_row.coded.inj f g (ap (λ x. head (tail x)) e) i) (terms_inj es fs (ap (λ x. tail (tail x)) e) i)

  pub terms_inj : (ss ts : Terms) → terms_gv ss ≡ terms_gv ts → ss ≡ ts
  terms_inj no_term no_term e = refl
  terms_inj no_term (and_term t ts) e = absurd (differ (ap is_pair e))
  terms_inj (and_term s ss) no_term e = absurd (differ (sym (ap is_pair e)))
  terms_inj (and_term s ss) (and_term t ts) e = λ i. and_term (term_inj s t (ap head e) i) (terms_inj ss ts (ap tail e) i)

abbrev pub term_code : Coded Term
term_code = record { code = term_gv; inj = term_inj }
