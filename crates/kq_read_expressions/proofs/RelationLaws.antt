-- The readers of comparisons, of `in` and of `between` are exact.
use Rattle.std.proofs.Common.{◌≡◌, ℕ, suc, ◌≤◌, true, false, List, [], ◌++◌, ◌⊎◌, inl, inr, Option, Some, None, refl, sym, ◌∙◌, ap, subst, append-nil, arith}
use Rattle.kq_read_grammar.specs.Expressions.{Text, spells}
use Rattle.kq_read_grammar.specs.Precedences.{binding, relation}
use Rattle.kq_read_grammar.proofs.Precedences.{goes_on}
use Rattle.kq_read_grammar.specs.Trees.{Tree, literal, group, call, path, signed, compare, within, between, chain, Trees}
use Rattle.kq_read_grammar.specs.Trees.Tree.{name}
use Rattle.kq_read_grammar.specs.Views.{trees_of}
use Rattle.kq_read_symbols.specs.declared.kind.Kind.TheVariants as kind
use Rattle.kq_read_symbols.specs.declared.kind.Symbol.{Symbol}
use Rattle.kq_read_symbols.specs.declared.word.ReservedWord.TheVariants as reserved
use Rattle.kq_read_symbols.specs.declared.word.Word.TheVariants as word
use Rattle.kq_read_tokens.specs.declared.kind.Operator.TheVariants as operator
use Rattle.kq_read_tokens.specs.declared.kind.Punctuation.TheVariants as sign
use Rattle.kq_read_symbols.specs.Classes as k
use Rattle.kq_read_symbols.specs.Classes.{Class, of}
use Rattle.kq_read_symbols.specs.Forms.{Parser, one, some, ◌⨾◌, Maybe, Separated, starts, expect, both, ◌<$>◌, choose, maybe, skip, closed, separated}
use Rattle.kq_read_symbols.proofs.Forms.{Then, Image}
use Rattle.kq_read_symbols.proofs.ClassLemmas.{apart, within as within_class, part}
use Rattle.kq_read_symbols.proofs.Laws.{Exact, Example, Leads, exact_down, nothing, stops_nothing, stops_starts, both_exact, image_exact, same_exact, wider_exact, one_exact, choose_exact, maybe_exact, maybe_follows, skip_exact, skip_leads, skip_example, closed_exact, closed_example}
use Rattle.kq_read_expressions.specs.Reading.{Relation, compared, listed, ranged, related_of, sum, comparing, listing, ranging, relating, comparison}
use Rattle.kq_read_expressions.proofs.NameLaws.{example_of, starts_part, starts_apart, one_leads, front_leads}
use Rattle.kq_read_expressions.proofs.LevelLaws.{at, at_example, order, not_two}
use Rattle.kq_read_expressions.proofs.PrimaryLaws.{one_spelled, some_text, to_separated, from_separated, in_list, opening, closing, separated_trees}

-- ---- forms

abbrev list_text : Tree × List Tree → Text
list_text p = Separated (of k.comma) spells p ⨾ some (of k.close_parenthesis)

abbrev far_end : Tree → Text
far_end c = some (of k.dots) ⨾ at 3 c

abbrev ends_text : Tree × Tree → Text
ends_text p = (at 3 p.0 ⨾ far_end p.1) ⨾ some (of k.close_parenthesis)

-- what stands behind the operand of a relation
abbrev relation_text : Relation → Text
relation_text (compared t b) = one (of k.comparison) t ⨾ at 3 b
relation_text (listed t b es) = one (of k.membership) t ⨾ some (of k.open_parenthesis) ⨾ some_text b es ⨾ some (of k.close_parenthesis)
relation_text (ranged t b c) = one (of k.interval) t ⨾ some (of k.open_parenthesis) ⨾ (at 3 b ⨾ some (of k.dots) ⨾ at 3 c) ⨾ some (of k.close_parenthesis)

abbrev compared_parts : Symbol × Tree → Text
compared_parts = Then (one (of k.comparison)) (at 3)

abbrev compared_form : Relation → Text
compared_form = Image (λ (p : Symbol × Tree). compared p.0 p.1) compared_parts

abbrev listed_parts : Symbol × (Tree × List Tree) → Text
listed_parts = Then (one (of k.membership)) (λ p. some (of k.open_parenthesis) ⨾ list_text p)

abbrev listed_form : Relation → Text
listed_form = Image (λ (p : Symbol × (Tree × List Tree)). listed p.0 p.1.0 (trees_of p.1.1)) listed_parts

abbrev ranged_parts : Symbol × (Tree × Tree) → Text
ranged_parts = Then (one (of k.interval)) (λ p. some (of k.open_parenthesis) ⨾ ends_text p)

abbrev ranged_form : Relation → Text
ranged_form = Image (λ (p : Symbol × (Tree × Tree)). ranged p.0 p.1.0 p.1.1) ranged_parts

abbrev no_comparison : Relation → Text
no_comparison r u = listed_form r u ⊎ ranged_form r u

-- ---- between the forms

to_compared : (r : Relation) (u : List Symbol) → compared_form r u → relation_text r u
to_compared r u s = subst (λ w. relation_text w u) (sym s.is) s.spelled

to_listed_at : (p : Symbol × (Tree × List Tree)) (u : List Symbol) → listed_parts p u → relation_text (listed p.0 p.1.0 (trees_of p.1.1)) u
to_listed_at p u s = record {
  left = s.left;
  right = s.right;
  joined = s.joined;
  before = s.before;
  after = record {
    left = s.after.left;
    right = s.after.right;
    joined = s.after.joined;
    before = s.after.before;
    after = record {
      left = s.after.after.left;
      right = s.after.after.right;
      joined = s.after.after.joined;
      before = to_separated p.1 s.after.after.left s.after.after.before;
      after = s.after.after.after;
    };
  };
}

to_no_comparison : (r : Relation) (u : List Symbol) → no_comparison r u → relation_text r u
to_no_comparison r u (inl s) = subst (λ w. relation_text w u) (sym s.is) (to_listed_at s.value u s.spelled)
to_no_comparison r u (inr s) = subst (λ w. relation_text w u) (sym s.is) s.spelled

from_listed : (t : Symbol) (b : Tree) (es : Trees) (u : List Symbol) → relation_text (listed t b es) u → listed_form (listed t b es) u
from_listed t b es u s =
    let inner = s.after.after in
    let rest = from_separated b es inner.left inner.before in
    record {
      value = (t, (b, rest.0));
      is = ap (λ m. listed t b m) rest.1;
      spelled = record {
        left = s.left;
        right = s.right;
        joined = s.joined;
        before = s.before;
        after = record {
          left = s.after.left;
          right = s.after.right;
          joined = s.after.joined;
          before = s.after.before;
          after = record { left = inner.left; right = inner.right; joined = inner.joined; before = rest.2; after = inner.after };
        };
      };
    }

relation_cases : (r : Relation) (u : List Symbol) → relation_text r u → compared_form r u ⊎ no_comparison r u
relation_cases (compared t b) u s = inl (record { value = (t, b); is = refl; spelled = s })
relation_cases (listed t b es) u s = inr (inl (from_listed t b es u s))
relation_cases (ranged t b c) u s = inr (inr (record { value = (t, (b, c)); is = refl; spelled = s }))

-- ---- what the forms start with

compared_leads : (r : Relation) (u z : List Symbol) → compared_form r u → starts (of k.comparison) (u ++ z) ≡ true
compared_leads r u z s = front_leads (of k.comparison) u s.spelled.left s.spelled.right z s.spelled.joined (λ w. one_leads k.comparison s.value.0 s.spelled.left w s.spelled.before)

listed_leads : (r : Relation) (u z : List Symbol) → listed_form r u → starts (of k.membership) (u ++ z) ≡ true
listed_leads r u z s = front_leads (of k.membership) u s.spelled.left s.spelled.right z s.spelled.joined (λ w. one_leads k.membership s.value.0 s.spelled.left w s.spelled.before)

ranged_leads : (r : Relation) (u z : List Symbol) → ranged_form r u → starts (of k.interval) (u ++ z) ≡ true
ranged_leads r u z s = front_leads (of k.interval) u s.spelled.left s.spelled.right z s.spelled.joined (λ w. one_leads k.interval s.value.0 s.spelled.left w s.spelled.before)

no_comparison_leads : (r : Relation) (u z : List Symbol) → no_comparison r u → starts (of k.comparison) (u ++ z) ≡ false
no_comparison_leads r u z (inl s) = starts_apart k.membership k.comparison (apart k.membership k.comparison refl) (u ++ z) (listed_leads r u z s)
no_comparison_leads r u z (inr s) = starts_apart k.interval k.comparison (apart k.interval k.comparison refl) (u ++ z) (ranged_leads r u z s)

relation_leads_at : (r : Relation) (u z : List Symbol) → compared_form r u ⊎ no_comparison r u → starts (of relation) (u ++ z) ≡ true
relation_leads_at r u z (inl s) = starts_part k.comparison relation (part k.comparison relation refl) (u ++ z) (compared_leads r u z s)
relation_leads_at r u z (inr (inl s)) = starts_part k.membership relation (part k.membership relation refl) (u ++ z) (listed_leads r u z s)
relation_leads_at r u z (inr (inr s)) = starts_part k.interval relation (part k.interval relation refl) (u ++ z) (ranged_leads r u z s)

relation_leads : Leads (of relation) true relation_text (of (goes_on 2))
relation_leads r u z s stops = relation_leads_at r u z (relation_cases r u s)

-- ---- an operand and a relation

abbrev related_parts : Tree × Option Relation → Text
related_parts = Then (at 3) (Maybe relation_text)

abbrev related_form : Tree → Text
related_form = Image (λ (p : Tree × Option Relation). related_of p.0 p.1) related_parts

to_related_at : (e : Tree) (o : Option Relation) (u : List Symbol) → related_parts (e, o) u → at 2 (related_of e o) u
to_related_at e None u s =
    let all : u ≡ s.left = s.joined ∙ ap (λ r. s.left ++ r) s.after ∙ append-nil s.left in
    let le : 2 ≤ binding e = omega (arith, s.before.0) in
    (le, subst (spells e) (sym all) s.before.1)
to_related_at e (Some (compared t b)) u s = (omega arith, s)
to_related_at e (Some (listed t b es)) u s = (omega arith, s)
to_related_at e (Some (ranged t b c)) u s = (omega arith, s)

to_related : (y : Tree) (u : List Symbol) → related_form y u → at 2 y u
to_related y u s = subst (λ w. at 2 w u) (sym s.is) (to_related_at s.value.0 s.value.1 u s.spelled)

alone : (y : Tree) (u : List Symbol) → at 3 y u → related_form y u
alone y u s = record { value = (y, None); is = refl; spelled = record { left = u; right = []; joined = sym (append-nil u); before = s; after = refl } }

here : (y : Tree) (u : List Symbol) → 2 ≡ binding y → at 2 y u → related_form y u
here (name n) u e s = absurd (omega arith)
here (literal t) u e s = absurd (omega arith)
here (group t f) u e s = absurd (omega arith)
here (call t es) u e s = absurd (omega arith)
here (path f x xs) u e s = absurd (omega arith)
here (signed t f) u e s = absurd (omega arith)
here (compare a t b) u e s = record { value = (a, Some (compared t b)); is = refl; spelled = s.1 }
here (within a t b es) u e s = record { value = (a, Some (listed t b es)); is = refl; spelled = s.1 }
here (between a t b c) u e s = record { value = (a, Some (ranged t b c)); is = refl; spelled = s.1 }
here (chain l f t g ls) u e s = absurd (not_two l (sym e))

from_related : (y : Tree) (u : List Symbol) → at 2 y u → related_form y u
from_related y u s = elim (order 2 (binding y) s.0) [ inl h ↦ alone y u (h, s.1) | inr e ↦ here y u e s ]

-- ---- the readers

one_in_list : Example (Separated (of k.comma) spells)
one_in_list = record { value = (one_spelled.value, []); text = one_spelled.text; spelled = record { left = one_spelled.text; right = []; joined = sym (append-nil one_spelled.text); before = one_spelled.spelled; after = refl } }

module _ (rec : Parser Symbol Tree) (f n : ℕ) (le : suc n ≤ f) (rec_exact : Exact spells (of (goes_on 0)) rec n) (sum_exact : Exact (at 3) (of (goes_on 3)) (sum rec f) (suc n)) where
  comparing_exact : Exact compared_form (of (goes_on 2)) (comparing rec f) (suc n)
  unfolding comparing
  comparing_exact =
      image_exact (λ (p : Symbol × Tree). compared p.0 p.1) compared_parts (of (goes_on 2)) (suc n) (both (expect (of k.comparison)) (sum rec f))
      (both_exact (one (of k.comparison)) (at 3) nothing (of (goes_on 2)) (λ y v z s stops. stops_nothing (v ++ z)) (suc n) (expect (of k.comparison)) (sum rec f) (one_exact (of k.comparison) (example_of (kind.Operator operator.Less)) refl nothing (suc n))
      (wider_exact (at 3) (of (goes_on 3)) (of (goes_on 2)) (within_class (goes_on 2) (goes_on 3) refl) (suc n) (sum rec f) sum_exact)
      (at_example 3 (omega arith)))

  list_example : Example list_text
  list_example = closed_example (of k.close_parenthesis) closing refl (Separated (of k.comma) spells) (of in_list) one_in_list

  listing_exact : Exact listed_form (of (goes_on 2)) (listing rec f) (suc n)
  unfolding listing
  listing_exact =
      image_exact (λ (p : Symbol × (Tree × List Tree)). listed p.0 p.1.0 (trees_of p.1.1)) listed_parts (of (goes_on 2)) (suc n) (both (expect (of k.membership)) (skip (of k.open_parenthesis) (closed (separated (of k.comma) rec f) (of k.close_parenthesis))))
      (both_exact (one (of k.membership)) (λ p. some (of k.open_parenthesis) ⨾ list_text p) nothing (of (goes_on 2)) (λ y v z s stops. stops_nothing (v ++ z)) (suc n) (expect (of k.membership)) (skip (of k.open_parenthesis) (closed (separated (of k.comma) rec f) (of k.close_parenthesis))) (one_exact (of k.membership) (example_of (kind.Word (word.Reserved reserved.In))) refl nothing (suc n))
      (skip_exact (of k.open_parenthesis) opening refl list_text (of (goes_on 2)) (suc n) n (omega arith) (closed (separated (of k.comma) rec f) (of k.close_parenthesis))
      (closed_exact (of k.close_parenthesis) closing refl (Separated (of k.comma) spells) (of in_list) (of (goes_on 2)) (apart k.close_parenthesis in_list refl) n (separated (of k.comma) rec f) (separated_trees rec f n le rec_exact))
      list_example)
      (skip_example (of k.open_parenthesis) opening refl list_text nothing list_example))

  a_dots : Symbol
  a_dots = example_of (kind.Punctuation sign.DotDot)

  far_example : Example far_end
  unfolding a_dots
  far_example = skip_example (of k.dots) a_dots refl (at 3) nothing (at_example 3 (omega arith))

  -- the ends alone
  abbrev both_ends : Tree × Tree → Text
  both_ends = Then (at 3) far_end

  ends_exact : Exact both_ends (of (goes_on 3)) (both (sum rec f) (skip (of k.dots) (sum rec f))) n
  unfolding a_dots
  ends_exact =
      let less = exact_down (at 3) (of (goes_on 3)) (sum rec f) (suc n) n (omega arith) sum_exact in
      both_exact (at 3) far_end (of (goes_on 3)) (of (goes_on 3)) (λ y v z s stops. stops_starts (of k.dots) (of (goes_on 3)) (apart k.dots (goes_on 3) refl) (v ++ z) (skip_leads (of k.dots) a_dots refl (at 3) nothing y v z s)) n (sum rec f) (skip (of k.dots) (sum rec f)) less
      (skip_exact (of k.dots) a_dots refl (at 3) (of (goes_on 3)) n n (omega arith) (sum rec f) less (at_example 3 (omega arith)))
      far_example

  ends_example : Example ends_text
  ends_example =
      let left = at_example 3 (omega arith) in
      closed_example (of k.close_parenthesis) closing refl both_ends (of (goes_on 3)) (record { value = (left.value, far_example.value); text = left.text ++ far_example.text; spelled = record { left = left.text; right = far_example.text; joined = refl; before = left.spelled; after = far_example.spelled } })

  ranging_exact : Exact ranged_form (of (goes_on 2)) (ranging rec f) (suc n)
  unfolding ranging
  ranging_exact =
      image_exact (λ (p : Symbol × (Tree × Tree)). ranged p.0 p.1.0 p.1.1) ranged_parts (of (goes_on 2)) (suc n) (both (expect (of k.interval)) (skip (of k.open_parenthesis) (closed (both (sum rec f) (skip (of k.dots) (sum rec f))) (of k.close_parenthesis))))
      (both_exact (one (of k.interval)) (λ p. some (of k.open_parenthesis) ⨾ ends_text p) nothing (of (goes_on 2)) (λ y v z s stops. stops_nothing (v ++ z)) (suc n) (expect (of k.interval)) (skip (of k.open_parenthesis) (closed (both (sum rec f) (skip (of k.dots) (sum rec f))) (of k.close_parenthesis))) (one_exact (of k.interval) (example_of (kind.Word (word.Reserved reserved.Between))) refl nothing (suc n))
      (skip_exact (of k.open_parenthesis) opening refl ends_text (of (goes_on 2)) (suc n) n (omega arith) (closed (both (sum rec f) (skip (of k.dots) (sum rec f))) (of k.close_parenthesis))
      (closed_exact (of k.close_parenthesis) closing refl both_ends (of (goes_on 3)) (of (goes_on 2)) (apart k.close_parenthesis (goes_on 3) refl) n (both (sum rec f) (skip (of k.dots) (sum rec f))) ends_exact)
      ends_example)
      (skip_example (of k.open_parenthesis) opening refl ends_text nothing ends_example))

  relating_exact : Exact relation_text (of (goes_on 2)) (relating rec f) (suc n)
  unfolding relating
  relating_exact =
      choose_exact (of k.comparison) compared_form no_comparison relation_text (of (goes_on 2)) to_compared to_no_comparison relation_cases
      (λ r u z s stops. compared_leads r u z s)
      (λ r u z s stops. no_comparison_leads r u z s)
      (suc n) (comparing rec f) (choose (of k.membership) (listing rec f) (ranging rec f)) comparing_exact
      (choose_exact (of k.membership) listed_form ranged_form no_comparison (of (goes_on 2)) (λ r u s. inl s) (λ r u s. inr s) (λ r u s. s)
      (λ r u z s stops. listed_leads r u z s)
      (λ r u z s stops. starts_apart k.interval k.membership (apart k.interval k.membership refl) (u ++ z) (ranged_leads r u z s))
      (suc n) (listing rec f) (ranging rec f) listing_exact ranging_exact)

  pub comparison_exact : Exact (at 2) (of (goes_on 2)) (comparison rec f) (suc n)
  unfolding comparison
  comparison_exact =
      same_exact related_form (at 2) (of (goes_on 2)) to_related from_related (suc n) ((λ p. related_of p.0 p.1) <$> both (sum rec f) (maybe (of relation) (relating rec f)))
      (image_exact (λ (p : Tree × Option Relation). related_of p.0 p.1) related_parts (of (goes_on 2)) (suc n) (both (sum rec f) (maybe (of relation) (relating rec f)))
      (both_exact (at 3) (Maybe relation_text) (of (goes_on 3)) (of (goes_on 2)) (maybe_follows relation_text (of relation) (of (goes_on 2)) relation_leads (within_class (goes_on 2) relation refl) (of (goes_on 3)) (apart relation (goes_on 3) refl) (within_class (goes_on 2) (goes_on 3) refl)) (suc n) (sum rec f) (maybe (of relation) (relating rec f)) sum_exact
      (maybe_exact relation_text (of relation) (of (goes_on 2)) relation_leads (within_class (goes_on 2) relation refl) (suc n) (relating rec f) relating_exact)
      (record { value = None; text = []; spelled = refl })))
