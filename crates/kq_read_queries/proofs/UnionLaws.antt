-- The readers of sources in parentheses, of arms and of unions are exact where that of the sources inside is.
use Rattle.std.proofs.Common.{◌≡◌, ℕ, suc, Bool, true, false, List, [], ◌∷◌, ◌++◌, ◌⊎◌, inl, inr, length, Some, None, refl, sym, ◌∙◌, ap, subst, append_assoc, arith}
use Rattle.kq_read_expressions.specs.Reading.{name}
use Rattle.kq_read_grammar.specs.declared.expression.Name.TheVariants as shown
use Rattle.kq_read_grammar.specs.Expressions.{Text, name_text}
use Rattle.kq_read_grammar.specs.Tabulars.{tabular_text, union_text, arm_text, arms_text}
use Rattle.kq_read_grammar.specs.TabularViews.{arms_of}
use Rattle.kq_read_grammar.specs.Trees.{TabularTree, UnionTree, arms, ArmTree, named_arm, nested_arm, Arms, no_arm, and_arm}
use Rattle.kq_read_queries.proofs.Following.{union_goes_on, tabular_goes_on}
use Rattle.kq_read_queries.specs.Reading as reading
use Rattle.kq_read_symbols.specs.declared.kind.Kind.TheVariants as kind
use Rattle.kq_read_symbols.specs.declared.kind.Symbol.{Symbol}
use Rattle.kq_read_symbols.specs.declared.word.ClauseWord.TheVariants as w
use Rattle.kq_read_symbols.specs.declared.word.JoinKind.TheVariants as join
use Rattle.kq_read_symbols.specs.declared.word.Word.TheVariants as word
use Rattle.kq_read_tokens.specs.declared.kind.Punctuation.TheVariants as sign
use Rattle.kq_read_symbols.specs.Classes as k
use Rattle.kq_read_symbols.specs.Classes.{Class, of}
use Rattle.kq_read_symbols.specs.Forms.{Parser, one, some, ◌⨾◌, Many, starts, expect, bind, both, ◌<$>◌, skip, closed}
use Rattle.kq_read_symbols.proofs.Forms.{Bind, Then, Image}
use Rattle.kq_read_symbols.proofs.ClassLemmas.{apart, within, part}
use Rattle.kq_read_symbols.proofs.Laws.{Exact, Example, Leads, nothing, starts_stops, bind_exact, both_exact, both_less, image_exact, one_exact, choose_exact, choose_first_exact, many_exact, skip_exact, skip_leads, closed_exact, closed_example}
use Rattle.kq_read_expressions.proofs.NameLaws.{example_of, starts_apart, one_leads, name_exact, name_example, name_leads}
use Rattle.kq_read_clauses.proofs.ListLaws.{Begins, front_begins}
use Rattle.kq_read_queries.proofs.PartLaws.{skip_begins, then_begins, anything_follows, one_example, then_example, a_sign, an_open, a_close, a_kind}

-- ---- in parentheses

abbrev closed_tabular : TabularTree → Text
closed_tabular q = tabular_text q ⨾ some (of k.close_parenthesis)

abbrev pub nesting_text : Symbol × TabularTree → Text
nesting_text = Then (one (of k.open_parenthesis)) closed_tabular

pub nesting_begins : Begins k.open_parenthesis nesting_text
nesting_begins = then_begins k.open_parenthesis (one (of k.open_parenthesis)) closed_tabular (one_leads k.open_parenthesis)

-- ---- lists of arms

abbrev pub another_arm : ArmTree → Text
another_arm a = some (of k.comma) ⨾ arm_text a

abbrev pub other_arms : List ArmTree → Text
other_arms = Many another_arm

pub to_arms : (l : List ArmTree) (u : List Symbol) → other_arms l u → arms_text (arms_of l) u
to_arms [] u s = s
to_arms (a ∷ l) u s = record { left = s.0; right = s.1; joined = s.2; before = s.3; after = to_arms l s.1 s.4 }

pub from_arms : (more : Arms) (u : List Symbol) → arms_text more u → (l : List ArmTree) × (more ≡ arms_of l) × other_arms l u
from_arms no_arm u s = ([], refl, s)
from_arms (and_arm a more) u s = let rest = from_arms more s.right s.after in (a ∷ rest.0, ap (λ m. and_arm a m) rest.1, (s.left, s.right, s.joined, s.before, rest.2))

-- ---- arms

abbrev grouped_form : ArmTree → Text
grouped_form = Image (λ (p : Symbol × TabularTree). nested_arm p.0 p.1) nesting_text

abbrev named_form : ArmTree → Text
named_form = Image named_arm name_text

from_grouped : (y : ArmTree) (u : List Symbol) → grouped_form y u → arm_text y u
from_grouped y u s = subst (λ w. arm_text w u) (sym s.is) s.spelled

from_named : (y : ArmTree) (u : List Symbol) → named_form y u → arm_text y u
from_named y u s = subst (λ w. arm_text w u) (sym s.is) s.spelled

arm_cases : (y : ArmTree) (u : List Symbol) → arm_text y u → grouped_form y u ⊎ named_form y u
arm_cases (named_arm m) u s = inr (record { value = m; is = refl; spelled = s })
arm_cases (nested_arm t q) u s = inl (record { value = (t, q); is = refl; spelled = s })

pub arm_example : Example arm_text
arm_example = record { value = named_arm name_example.value; text = name_example.text; spelled = name_example.spelled }

-- ---- unions

abbrev a_comma : Symbol
a_comma = example_of (kind.Punctuation sign.Comma)

abbrev an_inner : Symbol
an_inner = example_of (kind.Word (word.Join join.Inner))

abbrev all_arms : ArmTree × List ArmTree → Text
all_arms = Then arm_text other_arms

abbrev kind_and_arms : Symbol × (ArmTree × List ArmTree) → Text
kind_and_arms = Then (one (of k.union_kind)) all_arms

abbrev with_kind : Symbol × (ArmTree × List ArmTree) → Text
with_kind p = some (of k.assign) ⨾ kind_and_arms p

abbrev kind_of : Symbol × (ArmTree × List ArmTree) → UnionTree
kind_of p = arms (Some p.0) p.1.0 (arms_of p.1.1)

abbrev plain_of : ArmTree × List ArmTree → UnionTree
plain_of p = arms None p.0 (arms_of p.1)

abbrev named_kind_of : Symbol → List ArmTree → UnionTree
named_kind_of t l = arms None (named_arm (shown.Word t)) (arms_of l)

abbrev plain_form : UnionTree → Text
plain_form = Image plain_of all_arms

-- behind the word `kind`
abbrev said_form : UnionTree → Text
said_form = Image kind_of with_kind

abbrev arm_form : Symbol → UnionTree → Text
arm_form t = Image (named_kind_of t) other_arms

abbrev behind_form : Symbol → UnionTree → Text
behind_form t y u = said_form y u ⊎ arm_form t y u

abbrev kind_parts : Symbol × UnionTree → Text
kind_parts = Bind (one (of (k.clause w.Kind))) behind_form

abbrev kind_form : UnionTree → Text
kind_form = Image (λ (p : Symbol × UnionTree). p.1) kind_parts

-- ---- the forms are those of the grammar

from_plain : (y : UnionTree) (u : List Symbol) → plain_form y u → union_text y u
from_plain y u s =
    subst (λ w. union_text w u) (sym s.is)
    (record { left = []; right = u; joined = refl; before = refl; after = record { left = s.spelled.left; right = s.spelled.right; joined = s.spelled.joined; before = s.spelled.before; after = to_arms s.value.1 s.spelled.right s.spelled.after } })

from_kind_at : (t : Symbol) (y : UnionTree) (u left right : List Symbol) → u ≡ left ++ right → one (of (k.clause w.Kind)) t left → behind_form t y right → union_text y u
from_kind_at t y u left right joined before (inl s) =
    let p = s.spelled in
    subst (λ w. union_text w u) (sym s.is)
    (record {
      left = left ++ (p.left ++ p.after.left);
      right = p.after.right;
      joined = joined ∙ ap (λ r. left ++ r) (p.joined ∙ ap (λ r. p.left ++ r) p.after.joined ∙ sym (append_assoc p.left p.after.left p.after.right)) ∙ sym (append_assoc left (p.left ++ p.after.left) p.after.right);
      before = record { left = left; right = p.left ++ p.after.left; joined = refl; before = (t, before); after = record { left = p.left; right = p.after.left; joined = refl; before = p.before; after = p.after.before } };
      after = record { left = p.after.after.left; right = p.after.after.right; joined = p.after.after.joined; before = p.after.after.before; after = to_arms s.value.1.1 p.after.after.right p.after.after.after };
    })
from_kind_at t y u left right joined before (inr s) =
    subst (λ w. union_text w u) (sym s.is)
    (record { left = []; right = u; joined = refl; before = refl; after = record { left = left; right = right; joined = joined; before = (part (k.clause w.Kind) k.bare_name refl t before.0, before.1); after = to_arms s.value right s.spelled } })

from_kind : (y : UnionTree) (u : List Symbol) → kind_form y u → union_text y u
from_kind y u s = subst (λ w. union_text w u) (sym s.is) (from_kind_at s.value.0 s.value.1 u s.spelled.left s.spelled.right s.spelled.joined s.spelled.before s.spelled.after)

-- whether the text begins with the word
abbrev Cases : UnionTree → List Symbol → Type 0
Cases y u = kind_form y u ⊎ (plain_form y u × ((z : List Symbol) → starts (of (k.clause w.Kind)) (u ++ z) ≡ false))

to_plain : (a : ArmTree) (more : Arms) (u left right : List Symbol) → u ≡ left ++ right → arm_text a left → arms_text more right → plain_form (arms None a more) u
to_plain a more u left right joined before after =
    let rest = from_arms more right after in
    record { value = (a, rest.0); is = ap (λ m. arms None a m) rest.1; spelled = record { left = left; right = right; joined = joined; before = before; after = rest.2 } }

starts_with : (is : Class) (b : Bool) (t : Symbol) (u left right : List Symbol) → u ≡ left ++ right → left ≡ t ∷ [] → of is t ≡ b → (z : List Symbol) → starts (of is) (u ++ z) ≡ b
starts_with is b t u left right joined e h z = ap (λ l. starts (of is) (l ++ z)) (joined ∙ ap (λ l. l ++ right) e) ∙ h

word_cases : (b : Bool) (t : Symbol) (more : Arms) (u left right : List Symbol) → of (k.clause w.Kind) t ≡ b → u ≡ left ++ right → one (of k.bare_name) t left → arms_text more right → Cases (arms None (named_arm (shown.Word t)) more) u
word_cases true t more u left right h joined before after =
    let rest = from_arms more right after in
    inl (record { value = (t, arms None (named_arm (shown.Word t)) more); is = refl; spelled = record { left = left; right = right; joined = joined; before = (h, before.1); after = inr (record { value = rest.0; is = ap (λ m. arms None (named_arm (shown.Word t)) m) rest.1; spelled = rest.2 }) } })
word_cases false t more u left right h joined before after =
    inr (to_plain (named_arm (shown.Word t)) more u left right joined before after, starts_with (k.clause w.Kind) false t u left right joined before.1 h)

arm_begins_so : (is : Class) (t : Symbol) (second : Text) (u left right : List Symbol) → ((x : Symbol) → of is x ≡ true → of (k.clause w.Kind) x ≡ false) → u ≡ left ++ right → ◌⨾◌ (one (of is) t) second left → (z : List Symbol) → starts (of (k.clause w.Kind)) (u ++ z) ≡ false
arm_begins_so is t second u left right off joined s z =
    ap (λ l. starts (of (k.clause w.Kind)) (l ++ z)) joined ∙ ap (starts (of (k.clause w.Kind))) (append_assoc left right z)
    ∙ starts_apart is (k.clause w.Kind) off (left ++ (right ++ z)) (front_begins is (one (of is) t) second true (one_leads is t) left (right ++ z) s)

first_arm_cases : (a : ArmTree) (more : Arms) (u left right : List Symbol) → u ≡ left ++ right → arm_text a left → arms_text more right → Cases (arms None a more) u
first_arm_cases (named_arm (shown.Word t)) more u left right joined before after = word_cases (of (k.clause w.Kind) t) t more u left right refl joined before after
first_arm_cases (named_arm (shown.Bracketed t x)) more u left right joined before after =
    inr (to_plain (named_arm (shown.Bracketed t x)) more u left right joined before after, arm_begins_so k.open_bracket t (one (of k.text) x ⨾ some (of k.close_bracket)) u left right (apart k.open_bracket (k.clause w.Kind) refl) joined before)
first_arm_cases (nested_arm t q) more u left right joined before after =
    inr (to_plain (nested_arm t q) more u left right joined before after, arm_begins_so k.open_parenthesis t (closed_tabular q) u left right (apart k.open_parenthesis (k.clause w.Kind) refl) joined before)

kind_cases : (t : Symbol) (a : ArmTree) (more : Arms) (u : List Symbol) → union_text (arms (Some t) a more) u → kind_form (arms (Some t) a more) u
kind_cases t a more u s =
    let rest = from_arms more s.after.right s.after.after in
    let said = s.before in
    let word_at = said.before in
    record {
      value = (word_at.0, arms (Some t) a more);
      is = refl;
      spelled = record {
        left = said.left;
        right = said.right ++ s.right;
        joined = s.joined ∙ ap (λ l. l ++ s.right) said.joined ∙ append_assoc said.left said.right s.right;
        before = word_at.1;
        after = inl (record {
          value = (t, (a, rest.0));
          is = ap (λ m. arms (Some t) a m) rest.1;
          spelled = record {
            left = said.after.left;
            right = said.after.right ++ s.right;
            joined = ap (λ l. l ++ s.right) said.after.joined ∙ append_assoc said.after.left said.after.right s.right;
            before = said.after.before;
            after = record { left = said.after.right; right = s.right; joined = refl; before = said.after.after; after = record { left = s.after.left; right = s.after.right; joined = s.after.joined; before = s.after.before; after = rest.2 } };
          };
        });
      };
    }

union_cases : (y : UnionTree) (u : List Symbol) → union_text y u → Cases y u
union_cases (arms None a more) u s = first_arm_cases a more u s.after.left s.after.right (s.joined ∙ ap (λ l. l ++ s.right) s.before ∙ s.after.joined) s.after.before s.after.after
union_cases (arms (Some t) a more) u s = inl (kind_cases t a more u s)

other_arms_lead : (a : ArmTree) (u z : List Symbol) → another_arm a u → starts (of k.comma) (u ++ z) ≡ true
other_arms_lead = skip_leads (of k.comma) a_comma refl arm_text nothing

no_arms : Example other_arms
no_arms = record { value = []; text = []; spelled = refl }

arms_example : Example all_arms
arms_example = then_example arm_text other_arms arm_example no_arms

kind_and_arms_example : Example kind_and_arms
kind_and_arms_example = then_example (one (of k.union_kind)) all_arms (one_example k.union_kind an_inner refl) arms_example

-- behind `kind` comes `=`, or what may follow the name of an arm
arms_lead_not : (t : Symbol) → Leads (of k.assign) false (arm_form t) (of union_goes_on)
arms_lead_not t y u z s stops = at_arms s.value u s.spelled where
  at_arms : (l : List ArmTree) (u : List Symbol) → other_arms l u → starts (of k.assign) (u ++ z) ≡ false
  at_arms [] u s = ap (λ l. starts (of k.assign) (l ++ z)) s ∙ starts_stops (of k.assign) (of union_goes_on) (within union_goes_on k.assign refl) z stops
  at_arms (a ∷ l) u s =
      starts_apart k.comma k.assign (apart k.comma k.assign refl) (u ++ z)
      (ap (λ l. starts (of k.comma) (l ++ z)) s.2 ∙ ap (starts (of k.comma)) (append_assoc s.0 s.1 z) ∙ other_arms_lead a s.0 (s.1 ++ z) s.3)

behind_example : (t : Symbol) → Example (behind_form t)
behind_example t = record { value = named_kind_of t []; text = []; spelled = inr (record { value = []; is = refl; spelled = refl }) }

pub union_example : Example union_text
union_example = record { value = plain_of arms_example.value; text = arms_example.text; spelled = from_plain (plain_of arms_example.value) arms_example.text (record { value = arms_example.value; is = refl; spelled = arms_example.spelled }) }

module _ (rec : Parser Symbol TabularTree) (n : ℕ) (rec_exact : Exact tabular_text (of tabular_goes_on) rec n) (rec_example : Example tabular_text) where
  pub nesting_exact : (more : Symbol → Bool) → Exact nesting_text more (reading.nesting rec (suc n)) (suc n)
  unfolding reading.nesting
  nesting_exact more =
      both_less (one (of k.open_parenthesis)) closed_tabular nothing more (anything_follows closed_tabular more) (suc n) n (λ t u s. omega (arith, ap length s.1)) (expect (of k.open_parenthesis)) (closed rec (of k.close_parenthesis)) (one_exact (of k.open_parenthesis) an_open refl nothing (suc n))
      (closed_exact (of k.close_parenthesis) a_close refl tabular_text (of tabular_goes_on) more (apart k.close_parenthesis tabular_goes_on refl) n rec rec_exact)
      (closed_example (of k.close_parenthesis) a_close refl tabular_text nothing rec_example)

  pub arm_exact : (more : Symbol → Bool) → Exact arm_text more (reading.arm rec (suc n)) (suc n)
  unfolding reading.arm
  arm_exact more =
      choose_exact (of k.open_parenthesis) grouped_form named_form arm_text more from_grouped from_named arm_cases
      (λ y u z s stops. nesting_begins s.value u z s.spelled)
      (λ y u z s stops. starts_apart k.begins_name k.open_parenthesis (apart k.begins_name k.open_parenthesis refl) (u ++ z) (name_leads s.value u z s.spelled))
      (suc n) ((λ p. nested_arm p.0 p.1) <$> reading.nesting rec (suc n)) (named_arm <$> name)
      (image_exact (λ (p : Symbol × TabularTree). nested_arm p.0 p.1) nesting_text more (suc n) (reading.nesting rec (suc n)) (nesting_exact more))
      (image_exact named_arm name_text more (suc n) name (name_exact more (suc n)))

  more_arms_exact : (more : Class) → ((t : Symbol) → of more t ≡ false → of k.comma t ≡ false) → Exact other_arms (of more) (reading.more_arms rec (suc n)) (suc n)
  unfolding reading.more_arms
  more_arms_exact more inside =
      many_exact another_arm (of k.comma) nothing (of more) other_arms_lead (λ t h. refl) (λ t h. refl) inside (suc n) (suc n) (omega arith) (skip (of k.comma) (reading.arm rec (suc n)))
      (skip_exact (of k.comma) a_comma refl arm_text nothing (suc n) (suc n) (omega arith) (reading.arm rec (suc n)) (arm_exact nothing) arm_example)

  all_arms_exact : Exact all_arms (of union_goes_on) (both (reading.arm rec (suc n)) (reading.more_arms rec (suc n))) (suc n)
  all_arms_exact =
      both_exact arm_text other_arms nothing (of union_goes_on) (anything_follows other_arms (of union_goes_on)) (suc n) (reading.arm rec (suc n)) (reading.more_arms rec (suc n)) (arm_exact nothing) (more_arms_exact union_goes_on (within union_goes_on k.comma refl)) no_arms

  plain_exact : Exact plain_form (of union_goes_on) (reading.plain_union rec (suc n)) (suc n)
  unfolding reading.plain_union
  plain_exact = image_exact plain_of all_arms (of union_goes_on) (suc n) (both (reading.arm rec (suc n)) (reading.more_arms rec (suc n))) all_arms_exact

  said_exact : Exact said_form (of union_goes_on) (kind_of <$> skip (of k.assign) (both (expect (of k.union_kind)) (both (reading.arm rec (suc n)) (reading.more_arms rec (suc n))))) (suc n)
  said_exact =
      image_exact kind_of with_kind (of union_goes_on) (suc n) (skip (of k.assign) (both (expect (of k.union_kind)) (both (reading.arm rec (suc n)) (reading.more_arms rec (suc n)))))
      (skip_exact (of k.assign) a_sign refl kind_and_arms (of union_goes_on) (suc n) (suc n) (omega arith) (both (expect (of k.union_kind)) (both (reading.arm rec (suc n)) (reading.more_arms rec (suc n))))
      (both_exact (one (of k.union_kind)) all_arms nothing (of union_goes_on) (anything_follows all_arms (of union_goes_on)) (suc n) (expect (of k.union_kind)) (both (reading.arm rec (suc n)) (reading.more_arms rec (suc n))) (one_exact (of k.union_kind) an_inner refl nothing (suc n)) all_arms_exact arms_example)
      kind_and_arms_example)

  behind_exact : (t : Symbol) → Exact (behind_form t) (of union_goes_on) (reading.behind_kind rec (suc n) t) (suc n)
  unfolding reading.behind_kind
  behind_exact t =
      choose_exact (of k.assign) said_form (arm_form t) (behind_form t) (of union_goes_on) (λ y u s. inl s) (λ y u s. inr s) (λ y u s. s)
      (λ y u z s stops. skip_begins k.assign kind_and_arms s.value u z s.spelled)
      (arms_lead_not t)
      (suc n) (kind_of <$> skip (of k.assign) (both (expect (of k.union_kind)) (both (reading.arm rec (suc n)) (reading.more_arms rec (suc n))))) (named_kind_of t <$> reading.more_arms rec (suc n))
      said_exact
      (image_exact (named_kind_of t) other_arms (of union_goes_on) (suc n) (reading.more_arms rec (suc n)) (more_arms_exact union_goes_on (within union_goes_on k.comma refl)))

  kind_union_exact : Exact kind_form (of union_goes_on) (reading.kind_union rec (suc n)) (suc n)
  unfolding reading.kind_union
  kind_union_exact =
      image_exact (λ (p : Symbol × UnionTree). p.1) kind_parts (of union_goes_on) (suc n) (bind (expect (of (k.clause w.Kind))) (reading.behind_kind rec (suc n)))
      (bind_exact (one (of (k.clause w.Kind))) behind_form nothing (of union_goes_on) (λ t. anything_follows (behind_form t) (of union_goes_on)) (suc n) (suc n) (λ t u s. omega arith) (expect (of (k.clause w.Kind))) (reading.behind_kind rec (suc n)) (one_exact (of (k.clause w.Kind)) a_kind refl nothing (suc n)) behind_exact behind_example)

  pub union_exact : Exact union_text (of union_goes_on) (reading.union rec (suc n)) (suc n)
  unfolding reading.union
  union_exact =
      choose_first_exact (of (k.clause w.Kind)) kind_form plain_form union_text (of union_goes_on) from_kind from_plain
      (λ y u s. elim (union_cases y u s) [ inl named ↦ inl named | inr plain ↦ inr (plain.0, λ z stops. plain.1 z) ])
      (λ y u z s stops. front_begins (k.clause w.Kind) (one (of (k.clause w.Kind)) s.value.0) (behind_form s.value.0 s.value.1) true (one_leads (k.clause w.Kind) s.value.0) u z s.spelled)
      (suc n) (reading.kind_union rec (suc n)) (reading.plain_union rec (suc n)) kind_union_exact plain_exact
