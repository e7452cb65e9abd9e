-- Operators of one precedence, and what stands between them.
use Rattle.std.proofs.Common.{◌≡◌, ℕ, zero, suc, ◌≤◌, ◌+◌, true, false, List, [], ◌∷◌, ◌++◌, ◌⊎◌, inl, inr, refl, sym, ◌∙◌, ap, subst, append-nil, arith}
use Rattle.kq_read_grammar.specs.declared.expression.Name.TheVariants as shown
use Rattle.kq_read_grammar.specs.Expressions.{Text, at_least, spells, spells_links}
use Rattle.kq_read_grammar.specs.Precedences.{precedence, operators, binding}
use Rattle.kq_read_grammar.proofs.Precedences.{goes_on}
use Rattle.kq_read_grammar.specs.Trees.{Precedence, disjunction as ors, conjunction as ands, sum as sums, product as products, Tree, literal, group, call, path, signed, compare, within, between, chain, Links, no_link, and_link}
use Rattle.kq_read_grammar.specs.Trees.Tree.{name}
use Rattle.kq_read_grammar.specs.Views.{links_of, chain_of}
use Rattle.kq_read_symbols.specs.declared.kind.Symbol.{Symbol}
use Rattle.kq_read_symbols.specs.Classes.{of}
use Rattle.kq_read_symbols.specs.Forms.{Parser, one, Many, starts, expect, both, many}
use Rattle.kq_read_symbols.proofs.Forms.{Then, Image}
use Rattle.kq_read_symbols.proofs.Laws.{Exact, Example, nothing, stops_nothing, both_exact, image_exact, same_exact, one_exact, many_exact, many_follows}
use Rattle.kq_read_expressions.specs.Reading.{chained}
use Rattle.kq_read_expressions.proofs.NameLaws.{a_word}

-- an expression that binds at least so tightly
abbrev pub at : ℕ → Tree → Text
at n e = at_least n e (spells e)

-- one name is an expression
pub at_example : (n : ℕ) → n ≤ 7 → Example (at n)
at_example n le = record { value = name (shown.Word a_word); text = a_word ∷ []; spelled = (le, (refl, refl)) }

pub order : (a b : ℕ) → a ≤ b → (a + 1 ≤ b) ⊎ (a ≡ b)
order zero zero h = inr refl
order zero (suc b) h = inl (omega arith)
order (suc a) zero h = absurd (omega arith)
order (suc a) (suc b) h = elim (order a b (omega arith)) [ inl x ↦ inl (omega arith) | inr e ↦ inr (ap suc e) ]

-- no chain binds as tightly as a sign
pub too_tight : (l : Precedence) (n : ℕ) → 5 ≤ n → n ≤ precedence l → ⊥
too_tight ors n h e = omega arith
too_tight ands n h e = omega arith
too_tight sums n h e = omega arith
too_tight products n h e = omega arith

-- nor as a comparison
pub not_two : (l : Precedence) → precedence l ≡ 2 → ⊥
not_two ors e = omega arith
not_two ands e = omega arith
not_two sums e = omega arith
not_two products e = omega arith

same_level : (l m : Precedence) → precedence l ≡ precedence m → (l ≡ m)
same_level ors ors e = refl
same_level ors ands e = absurd (omega arith)
same_level ors sums e = absurd (omega arith)
same_level ors products e = absurd (omega arith)
same_level ands ors e = absurd (omega arith)
same_level ands ands e = refl
same_level ands sums e = absurd (omega arith)
same_level ands products e = absurd (omega arith)
same_level sums ors e = absurd (omega arith)
same_level sums ands e = absurd (omega arith)
same_level sums sums e = refl
same_level sums products e = absurd (omega arith)
same_level products ors e = absurd (omega arith)
same_level products ands e = absurd (omega arith)
same_level products sums e = absurd (omega arith)
same_level products products e = refl

module _ (l : Precedence) where
  abbrev operand : Tree → Text
  operand = at (precedence l + 1)

  abbrev one_link : Symbol × Tree → Text
  one_link = Then (one (of (operators l))) operand

  to_links : (xs : List (Symbol × Tree)) (u : List Symbol) → Many one_link xs u → spells_links l (links_of xs) u
  to_links [] u s = s
  to_links (x ∷ xs) u s = record { left = s.0; right = s.1; joined = s.2; before = s.3; after = to_links xs s.1 s.4 }

  from_links : (ls : Links) (u : List Symbol) → spells_links l ls u → (xs : List (Symbol × Tree)) × (ls ≡ links_of xs) × Many one_link xs u
  from_links no_link u s = ([], refl, s)
  from_links (and_link t e ls) u s = let rest = from_links ls s.right s.after in ((t, e) ∷ rest.0, ap (λ m. and_link t e m) rest.1, (s.left, s.right, s.joined, s.before, rest.2))

  abbrev chain_parts : Tree × List (Symbol × Tree) → Text
  chain_parts = Then operand (Many one_link)

  abbrev chain_form : Tree → Text
  chain_form = Image (λ (p : Tree × List (Symbol × Tree)). chain_of l p.0 p.1) chain_parts

  to_chain_at : (e : Tree) (xs : List (Symbol × Tree)) (u : List Symbol) → chain_parts (e, xs) u → at (precedence l) (chain_of l e xs) u
  to_chain_at e [] u s =
      let all : u ≡ s.left = s.joined ∙ ap (λ r. s.left ++ r) s.after ∙ append-nil s.left in
      let le : precedence l ≤ binding e = omega (arith, s.before.0) in
      (le, subst (spells e) (sym all) s.before.1)
  to_chain_at e (x ∷ xs) u s = (omega arith, record { left = s.left; right = s.right; joined = s.joined; before = s.before; after = record { left = s.after.0; right = s.after.1; joined = s.after.2; before = s.after.3; after = to_links xs s.after.1 s.after.4 } })

  to_chain : (y : Tree) (u : List Symbol) → chain_form y u → at (precedence l) y u
  to_chain y u s = subst (λ w. at (precedence l) w u) (sym s.is) (to_chain_at s.value.0 s.value.1 u s.spelled)

  -- what binds more tightly is a chain with no link
  alone : (y : Tree) (u : List Symbol) → at (precedence l + 1) y u → chain_form y u
  alone y u s = record { value = (y, []); is = refl; spelled = record { left = u; right = []; joined = sym (append-nil u); before = s; after = refl } }

  same_chain : (m : Precedence) (e : Tree) (t : Symbol) (f : Tree) (ls : Links) (u : List Symbol) → l ≡ m → at (precedence m) (chain m e t f ls) u → chain_form (chain m e t f ls) u
  same_chain m e t f ls u eq =
      subst (λ m. at (precedence m) (chain m e t f ls) u → chain_form (chain m e t f ls) u) eq
      (λ s.
      let rest = from_links ls s.1.after.right s.1.after.after in
      record {
        value = (e, (t, f) ∷ rest.0);
        is = ap (λ x. chain l e t f x) rest.1;
        spelled = record { left = s.1.left; right = s.1.right; joined = s.1.joined; before = s.1.before; after = (s.1.after.left, s.1.after.right, s.1.after.joined, s.1.after.before, rest.2) };
      })

  here : (y : Tree) (u : List Symbol) → precedence l ≡ binding y → at (precedence l) y u → chain_form y u
  here (name n) u e s = absurd (too_tight l 7 (omega arith) (omega (arith, e)))
  here (literal t) u e s = absurd (too_tight l 7 (omega arith) (omega (arith, e)))
  here (group t f) u e s = absurd (too_tight l 7 (omega arith) (omega (arith, e)))
  here (call t es) u e s = absurd (too_tight l 7 (omega arith) (omega (arith, e)))
  here (path f x xs) u e s = absurd (too_tight l 6 (omega arith) (omega (arith, e)))
  here (signed t f) u e s = absurd (too_tight l 5 (omega arith) (omega (arith, e)))
  here (compare a t b) u e s = absurd (not_two l e)
  here (within a t b es) u e s = absurd (not_two l e)
  here (between a t b c) u e s = absurd (not_two l e)
  here (chain m f t g ls) u e s = same_chain m f t g ls u (same_level l m e) (omega arith, s.1)

  from_chain : (y : Tree) (u : List Symbol) → at (precedence l) y u → chain_form y u
  from_chain y u s = elim (order (precedence l) (binding y) s.0) [ inl h ↦ alone y u (h, s.1) | inr e ↦ here y u e s ]

module _ (l : Precedence) (t₀ : Symbol) (is_t₀ : of (operators l) t₀ ≡ true) (apart_here : (t : Symbol) → of (operators l) t ≡ true → of (goes_on (precedence l + 1)) t ≡ false) (within_here : (t : Symbol) → of (goes_on (precedence l)) t ≡ false → of (goes_on (precedence l + 1)) t ≡ false) (stops_here : (t : Symbol) → of (goes_on (precedence l)) t ≡ false → of (operators l) t ≡ false) (le : precedence l + 1 ≤ 7) where
  link_exact : (n : ℕ) (p : Parser Symbol Tree) → Exact (operand l) (of (goes_on (precedence l + 1))) p n → Exact (one_link l) (of (goes_on (precedence l + 1))) (both (expect (of (operators l))) p) n
  link_exact n p exact = both_exact (one (of (operators l))) (operand l) nothing (of (goes_on (precedence l + 1))) (λ y v z s stops. stops_nothing (v ++ z)) n (expect (of (operators l))) p (one_exact (of (operators l)) t₀ is_t₀ nothing n) exact (at_example (precedence l + 1) le)

  link_leads : (x : Symbol × Tree) (u z : List Symbol) → one_link l x u → starts (of (operators l)) (u ++ z) ≡ true
  link_leads x u z s = ap (λ v. starts (of (operators l)) (v ++ z)) (s.joined ∙ ap (λ v. v ++ s.right) s.before.1) ∙ s.before.0

  pub chain_exact : (f n : ℕ) → n ≤ f → (p : Parser Symbol Tree) → Exact (at (precedence l + 1)) (of (goes_on (precedence l + 1))) p n → Exact (at (precedence l)) (of (goes_on (precedence l))) (chained (operators l) l p f) n
  chain_exact f n le_f p exact =
      same_exact (chain_form l) (at (precedence l)) (of (goes_on (precedence l))) (to_chain l) (from_chain l) n (chained (operators l) l p f)
      (image_exact (λ (p : Tree × List (Symbol × Tree)). chain_of l p.0 p.1) (chain_parts l) (of (goes_on (precedence l))) n (both p (many (of (operators l)) (both (expect (of (operators l))) p) f))
      (both_exact (operand l) (Many (one_link l)) (of (goes_on (precedence l + 1))) (of (goes_on (precedence l))) (many_follows (one_link l) (of (operators l)) (of (goes_on (precedence l + 1))) (of (goes_on (precedence l))) link_leads apart_here within_here stops_here) n p (many (of (operators l)) (both (expect (of (operators l))) p) f) exact
      (many_exact (one_link l) (of (operators l)) (of (goes_on (precedence l + 1))) (of (goes_on (precedence l))) link_leads apart_here within_here stops_here f n le_f (both (expect (of (operators l))) p) (link_exact n p exact))
      (record { value = []; text = []; spelled = refl })))
