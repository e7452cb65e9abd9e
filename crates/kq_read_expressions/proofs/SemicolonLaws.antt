-- No expression has a semicolon in it.
use Rattle.std.proofs.Common.{◌≡◌, true, false, List, [], ◌∷◌, ◌++◌, refl, sym, ◌∙◌, ap, subst, append_assoc}
use Rattle.kq_read_grammar.specs.declared.expression.Name.{Name}
use Rattle.kq_read_grammar.specs.declared.expression.Name.TheVariants as shown
use Rattle.kq_read_grammar.specs.Expressions.{Text, name_text, at_least, spells, spells_all, spells_more, spells_links, spells_step, spells_steps}
use Rattle.kq_read_grammar.specs.Precedences.{operators}
use Rattle.kq_read_grammar.specs.Trees.{Precedence, disjunction as ors, conjunction as ands, sum as sums, product as products, Tree, literal, group, call, path, signed, compare, within, between, chain, Trees, no_tree, and_tree, Links, no_link, and_link, OneStep, member, index, Steps, no_step, and_step}
use Rattle.kq_read_grammar.specs.Trees.Tree.{name}
use Rattle.kq_read_symbols.specs.declared.kind.Symbol.{Symbol}
use Rattle.kq_read_symbols.specs.Classes as k
use Rattle.kq_read_symbols.specs.Classes.{Class, of}
use Rattle.kq_read_symbols.specs.Forms.{one, some, ◌⨾◌}
use Rattle.kq_read_symbols.proofs.ClassLemmas.{apart}

-- without a semicolon
abbrev pub free : List Symbol → Type 0
free [] = Unit {0}
free (t ∷ ts) = (of k.semicolon t ≡ false) × free ts

pub free_append : (u v : List Symbol) → free u → free v → free (u ++ v)
free_append [] v a b = b
free_append (t ∷ u) v a b = (a.0, free_append u v a.1 b)

-- a text of two parts
pub free_joined : (u left right : List Symbol) → u ≡ left ++ right → free left → free right → free u
free_joined u left right e a b = subst free (sym e) (free_append left right a b)

pub free_one : (a : Class) → ((t : Symbol) → of a t ≡ true → of k.semicolon t ≡ false) → (t : Symbol) (u : List Symbol) → one (of a) t u → free u
free_one a off t u s = subst free (sym s.1) (off t s.0, tt)

pub free_some : (a : Class) → ((t : Symbol) → of a t ≡ true → of k.semicolon t ≡ false) → (u : List Symbol) → some (of a) u → free u
free_some a off u s = free_one a off s.0 u s.1

-- ---- a semicolon that ends a text

-- a semicolon, behind symbols that are none
pub record Ended (u : List Symbol) : Type 0 where
  pub front : List Symbol
  pub semicolon : Symbol
  pub joined : u ≡ front ++ semicolon ∷ []
  pub is : of k.semicolon semicolon ≡ true
  pub free_before : free front

-- a text without a semicolon, and then one
pub ended : (text : Text) → ((u : List Symbol) → text u → free u) → (u : List Symbol) → ◌⨾◌ text (some (of k.semicolon)) u → Ended u
ended text off u s = record {
  front = s.left;
  semicolon = s.after.0;
  joined = s.joined ∙ ap (λ r. s.left ++ r) s.after.1.1;
  is = s.after.1.0;
  free_before = off s.left s.before;
}

same_fronts : (a b : List Symbol) (s t : Symbol) (z w : List Symbol) → free a → free b → of k.semicolon s ≡ true → of k.semicolon t ≡ true → a ++ s ∷ z ≡ b ++ t ∷ w → a ++ s ∷ [] ≡ b ++ t ∷ []
same_fronts [] [] s t z w fa fb is it e = let h : s ≡ t = cc in ap (λ x. x ∷ []) h
same_fronts [] (y ∷ b) s t z w fa fb is it e =
    let h : s ≡ y = cc in
    let no : true ≡ false = sym is ∙ ap (of k.semicolon) h ∙ fb.0 in
    cc
same_fronts (x ∷ a) [] s t z w fa fb is it e =
    let h : t ≡ x = cc in
    let no : true ≡ false = sym it ∙ ap (of k.semicolon) h ∙ fa.0 in
    cc
same_fronts (x ∷ a) (y ∷ b) s t z w fa fb is it e =
    let h : x ≡ y = cc in
    let rest : a ++ s ∷ z ≡ b ++ t ∷ w = cc in
    let same = same_fronts a b s t z w fa.1 fb.1 is it rest in
    (λ i. h i ∷ same i)

ended_append : (u front z : List Symbol) (s : Symbol) → u ≡ front ++ s ∷ [] → front ++ s ∷ z ≡ u ++ z
ended_append u front z s e = sym (append_assoc front (s ∷ []) z) ∙ ap (λ l. l ++ z) (sym e)

-- two such texts that stand at one place are the same
pub ended_same : (u v z w : List Symbol) → Ended u → Ended v → u ++ z ≡ v ++ w → u ≡ v
ended_same u v z w a b e =
    let all : a.front ++ a.semicolon ∷ z ≡ b.front ++ b.semicolon ∷ w = ended_append u a.front z a.semicolon a.joined ∙ e ∙ sym (ended_append v b.front w b.semicolon b.joined) in
    a.joined ∙ same_fronts a.front b.front a.semicolon b.semicolon z w a.free_before b.free_before a.is b.is all ∙ sym b.joined

-- ---- names and expressions

pub no_semicolon_in_name : (n : Name) (u : List Symbol) → name_text n u → free u
no_semicolon_in_name (shown.Word t) u s = free_one k.bare_name (apart k.bare_name k.semicolon refl) t u s
no_semicolon_in_name (shown.Bracketed t x) u s =
    free_joined u s.left s.right s.joined (free_one k.open_bracket (apart k.open_bracket k.semicolon refl) t s.left s.before)
    (free_joined s.right s.after.left s.after.right s.after.joined (free_one k.text (apart k.text k.semicolon refl) x s.after.left s.after.before)
    (free_some k.close_bracket (apart k.close_bracket k.semicolon refl) s.after.right s.after.after))

operator_apart : (l : Precedence) (t : Symbol) → of (operators l) t ≡ true → of k.semicolon t ≡ false
operator_apart ors = apart (operators ors) k.semicolon refl
operator_apart ands = apart (operators ands) k.semicolon refl
operator_apart sums = apart (operators sums) k.semicolon refl
operator_apart products = apart (operators products) k.semicolon refl

-- a text in parentheses
in_parentheses : (text : Text) → ((u : List Symbol) → text u → free u) → (u : List Symbol) → ◌⨾◌ (some (of k.open_parenthesis)) (text ⨾ some (of k.close_parenthesis)) u → free u
in_parentheses text off u s =
    free_joined u s.left s.right s.joined (free_some k.open_parenthesis (apart k.open_parenthesis k.semicolon refl) s.left s.before)
    (free_joined s.right s.after.left s.after.right s.after.joined (off s.after.left s.after.before)
    (free_some k.close_parenthesis (apart k.close_parenthesis k.semicolon refl) s.after.right s.after.after))

mutual
  pub no_semicolon : (e : Tree) (u : List Symbol) → spells e u → free u
  no_semicolon (name n) u s = no_semicolon_in_name n u s
  no_semicolon (literal t) u s = free_one k.literal (apart k.literal k.semicolon refl) t u s
  no_semicolon (group t e) u s =
      free_joined u s.left s.right s.joined (free_one k.open_parenthesis (apart k.open_parenthesis k.semicolon refl) t s.left s.before)
      (free_joined s.right s.after.left s.after.right s.after.joined (no_semicolon e s.after.left s.after.before)
      (free_some k.close_parenthesis (apart k.close_parenthesis k.semicolon refl) s.after.right s.after.after))
  no_semicolon (call t es) u s =
      free_joined u s.left s.right s.joined (free_one k.any_word (apart k.any_word k.semicolon refl) t s.left s.before)
      (in_parentheses (spells_all es) (no_semicolon_in_all es) s.right s.after)
  no_semicolon (path e x xs) u s =
      free_joined u s.left s.right s.joined (no_semicolon e s.left s.before.1)
      (free_joined s.right s.after.left s.after.right s.after.joined (no_semicolon_in_step x s.after.left s.after.before) (no_semicolon_in_steps xs s.after.right s.after.after))
  no_semicolon (signed t e) u s =
      free_joined u s.left s.right s.joined (free_one k.additive (apart k.additive k.semicolon refl) t s.left s.before) (no_semicolon e s.right s.after.1)
  no_semicolon (compare a t b) u s =
      free_joined u s.left s.right s.joined (no_semicolon a s.left s.before.1)
      (free_joined s.right s.after.left s.after.right s.after.joined (free_one k.comparison (apart k.comparison k.semicolon refl) t s.after.left s.after.before) (no_semicolon b s.after.right s.after.after.1))
  no_semicolon (within a t e es) u s =
      free_joined u s.left s.right s.joined (no_semicolon a s.left s.before.1)
      (free_joined s.right s.after.left s.after.right s.after.joined (free_one k.membership (apart k.membership k.semicolon refl) t s.after.left s.after.before)
      (in_parentheses (spells e ⨾ spells_more es) (λ v w. free_joined v w.left w.right w.joined (no_semicolon e w.left w.before) (no_semicolon_in_more es w.right w.after)) s.after.right s.after.after))
  no_semicolon (between a t b c) u s =
      free_joined u s.left s.right s.joined (no_semicolon a s.left s.before.1)
      (free_joined s.right s.after.left s.after.right s.after.joined (free_one k.interval (apart k.interval k.semicolon refl) t s.after.left s.after.before)
      (in_parentheses (at_least 3 b (spells b) ⨾ some (of k.dots) ⨾ at_least 3 c (spells c)) (λ v w. free_joined v w.left w.right w.joined (no_semicolon b w.left w.before.1) (free_joined w.right w.after.left w.after.right w.after.joined (free_some k.dots (apart k.dots k.semicolon refl) w.after.left w.after.before) (no_semicolon c w.after.right w.after.after.1))) s.after.right s.after.after))
  no_semicolon (chain l e t f ls) u s =
      free_joined u s.left s.right s.joined (no_semicolon e s.left s.before.1)
      (free_joined s.right s.after.left s.after.right s.after.joined
      (free_joined s.after.left s.after.before.left s.after.before.right s.after.before.joined (free_one (operators l) (operator_apart l) t s.after.before.left s.after.before.before) (no_semicolon f s.after.before.right s.after.before.after.1))
      (no_semicolon_in_links l ls s.after.right s.after.after))

  no_semicolon_in_all : (es : Trees) (u : List Symbol) → spells_all es u → free u
  no_semicolon_in_all no_tree u s = subst free (sym s) tt
  no_semicolon_in_all (and_tree e es) u s = free_joined u s.left s.right s.joined (no_semicolon e s.left s.before) (no_semicolon_in_more es s.right s.after)

  no_semicolon_in_more : (es : Trees) (u : List Symbol) → spells_more es u → free u
  no_semicolon_in_more no_tree u s = subst free (sym s) tt
  no_semicolon_in_more (and_tree e es) u s =
      free_joined u s.left s.right s.joined
      (free_joined s.left s.before.left s.before.right s.before.joined (free_some k.comma (apart k.comma k.semicolon refl) s.before.left s.before.before) (no_semicolon e s.before.right s.before.after))
      (no_semicolon_in_more es s.right s.after)

  no_semicolon_in_links : (l : Precedence) (ls : Links) (u : List Symbol) → spells_links l ls u → free u
  no_semicolon_in_links l no_link u s = subst free (sym s) tt
  no_semicolon_in_links l (and_link t e ls) u s =
      free_joined u s.left s.right s.joined
      (free_joined s.left s.before.left s.before.right s.before.joined (free_one (operators l) (operator_apart l) t s.before.left s.before.before) (no_semicolon e s.before.right s.before.after.1))
      (no_semicolon_in_links l ls s.right s.after)

  no_semicolon_in_step : (x : OneStep) (u : List Symbol) → spells_step x u → free u
  no_semicolon_in_step (member t n) u s =
      free_joined u s.left s.right s.joined (free_one k.dot (apart k.dot k.semicolon refl) t s.left s.before) (no_semicolon_in_name n s.right s.after)
  no_semicolon_in_step (index t e) u s =
      free_joined u s.left s.right s.joined (free_one k.open_bracket (apart k.open_bracket k.semicolon refl) t s.left s.before)
      (free_joined s.right s.after.left s.after.right s.after.joined (no_semicolon e s.after.left s.after.before)
      (free_some k.close_bracket (apart k.close_bracket k.semicolon refl) s.after.right s.after.after))

  no_semicolon_in_steps : (xs : Steps) (u : List Symbol) → spells_steps xs u → free u
  no_semicolon_in_steps no_step u s = subst free (sym s) tt
  no_semicolon_in_steps (and_step x xs) u s =
      free_joined u s.left s.right s.joined (no_semicolon_in_step x s.left s.before) (no_semicolon_in_steps xs s.right s.after)
