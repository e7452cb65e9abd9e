-- What isn't supported in an expression is the first literal of its text that has no value.
use Rattle.std.proofs.Common.{◌≡◌, ℕ, Bool, true, false, cond, List, [], ◌∷◌, ◌++◌, Option, Some, None, refl, sym, ap, ◌∙◌}
use Rattle.kq_bind_expressions.specs.Unsupported.{or_later, unless_some, valueless, unsupported_in, unsupported_among, unsupported_links, unsupported_step, unsupported_steps}
use Rattle.kq_read_grammar.specs.declared.expression.Name.{Name}
use Rattle.kq_read_grammar.specs.declared.expression.Name.TheVariants as shown
use Rattle.kq_read_grammar.specs.Expressions.{name_text, spells, spells_all, spells_more, spells_links, spells_step, spells_steps}
use Rattle.kq_read_grammar.specs.Precedences.{operators}
use Rattle.kq_read_grammar.specs.Trees.{Precedence, disjunction, conjunction, sum, product, Tree, name, literal, group, call, path, signed, compare, within, between, chain, Trees, no_tree, and_tree, Links, no_link, and_link, OneStep, member, index, Steps, no_step, and_step}
use Rattle.kq_read_meanings.specs.Literals.{literal_said}
use Rattle.kq_read_meanings.specs.Pieces.{piece}
use Rattle.kq_read_symbols.specs.Classes as k
use Rattle.kq_read_symbols.specs.Classes.{Class, of}
use Rattle.kq_read_symbols.specs.Forms.{one, some}
use Rattle.kq_read_symbols.specs.declared.kind.Kind.{Kind}
use Rattle.kq_read_symbols.specs.declared.kind.Kind.TheVariants as kind
use Rattle.kq_read_symbols.specs.declared.kind.Symbol.{Symbol}
use Rattle.kq_read_symbols.specs.declared.word.ReservedWord.TheVariants as reserved
use Rattle.kq_read_symbols.specs.declared.word.Word.TheVariants as word
use Rattle.kq_value.specs.declared.value.Value.{Value}
use Rattle.kq_bind_laws.specs.Leftmost.{may_lack, unless_valued, lacks, or_first_of, first_lacking}

-- ---- one after another

first_append : (text : List ℕ) (ts us : List Symbol) → first_lacking text (ts ++ us) ≡ or_later (first_lacking text ts) (first_lacking text us)
first_append text [] us = refl
first_append text (t ∷ ts) us = by (lacks text t) (first_append text ts us) where
  by : (o : Option ℕ) → first_lacking text (ts ++ us) ≡ or_later (first_lacking text ts) (first_lacking text us)
      → or_first_of o (first_lacking text (ts ++ us)) ≡ or_later (or_first_of o (first_lacking text ts)) (first_lacking text us)
  by (Some at) e = refl
  by None e = e

-- this is the first of these symbols
abbrev IsFirst : List ℕ → Option ℕ → List Symbol → Type 0
IsFirst text o ts = o ≡ first_lacking text ts

both : (text : List ℕ) (ts a b : List Symbol) (x y : Option ℕ) → ts ≡ a ++ b → IsFirst text x a → IsFirst text y b → IsFirst text (or_later x y) ts
both text ts a b x y e h k =
    ap (λ z. or_later z y) h ∙ ap (or_later (first_lacking text a)) k ∙ sym (first_append text a b) ∙ ap (first_lacking text) (sym e)

behind : (text : List ℕ) (ts a b : List Symbol) (y : Option ℕ) → ts ≡ a ++ b → IsFirst text None a → IsFirst text y b → IsFirst text y ts
behind text ts a b y e h k = both text ts a b None y e h k

before : (text : List ℕ) (ts a b : List Symbol) (x : Option ℕ) → ts ≡ a ++ b → IsFirst text x a → IsFirst text None b → IsFirst text x ts
before text ts a b x e h k = none_later x ∙ both text ts a b x None e h k where
  none_later : (o : Option ℕ) → o ≡ or_later o None
  none_later (Some at) = refl
  none_later None = refl

nothing : (text : List ℕ) (ts : List Symbol) → ts ≡ [] → IsFirst text None ts
nothing text ts e = ap (first_lacking text) (sym e)

-- ---- symbols that are no such literals

clear : (c : Class) → c kind.WholeNumber ≡ false → c kind.Real ≡ false → c kind.Timespan ≡ false → c kind.TypedLiteral ≡ false
    → (x : Kind) → c x ≡ true → may_lack x ≡ false
clear c a b d e kind.WholeNumber h = absurd (cc)
clear c a b d e kind.Real h = absurd (cc)
clear c a b d e kind.Timespan h = absurd (cc)
clear c a b d e kind.TypedLiteral h = absurd (cc)
clear c a b d e (kind.Word w) h = refl
clear c a b d e (kind.DashedWord w) h = refl
clear c a b d e (kind.Side s) h = refl
clear c a b d e (kind.String q) h = refl
clear c a b d e (kind.WordOperator o) h = refl
clear c a b d e (kind.Punctuation p) h = refl
clear c a b d e (kind.Operator o) h = refl

one_clear : (text : List ℕ) (c : Class) (t : Symbol) (ts : List Symbol) → c kind.WholeNumber ≡ false → c kind.Real ≡ false → c kind.Timespan ≡ false
    → c kind.TypedLiteral ≡ false → one (of c) t ts → IsFirst text None ts
one_clear text c t ts a b d e h =
    let none : may_lack t.kind ≡ false = clear c a b d e t.kind h.0 in
    let first : None ≡ first_lacking text (t ∷ []) =
    ap (λ (z : Bool). or_first_of (cond z (unless_valued t.from (literal_said t.kind (piece text t))) None) None) (sym none) in
    first ∙ ap (first_lacking text) (sym h.1)

some_clear : (text : List ℕ) (c : Class) (ts : List Symbol) → c kind.WholeNumber ≡ false → c kind.Real ≡ false → c kind.Timespan ≡ false
    → c kind.TypedLiteral ≡ false → some (of c) ts → IsFirst text None ts
some_clear text c ts a b d e h = one_clear text c h.0 ts a b d e h.1

operator_clear : (text : List ℕ) (l : Precedence) (t : Symbol) (ts : List Symbol) → one (of (operators l)) t ts → IsFirst text None ts
operator_clear text disjunction t ts h = one_clear text (operators disjunction) t ts refl refl refl refl h
operator_clear text conjunction t ts h = one_clear text (operators conjunction) t ts refl refl refl refl h
operator_clear text sum t ts h = one_clear text (operators sum) t ts refl refl refl refl h
operator_clear text product t ts h = one_clear text (operators product) t ts refl refl refl refl h

text_clear : (text : List ℕ) (t : Symbol) (ts : List Symbol) → one (of k.text) t ts → IsFirst text None ts
text_clear text t ts h = one_clear text k.text t ts refl refl refl refl h

name_clear : (text : List ℕ) (n : Name) (ts : List Symbol) → name_text n ts → IsFirst text None ts
name_clear text (shown.Word t) ts h = one_clear text k.bare_name t ts refl refl refl refl h
name_clear text (shown.Bracketed t s) ts h =
    behind text ts h.left h.right None h.joined (one_clear text k.open_bracket t h.left refl refl refl refl h.before)
    (behind text h.right h.after.left h.after.right None h.after.joined (text_clear text s h.after.left h.after.before)
    (some_clear text k.close_bracket h.after.right refl refl refl refl h.after.after))

-- ---- literals

valued_alike : (place : ℕ) (o : Option Value) → unless_some place o ≡ unless_valued place o
valued_alike place (Some v) = refl
valued_alike place None = refl

literal_alike : (x : Kind) (place : ℕ) (bytes : List ℕ) → k.literal x ≡ true
    → unless_some place (literal_said x bytes) ≡ cond (may_lack x) (unless_valued place (literal_said x bytes)) None
literal_alike kind.WholeNumber place bytes e = valued_alike place (literal_said kind.WholeNumber bytes)
literal_alike kind.Real place bytes e = valued_alike place (literal_said kind.Real bytes)
literal_alike kind.Timespan place bytes e = valued_alike place (literal_said kind.Timespan bytes)
literal_alike kind.TypedLiteral place bytes e = valued_alike place (literal_said kind.TypedLiteral bytes)
literal_alike (kind.String q) place bytes e = refl
literal_alike (kind.Word (word.Reserved reserved.True)) place bytes e = refl
literal_alike (kind.Word (word.Reserved reserved.False)) place bytes e = refl
literal_alike _ place bytes e = absurd (cc)

literal_first : (text : List ℕ) (t : Symbol) (ts : List Symbol) → one (of k.literal) t ts → IsFirst text (valueless text t) ts
literal_first text t ts h =
    literal_alike t.kind t.from (piece text t) h.0 ∙ none_behind (lacks text t) ∙ ap (first_lacking text) (sym h.1)
  where
    none_behind : (o : Option ℕ) → o ≡ or_first_of o None
    none_behind (Some at) = refl
    none_behind None = refl

-- ---- expressions

mutual
  pub tree_first : (text : List ℕ) (e : Tree) (ts : List Symbol) → spells e ts → IsFirst text (unsupported_in text e) ts
  tree_first text (name n) ts h = name_clear text n ts h
  tree_first text (literal t) ts h = literal_first text t ts h
  tree_first text (group t e) ts h =
      behind text ts h.left h.right (unsupported_in text e) h.joined (one_clear text k.open_parenthesis t h.left refl refl refl refl h.before)
      (before text h.right h.after.left h.after.right (unsupported_in text e) h.after.joined (tree_first text e h.after.left h.after.before)
      (some_clear text k.close_parenthesis h.after.right refl refl refl refl h.after.after))
  tree_first text (call t es) ts h =
      let args = h.after.after in
      behind text ts h.left h.right (unsupported_among text es) h.joined (one_clear text k.any_word t h.left refl refl refl refl h.before)
      (behind text h.right h.after.left h.after.right (unsupported_among text es) h.after.joined
      (some_clear text k.open_parenthesis h.after.left refl refl refl refl h.after.before)
      (before text h.after.right args.left args.right (unsupported_among text es) args.joined (all_first text es args.left args.before)
      (some_clear text k.close_parenthesis args.right refl refl refl refl args.after)))
  tree_first text (path e s ss) ts h =
      both text ts h.left h.right (unsupported_in text e) (or_later (unsupported_step text s) (unsupported_steps text ss)) h.joined
      (tree_first text e h.left h.before.1)
      (both text h.right h.after.left h.after.right (unsupported_step text s) (unsupported_steps text ss) h.after.joined
      (step_first text s h.after.left h.after.before) (steps_first text ss h.after.right h.after.after))
  tree_first text (signed t e) ts h =
      behind text ts h.left h.right (unsupported_in text e) h.joined (one_clear text k.additive t h.left refl refl refl refl h.before)
      (tree_first text e h.right h.after.1)
  tree_first text (compare a t b) ts h =
      both text ts h.left h.right (unsupported_in text a) (unsupported_in text b) h.joined (tree_first text a h.left h.before.1)
      (behind text h.right h.after.left h.after.right (unsupported_in text b) h.after.joined
      (one_clear text k.comparison t h.after.left refl refl refl refl h.after.before) (tree_first text b h.after.right h.after.after.1))
  tree_first text (within a t e es) ts h =
      let open_on = h.after.after in
      let list = open_on.after in
      let inner = list.before in
      let y = or_later (unsupported_in text e) (unsupported_among text es) in
      both text ts h.left h.right (unsupported_in text a) y h.joined (tree_first text a h.left h.before.1)
      (behind text h.right h.after.left h.after.right y h.after.joined (one_clear text k.membership t h.after.left refl refl refl refl h.after.before)
      (behind text h.after.right open_on.left open_on.right y open_on.joined (some_clear text k.open_parenthesis open_on.left refl refl refl refl open_on.before)
      (before text open_on.right list.left list.right y list.joined
      (both text list.left inner.left inner.right (unsupported_in text e) (unsupported_among text es) inner.joined
      (tree_first text e inner.left inner.before) (more_first text es inner.right inner.after))
      (some_clear text k.close_parenthesis list.right refl refl refl refl list.after))))
  tree_first text (between a t b c) ts h =
      let open_on = h.after.after in
      let ends = open_on.after in
      let low = ends.before in
      let high = low.after in
      let y = or_later (unsupported_in text b) (unsupported_in text c) in
      both text ts h.left h.right (unsupported_in text a) y h.joined (tree_first text a h.left h.before.1)
      (behind text h.right h.after.left h.after.right y h.after.joined (one_clear text k.interval t h.after.left refl refl refl refl h.after.before)
      (behind text h.after.right open_on.left open_on.right y open_on.joined (some_clear text k.open_parenthesis open_on.left refl refl refl refl open_on.before)
      (before text open_on.right ends.left ends.right y ends.joined
      (both text ends.left low.left low.right (unsupported_in text b) (unsupported_in text c) low.joined (tree_first text b low.left low.before.1)
      (behind text low.right high.left high.right (unsupported_in text c) high.joined (some_clear text k.dots high.left refl refl refl refl high.before)
      (tree_first text c high.right high.after.1)))
      (some_clear text k.close_parenthesis ends.right refl refl refl refl ends.after))))
  tree_first text (chain l a t b ls) ts h =
      let pair = h.after.before in
      both text ts h.left h.right (unsupported_in text a) (or_later (unsupported_in text b) (unsupported_links text ls)) h.joined
      (tree_first text a h.left h.before.1)
      (both text h.right h.after.left h.after.right (unsupported_in text b) (unsupported_links text ls) h.after.joined
      (behind text h.after.left pair.left pair.right (unsupported_in text b) pair.joined (operator_clear text l t pair.left pair.before)
      (tree_first text b pair.right pair.after.1))
      (links_first text l ls h.after.right h.after.after))

  all_first : (text : List ℕ) (es : Trees) (ts : List Symbol) → spells_all es ts → IsFirst text (unsupported_among text es) ts
  all_first text no_tree ts h = nothing text ts h
  all_first text (and_tree e es) ts h =
      both text ts h.left h.right (unsupported_in text e) (unsupported_among text es) h.joined (tree_first text e h.left h.before)
      (more_first text es h.right h.after)

  more_first : (text : List ℕ) (es : Trees) (ts : List Symbol) → spells_more es ts → IsFirst text (unsupported_among text es) ts
  more_first text no_tree ts h = nothing text ts h
  more_first text (and_tree e es) ts h =
      let one = h.before in
      both text ts h.left h.right (unsupported_in text e) (unsupported_among text es) h.joined
      (behind text h.left one.left one.right (unsupported_in text e) one.joined (some_clear text k.comma one.left refl refl refl refl one.before)
      (tree_first text e one.right one.after))
      (more_first text es h.right h.after)

  links_first : (text : List ℕ) (l : Precedence) (ls : Links) (ts : List Symbol) → spells_links l ls ts → IsFirst text (unsupported_links text ls) ts
  links_first text l no_link ts h = nothing text ts h
  links_first text l (and_link t e ls) ts h =
      let one = h.before in
      both text ts h.left h.right (unsupported_in text e) (unsupported_links text ls) h.joined
      (behind text h.left one.left one.right (unsupported_in text e) one.joined (operator_clear text l t one.left one.before)
      (tree_first text e one.right one.after.1))
      (links_first text l ls h.right h.after)

  step_first : (text : List ℕ) (s : OneStep) (ts : List Symbol) → spells_step s ts → IsFirst text (unsupported_step text s) ts
  step_first text (member t n) ts h =
      behind text ts h.left h.right None h.joined (one_clear text k.dot t h.left refl refl refl refl h.before) (name_clear text n h.right h.after)
  step_first text (index t e) ts h =
      behind text ts h.left h.right (unsupported_in text e) h.joined (one_clear text k.open_bracket t h.left refl refl refl refl h.before)
      (before text h.right h.after.left h.after.right (unsupported_in text e) h.after.joined (tree_first text e h.after.left h.after.before)
      (some_clear text k.close_bracket h.after.right refl refl refl refl h.after.after))

  steps_first : (text : List ℕ) (ss : Steps) (ts : List Symbol) → spells_steps ss ts → IsFirst text (unsupported_steps text ss) ts
  steps_first text no_step ts h = nothing text ts h
  steps_first text (and_step s ss) ts h =
      both text ts h.left h.right (unsupported_step text s) (unsupported_steps text ss) h.joined (step_first text s h.left h.before)
      (steps_first text ss h.right h.after)
