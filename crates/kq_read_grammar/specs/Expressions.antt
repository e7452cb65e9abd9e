-- The symbols that spell a name or an expression.
use Rattle.std.specs.Prelude.{◌≡◌, ℕ, ◌≤◌, ◌+◌, []}
use Rattle.kq_read_grammar.specs.declared.expression.Name.{Name}
use Rattle.kq_read_grammar.specs.declared.expression.Name.TheVariants as n
use Rattle.kq_read_grammar.specs.Precedences.{precedence, operators, binding}
use Rattle.kq_read_grammar.specs.Trees.{Precedence, Tree, name, literal, group, call, path, signed, compare, within, between, chain, Trees, no_tree, and_tree, Links, no_link, and_link, OneStep, member, index, Steps, no_step, and_step}
use Rattle.kq_read_symbols.specs.declared.kind.Symbol.{Symbol}
use Rattle.kq_read_symbols.specs.Classes as k
use Rattle.kq_read_symbols.specs.Classes.{of}
use Rattle.kq_read_symbols.specs.Forms.{Language, one, some, ◌⨾◌}

abbrev pub Text : Type 1
Text = Language Symbol

-- no symbol
abbrev pub empty : Text
empty ts = ts ≡ []

abbrev pub name_text : Name → Text
name_text (n.Word t) = one (of k.bare_name) t
name_text (n.Bracketed t s) = one (of k.open_bracket) t ⨾ one (of k.text) s ⨾ some (of k.close_bracket)

-- This text, of an expression that binds at least so tightly.
abbrev pub at_least : ℕ → Tree → Text → Text
at_least n e text = λ ts. (n ≤ binding e) × text ts

abbrev mutual
  pub spells : Tree → Text
  spells (name n) = name_text n
  spells (literal t) = one (of k.literal) t
  spells (group t e) = one (of k.open_parenthesis) t ⨾ spells e ⨾ some (of k.close_parenthesis)
  spells (call t es) = one (of k.any_word) t ⨾ some (of k.open_parenthesis) ⨾ spells_all es ⨾ some (of k.close_parenthesis)
  spells (path e s ss) = at_least 7 e (spells e) ⨾ spells_step s ⨾ spells_steps ss
  spells (signed t e) = one (of k.additive) t ⨾ at_least 6 e (spells e)
  spells (compare a t b) = at_least 3 a (spells a) ⨾ one (of k.comparison) t ⨾ at_least 3 b (spells b)
  spells (within a t e es) = at_least 3 a (spells a) ⨾ one (of k.membership) t ⨾ some (of k.open_parenthesis) ⨾ (spells e ⨾ spells_more es) ⨾ some (of k.close_parenthesis)
  spells (between a t b c) = at_least 3 a (spells a) ⨾ one (of k.interval) t ⨾ some (of k.open_parenthesis) ⨾ (at_least 3 b (spells b) ⨾ some (of k.dots) ⨾ at_least 3 c (spells c)) ⨾ some (of k.close_parenthesis)
  spells (chain l e t f ls) = at_least (precedence l + 1) e (spells e) ⨾ (one (of (operators l)) t ⨾ at_least (precedence l + 1) f (spells f)) ⨾ spells_links l ls

  pub spells_all : Trees → Text
  spells_all no_tree = empty
  spells_all (and_tree e es) = spells e ⨾ spells_more es

  pub spells_more : Trees → Text
  spells_more no_tree = empty
  spells_more (and_tree e es) = (some (of k.comma) ⨾ spells e) ⨾ spells_more es

  pub spells_links : Precedence → Links → Text
  spells_links l no_link = empty
  spells_links l (and_link t e ls) = (one (of (operators l)) t ⨾ at_least (precedence l + 1) e (spells e)) ⨾ spells_links l ls

  pub spells_step : OneStep → Text
  spells_step (member t n) = one (of k.dot) t ⨾ name_text n
  spells_step (index t e) = one (of k.open_bracket) t ⨾ spells e ⨾ some (of k.close_bracket)

  pub spells_steps : Steps → Text
  spells_steps no_step = empty
  spells_steps (and_step s ss) = spells_step s ⨾ spells_steps ss
