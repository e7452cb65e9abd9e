-- The place of the leftmost literal of an expression that isn't supported.
use Rattle.std.specs.Prelude.{ℕ, List, Option, Some, None}
use Rattle.kq_read_grammar.specs.Trees.{Tree, name, literal, group, call, path, signed, compare, within, between, chain, Trees, no_tree, and_tree, Links, no_link, and_link, OneStep, member, index, Steps, no_step, and_step}
use Rattle.kq_read_meanings.specs.Literals.{literal_value}
use Rattle.kq_read_symbols.specs.declared.kind.Symbol.{Symbol}

abbrev pub or_later : Option ℕ → Option ℕ → Option ℕ
or_later (Some place) later = Some place
or_later None later = later

abbrev pub unless_some : {A : Type 0} → ℕ → Option A → Option ℕ
unless_some place (Some x) = None
unless_some place None = Some place

-- a literal that has no value
abbrev pub valueless : List ℕ → Symbol → Option ℕ
valueless text t = unless_some t.from (literal_value text t)

abbrev mutual
  pub unsupported_in : List ℕ → Tree → Option ℕ
  unsupported_in text (name n) = None
  unsupported_in text (literal t) = valueless text t
  unsupported_in text (group t e) = unsupported_in text e
  unsupported_in text (call t es) = unsupported_among text es
  unsupported_in text (path e p ps) = or_later (unsupported_in text e) (or_later (unsupported_step text p) (unsupported_steps text ps))
  unsupported_in text (signed t e) = unsupported_in text e
  unsupported_in text (compare a t b) = or_later (unsupported_in text a) (unsupported_in text b)
  unsupported_in text (within a t e es) = or_later (unsupported_in text a) (or_later (unsupported_in text e) (unsupported_among text es))
  unsupported_in text (between a t b c) = or_later (unsupported_in text a) (or_later (unsupported_in text b) (unsupported_in text c))
  unsupported_in text (chain l a t b ls) = or_later (unsupported_in text a) (or_later (unsupported_in text b) (unsupported_links text ls))

  pub unsupported_among : List ℕ → Trees → Option ℕ
  unsupported_among text no_tree = None
  unsupported_among text (and_tree e es) = or_later (unsupported_in text e) (unsupported_among text es)

  pub unsupported_links : List ℕ → Links → Option ℕ
  unsupported_links text no_link = None
  unsupported_links text (and_link t e ls) = or_later (unsupported_in text e) (unsupported_links text ls)

  pub unsupported_step : List ℕ → OneStep → Option ℕ
  unsupported_step text (member d n) = None
  unsupported_step text (index d e) = unsupported_in text e

  pub unsupported_steps : List ℕ → Steps → Option ℕ
  unsupported_steps text no_step = None
  unsupported_steps text (and_step p ps) = or_later (unsupported_step text p) (unsupported_steps text ps)
