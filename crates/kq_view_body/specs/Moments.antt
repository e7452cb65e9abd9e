-- The place of the leftmost call of now or ago.
use Rattle.std.specs.Prelude.{ℕ, Bool, ◌||◌, List, [], ◌∷◌, Option, Some, None, codes, if◌then◌else◌}
use Rattle.kq_read_grammar.specs.Trees.{Tree, name, literal, group, call, path, signed, compare, within, between, chain, Trees, no_tree, and_tree, Links, no_link, and_link, OneStep, member, index, Steps, no_step, and_step, ItemTree, plain, named, ArgumentTree, value, all, AggregateTree, GroupingTree, BodyTree, filter, extend, project, summarize, summarize_by}
use Rattle.kq_read_meanings.specs.Pieces.{piece}
use Rattle.kq_read_symbols.specs.declared.kind.Symbol.{Symbol}
use Rattle.kq_read_tokens.specs.Bytes.{is_text}

abbrev pub or_later : Option ℕ → Option ℕ → Option ℕ
or_later (Some at) later = Some at
or_later None later = later

-- the name of a function that asks for the moment of the command
abbrev pub is_moment : List ℕ → Symbol → Bool
is_moment text t = is_text (piece text t) (codes "now") || is_text (piece text t) (codes "ago")

abbrev pub when : Bool → ℕ → Option ℕ
when holds at = if holds then Some at else None

abbrev mutual
  pub moment_in : List ℕ → Tree → Option ℕ
  moment_in text (name n) = None
  moment_in text (literal t) = None
  moment_in text (group t e) = moment_in text e
  moment_in text (call t es) = or_later (when (is_moment text t) t.from) (moment_among text es)
  moment_in text (path e p ps) = or_later (moment_in text e) (or_later (moment_at_step text p) (moment_at_steps text ps))
  moment_in text (signed t e) = moment_in text e
  moment_in text (compare a t b) = or_later (moment_in text a) (moment_in text b)
  moment_in text (within a t e es) = or_later (moment_in text a) (or_later (moment_in text e) (moment_among text es))
  moment_in text (between a t b c) = or_later (moment_in text a) (or_later (moment_in text b) (moment_in text c))
  moment_in text (chain l a t b ls) = or_later (moment_in text a) (or_later (moment_in text b) (moment_in_links text ls))

  pub moment_among : List ℕ → Trees → Option ℕ
  moment_among text no_tree = None
  moment_among text (and_tree e es) = or_later (moment_in text e) (moment_among text es)

  pub moment_in_links : List ℕ → Links → Option ℕ
  moment_in_links text no_link = None
  moment_in_links text (and_link t e ls) = or_later (moment_in text e) (moment_in_links text ls)

  pub moment_at_step : List ℕ → OneStep → Option ℕ
  moment_at_step text (member d n) = None
  moment_at_step text (index d e) = moment_in text e

  pub moment_at_steps : List ℕ → Steps → Option ℕ
  moment_at_steps text no_step = None
  moment_at_steps text (and_step p ps) = or_later (moment_at_step text p) (moment_at_steps text ps)

-- ---- clauses

abbrev pub moment_in_item : List ℕ → ItemTree → Option ℕ
moment_in_item text (plain e) = moment_in text e
moment_in_item text (named n e) = moment_in text e

abbrev pub moment_in_items : List ℕ → List ItemTree → Option ℕ
moment_in_items text [] = None
moment_in_items text (i ∷ is) = or_later (moment_in_item text i) (moment_in_items text is)

abbrev pub moment_in_argument : List ℕ → ArgumentTree → Option ℕ
moment_in_argument text (value e) = moment_in text e
moment_in_argument text (all t) = None

abbrev pub moment_in_arguments : List ℕ → List ArgumentTree → Option ℕ
moment_in_arguments text [] = None
moment_in_arguments text (a ∷ more) = or_later (moment_in_argument text a) (moment_in_arguments text more)

abbrev pub moment_in_aggregates : List ℕ → List AggregateTree → Option ℕ
moment_in_aggregates text [] = None
moment_in_aggregates text (a ∷ more) = or_later (moment_in_arguments text a.arguments) (moment_in_aggregates text more)

abbrev pub moment_in_grouping : List ℕ → Option GroupingTree → Option ℕ
moment_in_grouping text None = None
moment_in_grouping text (Some g) = moment_in_items text (g.0 ∷ g.1)

-- in an operator that a view's body may have; the word of any other operator stands before its calls
abbrev pub moment_in_body : List ℕ → BodyTree → Option ℕ
moment_in_body text (filter e) = moment_in text e
moment_in_body text (extend i is) = moment_in_items text (i ∷ is)
moment_in_body text (project i is) = moment_in_items text (i ∷ is)
moment_in_body text (summarize a more g) = or_later (moment_in_aggregates text (a ∷ more)) (moment_in_grouping text g)
moment_in_body text (summarize_by g) = moment_in_items text (g.0 ∷ g.1)
moment_in_body text _ = None
