-- How tightly operators bind.
use Rattle.std.specs.Prelude.{ℕ, ◌||◌}
use Rattle.kq_read_grammar.specs.Trees.{Precedence, disjunction, conjunction, sum, product, Tree, name, literal, group, call, path, signed, compare, within, between, chain}
use Rattle.kq_read_symbols.specs.declared.word.ReservedWord.TheVariants as r
use Rattle.kq_read_symbols.specs.Classes as k
use Rattle.kq_read_symbols.specs.Classes.{Class}

-- from `or` at 0
abbrev pub precedence : Precedence → ℕ
precedence disjunction = 0
precedence conjunction = 1
precedence sum = 3
precedence product = 4

abbrev pub operators : Precedence → Class
operators disjunction = k.reserved r.Or
operators conjunction = k.reserved r.And
operators sum = k.additive
operators product = k.multiplicative

abbrev pub binding : Tree → ℕ
binding (name n) = 7
binding (literal t) = 7
binding (group t e) = 7
binding (call t es) = 7
binding (path e s ss) = 6
binding (signed t e) = 5
binding (compare a t b) = 2
binding (within a t e es) = 2
binding (between a t b c) = 2
binding (chain l e t f ls) = precedence l

-- an operator of precedence 2
abbrev pub relation : Class
relation x = k.comparison x || k.membership x || k.interval x

-- what a step begins with
abbrev pub step_sign : Class
step_sign x = k.dot x || k.open_bracket x
