-- The trees of the code, as the grammar speaks of them.
use Rattle.std.specs.Prelude.{Bool, true, false, List, [], ◌∷◌, Option, Some, None, map}
use Rattle.kq_read_grammar.specs.declared.clause.Aggregate.{Aggregate}
use Rattle.kq_read_grammar.specs.declared.clause.Argument.{Argument}
use Rattle.kq_read_grammar.specs.declared.clause.Argument.TheVariants as argument
use Rattle.kq_read_grammar.specs.declared.clause.Grouping.{Grouping}
use Rattle.kq_read_grammar.specs.declared.clause.Item.{Item}
use Rattle.kq_read_grammar.specs.declared.clause.Item.TheVariants as item
use Rattle.kq_read_grammar.specs.declared.clause.Key.{Key}
use Rattle.kq_read_grammar.specs.declared.expression.Expression.{Expression, fold-Expression}
use Rattle.kq_read_grammar.specs.declared.expression.Expression.TheOpen.{Expression-F, Interval-F, Link-F, Step-F}
use Rattle.kq_read_grammar.specs.declared.expression.Interval.{Interval, fold-Interval}
use Rattle.kq_read_grammar.specs.declared.expression.Level.{Level}
use Rattle.kq_read_grammar.specs.declared.expression.Level.TheVariants as level
use Rattle.kq_read_grammar.specs.declared.expression.Link.{Link, fold-Link}
use Rattle.kq_read_grammar.specs.declared.expression.Step.{Step, fold-Step}
use Rattle.kq_read_grammar.specs.Trees.{Precedence, disjunction, conjunction, sum, product, Tree, name, literal, group, call, path, signed, compare, within, between, chain, Trees, no_tree, and_tree, IntervalEnds, Links, no_link, and_link, OneStep, member, index, Steps, no_step, and_step, ItemTree, plain, named, KeyTree, ArgumentTree, value, all, AggregateTree, GroupingTree}
use Rattle.kq_read_symbols.specs.declared.kind.Symbol.{Symbol}

-- ---- lists

abbrev pub trees_of : List Tree → Trees
trees_of [] = no_tree
trees_of (e ∷ es) = and_tree e (trees_of es)

abbrev pub links_of : List (Symbol × Tree) → Links
links_of [] = no_link
links_of (x ∷ xs) = and_link x.0 x.1 (links_of xs)

abbrev pub steps_of : List OneStep → Steps
steps_of [] = no_step
steps_of (s ∷ ss) = and_step s (steps_of ss)

-- ---- expressions

abbrev pub precedence_of : Level → Precedence
precedence_of level.Disjunction = disjunction
precedence_of level.Conjunction = conjunction
precedence_of level.Sum = sum
precedence_of level.Product = product

abbrev pub one_level : Expression-F Tree OneStep IntervalEnds (Symbol × Tree) → Tree
one_level (Expression-F.Name n) = name n
one_level (Expression-F.Literal t) = literal t
one_level (Expression-F.Group t e) = group t e.value
one_level (Expression-F.Call t es) = call t (trees_of es.items)
one_level (Expression-F.Path e s ss) = path e.value s.value (steps_of ss.items)
one_level (Expression-F.Signed t e) = signed t e.value
one_level (Expression-F.Compare a b) = compare a.value b.value.0 b.value.1
one_level (Expression-F.Within a b es) = within a.value b.value.0 b.value.1 (trees_of es.items)
one_level (Expression-F.Between a b) = between a.value b.value.operator b.value.low b.value.high
one_level (Expression-F.Chain l e x xs) = chain (precedence_of l) e.value x.value.0 x.value.1 (links_of xs.items)

abbrev pub one_link : Link-F Tree OneStep IntervalEnds (Symbol × Tree) → Symbol × Tree
one_link r = (r.operator, r.operand)

abbrev pub one_interval : Interval-F Tree OneStep IntervalEnds (Symbol × Tree) → IntervalEnds
one_interval r = record { operator = r.operator; low = r.low; high = r.high }

abbrev pub one_step : Step-F Tree OneStep IntervalEnds (Symbol × Tree) → OneStep
one_step (Step-F.Member t n) = member t n
one_step (Step-F.Index t e) = index t e

abbrev pub tree_of : Expression → Tree
tree_of = fold-Expression Tree OneStep IntervalEnds (Symbol × Tree) one_level one_step one_interval one_link

abbrev pub link_of : Link → Symbol × Tree
link_of = fold-Link Tree OneStep IntervalEnds (Symbol × Tree) one_level one_step one_interval one_link

abbrev pub interval_of : Interval → IntervalEnds
interval_of = fold-Interval Tree OneStep IntervalEnds (Symbol × Tree) one_level one_step one_interval one_link

abbrev pub step_of : Step → OneStep
step_of = fold-Step Tree OneStep IntervalEnds (Symbol × Tree) one_level one_step one_interval one_link

-- ---- made of parts

-- a name alone, which may be given to what comes after a `=`
abbrev pub is_bare : Tree → Bool
is_bare (name n) = true
is_bare _ = false

abbrev pub chain_of : Precedence → Tree → List (Symbol × Tree) → Tree
chain_of l e [] = e
chain_of l e (x ∷ xs) = chain l e x.0 x.1 (links_of xs)

abbrev pub path_of : Tree → List OneStep → Tree
path_of e [] = e
path_of e (s ∷ ss) = path e s (steps_of ss)

abbrev pub item_of : Tree → Option Tree → ItemTree
item_of e None = plain e
item_of (name n) (Some e) = named n e
item_of e (Some f) = plain e

-- ---- clauses

abbrev pub item_view : Item → ItemTree
item_view (item.Plain e) = plain (tree_of e)
item_view (item.Named n e) = named n (tree_of e)

abbrev pub key_view : Key → KeyTree
key_view q = record { value = tree_of q.value; direction = q.direction; nulls = q.nulls }

abbrev pub argument_view : Argument → ArgumentTree
argument_view (argument.Value e) = value (tree_of e)
argument_view (argument.Star t) = all t

abbrev pub aggregate_view : Aggregate → AggregateTree
aggregate_view a = record { given = a.given; function = a.function; arguments = map argument_view a.arguments.items }

abbrev pub grouping_view : Grouping → GroupingTree
grouping_view g = (item_view g.first, map item_view g.others.items)
