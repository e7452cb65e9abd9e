-- How symbols are read to names and expressions: what the code computes.
use Rattle.std.specs.Prelude.{ℕ, zero, suc, Bool, true, false, ◌||◌, Err, Option, Some, None, if◌then◌else◌}
use Rattle.kq_read_grammar.specs.declared.expression.Name.{Name}
use Rattle.kq_read_grammar.specs.declared.expression.Name.TheVariants as n
use Rattle.kq_read_grammar.specs.Precedences.{operators, relation, step_sign}
use Rattle.kq_read_grammar.specs.Trees.{Precedence, disjunction as ors, conjunction as ands, sum as sums, product as products, Tree, literal, group, call, signed as signed_tree, compare, within, between, Trees, no_tree, and_tree, OneStep, member, index}
use Rattle.kq_read_grammar.specs.Trees.Tree.{name as name_tree}
use Rattle.kq_read_grammar.specs.Views.{trees_of, chain_of, path_of}
use Rattle.kq_read_symbols.specs.declared.kind.Symbol.{Symbol}
use Rattle.kq_read_symbols.specs.Classes as k
use Rattle.kq_read_symbols.specs.Classes.{Class, of}
use Rattle.kq_read_symbols.specs.Forms.{Parser, pure, expect, bind, both, ◌<$>◌, choose, maybe, many, skip, closed, separated}

-- ---- names

unfoldable pub bracketed_name : Parser Symbol Name
bracketed_name = (λ p. n.Bracketed p.0 p.1) <$> both (expect (of k.open_bracket)) (closed (expect (of k.text)) (of k.close_bracket))

unfoldable pub name : Parser Symbol Name
name = choose (of k.open_bracket) bracketed_name (n.Word <$> expect (of k.bare_name))

-- ---- parts of expressions

abbrev pub chained : Class → Precedence → Parser Symbol Tree → ℕ → Parser Symbol Tree
chained is l operand n = (λ p. chain_of l p.0 p.1) <$> both operand (many (of is) (both (expect (of is)) operand) n)

-- a word that is an operand without arguments: a name, `true` or `false`
abbrev pub stands_alone : Class
stands_alone x = k.bare_name x || k.truth x

abbrev pub worded_of : Symbol → Option Trees → Tree
worded_of t None = if k.bare_name t.kind then name_tree (n.Word t) else literal t
worded_of t (Some es) = call t es

-- what stands behind the operand of a relation
pub data Relation : Type 0 where
  compared : Symbol → Tree → Relation
  listed : Symbol → Tree → Trees → Relation
  ranged : Symbol → Tree → Tree → Relation

abbrev pub related_of : Tree → Option Relation → Tree
related_of e None = e
related_of e (Some (compared t b)) = compare e t b
related_of e (Some (listed t b es)) = within e t b es
related_of e (Some (ranged t b c)) = between e t b c

module _ (rec : Parser Symbol Tree) (n : ℕ) where
  unfoldable pub arguments : Parser Symbol Trees
  arguments = choose (of k.begins_expression) ((λ p. and_tree p.0 (trees_of p.1)) <$> separated (of k.comma) rec n) (pure no_tree)

  unfoldable pub in_parentheses : Parser Symbol Trees
  in_parentheses = skip (of k.open_parenthesis) (closed arguments (of k.close_parenthesis))

  abbrev pub arguments_of : Bool → Parser Symbol (Option Trees)
  arguments_of true = maybe (of k.open_parenthesis) in_parentheses
  arguments_of false = Some <$> in_parentheses

  unfoldable pub worded : Parser Symbol Tree
  worded = (λ p. worded_of p.0 p.1) <$> bind (expect (of k.any_word)) (λ t. arguments_of (of stands_alone t))

  unfoldable pub grouped : Parser Symbol Tree
  grouped = (λ p. group p.0 p.1) <$> both (expect (of k.open_parenthesis)) (closed rec (of k.close_parenthesis))

  unfoldable pub primary : Parser Symbol Tree
  primary = choose (of k.open_parenthesis) grouped (choose (of k.open_bracket) (name_tree <$> bracketed_name) (choose (of k.any_word) worded (literal <$> expect (of k.literal))))

  unfoldable pub step : Parser Symbol OneStep
  step = choose (of k.dot) ((λ p. member p.0 p.1) <$> both (expect (of k.dot)) name) ((λ p. index p.0 p.1) <$> both (expect (of k.open_bracket)) (closed rec (of k.close_bracket)))

  unfoldable pub postfix : Parser Symbol Tree
  postfix = (λ p. path_of p.0 p.1) <$> both primary (many (of step_sign) step n)

  unfoldable pub signed : Parser Symbol Tree
  signed = choose (of k.additive) ((λ p. signed_tree p.0 p.1) <$> both (expect (of k.additive)) postfix) postfix

  unfoldable pub product : Parser Symbol Tree
  product = chained (operators products) products signed n

  unfoldable pub sum : Parser Symbol Tree
  sum = chained (operators sums) sums product n

  unfoldable pub comparing : Parser Symbol Relation
  comparing = (λ p. compared p.0 p.1) <$> both (expect (of k.comparison)) sum

  unfoldable pub listing : Parser Symbol Relation
  listing = (λ p. listed p.0 p.1.0 (trees_of p.1.1)) <$> both (expect (of k.membership)) (skip (of k.open_parenthesis) (closed (separated (of k.comma) rec n) (of k.close_parenthesis)))

  abbrev pub bounds : Parser Symbol (Tree × Tree)
  bounds = both sum (skip (of k.dots) sum)

  unfoldable pub ranging : Parser Symbol Relation
  ranging = (λ p. ranged p.0 p.1.0 p.1.1) <$> both (expect (of k.interval)) (skip (of k.open_parenthesis) (closed bounds (of k.close_parenthesis)))

  unfoldable pub relating : Parser Symbol Relation
  relating = choose (of k.comparison) comparing (choose (of k.membership) listing ranging)

  unfoldable pub comparison : Parser Symbol Tree
  comparison = (λ p. related_of p.0 p.1) <$> both sum (maybe (of relation) relating)

  unfoldable pub conjunction : Parser Symbol Tree
  conjunction = chained (operators ands) ands comparison n

  unfoldable pub disjunction : Parser Symbol Tree
  disjunction = chained (operators ors) ors conjunction n

-- The number is at least that of the symbols.
unfoldable pub expression : ℕ → Parser Symbol Tree
expression zero = λ ts. Err ts
expression (suc n) = disjunction (expression n) (suc n)
