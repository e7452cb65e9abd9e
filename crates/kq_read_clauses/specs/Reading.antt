-- How symbols are read to the parts of sources and operators: what the code computes.
use Rattle.std.specs.Prelude.{ℕ, zero, suc, List, [], ◌∷◌, Bool, true, false, ◌||◌, Option, Some, None}
use Rattle.kq_read_expressions.specs.Reading.{bracketed_name, name, expression}
use Rattle.kq_read_grammar.specs.declared.clause.Cell.{Cell}
use Rattle.kq_read_grammar.specs.declared.clause.Column.{Column}
use Rattle.kq_read_grammar.specs.declared.clause.JoinKey.{JoinKey}
use Rattle.kq_read_grammar.specs.declared.clause.JoinKey.TheVariants as pair
use Rattle.kq_read_grammar.specs.declared.expression.Name.{Name}
use Rattle.kq_read_grammar.specs.declared.expression.Name.TheVariants as shown
use Rattle.kq_read_grammar.specs.Clauses.{called}
use Rattle.kq_read_grammar.specs.Trees.{Tree, ItemTree, KeyTree, ArgumentTree, value, all, AggregateTree, GroupingTree}
use Rattle.kq_read_grammar.specs.Views.{is_bare, item_of}
use Rattle.kq_read_symbols.specs.declared.kind.Symbol.{Symbol}
use Rattle.kq_read_symbols.specs.declared.word.ClauseWord.TheVariants as w
use Rattle.kq_read_symbols.specs.declared.word.ReservedWord.TheVariants as r
use Rattle.kq_read_tokens.specs.declared.kind.Side.{Side}
use Rattle.kq_read_tokens.specs.declared.kind.Side.TheVariants as side
use Rattle.kq_read_symbols.specs.Classes as k
use Rattle.kq_read_symbols.specs.Classes.{Class, of}
use Rattle.kq_read_symbols.specs.Forms.{Parser, pure, expect, bind, both, ◌<$>◌, choose, maybe, skip, closed, separated}

-- one or more, with commas between them
abbrev pub listed : {A : Type 0} → Parser Symbol A → ℕ → Parser Symbol (A × List A)
listed p n = separated (of k.comma) p n

unfoldable pub names : ℕ → Parser Symbol (Name × List Name)
names n = listed name n

-- ---- items and keys

abbrev pub given : Bool → ℕ → Parser Symbol (Option Tree)
given true n = maybe (of k.assign) (skip (of k.assign) (expression n))
given false n = pure None

unfoldable pub item : ℕ → Parser Symbol ItemTree
item n = (λ p. item_of p.0 p.1) <$> bind (expression n) (λ e. given (is_bare e) n)

unfoldable pub items : ℕ → Parser Symbol (ItemTree × List ItemTree)
items n = listed (item n) n

unfoldable pub grouping : ℕ → Parser Symbol GroupingTree
grouping n = skip (of (k.reserved r.By)) (items n)

unfoldable pub nulls : Parser Symbol Symbol
nulls = skip (of (k.clause w.Nulls)) (expect (of k.extreme))

abbrev pub order : Parser Symbol (Option Symbol × Option Symbol)
order = both (maybe (of k.direction) (expect (of k.direction))) (maybe (of (k.clause w.Nulls)) nulls)

unfoldable pub key : ℕ → Parser Symbol KeyTree
key n = (λ p. record { value = p.0; direction = p.1.0; nulls = p.1.1 }) <$> both (expression n) order

unfoldable pub keys : ℕ → Parser Symbol (KeyTree × List KeyTree)
keys n = listed (key n) n

-- ---- aggregates

unfoldable pub argument : ℕ → Parser Symbol ArgumentTree
argument n = choose (of k.star) (all <$> expect (of k.star)) (value <$> expression n)

abbrev pub begins_argument : Class
begins_argument x = k.begins_expression x || k.star x

unfoldable pub arguments : ℕ → Parser Symbol (List ArgumentTree)
arguments n = choose (of begins_argument) ((λ p. p.0 ∷ p.1) <$> listed (argument n) n) (pure [])

unfoldable pub in_parentheses : ℕ → Parser Symbol (List ArgumentTree)
in_parentheses n = skip (of k.open_parenthesis) (closed (arguments n) (of k.close_parenthesis))

unfoldable pub call : ℕ → Parser Symbol (Symbol × List ArgumentTree)
call n = both (expect (of called)) (in_parentheses n)

abbrev pub aggregate_of : Option Name → Symbol × List ArgumentTree → AggregateTree
aggregate_of name call = record { given = name; function = call.0; arguments = call.1 }

unfoldable pub bracketed_aggregate : ℕ → Parser Symbol AggregateTree
bracketed_aggregate n = (λ p. aggregate_of (Some p.0) p.1) <$> both (closed bracketed_name (of k.assign)) (call n)

-- behind a word: what it is given to, or its arguments
abbrev pub behind_word : Bool → Symbol → ℕ → Parser Symbol AggregateTree
behind_word true t n = choose (of k.assign) ((λ c. aggregate_of (Some (shown.Word t)) c) <$> skip (of k.assign) (call n)) ((λ es. aggregate_of None (t, es)) <$> in_parentheses n)
behind_word false t n = (λ es. aggregate_of None (t, es)) <$> in_parentheses n

unfoldable pub worded_aggregate : ℕ → Parser Symbol AggregateTree
worded_aggregate n = (λ p. p.1) <$> bind (expect (of called)) (λ t. behind_word (of k.bare_name t) t n)

unfoldable pub aggregate : ℕ → Parser Symbol AggregateTree
aggregate n = choose (of k.open_bracket) (bracketed_aggregate n) (worded_aggregate n)

unfoldable pub aggregates : ℕ → Parser Symbol (AggregateTree × List AggregateTree)
aggregates n = listed (aggregate n) n

-- ---- joins

unfoldable pub renaming : Parser Symbol (Name × Name)
renaming = both name (skip (of k.assign) name)

unfoldable pub renamings : ℕ → Parser Symbol ((Name × Name) × List (Name × Name))
renamings n = listed renaming n

unfoldable pub join_kind : Parser Symbol Name
join_kind = choose (of k.open_bracket) ((λ p. shown.Bracketed p.0 p.1) <$> both (expect (of k.open_bracket)) (closed (expect (of k.quoted_join_kind)) (of k.close_bracket))) (shown.Word <$> expect (of k.join_kind))

abbrev pub sided : Side → Parser Symbol Name
sided s = skip (of (k.side s)) (skip (of k.dot) name)

abbrev pub sides : Side → Side → Parser Symbol (Name × (Symbol × Name))
sides first second = both (sided first) (both (expect (of k.equals)) (sided second))

unfoldable pub left_right : Parser Symbol JoinKey
left_right = (λ p. pair.LeftRight p.0 p.1.0 p.1.1) <$> sides side.Left side.Right

unfoldable pub right_left : Parser Symbol JoinKey
right_left = (λ p. pair.RightLeft p.0 p.1.0 p.1.1) <$> sides side.Right side.Left

unfoldable pub join_key : Parser Symbol JoinKey
join_key = choose (of (k.side side.Left)) left_right (choose (of (k.side side.Right)) right_left (pair.Both <$> name))

unfoldable pub join_keys : ℕ → Parser Symbol (JoinKey × List JoinKey)
join_keys n = listed join_key n

-- ---- columns and cells

unfoldable pub column : Parser Symbol Column
column = (λ p. record { name = p.0; ty = p.1 }) <$> both name (skip (of k.colon) (expect (of k.any_word)))

unfoldable pub columns : ℕ → Parser Symbol (Column × List Column)
columns n = listed column n

unfoldable pub cell : Parser Symbol Cell
cell = (λ p. record { minus = p.0; literal = p.1 }) <$> both (maybe (of k.minus) (expect (of k.minus))) (expect (of k.literal))

-- The number bounds the cells. A comma may stand behind the last.
unfoldable pub more_cells : ℕ → Parser Symbol (List Cell)
more_cells zero = pure []
more_cells (suc n) = choose (of k.comma) (skip (of k.comma) (choose (of k.begins_cell) ((λ p. p.0 ∷ p.1) <$> both cell (more_cells n)) (pure []))) (pure [])

unfoldable pub cells : ℕ → Parser Symbol (List Cell)
cells n = choose (of k.begins_cell) ((λ p. p.0 ∷ p.1) <$> both cell (more_cells n)) (pure [])
