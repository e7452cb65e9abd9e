-- The symbols that spell what sources and operators are made of.
use Rattle.std.specs.Prelude.{◌≡◌, ◌&&◌, not, List, [], ◌∷◌, ◌⊎◌}
use Rattle.kq_read_grammar.specs.declared.clause.Cell.{Cell}
use Rattle.kq_read_grammar.specs.declared.clause.Column.{Column}
use Rattle.kq_read_grammar.specs.declared.clause.JoinKey.{JoinKey}
use Rattle.kq_read_grammar.specs.declared.clause.JoinKey.TheVariants as key
use Rattle.kq_read_grammar.specs.declared.expression.Name.{Name}
use Rattle.kq_read_grammar.specs.declared.expression.Name.TheVariants as n
use Rattle.kq_read_grammar.specs.Expressions.{Text, empty, name_text, spells}
use Rattle.kq_read_grammar.specs.Trees.{ItemTree, plain, named, KeyTree, ArgumentTree, value, all, AggregateTree, GroupingTree}
use Rattle.kq_read_symbols.specs.declared.word.ClauseWord.TheVariants as w
use Rattle.kq_read_symbols.specs.declared.word.ReservedWord.TheVariants as r
use Rattle.kq_read_symbols.specs.declared.kind.Symbol.{Symbol}
use Rattle.kq_read_tokens.specs.declared.kind.Side.TheVariants as side
use Rattle.kq_read_symbols.specs.Classes as k
use Rattle.kq_read_symbols.specs.Classes.{Class, of}
use Rattle.kq_read_symbols.specs.Forms.{one, some, ◌⨾◌, Maybe, Separated}

-- one or more, with commas between them
abbrev pub listed : {A : Type 0} → (A → Text) → A × List A → Text
listed form p = Separated (of k.comma) form p

abbrev pub names : Name × List Name → Text
names p = listed name_text p

abbrev pub item_text : ItemTree → Text
item_text (plain e) = spells e
item_text (named n e) = name_text n ⨾ some (of k.assign) ⨾ spells e

abbrev pub items : ItemTree × List ItemTree → Text
items p = listed item_text p

abbrev pub nulls_text : Symbol → Text
nulls_text t = some (of (k.clause w.Nulls)) ⨾ one (of k.extreme) t

abbrev pub key_text : KeyTree → Text
key_text q = spells q.value ⨾ Maybe (one (of k.direction)) q.direction ⨾ Maybe nulls_text q.nulls

-- a word that can name an aggregate
abbrev pub called : Class
called x = k.any_word x && not (k.reserved r.By x)

abbrev pub argument_text : ArgumentTree → Text
argument_text (value e) = spells e
argument_text (all t) = one (of k.star) t

abbrev pub arguments_text : List ArgumentTree → Text
arguments_text [] = empty
arguments_text (a ∷ more) = listed argument_text (a, more)

abbrev pub given_text : Name → Text
given_text n = name_text n ⨾ some (of k.assign)

abbrev pub call_text : Symbol → List ArgumentTree → Text
call_text t given = one (of called) t ⨾ some (of k.open_parenthesis) ⨾ arguments_text given ⨾ some (of k.close_parenthesis)

abbrev pub aggregate_text : AggregateTree → Text
aggregate_text a = Maybe given_text a.given ⨾ call_text a.function a.arguments

abbrev pub grouping_text : GroupingTree → Text
grouping_text g = some (of (k.reserved r.By)) ⨾ items g

abbrev pub renaming_text : Name × Name → Text
renaming_text p = name_text p.0 ⨾ some (of k.assign) ⨾ name_text p.1

abbrev pub join_kind_text : Name → Text
join_kind_text (n.Word t) = one (of k.join_kind) t
join_kind_text (n.Bracketed t s) = one (of k.open_bracket) t ⨾ one (of k.quoted_join_kind) s ⨾ some (of k.close_bracket)

abbrev pub join_key_text : JoinKey → Text
join_key_text (key.Both n) = name_text n
join_key_text (key.LeftRight a t b) = (some (of (k.side side.Left)) ⨾ some (of k.dot) ⨾ name_text a) ⨾ one (of k.equals) t ⨾ (some (of (k.side side.Right)) ⨾ some (of k.dot) ⨾ name_text b)
join_key_text (key.RightLeft a t b) = (some (of (k.side side.Right)) ⨾ some (of k.dot) ⨾ name_text a) ⨾ one (of k.equals) t ⨾ (some (of (k.side side.Left)) ⨾ some (of k.dot) ⨾ name_text b)

abbrev pub column_text : Column → Text
column_text c = name_text c.name ⨾ some (of k.colon) ⨾ one (of k.any_word) c.ty

abbrev pub columns_text : Column × List Column → Text
columns_text p = listed column_text p

abbrev pub cell_text : Cell → Text
cell_text c = Maybe (one (of k.minus)) c.minus ⨾ one (of k.literal) c.literal

-- a comma may end the cells
abbrev pub more_cells : List Cell → Text
more_cells [] = λ ts. (ts ≡ []) ⊎ some (of k.comma) ts
more_cells (c ∷ cs) = some (of k.comma) ⨾ cell_text c ⨾ more_cells cs

abbrev pub cells_text : List Cell → Text
cells_text [] = empty
cells_text (c ∷ cs) = cell_text c ⨾ more_cells cs
