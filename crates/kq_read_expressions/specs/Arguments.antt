-- The arguments of a call, as the code holds them.
use Rattle.std.specs.Prelude.{Vec, map}
use Rattle.std.specs.declared.alloc.Global.{Global}
use Rattle.kq_read_grammar.specs.declared.expression.Expression.{Expression}
use Rattle.kq_read_grammar.specs.Trees.{Trees}
use Rattle.kq_read_grammar.specs.Views.{tree_of, trees_of}

abbrev pub arguments_in : Vec Expression Global → Trees
arguments_in es = trees_of (map tree_of es.items)
