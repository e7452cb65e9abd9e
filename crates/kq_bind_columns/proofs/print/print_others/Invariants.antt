use Rattle.std.proofs.Common.{◌≡◌, ◌+◌, map, drop}
use Rattle.kq_bind_columns.specs.Made.{made_of}
use Rattle.kq_bind_columns.specs.Printed.{items_printed}
use Rattle.kq_bind_columns.proofs.print.print_others.Given as goal
use Rattle.kq_bind_expressions.specs.Names.{names_of}
use Rattle.kq_read_grammar.specs.Views.{item_view}

abbrev pub invariant-loop-i : goal.invariant-loop-i
invariant-loop-i l = items_printed (names_of l.scope) 1 (made_of l.fn.first) (map item_view l.items) ≡ items_printed (names_of l.scope) (l.i + 1) (made_of l.made) (map item_view (drop l.i l.items))
