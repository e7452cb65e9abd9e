use Rattle.std.proofs.Common.{◌≡◌, map, drop}
use Rattle.kq_bind_columns.specs.Items.{items_made}
use Rattle.kq_bind_columns.specs.Made.{made_of}
use Rattle.kq_bind_columns.proofs.items.items_made.Given as goal
use Rattle.kq_bind_expressions.specs.Names.{names_of}
use Rattle.kq_read_grammar.specs.Views.{item_view}

abbrev pub invariant-loop-item : goal.invariant-loop-item
invariant-loop-item l = items_made (names_of l.scope) l.columns l.avoided l.keys (made_of l.fn.before) (map item_view l.items) ≡ items_made (names_of l.scope) l.columns l.avoided l.keys (made_of l.made) (map item_view (drop l.item-index l.items))
