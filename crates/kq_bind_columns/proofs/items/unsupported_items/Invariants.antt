use Rattle.std.proofs.Common.{◌≡◌, map, drop}
use Rattle.kq_bind_columns.specs.Items.{unsupported_items}
use Rattle.kq_bind_columns.proofs.items.unsupported_items.Given as goal
use Rattle.kq_read_grammar.specs.Views.{item_view}

abbrev pub invariant-loop-item : goal.invariant-loop-item
invariant-loop-item l = unsupported_items l.text (map item_view l.items) ≡ unsupported_items l.text (map item_view (drop l.item-index l.items))
