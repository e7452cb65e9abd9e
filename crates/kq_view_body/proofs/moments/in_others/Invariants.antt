use Rattle.std.proofs.Common.{◌≡◌, drop, map}
use Rattle.kq_view_body.specs.Moments.{moment_in_items}
use Rattle.kq_view_body.proofs.moments.in_others.Given as goal
use Rattle.kq_read_grammar.specs.Views.{item_view}

abbrev pub invariant-loop-item : goal.invariant-loop-item
invariant-loop-item l = moment_in_items l.text (map item_view l.items) ≡ moment_in_items l.text (map item_view (drop l.item-index l.items))
