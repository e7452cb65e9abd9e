use Rattle.std.proofs.Common.{◌≡◌, ◌+◌, ◌-◌, length, map, arith}
use Rattle.std.specs.Arc.{arc_value}
use Rattle.std.proofs.lemmas.List.{drop-map}
use Rattle.kq_store_shared_lists.specs.Pieces.{piece_items}
use Rattle.kq_store_shared_lists.proofs.Rows.{StandsAt-drop, StandsAt-right}
use Rattle.kq_store_shared_lists.proofs.piece.Piece.+slice_from.Goals as goal

pub returns-in-Leaf-clause-items : goal.returns-in-Leaf-clause-items
returns-in-Leaf-clause-items g t c =
    rw (c.in-Leaf.is, c.split_at.ensures.back, c.as_slice.ensures.value, ← drop-map)
    (StandsAt-drop (map arc_value c.in-Leaf.handles.items) c.args.at)

pub returns-else-at-count-clause-items : goal.returns-else-at-count-clause-items
returns-else-at-count-clause-items g t c =
    let left = arc_value c.in-Pair.left in
    let counted : length (piece_items left) + (c.args.at - c.in-Pair.count) ≡ c.args.at = let has = rw c.in-Pair.is at c.requires.counts in omega (arith, has.0, c.if-at-count.false) in
    rw c.in-Pair.is
    (StandsAt-right (piece_items left) (piece_items (arc_value c.in-Pair.right)) c.args.at (c.args.at - c.in-Pair.count) (map arc_value c.slice_from-else-at-count.result.now) counted
    (rw c.deref-else-at-count.ensures at c.slice_from-else-at-count.ensures.items))
