use Rattle.std.proofs.Common.{◌≡◌, ◌-◌, length, ap, ◌∙◌, arith, set, ℕ}
use Rattle.std.specs.Arc.{arc_value}
use Rattle.kq_store_shared_lists.specs.Pieces.{piece_items}
use Rattle.kq_store_shared_lists.proofs.Around.{set-in_left, set-in_right}
use Rattle.kq_store_shared_lists.proofs.piece.Piece.+with_item.Goals as goal

pub returns-in_ok-pair-in-Pair-clause-items : goal.returns-in_ok-pair-in-Pair-clause-items
returns-in_ok-pair-in-Pair-clause-items g t c =
    let left = arc_value c.in-Pair.left in
    let has = rw c.in-Pair.is at c.requires.counts in
    rw c.in-Pair.is
    (set-in_left (piece_items left) (piece_items (arc_value c.in-Pair.right)) (piece_items (arc_value c.in_ok-left-in-Pair.left)) _ c.args.at (arc_value c.args.item) (omega (arith, has.0, c.if-at-count.true))
    (rw c.deref.ensures at c.in_ok-left-in-Pair.ensures.items) (rw c.in_ok-try_clone-in-Pair.ensures at c.in_ok-pair-in-Pair.ensures.items))

pub returns-in_ok-pair-in-Pair-2-clause-items : goal.returns-in_ok-pair-in-Pair-2-clause-items
returns-in_ok-pair-in-Pair-2-clause-items g t c =
    let left = arc_value c.in-Pair.left in
    let right = arc_value c.in-Pair.right in
    let has = rw c.in-Pair.is at c.requires.counts in
    let there : c.args.at - c.in-Pair.count ≡ c.args.at - length (piece_items left) = ap (λ (n : ℕ). c.args.at - n) has.0 in
    rw c.in-Pair.is
    (set-in_right (piece_items left) (piece_items right) (piece_items (arc_value c.in_ok-right-in-Pair.right)) _ c.args.at (arc_value c.args.item) (omega (arith, has.0, c.if-at-count.false))
    (c.in_ok-right-in-Pair.ensures.items ∙ ap (λ p. set (piece_items p) (c.args.at - c.in-Pair.count) (arc_value c.args.item)) c.deref-else-at-count.ensures ∙ ap (λ (n : ℕ). set (piece_items right) n (arc_value c.args.item)) there)
    (rw c.in_ok-left-in-Pair-2.ensures at c.in_ok-pair-in-Pair-2.ensures.items))
