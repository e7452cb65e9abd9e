use Rattle.kq_run_gather.proofs.Coming.{counted_more}
use Rattle.kq_run_gather.proofs.counting.count_all.Goals as goal

pub loop-piece-preserved-in_ok-count-in-Piece : goal.loop-piece-preserved-in_ok-count-in-Piece
loop-piece-preserved-in_ok-count-in-Piece c =
    counted_more c.args.flow.now.to_come c.loop-piece.flow c.next.new.self c.in_ok-piece.field-0 c.in-Piece.piece c.loop-piece.count c.len.result c.in_ok-count-in-Piece.count
    c.loop-piece.invariant c.in_ok-piece.ensures c.in-Piece.is c.len.ensures.count c.in_ok-count-in-Piece.ensures.sum c.in_ok-count-in-Piece.ensures.small

pub loop-piece-preserved-in_ok-count-in-Piece-2 : goal.loop-piece-preserved-in_ok-count-in-Piece-2
loop-piece-preserved-in_ok-count-in-Piece-2 c =
    counted_more c.args.flow.now.to_come c.loop-piece.flow c.next.new.self c.in_ok-piece.field-0 c.in-Piece.piece c.loop-piece.count c.len.result c.in_ok-count-in-Piece.count
    c.loop-piece.invariant c.in_ok-piece.ensures c.in-Piece.is c.len.ensures.count c.in_ok-count-in-Piece.ensures.sum c.in_ok-count-in-Piece.ensures.small

pub loop-piece-preserved : goal.loop-piece-preserved
loop-piece-preserved c =
    counted_more c.args.flow.now.to_come c.loop-piece.flow c.next.new.self c.in_ok-piece.field-0 c.in-Piece.piece c.loop-piece.count c.len.result c.in_ok-count-in-Piece.count
    c.loop-piece.invariant c.in_ok-piece.ensures c.in-Piece.is c.len.ensures.count c.in_ok-count-in-Piece.ensures.sum c.in_ok-count-in-Piece.ensures.small
