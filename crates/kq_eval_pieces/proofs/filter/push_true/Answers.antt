use Rattle.std.proofs.Common.{◌≡◌, ◌+◌, ◌++◌, ap, arith, add-one}
use Rattle.kq_store_column_view.specs.Vectors.{cells_of}
use Rattle.kq_eval_pieces.specs.Pieces.{places_true}
use Rattle.kq_eval_pieces.proofs.Kept.{places_step, places_all}
use Rattle.kq_eval_pieces.proofs.filter.push_true.Goals as goal

pub loop-i-init : goal.loop-i-init
loop-i-init c =
    let none : c.args.from ≡ c.args.from + 0 = omega arith in
    ap (λ k. c.args.places.now.items ++ places_true k (cells_of c.args.values.now)) none

pub loop-i-preserved : goal.loop-i-preserved
loop-i-preserved c =
    rw (c.in_ok-push_if.ensures, c.is_yes.ensures, add-one)
    (places_step _ c.loop-i.places.items c.args.from c.loop-i.i (cells_of c.args.values.now) c.in_ok-cell.field-0 (omega arith) c.loop-i.invariant c.in_ok-cell.ensures)

pub returns : goal.returns
returns c = places_all _ c.loop-i.places.items c.args.from c.loop-i.i (cells_of c.args.values.now) (omega arith) c.loop-i.invariant
