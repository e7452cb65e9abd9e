use Rattle.std.proofs.Common.{sym, ◌∙◌}
use Rattle.kq_store_column.specs.Cells.{IsAtMost}
use Rattle.kq_store_column.proofs.Cellwise.{cells_present-more, cells_present-same}
use Rattle.kq_store_column.proofs.Order.{IsAtMost-self, IsAtMost-trans}
use Rattle.kq_store_column.proofs.Widen.{AreBounds-one, AreBounds-more, nothing_so_far, found_so_far}
use Rattle.kq_store_column.proofs.zone.bounds_of.Goals as goal
use Rattle.kq_store_column.proofs.zone.bounds_of.Goals.{in-None, in-Some}

pub loop-i-preserved : goal.loop-i-preserved
loop-i-preserved g c =
    let cell = c.lent-cell.result.now in
    let more = cells_present-more (g.C.Cellwise.cells c.args.cells.now) c.loop-i.i cell c.lent-cell.ensures (sym c.is_null.ensures ∙ c.if-is_null.false) in
    elim c.match-zone.branch [
      | in-None w ↦ rw (w.zone-is, more, nothing_so_far c.loop-i.zone _ _ w.in-None.is c.loop-i.invariant) (AreBounds-one IsAtMost cell (IsAtMost-self cell))
      | in-Some w ↦ rw (w.zone-is, more)
          (AreBounds-more IsAtMost IsAtMost-trans _ cell w.in-Some.least.now w.in-Some.greatest.now w.lesser.result.now w.greater.result.now (found_so_far c.loop-i.zone _ _ _ w.in-Some.is c.loop-i.invariant) w.lesser.ensures w.greater.ensures)
    ]

pub loop-i-preserved-then-is_null : goal.loop-i-preserved-then-is_null
loop-i-preserved-then-is_null g c =
    let same = cells_present-same (g.C.Cellwise.cells c.args.cells.now) c.loop-i.i c.lent-cell.result.now c.lent-cell.ensures (sym c.is_null.ensures ∙ c.if-is_null.true) in
    rw same c.loop-i.invariant
