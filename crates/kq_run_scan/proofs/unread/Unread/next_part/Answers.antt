use Rattle.std.proofs.Common.{◌≡◌, ◌≤◌, ◌+◌, ◌-◌, length, subst, arith}
use Rattle.kq_run_row_operators.specs.kq_eval_pieces.Pieces.{piece_of}
use Rattle.kq_run_scan.specs.Sources.{source_rows}
use Rattle.kq_run_scan.specs.Unread.{IsRead, UnreadView}
use Rattle.kq_run_scan.proofs.Sought.{left_at, part_read}
use Rattle.kq_run_scan.proofs.unread.Unread.next_part.Goals as goal

pub returns-in-Some : goal.returns-in-Some
returns-in-Some c =
    let place = c.self.inside.place.now in
    let rows = source_rows c.source-source.result in
    let at = c.in-Some.spot in
    let to = c.min-to.result in
    let before = c.self.inside.left in
    let left = before - (to - at.row) in
    let within : to ≤ length rows = omega (arith, c.min-to.ensures, c.len.ensures.count) in
    let is : before ≡ (to - at.row) + left = omega (arith, c.min-to.ensures, c.min-most.ensures) in
    subst (λ (u : UnreadView). IsRead u (piece_of rows at.row to) (left_at place at.source to left)) c.self.view_is
    (part_read place c.self.inside.spot.source c.self.inside.spot.row at.source at.row to before left rows c.in-Some.ensures.some c.source-source.ensures (λ here. omega (arith, c.min-to.ensures, c.min-most.ensures, c.len.ensures.count, here)) within is c.self.invariant)
