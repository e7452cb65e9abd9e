use Rattle.std.proofs.Common.{length, ap, arith, length-append}
use Rattle.kq_store_extent.specs.Seen.{HeldExtents, held_extents}
use Rattle.kq_store_extent.proofs.table_extents.TableExtents.len.Goals as goal

pub returns : goal.returns
returns c =
    let v = ap (λ (h : HeldExtents). length (held_extents h)) c.self.view_is in
    let n = length-append c.self.inside.small c.self.inside.big in
    omega (arith, v, n, c.len-small.ensures.count, c.len-big.ensures.count)
