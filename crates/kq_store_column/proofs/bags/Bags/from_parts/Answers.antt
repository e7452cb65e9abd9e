use Rattle.std.proofs.Common.{◌≡◌, ◌<◌, ◌^◌, length, arith}
use Rattle.kq_store_column.proofs.Bagged.{are_bags, laid_bags}
use Rattle.kq_store_column.proofs.bags.Bags.from_parts.Goals as goal

pub invariant_of-bags : goal.invariant_of-bags
invariant_of-bags c =
    let cells = c.args.cells.now.items in
    let count : c.len-count.result ≡ length cells = omega (arith, c.len-count.ensures) in
    let small : c.len-count.result < 2 ^ 63 = omega (arith, c.len-count.ensures) in
    are_bags c.args.parts.items c.deref.result.now cells c.deref-2.result.now c.len-count.result c.deref.ensures.value c.deref-2.ensures.value count small (c.are_bags_of-same.ensures c.if-same.true)

pub returns-then-same : goal.returns-then-same
returns-then-same c =
    let cells = c.args.cells.now.items in
    let count : c.len-count.result ≡ length cells = omega (arith, c.len-count.ensures) in
    laid_bags c.args.parts.items c.deref.result.now cells c.deref-2.result.now c.len-count.result c.deref.ensures.value c.deref-2.ensures.value count (c.are_bags_of-same.ensures c.if-same.true)
