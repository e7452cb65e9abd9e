use Rattle.std.proofs.Common.{◌<◌, arith}
use Rattle.kq_catalog_indexes.proofs.Tagged.{FindAlike-parted, IsSide-left, IsSide-right}
use Rattle.kq_catalog_indexes.proofs.tag_tree.leaf_or_fork.Goals as goal

pub returns-clause-placed : goal.returns-clause-placed
returns-clause-placed c =
    let es = c.args.entries.items in
    let left = c.in_ok-left.left.items in
    let right = c.in_ok-left.right.items in
    let some : c.args.level < 64 = omega (arith, c.if-level-ge-LEVELS.false) in
    rw (c.in_ok-new-2.ensures.ok, c.in_ok-left-2.ensures.ok, c.in_ok-right.ensures.ok)
    (some, IsSide-left c.args.level es left c.in_ok-left.ensures.left, IsSide-right c.args.level es right c.in_ok-left.ensures.right, tt, tt)

pub returns-clause-alike : goal.returns-clause-alike
returns-clause-alike c =
    rw (c.in_ok-new-2.ensures.ok, c.in_ok-left-2.ensures.ok, c.in_ok-right.ensures.ok)
    (FindAlike-parted c.args.level c.args.entries.items c.in_ok-left.left.items c.in_ok-left.right.items c.in_ok-left.ensures.left c.in_ok-left.ensures.right)
