use Rattle.std.proofs.Common.{ap, ◌∙◌}
use Rattle.std.specs.Ordering.{is_ge, is_gt, is_le, is_lt}
use Rattle.kq_value.specs.Values.{value_cmp}
use Rattle.kq_run_scan.proofs.LeftOut.{above_between, at_least_between, at_most_between, below_between, equal_between, refused}
use Rattle.kq_run_scan.proofs.ruled.meets_none_between.Goals as goal

pub returns-in-Equal : goal.returns-in-Equal
returns-in-Equal c told v low high = rw c.in-Equal.is (equal_between c.args.comparison.value.now c.args.least.now c.args.greatest.now (c.lies_outside.ensures told) v low high)

pub returns-in-Below : goal.returns-in-Below
returns-in-Below c told v low high =
    let value = c.args.comparison.value.now in
    let least = c.args.least.now in
    rw c.in-Below.is (below_between value least v low (refused c.is_lt.result (is_lt (value_cmp least value)) (c.is_lt.ensures ∙ ap is_lt c.cmp.ensures) told))

pub returns-in-AtMost : goal.returns-in-AtMost
returns-in-AtMost c told v low high =
    let value = c.args.comparison.value.now in
    let least = c.args.least.now in
    rw c.in-AtMost.is (at_most_between value least v low (refused c.is_le.result (is_le (value_cmp least value)) (c.is_le.ensures ∙ ap is_le c.cmp-in-AtMost.ensures) told))

pub returns-in-Above : goal.returns-in-Above
returns-in-Above c told v low high =
    let value = c.args.comparison.value.now in
    let greatest = c.args.greatest.now in
    rw c.in-Above.is (above_between value greatest v high (refused c.is_gt.result (is_gt (value_cmp greatest value)) (c.is_gt.ensures ∙ ap is_gt c.cmp-in-Above.ensures) told))

pub returns-in-AtLeast : goal.returns-in-AtLeast
returns-in-AtLeast c told v low high =
    let value = c.args.comparison.value.now in
    let greatest = c.args.greatest.now in
    rw c.in-AtLeast.is (at_least_between value greatest v high (refused c.is_ge.result (is_ge (value_cmp greatest value)) (c.is_ge.ensures ∙ ap is_ge c.cmp-in-AtLeast.ensures) told))
