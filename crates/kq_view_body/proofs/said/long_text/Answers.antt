use Rattle.std.proofs.Common.{◌≤◌, ◌-◌, sym, arith, length, rules}
use Rattle.kq_read_literals.proofs.StringLemmas.{long_string_long}
use Rattle.kq_view_body.proofs.said.long_text.Goals as goal

pub slice_bounds-plain-count : goal.slice_bounds-plain-count
slice_bounds-plain-count c = omega (arith, long_string_long c.args.bytes.now (sym c.if-is_long_string.ensures))

pub slice_bounds-plain-start : goal.slice_bounds-plain-start
slice_bounds-plain-start c =
    let long : 3 ≤ length c.args.bytes.now - 3 = omega (arith, long_string_long c.args.bytes.now (sym c.if-is_long_string.ensures)) in
    search rules
