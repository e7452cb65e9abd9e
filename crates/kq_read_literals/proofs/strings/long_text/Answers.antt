use Rattle.std.proofs.Common.{◌≤◌, ◌-◌, arith, length, rules}
use Rattle.kq_read_literals.proofs.StringLemmas.{long_string_long}
use Rattle.kq_read_literals.proofs.Utf8Lemmas.{long_found}
use Rattle.kq_read_literals.proofs.strings.long_text.Goals as goal

pub slice_bounds-from_utf8-count : goal.slice_bounds-from_utf8-count
slice_bounds-from_utf8-count c = omega (arith, long_string_long c.args.bytes.now c.requires.form)

pub slice_bounds-from_utf8-start : goal.slice_bounds-from_utf8-start
slice_bounds-from_utf8-start c =
    let long : 3 ≤ length c.args.bytes.now - 3 = omega (arith, long_string_long c.args.bytes.now c.requires.form) in
    search rules

pub unreachable-requires : goal.unreachable-requires
unreachable-requires c = c.in-Err.ensures.cases.0 (long_found c.args.bytes.now c.requires.form c.requires.utf8)
