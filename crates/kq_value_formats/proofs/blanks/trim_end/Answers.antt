use Rattle.std.proofs.Common.{◌≡◌, ◌<◌, ◌-◌, ◌+◌, true, length, get_or, sym, ◌∙◌, arith}
use Rattle.kq_value_formats.specs.Cells.{is_blank}
use Rattle.kq_value_formats.proofs.BlankLemmas.{boundary_before_blank, without_trailing_blanks-take}
use Rattle.kq_value_formats.proofs.blanks.trim_end.Goals as goal

pub loop-end-preserved : goal.loop-end-preserved
loop-end-preserved c =
    let text = c.args.text.now in
    let last : c.loop-end.end - 1 + 1 ≡ c.loop-end.end = omega (arith, c.loop-end-test.true) in
    let inside : c.loop-end.end - 1 < length text = omega (arith, c.loop-end-test.true, c.loop-end.invariant.within) in
    let blank : is_blank (get_or text (c.loop-end.end - 1) 0) ≡ true = rw c.as_bytes-bytes.ensures.value at (sym c.is_blank.ensures ∙ c.if-is_blank.true) in
    record {
      within = omega arith;
      boundary = boundary_before_blank text (c.loop-end.end - 1) inside blank;
      same = sym (without_trailing_blanks-take text (c.loop-end.end - 1) inside blank) ∙ rw last c.loop-end.invariant.same;
    }
