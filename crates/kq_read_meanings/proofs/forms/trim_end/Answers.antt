use Rattle.std.proofs.Common.{◌≡◌, ◌-◌, ◌+◌, true, slice_index_or, length, ap, sym, ◌∙◌, arith}
use Rattle.std.proofs.lemmas.List.{take_all}
use Rattle.std.proofs.lemmas.Str.{IsCharBoundary-before_ascii, IsCharBoundary-end}
use Rattle.kq_value_formats.specs.Cells.{is_white}
use Rattle.kq_read_meanings.specs.Forms.{without_trailing_white}
use Rattle.kq_read_meanings.proofs.White.{small_white, without_trailing_white-take}
use Rattle.kq_read_meanings.proofs.forms.trim_end.Goals as goal

pub loop-end-init : goal.loop-end-init
loop-end-init c = rw c.as_bytes-bytes.ensures.value (record { within = omega arith; same = ap without_trailing_white (take_all (length c.args.text.now) c.args.text.now (omega arith)); boundary = IsCharBoundary-end c.args.text.now })

pub loop-end-preserved : goal.loop-end-preserved
loop-end-preserved c =
    let end = c.loop-end.end in
    let last : end - 1 + 1 ≡ end = omega (arith, c.loop-end-test.true) in
    let tested : is_white (slice_index_or c.as_bytes-bytes.result.now (end - 1) 0) ≡ true = sym c.is_white.ensures ∙ c.if-is_white.true in
    let white : is_white (slice_index_or c.args.text.now (end - 1) 0) ≡ true = rw c.as_bytes-bytes.ensures.value at tested in
    record {
      within = omega (arith, c.loop-end.invariant.within);
      same = sym (without_trailing_white-take c.args.text.now (end - 1) (omega (arith, c.loop-end-test.true, c.loop-end.invariant.within)) white) ∙ rw last c.loop-end.invariant.same;
      boundary = IsCharBoundary-before_ascii c.args.text.now (end - 1) (omega (arith, c.loop-end-test.true, c.loop-end.invariant.within)) (small_white _ white);
    }
