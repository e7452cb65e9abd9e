use Rattle.std.proofs.Common.{◌≡◌, ◌<◌, true, length, get_or, refl, sym, ◌∙◌, arith}
use Rattle.std.proofs.lemmas.Str.{IsCharBoundary-start}
use Rattle.kq_value_formats.specs.Cells.{is_blank}
use Rattle.kq_value_formats.proofs.BlankLemmas.{boundary_after_blank, without_leading_blanks-drop}
use Rattle.kq_value_formats.proofs.blanks.trim_start.Goals as goal

pub loop-start-init : goal.loop-start-init
loop-start-init c = record { within = omega arith; boundary = IsCharBoundary-start c.args.text.now c.utf8.text; same = refl }

pub loop-start-preserved : goal.loop-start-preserved
loop-start-preserved c =
    let text = c.args.text.now in
    let inside : c.loop-start.start < length text = rw c.as_bytes-bytes.ensures.value at c.loop-start-test.true in
    let blank : is_blank (get_or text c.loop-start.start 0) ≡ true = rw c.as_bytes-bytes.ensures.value at (sym c.is_blank.ensures ∙ c.if-is_blank.true) in
    record {
      within = omega arith;
      boundary = boundary_after_blank text c.loop-start.start c.utf8.text inside blank;
      same = sym (without_leading_blanks-drop text c.loop-start.start inside blank) ∙ c.loop-start.invariant.same;
    }
