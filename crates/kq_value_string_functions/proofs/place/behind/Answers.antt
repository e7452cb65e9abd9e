use Rattle.std.proofs.Common.{◌≡◌, ◌∙◌, arith}
use Rattle.std.specs.Str.Iter.{chars_rest}
use Rattle.kq_value_string_functions.proofs.Places.{behind-end, behind-value, step-ends, step-more}
use Rattle.kq_value_string_functions.proofs.place.behind.Goals as goal

pub returns-then-is_none : goal.returns-then-is_none
returns-then-is_none c =
    behind-end c.args.text.now (chars_rest c.loop-skipped.rest) c.loop-skipped._skipped c.args.count c.loop-skipped.invariant
    (step-ends c.loop-skipped.rest c.next.new.self c.next.result c.next.ensures.steps c.if-is_none.ensures) (omega (arith, c.loop-skipped-test.true))

pub loop-skipped-preserved : goal.loop-skipped-preserved
loop-skipped-preserved c =
    step-more c.args.text.now c.loop-skipped._skipped c.loop-skipped.rest c.next.new.self c.next.result c.loop-skipped.invariant c.next.ensures.steps c.if-is_none.ensures

pub returns : goal.returns
returns c =
    let all : c.loop-skipped._skipped ≡ c.args.count = omega (arith, c.loop-skipped-test.false, c.loop-skipped.auto) in
    c.as_str.ensures ∙ behind-value c.args.text.now (chars_rest c.loop-skipped.rest) c.args.count (rw all at c.loop-skipped.invariant)
