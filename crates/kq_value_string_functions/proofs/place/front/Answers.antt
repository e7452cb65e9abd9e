use Rattle.std.proofs.Common.{◌-◌, length, ◌∙◌, arith}
use Rattle.kq_value_string_functions.proofs.Places.{front-boundary, front-length, front-value, whole_range}
use Rattle.kq_value_string_functions.proofs.place.front.Goals as goal

pub overflow_sub-text : goal.overflow_sub-text
overflow_sub-text c = omega (arith, front-length c.args.text.now c.behind-rest.result.now c.args.count c.utf8.text c.behind-rest.ensures)

pub range-requires-clause-end_boundary : goal.range-requires-clause-end_boundary
range-requires-clause-end_boundary c = front-boundary c.args.text.now c.behind-rest.result.now c.args.count c.utf8.text c.behind-rest.utf8 c.behind-rest.ensures

pub returns : goal.returns
returns c =
    c.range.ensures.value ∙ whole_range c.args.text.now (length c.args.text.now - length c.behind-rest.result.now)
    ∙ front-value c.args.text.now c.behind-rest.result.now c.args.count c.utf8.text c.behind-rest.ensures
