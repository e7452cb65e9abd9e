use Rattle.std.proofs.Common.{◌∙◌, ap, not, sym, true, false}
use Rattle.kq_program_options.proofs.Lists.{are_distinct-cons}
use Rattle.kq_program_options.proofs.options.+are_distinct.Goals as goal

pub returns-then-not-contains : goal.returns-then-not-contains
returns-then-not-contains t c =
    c.are_distinct.ensures ∙ sym (are_distinct-cons c.in-Some.first.now c.in-Some.rest.now c.args.names.now false c.in-Some.ensures.cases.0 c.if-not-contains.ensures.value)

pub returns-else-not-contains : goal.returns-else-not-contains
returns-else-not-contains t c =
    ap not c.if-not-contains.false ∙ sym (are_distinct-cons c.in-Some.first.now c.in-Some.rest.now c.args.names.now true c.in-Some.ensures.cases.0 c.if-not-contains.ensures.value)
