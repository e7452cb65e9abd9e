use Rattle.std.proofs.Common.{◌∙◌, sym}
use Rattle.kq_program_options.proofs.Lists.{number_in-unparsed}
use Rattle.kq_program_options.proofs.options.number_in.Goals as goal

pub returns-in_err-number : goal.returns-in_err-number
returns-in_err-number c =
    c.from_residual.ensures ∙ sym (number_in-unparsed c.args.least c.args.most c.args.text.now c.parse.result c.in_err-number.ensures.value c.ranges.most.fits (sym c.if-not-is_number.ensures) c.parse.ensures.value.0)
