use Rattle.std.proofs.Common.{◌∙◌}
use Rattle.kq_value_strings.proofs.Occurs.{is_some-occurs}
use Rattle.kq_value_strings.proofs.find.contains.Goals as goal

pub returns-in-Exact : goal.returns-in-Exact
returns-in-Exact c = rw c.in-Exact.is (c.is_some.ensures ∙ is_some-occurs c.args.text.now c.args.part.now c.find.result c.find.ensures)
