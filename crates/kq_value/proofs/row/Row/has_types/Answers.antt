use Rattle.std.proofs.Common.{arith, rules}
use Rattle.std.proofs.lemmas.Grind.{common_steps}
use Rattle.kq_value.proofs.Types.{length-HasTypes}
use Rattle.kq_value.proofs.row.Row.has_types.Goals as goal

pub returns-then-fields-len : goal.returns-then-fields-len
returns-then-fields-len c = search (rules, length-HasTypes)

pub returns-then-not-has_type : goal.returns-then-not-has_type
returns-then-not-has_type c = grind (arith, common_steps)

pub loop-i-preserved : goal.loop-i-preserved
loop-i-preserved c = grind (arith, common_steps)

pub returns : goal.returns
returns c = grind (arith, common_steps)
