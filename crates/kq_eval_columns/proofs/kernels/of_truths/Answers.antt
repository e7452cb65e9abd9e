use Rattle.std.proofs.Common.{map}
use Rattle.kq_value.specs.declared.value.Value.TheVariants.{Bool as Truth}
use Rattle.kq_plan_functions.specs.declared.function.Function.TheVariants as f
use Rattle.kq_eval_columns.proofs.Pairing.{by_name}
use Rattle.kq_eval_columns.proofs.kernels.of_truths.Goals as goal

pub returns-in-And : goal.returns-in-And
returns-in-And c = by_name c.args.function f.And (map Truth c.args.xs.now) (map Truth c.args.ys.now) c.truths_by.result c.in-And.is c.truths_by.ensures

pub returns-in-Or : goal.returns-in-Or
returns-in-Or c = by_name c.args.function f.Or (map Truth c.args.xs.now) (map Truth c.args.ys.now) c.truths_by-in-Or.result c.in-Or.is c.truths_by-in-Or.ensures
