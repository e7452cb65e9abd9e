use Rattle.std.proofs.Common.{rules, w64, FitsSigned}
use Rattle.std.proofs.lemmas.Int.{to_z-of_z}
use Rattle.kq_value.specs.declared.value.Value.TheVariants.{Long}
use Rattle.kq_eval_columns.proofs.OneValue.{map-twice}
use Rattle.kq_eval_columns.proofs.arithmetic.longs_by.Goals as goal

pub returns : goal.returns
returns g c =
    let fo : FitsSigned w64 c.args.other = search rules in
    rw (map-twice (λ x. g.O.LongOperator.operator x (Long c.args.other)) Long c.args.longs.now) (simp to_z-of_z at c.longs_beside.ensures)
