use Rattle.std.proofs.Common.{length, ap, refl}
use Rattle.std.proofs.Math.ListN.{replicate}
use Rattle.kq_eval_columns.proofs.Rows.{filled_over}
use Rattle.kq_eval_columns.proofs.gather.value_over.Goals as goal

pub returns : goal.returns
returns c = let n = length c.args.places.now in filled_over c.args.value.now c.args.columns.now c.args.places.now n _ refl (ap (replicate n) c.in_ok-clone_in.ensures)
