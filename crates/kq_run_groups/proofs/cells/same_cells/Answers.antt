use Rattle.std.proofs.lemmas.Slice.Eq.{slice_eq-Decides}
use Rattle.kq_value.proofs.Equals.{is_same-Decides}
use Rattle.kq_run_groups.proofs.cells.same_cells.Goals as goal

pub returns : goal.returns
returns c = slice_eq-Decides is_same-Decides c.args.a.now c.args.b.now c.are_same.result c.are_same.ensures
