use Rattle.std.proofs.Common.{◌≡◌, subst}
use Rattle.std.specs.Prelude.{IfSome, ◌-◌, take, drop}
use Rattle.kq_store_column_view.specs.Vectors.{cells_of}
use Rattle.kq_store_column_view.specs.declared.vector.Vector.{Vector}
use Rattle.kq_run_plan.proofs.Parting.{column_at, columns_more}
use Rattle.kq_run_plan.proofs.sorted.columns_of.Goals as goal

pub loop-j-preserved : goal.loop-j-preserved
loop-j-preserved g c =
    let rows = g.R.Relation.rows c.args.piece.now in
    let is = subst (λ o. IfSome o (λ (v : Vector). cells_of v ≡ column_at (take (c.len.result - 0) (drop 0 rows)) c.loop-j.j)) c.in-Some.is c.in_ok-column.ensures in
    columns_more rows c.len.result c.loop-j.j c.loop-j.columns.items c.push.new.self.items c.in-Some.column c.len.ensures.count c.loop-j.invariant is c.in_ok-push-in-Some.ensures.items
