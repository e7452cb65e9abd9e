use Rattle.std.proofs.Common.{◌≡◌, ◌-◌, List, IfOk, IfSome, take, drop, refl, subst}
use Rattle.kq_value.specs.declared.value.Value.{Value}
use Rattle.kq_store_column_view.specs.Vectors.{cells_of}
use Rattle.kq_run_row_operators.proofs.Places.{column_chosen}
use Rattle.kq_run_row_operators.proofs.piece.lend_chosen.Goals as goal

pub returns : goal.returns
returns g c =
    let rows = g.R.Relation.rows c.args.relation.now in
    let places = c.args.places.now in
    let from = c.args.from in
    let to = c.args.to in
    let is = column_chosen rows places (take (to - from) (drop from places)) from to c.args.j refl in
    subst (λ (cs : List Value). IfOk c.pick.result (λ o. IfSome o (λ v. cells_of v ≡ cs))) is c.pick.ensures
