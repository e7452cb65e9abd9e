use Rattle.std.proofs.Common.{◌<◌, ℕ, List, All, arith, subst}
use Rattle.std.proofs.lemmas.List.{take_all}
use Rattle.kq_store_column_view.proofs.Picking.{below_more}
use Rattle.kq_store_column_view.proofs.pick.are_below.Goals as goal

pub loop-place-preserved : goal.loop-place-preserved
loop-place-preserved c = below_more c.args.count c.args.places.now c.loop-place.place-index c.loop-place-test.true (omega arith) c.loop-place.invariant

pub returns : goal.returns
returns c = λ _. subst (λ (ps : List ℕ). All (λ p. p < c.args.count) ps) (take_all c.loop-place.place-index c.args.places.now (omega arith)) c.loop-place.invariant
