use Rattle.std.proofs.Common.{◌≡◌, ℤ, map, Some, Option, Vec, Global, subst}
use Rattle.std.specs.Prelude.{slice_get, IfSome}
use Rattle.kq_value.specs.declared.value.Value.TheVariants.{Moment}
use Rattle.kq_store_column_view.proofs.Picking.{gathered_mapped}
use Rattle.kq_store_column_view.proofs.pick.moments_at.Goals as goal

pub returns-in-Some : goal.returns-in-Some
returns-in-Some c =
    gathered_mapped Moment c.args.ticks.now c.in-Some.found.items c.args.places.now
    (subst (λ (o : Option (Vec ℤ Global)). IfSome o (λ v. map Some v.items ≡ map (slice_get c.args.ticks.now) c.args.places.now)) c.in-Some.is c.in_ok-found.ensures)
