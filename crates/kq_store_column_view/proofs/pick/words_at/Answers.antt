use Rattle.std.proofs.Common.{◌≡◌, ℕ, map, Some, Option, Vec, Global, subst}
use Rattle.std.specs.Prelude.{slice_get, IfSome}
use Rattle.kq_store_column_view.proofs.Picking.{gathered_codes}
use Rattle.kq_store_column_view.proofs.pick.words_at.Goals as goal

pub returns-in-Some : goal.returns-in-Some
returns-in-Some c =
    gathered_codes c.args.words.now c.args.codes.now c.in-Some.found.items c.args.places.now
    (subst (λ (o : Option (Vec ℕ Global)). IfSome o (λ v. map Some v.items ≡ map (slice_get c.args.codes.now) c.args.places.now)) c.in-Some.is c.in_ok-found.ensures)
