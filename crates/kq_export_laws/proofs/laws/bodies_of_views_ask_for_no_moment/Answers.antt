-- What is bound has nothing foreign, so no step of it asks for the moment.
use Rattle.kq_export_laws.proofs.Bodies.{body_bound, body_timeless}
use Rattle.kq_export_laws.proofs.laws.bodies_of_views_ask_for_no_moment.Goals as goal

pub returns-clause-body : goal.returns-clause-body
returns-clause-body c = body_bound

pub returns-clause-timeless : goal.returns-clause-timeless
returns-clause-timeless c = λ text table known cs q p stands form bound. body_timeless table p (body_bound text table known cs q p stands form bound)
