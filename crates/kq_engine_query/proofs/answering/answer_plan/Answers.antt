use Rattle.std.proofs.Common.{◌≡◌, rules, w64, to_z, of_z}
use Rattle.std.proofs.lemmas.Int.{to_z-of_z}
use Rattle.kq_run_plan.proofs.Typed.{gives_typed}
use Rattle.kq_plan.specs.Plans.{planned_of}
use Rattle.kq_engine_query.specs.Answers.{columns_given}
use Rattle.kq_engine_query.specs.Worlds.{MayGive, known_in}
use Rattle.kq_engine_query.proofs.Reading.{world_typed}
use Rattle.kq_engine_query.proofs.answering.answer_plan.Goals as goal

pub run_plan_by-requires-clause-fits : goal.run_plan_by-requires-clause-fits
run_plan_by-requires-clause-fits g c =
    let h = c.args.scope.now.snapshot.now.history in
    let p = planned_of c.args.plan in
    record { columns = columns_given p; typed = world_typed h; fits = c.requires.fits }

pub show-requires : goal.show-requires
show-requires g c =
    let h = c.args.scope.now.snapshot.now.history in
    let p = planned_of c.args.plan in
    let same : to_z w64 (of_z w64 c.args.now) ≡ c.args.now = search (rules, to_z-of_z) in
    rw c.header.ensures (gives_typed (known_in h) (MayGive h) c.args.now p (columns_given p) c.in_ok-outcome.outcome c.requires.moment (world_typed h) c.requires.fits (rw same at c.in_ok-outcome.ensures))
