use Rattle.std.proofs.Common.{pos, subst, sym}
use Rattle.kq_catalog_journal.specs.Beside.{beside}
use Rattle.kq_catalog_journal.specs.History.{log}
use Rattle.kq_run_plan.specs.Gives.{Gives}
use Rattle.kq_run_plan.specs.Typed.{FitsWorld}
use Rattle.kq_plan.specs.Plans.{planned_of}
use Rattle.kq_policy_run.specs.Reading.{known_as_read}
use Rattle.kq_policy_run.specs.World.{BesideView}
use Rattle.kq_policy_run.proofs.Entries.{gives_no_cell, plan_fits}
use Rattle.kq_policy_run.proofs.running.run_entry.Goals as goal

pub run_plan-requires-clause-fits : goal.run_plan-requires-clause-fits
run_plan-requires-clause-fits c =
    let seen = c.args.snapshot.now in
    let p = planned_of c.args.entry.now.plan in
    subst (λ (b : BesideView). FitsWorld p (known_as_read (log b.history) (planned_of b.plan)) (beside (log b.history) b.source b.rows)) (sym c.new-tables.ensures)
    (plan_fits seen.limits seen.history c.requires.sound.lawful c.args.due.target c.args.due.place c.args.entry.now c.requires.stands c.args.batch.now.rows)

pub told-requires : goal.told-requires
told-requires c =
    let seen = c.args.snapshot.now in
    let p = planned_of c.args.entry.now.plan in
    gives_no_cell seen.limits seen.history c.requires.sound.lawful c.args.due.target c.args.due.place c.args.entry.now c.requires.stands c.args.batch.now.rows c.in_ok-outcome.outcome
    (subst (λ (b : BesideView). Gives p (beside (log b.history) b.source b.rows) (pos 0) c.in_ok-outcome.outcome) c.new-tables.ensures c.in_ok-outcome.ensures)
