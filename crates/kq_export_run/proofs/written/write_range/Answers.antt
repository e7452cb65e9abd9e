use Rattle.std.proofs.Common.{subst, length}
use Rattle.kq_export_ranges.specs.Exported.{RangeGives, rows_of_range}
use Rattle.kq_catalog_journal.specs.History.{log}
use Rattle.kq_run_plan.specs.declared.outcome.Outcome.TheVariants as outcome
use Rattle.kq_export_run.specs.Held.{export_of}
use Rattle.kq_export_run.proofs.Alone.{fits_alone, gives_no_cell}
use Rattle.kq_export_run.proofs.written.write_range.Goals as goal

pub run_plan-requires-clause-fits : goal.run_plan-requires-clause-fits
run_plan-requires-clause-fits c =
    let l = log c.args.snapshot.now.history in
    let e = export_of c.args.export.now in
    fits_alone l e (rows_of_range l e.table (length e.columns) c.args.export.now.end c.args.to) c.requires.defined

pub unreachable-requires : goal.unreachable-requires
unreachable-requires c =
    let l = log c.args.snapshot.now.history in
    let e = export_of c.args.export.now in
    let above = c.args.export.now.end in
    let gives = subst (RangeGives l e above c.args.to) c.in-Cell.is c.in_ok-outcome.ensures in
    gives_no_cell l e (rows_of_range l e.table (length e.columns) above c.args.to) (outcome.Cell c.in-Cell.field-0) c.requires.defined gives
