use Rattle.std.proofs.Common.{refl}
use Rattle.kq_catalog_journal.specs.History.{NumberedTable}
use Rattle.kq_export_run.proofs.Bound.{binds}
use Rattle.kq_export_run.proofs.definition.bound.Goals as goal

pub returns-clause-bound : goal.returns-clause-bound
returns-clause-bound c =
    let found : NumberedTable = record { number = c.args.number; table = c.args.table.now } in
    binds c.args.snapshot.now.history c.args.export.now found _ c.requires c.in_ok-body.ensures.bound c.in_ok-clone_in-2.ensures refl c.in_ok-clone_in-3.ensures c.in_ok-clone_in.ensures c.in_ok-clone_in-4.ensures refl
