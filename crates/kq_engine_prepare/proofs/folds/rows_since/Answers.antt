use Rattle.kq_catalog_journal.specs.History.{cursor, log, view_cursor}
use Rattle.kq_engine_query.proofs.Standing.{few_held, view_over}
use Rattle.kq_engine_prepare.proofs.Behind.{reads_since}
use Rattle.kq_engine_prepare.proofs.folds.rows_since.Goals as goal

pub extents-extents-requires : goal.extents-extents-requires
extents-extents-requires c = (view_over c.args.snapshot.now c.args.number c.args.view.now c.cursor-to.ensures.sound c.requires).stands

pub read_between-requires : goal.read_between-requires
read_between-requires c = few_held c.args.snapshot.now.history c.args.view.now.source c.extents-extents.result.now c.extents-extents.ensures.records c.extents-extents.ensures.small

pub returns : goal.returns
returns c =
    let h = c.args.snapshot.now.history in
    let v = c.args.view.now in
    let over = view_over c.args.snapshot.now c.args.number v c.cursor-to.ensures.sound c.requires in
    reads_since (log h) v c.extents-extents.result.now (view_cursor h c.args.number) (cursor h) c.view_cursor-above.result c.cursor-to.result c.read_between.result over c.extents-extents.ensures.records
    c.view_cursor-above.ensures c.cursor-to.ensures.cursor c.read_between.ensures
