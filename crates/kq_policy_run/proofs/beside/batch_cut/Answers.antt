use Rattle.std.proofs.Common.{◌≡◌, List, length, map, take, arith}
use Rattle.kq_store_extent.specs.Wide.{wide_held}
use Rattle.kq_run_plan.specs.kq_run_scan.Lent.{rows_held}
use Rattle.kq_catalog_journal.specs.Derived.{Row}
use Rattle.kq_store_rows.proofs.Typed.{same_width-typed}
use Rattle.kq_policy_run.proofs.Records.{batch_lent, batch_whole, of_given}
use Rattle.kq_policy_run.proofs.beside.batch_cut.Goals as goal

pub lend-requires : goal.lend-requires
lend-requires c = batch_lent c.args.table.now.schema c.in-Some.extents.now c.args.batch.now.rows c.in-Some.ensures c.requires

pub to_rows-requires : goal.to_rows-requires
to_rows-requires c = same_width-typed c.args.table.now.schema c.args.batch.now.rows c.requires

pub returns-in-Some : goal.returns-in-Some
returns-in-Some c =
    let fields = c.args.table.now.schema in
    let held = c.in-Some.extents.now in
    let rows = c.args.batch.now.rows in
    let n = length c.args.columns.now in
    let all : n ≡ length fields = omega (arith, c.if-columns-len.true, c.len.ensures.count) in
    of_given c.lend.result (rows_held (wide_held fields held)) (λ (rs : List Row). rs ≡ map (take n) rows) c.lend.ensures (batch_whole fields held rows c.in-Some.ensures c.requires n all)
