use Rattle.std.proofs.Common.{◌≡◌, Ok, map, ◌∙◌, arith}
use Rattle.std.proofs.lemmas.List.Sorted.{length_permutation}
use Rattle.kq_store_extent.specs.Seen.{held_records, row_of}
use Rattle.kq_store_extent.specs.Wide.{wide_held}
use Rattle.kq_run_plan.specs.kq_run_scan.Lent.{AreLent}
use Rattle.kq_catalog_journal.specs.History.{NumberedTable, log}
use Rattle.kq_catalog_journal.specs.Records.{records}
use Rattle.kq_store_rows.proofs.Typed.{same_width-typed}
use Rattle.kq_engine_query.proofs.Reading.{copies_hold, copies_lent, given_held, typed_held, under_columns}
use Rattle.kq_engine_query.proofs.scope.table_rows.Goals as goal

pub lent-requires : goal.lent-requires
lent-requires c =
    let h = c.args.snapshot.now.history in
    let fields = c.args.table.now.schema in
    let extents = c.extents-extents in
    let held = held_records (wide_held fields extents.result.now) in
    let same = under_columns h c.args.number c.args.table.now extents.result.now c.requires extents.ensures.records in
    let typed = typed_held fields h c.args.number held same (extents.ensures.typed c.args.table.now c.requires) in
    let long = length_permutation held (records (log h) c.args.number) same in
    let all : AreLent (wide_held fields extents.result.now) = record { wide = same_width-typed fields (map row_of held) typed; small = omega (arith, long, extents.ensures.small) } in
    copies_lent fields _ extents.result.now _ c.in_ok-clone_in.ensures c.in_ok-share.ensures all

pub returns : goal.returns
returns c =
    let h = c.args.snapshot.now.history in
    let fields = c.args.table.now.schema in
    let extents = c.extents-extents in
    let held = held_records (wide_held fields extents.result.now) in
    let same = under_columns h c.args.number c.args.table.now extents.result.now c.requires extents.ensures.records in
    let found : NumberedTable = record { number = c.args.number; table = c.args.table.now } in
    let is : c.lent.result ≡ map row_of held = c.lent.ensures ∙ copies_hold fields _ extents.result.now _ c.in_ok-clone_in.ensures c.in_ok-share.ensures in
    given_held {E = Unit {0}} h found held (Ok c.lent.result) same (extents.ensures.typed c.args.table.now c.requires) is
