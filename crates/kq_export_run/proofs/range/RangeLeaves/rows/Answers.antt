use Rattle.std.proofs.Common.{◌≡◌, sym, subst, length, List}
use Rattle.kq_value.specs.Computed.{Is}
use Rattle.kq_export_ranges.specs.Exported.{TableAlone, only, rows_of_range}
use Rattle.kq_store_extent.specs.Seen.{held_records}
use Rattle.kq_catalog_journal.specs.History.{log}
use Rattle.kq_run_plan.specs.kq_run_scan.Ranges.{rows_between}
use Rattle.kq_run_plan.specs.Outcomes.{Row}
use Rattle.kq_plan.specs.declared.work.LeafKind.{LeafKind}
use Rattle.kq_plan.specs.declared.work.LeafKind.TheVariants as kind
use Rattle.kq_plan.specs.Fits.{FitsLeaf}
use Rattle.kq_engine_query.proofs.Standing.{few_held}
use Rattle.kq_export_run.specs.Held.{export_of}
use Rattle.kq_export_run.specs.Runs.{RangeView, gives_of}
use Rattle.kq_export_run.proofs.Alone.{leaf_alone}
use Rattle.kq_export_run.proofs.Reading.{range_read}
use Rattle.kq_export_run.proofs.range.RangeLeaves.rows.Goals as goal

pub extents-extents-requires : goal.extents-extents-requires
extents-extents-requires c = c.self.invariant.stands

pub lent_between-requires : goal.lent_between-requires
lent_between-requires c =
    let r = c.self.inside in
    let held = c.extents-extents in
    few_held r.snapshot.now.history r.export.now.table held.result.now held.ensures.records held.ensures.small

pub returns : goal.returns
returns c =
    let r = c.self.inside in
    let h = r.snapshot.now.history in
    let d = r.export.now in
    let e = export_of d in
    let held = c.extents-extents in
    let name = c.args._name.now in
    let columns = c.args._columns.now in
    let seen : RangeView = record { history = h; export = d; to = r.to } in
    let view : seen ≡ c.args.self.now = c.self.view_is in
    let fits = subst (λ (v : RangeView). FitsLeaf kind.Table (only v.export.source v.export.columns name) columns) (sym view)
    (subst (λ (k : LeafKind). FitsLeaf k (only c.args.self.now.export.source c.args.self.now.export.columns name) columns) c.in-Table.is c.requires) in
    let said = (leaf_alone d.source d.columns name columns fits).0 in
    let is : c.in_ok-rows-in-Table.rows ≡ rows_between d.end r.to d.columns (held_records held.result.now) = c.in_ok-rows-in-Table.ensures in
    let read = range_read h e c.self.invariant held.result.now held.ensures.records held.ensures.typed d.end r.to in
    let given = subst (λ (rows : List Row). TableAlone (rows_of_range (log h) e.table (length e.columns) d.end r.to) e.columns (Is rows)) (sym is) read in
    subst (λ (v : RangeView). gives_of v name c.args.kind columns (Is c.in_ok-rows-in-Table.rows)) view
    (subst (λ (k : LeafKind). gives_of seen name k columns (Is c.in_ok-rows-in-Table.rows)) (sym c.in-Table.is) (said, given))
