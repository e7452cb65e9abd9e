use Rattle.std.proofs.Common.{◌≡◌, ◌++◌, ◌∙◌, ℕ, List, ap, subst, arith}
use Rattle.kq_store_extent.specs.Seen.{held_records}
use Rattle.kq_run_plan.specs.kq_run_gather.Bodies.{AnswersMade, columns_read}
use Rattle.kq_catalog_journal.specs.History.{log, view_cursor}
use Rattle.kq_run_plan.specs.Outcomes.{Row}
use Rattle.kq_plan.specs.Plans.{planned_of}
use Rattle.kq_run_plan.specs.kq_run_scan.Ranges.{rows_between}
use Rattle.kq_engine_query.specs.Views.{read_to}
use Rattle.kq_engine_query.proofs.Looking.{looked}
use Rattle.kq_engine_query.proofs.Standing.{few_held, gives_rows, has_body, reaches, table_typed, view_from, view_over, view_part, view_up, view_within}
use Rattle.kq_engine_query.proofs.views.rows_of_view.Goals as goal

pub view_cursor-mark-requires : goal.view_cursor-mark-requires
view_cursor-mark-requires c = view_within c.args.snapshot.now.history c.args.number c.args.view.now c.requires.stands

pub extents-extents-requires : goal.extents-extents-requires
extents-extents-requires c = (view_over c.args.snapshot.now c.args.number c.args.view.now c.cursor-cursor.ensures.sound c.requires.stands).stands

pub rows_behind-requires-clause-few : goal.rows_behind-requires-clause-few
rows_behind-requires-clause-few c =
    let e = c.extents-extents in
    few_held c.args.snapshot.now.history c.args.view.now.source e.result.now e.ensures.records e.ensures.small

pub part-requires : goal.part-requires
part-requires c = view_within c.args.snapshot.now.history c.args.number c.args.view.now c.requires.stands

pub view_rows-requires-clause-body : goal.view_rows-requires-clause-body
view_rows-requires-clause-body c =
    let h = c.args.snapshot.now.history in
    has_body (log h) c.args.view.now (view_over c.args.snapshot.now c.args.number c.args.view.now c.cursor-cursor.ensures.sound c.requires.stands)

pub view_rows-requires-clause-part : goal.view_rows-requires-clause-part
view_rows-requires-clause-part c =
    let holds = view_part c.args.snapshot.now.history c.args.number c.args.view.now c.part.result.now c.requires.stands c.part.ensures in
    record { had = _; stands = holds }

pub returns-clause-rows : goal.returns-clause-rows
returns-clause-rows c =
    let seen = c.args.snapshot.now in
    let h = seen.history in
    let v = c.args.view.now in
    let n = c.args.number in
    let k = c.args.kind in
    let sound = c.cursor-cursor.ensures.sound in
    let e = c.extents-extents in
    let records = held_records e.result.now in
    let over = view_over seen n v sound c.requires.stands in
    let to = reaches h k n c.up_to-to.result c.view_cursor-mark.result c.cursor-cursor.result c.up_to-to.ensures c.view_cursor-mark.ensures c.cursor-cursor.ensures.cursor in
    let fields = columns_read (planned_of v.body) in
    let behind : c.in_ok-rows.rows ≡ rows_between (view_cursor h n) (read_to h k n) fields records =
    c.in_ok-rows.ensures.rows
    ∙ ap (λ (m : ℕ). rows_between m c.up_to-to.result fields records) c.view_cursor-mark.ensures
    ∙ ap (λ (t : ℕ). rows_between (view_cursor h n) t fields records) to in
    gives_rows h n v k e.result.now c.part.result.now over e.ensures.records c.view_rows.result
    (view_from seen n v sound c.requires.stands) (view_up seen n v k sound c.requires.stands) (view_part h n v c.part.result.now c.requires.stands c.part.ensures)
    (table_typed h v.source over.stands e.ensures.typed)
    (λ had stands. subst (λ (rows : List Row). AnswersMade (planned_of v.body) (had ++ rows) c.view_rows.result) behind (c.view_rows.ensures had stands))

pub returns-in_err-rows-clause-read : goal.returns-in_err-rows-clause-read
returns-in_err-rows-clause-read c =
    let h = c.args.snapshot.now.history in
    let n = c.args.number in
    let k = c.args.kind in
    let e = c.extents-extents in
    let to = reaches h k n c.up_to-to.result c.view_cursor-mark.result c.cursor-cursor.result c.up_to-to.ensures c.view_cursor-mark.ensures c.cursor-cursor.ensures.cursor in
    let few = looked h k n c.args.view.now e.result.now c.view_cursor-mark.result c.up_to-to.result c.view_cursor-mark.ensures to e.ensures.items in
    omega (arith, c.rows_behind.ensures.read, few)

pub returns-clause-read : goal.returns-clause-read
returns-clause-read c =
    let h = c.args.snapshot.now.history in
    let n = c.args.number in
    let k = c.args.kind in
    let e = c.extents-extents in
    let to = reaches h k n c.up_to-to.result c.view_cursor-mark.result c.cursor-cursor.result c.up_to-to.ensures c.view_cursor-mark.ensures c.cursor-cursor.ensures.cursor in
    let few = looked h k n c.args.view.now e.result.now c.view_cursor-mark.result c.up_to-to.result c.view_cursor-mark.ensures to e.ensures.items in
    omega (arith, c.in_ok-rows.ensures.read, few)
