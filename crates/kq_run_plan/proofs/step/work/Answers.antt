use Rattle.std.proofs.Common.{◌≡◌, List, ap, length, map, rules, subst, sym}
use Rattle.std.specs.List.{All}
use Rattle.kq_plan.specs.Plans.{cells_seen, doing_of, stepping_of}
use Rattle.kq_store_rows.specs.Chunks.{HasWidth}
use Rattle.kq_value.specs.declared.schema.Field.{Field}
use Rattle.kq_run_plan.specs.Outcomes.{Row, rows_of}
use Rattle.kq_run_plan.specs.Reshaped.{columns_before}
use Rattle.kq_run_plan.proofs.Widths.{cells_wide, leaf_fits, left_wide, right_wide, written_wide}
use Rattle.kq_run_plan.proofs.step.work.Goals as goal

pub join-requires-clause-left : goal.join-requires-clause-left
join-requires-clause-left g c =
    let before = map stepping_of c.args.before.now in
    let rows : c.rows_at-in-Join.result.now ≡ rows_of c.args.done.now c.in-Join.i = c.rows_at-in-Join.ensures in
    let fields : c.fields_at.result.now ≡ columns_before before c.in-Join.i = c.fields_at.ensures in
    let wide = left_wide (g.L.Leaves.known c.args.leaves.now) (g.L.Leaves.may_give c.args.leaves.now) before c.args.done.now (stepping_of c.args.step.now) c.in-Join.kind c.in-Join.i c.in-Join.j c.in-Join.on.items c.requires.next (ap doing_of c.in-Join.is) in
    subst (λ (rs : List Row). All (HasWidth (length c.fields_at.result.now)) rs) (sym rows) (subst (λ (fs : List Field). All (HasWidth (length fs)) (rows_of c.args.done.now c.in-Join.i)) (sym fields) wide)

pub join-requires-clause-right : goal.join-requires-clause-right
join-requires-clause-right g c =
    let before = map stepping_of c.args.before.now in
    let rows : c.rows_at-in-Join-2.result.now ≡ rows_of c.args.done.now c.in-Join.j = c.rows_at-in-Join-2.ensures in
    let fields : c.fields_at-in-Join.result.now ≡ columns_before before c.in-Join.j = c.fields_at-in-Join.ensures in
    let wide = right_wide (g.L.Leaves.known c.args.leaves.now) (g.L.Leaves.may_give c.args.leaves.now) before c.args.done.now (stepping_of c.args.step.now) c.in-Join.kind c.in-Join.i c.in-Join.j c.in-Join.on.items c.requires.next (ap doing_of c.in-Join.is) in
    subst (λ (rs : List Row). All (HasWidth (length c.fields_at-in-Join.result.now)) rs) (sym rows) (subst (λ (fs : List Field). All (HasWidth (length fs)) (rows_of c.args.done.now c.in-Join.j)) (sym fields) wide)

pub datatable-requires : goal.datatable-requires
datatable-requires g c =
    let columns = c.args.step.now.columns.items in
    let many : c.len.result ≡ length columns = search (rules, c.len.ensures) in
    let written = map cells_seen c.in-Table.rows.items in
    let wide = written_wide (g.L.Leaves.known c.args.leaves.now) (g.L.Leaves.may_give c.args.leaves.now) (map stepping_of c.args.before.now) c.args.done.now (stepping_of c.args.step.now) written c.requires.next (ap doing_of c.in-Table.is) in
    rw (c.as_slice-in-Table.ensures.value, many) (cells_wide c.in-Table.rows.items (length columns) wide)

pub leaf-requires : goal.leaf-requires
leaf-requires g c =
    let before = map stepping_of c.args.before.now in
    rw (c.as_slice.ensures.value) (leaf_fits (g.L.Leaves.known c.args.leaves.now) (g.L.Leaves.may_give c.args.leaves.now) before c.args.done.now (stepping_of c.args.step.now) c.in-Leaf.kind c.in-Leaf.name c.requires.next (ap doing_of c.in-Leaf.is))
