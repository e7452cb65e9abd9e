use Rattle.std.proofs.Common.{◌≡◌, ◌≤◌, ◌-◌, ◌++◌, List, All, get_or, length, map, take, drop, ap, sym, subst, ◌∙◌, arith}
use Rattle.std.specs.Arc.{arc_value}
use Rattle.std.specs.List.{flat_map}
use Rattle.std.proofs.lemmas.List.{length-map, take_all}
use Rattle.kq_value.specs.declared.value.Value.{Value}
use Rattle.kq_value.specs.Typed.{HasType}
use Rattle.kq_store_column_view.specs.Vectors.{cell_of, cells_of}
use Rattle.kq_store_column.specs.Cells.{column_of}
use Rattle.kq_store_extent.specs.Seen.{ExtentView, records_in, row_of}
use Rattle.kq_store_extent.specs.Wide.{wide}
use Rattle.kq_store_extent.proofs.Across.{typed_column}
use Rattle.kq_store_extent.proofs.Columnwise.{column_more, each_part, length-wide, part_lent, parts_more}
use Rattle.kq_store_extent.proofs.Wide.{wide_behind, wide_behind-within}
use Rattle.kq_store_extent.proofs.uniting.joined_column.Goals as goal

pub loop-extent-preserved : goal.loop-extent-preserved
loop-extent-preserved c =
    let fields = c.args.fields.now in
    let handles = c.args.extents.now in
    let j = c.args.j in
    let i = c.loop-extent.extent-index in
    let h = c.extent-item.result in
    let rows = map row_of (wide fields (arc_value h)).records in
    let v = c.in_ok-lend.field-0 in
    let n : c.len.result ≡ length rows = c.len.ensures.count ∙ ap (λ (e : ExtentView). length e.records) c.deref-in-loop-extent.ensures ∙ sym (length-wide fields (arc_value h)) in
    let lent : cells_of v ≡ map (λ r. cell_of r j) (take (c.len.result - 0) (drop 0 rows)) =
    c.in_ok-lend.ensures ∙ ap (λ (e : ExtentView). map (λ r. cell_of r j) (take (c.len.result - 0) (drop 0 (map row_of (wide fields e).records)))) c.deref.ensures in
    let cells = part_lent j c.len.result rows (cells_of v) n lent in
    ap (flat_map cells_of) c.in_ok-push.ensures.items ∙ parts_more cells_of c.loop-extent.parts.items v ∙ (λ t. c.loop-extent.invariant t ++ cells t)
    ∙ column_more j (map (wide fields) (map arc_value handles)) i (wide fields (arc_value h)) (wide_behind-within arc_value fields handles i c.loop-extent-test.true) (wide_behind arc_value fields handles i h c.loop-extent-test.true c.extent-item.is)

pub joined-requires : goal.joined-requires
joined-requires c =
    let fields = c.args.fields.now in
    let handles = c.args.extents.now in
    let j = c.args.j in
    let es = map (wide fields) (map arc_value handles) in
    let parts = c.loop-extent.parts.items in
    let f = c.index-fields-j.result in
    let long : length es ≤ c.loop-extent.extent-index = omega (arith, length-map (map arc_value handles) (wide fields), length-map handles arc_value, c.loop-extent-test.false) in
    let whole : flat_map cells_of parts ≡ column_of j (map row_of (records_in es)) =
    c.loop-extent.invariant ∙ ap (λ (xs : List ExtentView). column_of j (map row_of (records_in xs))) (take_all c.loop-extent.extent-index es long) in
    rw c.deref-2.ensures.value
    (each_part (HasType (get_or fields j f).ty) cells_of parts
    (subst (λ (vs : List Value). All (HasType (get_or fields j f).ty) vs) (sym whole) (typed_column fields (map row_of (records_in es)) j f c.requires.typed c.requires.column)))
