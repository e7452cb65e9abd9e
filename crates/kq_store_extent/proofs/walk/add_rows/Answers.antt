use Rattle.std.proofs.Common.{◌≡◌, ◌+◌, ◌++◌, List, map, take, ap, sym, subst, ◌∙◌, arith}
use Rattle.std.specs.Arc.{arc_value}
use Rattle.std.proofs.lemmas.List.{take_all, length-map}
use Rattle.kq_value.specs.declared.value.Value.{Value}
use Rattle.kq_store_rows.specs.Chunks.{same_width}
use Rattle.kq_store_extent.specs.Seen.{ExtentView, row_of}
use Rattle.kq_store_extent.specs.Wide.{wide}
use Rattle.kq_store_extent.proofs.Walked.{rows_by, rows_by-more, same_width-first}
use Rattle.kq_store_extent.proofs.Wide.{wide_behind, wide_behind-within}
use Rattle.kq_store_extent.proofs.walk.add_rows.Goals as goal

pub add_rows-requires : goal.add_rows-requires
add_rows-requires c =
    let fields = c.args.fields.now in
    let handles = c.args.extents.now in
    let es = map (wide fields) (map arc_value handles) in
    let before = c.args.rows.now in
    let i = c.loop-extent.extent-index in
    let h = c.extent-item.result in
    let within = c.loop-extent-test.true in
    let next : c.loop-extent.rows ++ map row_of (wide fields c.deref.result.now).records ≡ before ++ rows_by (take (i + 1) es) =
    ap (λ (rs : List (List Value)). rs ++ map row_of (wide fields c.deref.result.now).records) c.loop-extent.invariant
    ∙ ap (λ (e : ExtentView). (before ++ rows_by (take i es)) ++ map row_of (wide fields e).records) c.deref.ensures
    ∙ rows_by-more before es i (wide fields (arc_value h)) (wide_behind-within arc_value fields handles i within) (wide_behind arc_value fields handles i h within c.extent-item.is) in
    subst (λ (rs : List (List Value)). same_width rs) (sym next) (same_width-first before (i + 1) es c.requires)

pub loop-extent-preserved : goal.loop-extent-preserved
loop-extent-preserved c =
    let fields = c.args.fields.now in
    let handles = c.args.extents.now in
    let es = map (wide fields) (map arc_value handles) in
    let before = c.args.rows.now in
    let i = c.loop-extent.extent-index in
    let h = c.extent-item.result in
    let within = c.loop-extent-test.true in
    c.in_ok-add_rows.ensures.ok
    ∙ ap (λ (rs : List (List Value)). rs ++ map row_of (wide fields c.deref.result.now).records) c.loop-extent.invariant
    ∙ ap (λ (e : ExtentView). (before ++ rows_by (take i es)) ++ map row_of (wide fields e).records) c.deref.ensures
    ∙ rows_by-more before es i (wide fields (arc_value h)) (wide_behind-within arc_value fields handles i within) (wide_behind arc_value fields handles i h within c.extent-item.is)

pub returns : goal.returns
returns c =
    let es = map (wide c.args.fields.now) (map arc_value c.args.extents.now) in
    let n = length-map c.args.extents.now arc_value in
    let m = length-map (map arc_value c.args.extents.now) (wide c.args.fields.now) in
    c.loop-extent.invariant ∙ ap (λ (xs : List ExtentView). c.args.rows.now ++ rows_by xs) (take_all c.loop-extent.extent-index es (omega (arith, n, m)))
