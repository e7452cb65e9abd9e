use Rattle.std.proofs.Common.{length, map, sym, ◌∙◌}
use Rattle.std.specs.Arc.{arc_value}
use Rattle.kq_store_extent.specs.Seen.{records_in, row_of}
use Rattle.kq_store_extent.specs.Wide.{wide}
use Rattle.kq_store_extent.proofs.Across.{rows_back, long_columns}
use Rattle.kq_store_extent.proofs.Columnwise.{length-rows_wide}
use Rattle.kq_store_extent.proofs.uniting.joined.Goals as goal

pub from_parts-requires : goal.from_parts-requires
from_parts-requires c =
    let fields = c.args.fields.now in
    let es = map arc_value c.args.extents.now in
    let rows = map row_of (records_in (map (wide fields) es)) in
    let n = c.in_ok-count.ensures.count ∙ sym (length-rows_wide fields es) in
    record { long = long_columns rows c.in_ok-columns.columns.items (length fields) c.in_ok-count.count n c.in_ok-columns.ensures; small = c.in_ok-count.ensures.small }

pub returns : goal.returns
returns c =
    let fields = c.args.fields.now in
    let es = map arc_value c.args.extents.now in
    let rows = map row_of (records_in (map (wide fields) es)) in
    let n = c.in_ok-count.ensures.count ∙ sym (length-rows_wide fields es) in
    c.from_parts.ensures ∙ rows_back fields rows c.in_ok-columns.columns.items c.in_ok-count.count n c.in_ok-columns.ensures c.requires
