use Rattle.std.proofs.Common.{◌≡◌, ap, map, refl, sym, ◌∙◌}
use Rattle.std.specs.Arc.{arc_value}
use Rattle.std.proofs.lemmas.List.{length-map}
use Rattle.kq_store_rows.proofs.WidenedLemmas.{widened_records-ids}
use Rattle.kq_store_extent.specs.Seen.{id_of, records_in, row_of}
use Rattle.kq_store_extent.specs.Wide.{wide}
use Rattle.kq_store_extent.proofs.Named.{named-apart}
use Rattle.kq_store_extent.proofs.Wide.{records_in-wide}
use Rattle.kq_store_extent.proofs.uniting.united.Goals as goal

pub joined-requires : goal.joined-requires
joined-requires c = rw c.as_slice.ensures c.requires

pub from_parts-requires : goal.from_parts-requires
from_parts-requires c =
    let es = map arc_value c.args.extents.now in
    let rs = records_in (map (wide c.args.schema.now) es) in
    let ids : map id_of rs ≡ map id_of (records_in es) = ap (map id_of) (records_in-wide c.args.schema.now es) ∙ widened_records-ids c.args.schema.now (records_in es) in
    rw (c.in_ok-runs.ensures, sym ids, c.in_ok-columns.ensures, c.as_slice.ensures) (length-map rs id_of ∙ sym (length-map rs row_of))

pub returns : goal.returns
returns c =
    let es = map arc_value c.args.extents.now in
    let rs = records_in (map (wide c.args.schema.now) es) in
    let ids : map id_of rs ≡ map id_of (records_in es) = ap (map id_of) (records_in-wide c.args.schema.now es) ∙ widened_records-ids c.args.schema.now (records_in es) in
    rw (c.from_parts.ensures, c.in_ok-runs.ensures, sym ids, c.in_ok-columns.ensures, c.as_slice.ensures, named-apart rs) refl
