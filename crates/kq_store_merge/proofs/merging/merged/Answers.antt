use Rattle.std.proofs.Common.{◌≡◌, IfOk, List, map, ap, sym, subst, ◌∙◌}
use Rattle.std.specs.Arc.{arc_value}
use Rattle.kq_store_extent.specs.Seen.{ExtentView, records_in}
use Rattle.kq_store_extent.specs.Wide.{wide}
use Rattle.kq_value_text_sets.specs.EachOnce.{each_once}
use Rattle.kq_store_merge.specs.Merges.{merge_of, tags_in}
use Rattle.kq_store_merge.proofs.TagLemmas.{tags_in-wide}
use Rattle.kq_store_merge.proofs.merging.merged.Goals as goal

pub returns : goal.returns
returns c =
    let f = wide c.args.schema.now in
    let es = c.args.picked.now in
    let is : map arc_value c.as_slice-extents.result.now ≡ es = c.as_slice-extents.ensures in
    let one : ExtentView = record { id = c.args.id; records = records_in (map f (map arc_value c.as_slice-extents.result.now)); tags = c.in_ok-tags.tags } in
    let same : one ≡ merge_of c.args.id (map f es) = λ i. record {
      id = c.args.id;
      records = records_in (map f (is i));
      tags = (c.in_ok-tags.ensures ∙ ap (λ (xs : List ExtentView). each_once (tags_in xs)) is ∙ ap each_once (sym (tags_in-wide c.args.schema.now es))) i;
    } in
    subst (λ (x : ExtentView). IfOk c.united.result (λ e. e ≡ x)) same c.united.ensures
