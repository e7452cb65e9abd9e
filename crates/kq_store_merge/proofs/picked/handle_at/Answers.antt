use Rattle.std.specs.Arc.{arc_value}
use Rattle.std.proofs.Common.{◌≡◌, slice_get, Some, sym, ap, ◌∙◌}
use Rattle.std.proofs.lemmas.Option.{slice_get-get_or}
use Rattle.kq_store_merge.proofs.Front.{first_of_part}
use Rattle.kq_store_merge.proofs.picked.handle_at.Goals as goal

pub returns : goal.returns
returns c =
    let part = c.part_from-part.result.now in
    let h = c.index-part-0.result in
    first_of_part arc_value c.args.small.now c.args.at part h c.requires c.part_from-part.ensures.items c.part_from-part.ensures.some c.index-part-0.is
