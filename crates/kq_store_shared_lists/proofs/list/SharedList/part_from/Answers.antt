use Rattle.std.proofs.Common.{◌≤◌, ◌<◌, length, map, sym, rules}
use Rattle.std.specs.Arc.{arc_value}
use Rattle.std.proofs.lemmas.List.{drop-map}
use Rattle.kq_store_shared_lists.specs.Pieces.{part_items, LeadsTo}
use Rattle.kq_store_shared_lists.specs.Standing.{StandsAt}
use Rattle.kq_store_shared_lists.proofs.Rows.{StandsAt-drop}
use Rattle.kq_store_shared_lists.proofs.Around.{Some_of, StandsAt-part, StandsAt-tail}
use Rattle.kq_store_shared_lists.proofs.list.SharedList.part_from.Goals as goal

pub returns-then-index-len-clause-items : goal.returns-then-index-len-clause-items
returns-then-index-len-clause-items g c =
    let held = c.self.inside in
    let part = c.index.result.now in
    let within : c.part_at-index.result.0 < length held.parts.items = search rules in
    let leads : LeadsTo held.parts.items c.args.at c.part_at-index.result.0 c.part_at-index.result.1 = rw c.as_slice.ensures.value at c.part_at-index.ensures in
    let stands : StandsAt (part_items part) c.part_at-index.result.1 (map arc_value c.slice_from.result.now) = rw c.deref.ensures at c.slice_from.ensures.items in
    rw (sym c.self.view_is)
    (StandsAt-part held.parts.items (map arc_value held.tail.items) c.args.at c.part_at-index.result.0 c.part_at-index.result.1 part (map arc_value c.slice_from.result.now) leads
    (Some_of held.parts.items c.part_at-index.result.0 part within c.index.ensures) stands)

pub returns-else-index-len-clause-items : goal.returns-else-index-len-clause-items
returns-else-index-len-clause-items g c =
    let held = c.self.inside in
    let past : length held.parts.items ≤ c.part_at-index.result.0 = search rules in
    let leads : LeadsTo held.parts.items c.args.at c.part_at-index.result.0 c.part_at-index.result.1 = rw c.as_slice.ensures.value at c.part_at-index.ensures in
    rw (sym c.self.view_is, c.split_at.ensures.back, c.as_slice-else-index-len.ensures.value, ← drop-map)
    (StandsAt-tail held.parts.items (map arc_value held.tail.items) c.args.at c.part_at-index.result.0 c.part_at-index.result.1 _ leads past (StandsAt-drop (map arc_value held.tail.items) c.part_at-index.result.1))
