use Rattle.std.proofs.Common.{◌≡◌, ◌≤◌, ◌<◌, length, map, set, sym, refl, rules}
use Rattle.std.specs.Arc.{arc_value}
use Rattle.std.proofs.lemmas.List.{map-set}
use Rattle.kq_store_shared_lists.specs.Pieces.{piece_items, part_items, LeadsTo}
use Rattle.kq_store_shared_lists.proofs.Around.{Some_of, items_in-set, items_in-set_tail, IsWhole-set}
use Rattle.kq_store_shared_lists.proofs.list.SharedList.set.Goals as goal

pub invariant_of-self : goal.invariant_of-self
invariant_of-self g c =
    let held = c.self.inside in
    let part = c.index-part.result.now in
    let i = c.part_at-index.result.0 in
    let rest = c.part_at-index.result.1 in
    let within : i < length held.parts.items = search rules in
    let leads : LeadsTo held.parts.items c.args.at i rest = rw c.as_slice.ensures.value at c.part_at-index.ensures in
    let changed : piece_items (arc_value c.in_ok-piece.piece) ≡ set (part_items part) rest (arc_value c.args.item) = rw c.deref.ensures at c.in_ok-piece.ensures.items in
    IsWhole-set held.parts.items (map arc_value held.tail.items) held.len c.args.at i rest part (record { piece = c.in_ok-piece.piece; len = part.len }) (arc_value c.args.item) c.self.invariant leads
    (Some_of held.parts.items i part within c.index-part.ensures) changed refl c.in_ok-piece.ensures.counts

pub returns-in_ok-piece-clause-ok : goal.returns-in_ok-piece-clause-ok
returns-in_ok-piece-clause-ok g c =
    let held = c.self.inside in
    let part = c.index-part.result.now in
    let i = c.part_at-index.result.0 in
    let rest = c.part_at-index.result.1 in
    let within : i < length held.parts.items = search rules in
    let leads : LeadsTo held.parts.items c.args.at i rest = rw c.as_slice.ensures.value at c.part_at-index.ensures in
    let changed : piece_items (arc_value c.in_ok-piece.piece) ≡ set (part_items part) rest (arc_value c.args.item) = rw c.deref.ensures at c.in_ok-piece.ensures.items in
    rw (sym c.self.view_is)
    (items_in-set held.parts.items (map arc_value held.tail.items) c.args.at i rest part (record { piece = c.in_ok-piece.piece; len = part.len }) (arc_value c.args.item) leads
    (Some_of held.parts.items i part within c.index-part.ensures) changed)

pub returns-else-index-len-clause-ok : goal.returns-else-index-len-clause-ok
returns-else-index-len-clause-ok g c =
    let held = c.self.inside in
    let i = c.part_at-index.result.0 in
    let rest = c.part_at-index.result.1 in
    let past : length held.parts.items ≤ i = search rules in
    let leads : LeadsTo held.parts.items c.args.at i rest = rw c.as_slice.ensures.value at c.part_at-index.ensures in
    rw (sym c.self.view_is, map-set)
    (items_in-set_tail held.parts.items (map arc_value held.tail.items) c.args.at i rest (arc_value c.args.item) leads past)
