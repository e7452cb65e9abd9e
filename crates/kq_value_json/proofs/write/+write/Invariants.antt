use Rattle.std.proofs.Common.{◌≡◌, map, take}
use Rattle.serde_json.specs.View.{view, members_view}
use Rattle.kq_value.specs.Tree.{tree_size, trees_size, entries_size}
use Rattle.kq_value.specs.Seen.{tree_of, entries_of}
use Rattle.kq_value_formats.specs.Json.{data_from, members_from}
use Rattle.kq_value_json.proofs.Kept.{ComeBack, MembersComeBack}
use Rattle.kq_value_json.proofs.write.+write.Given as goal

abbrev pub decreases-value_from : goal.decreases-value_from
decreases-value_from l = tree_size (tree_of l.value.now)

abbrev pub decreases-array_from : goal.decreases-array_from
decreases-array_from l = trees_size l.list.now

abbrev pub decreases-object_from : goal.decreases-object_from
decreases-object_from l = entries_size l.bag.now

abbrev pub invariant-array_from-loop-item : goal.invariant-array_from-loop-item
invariant-array_from-loop-item l =
    let done = take l.item-index l.item-items in
    (map view l.array.items ≡ map (λ d. data_from (tree_of d)) done) × ComeBack done

abbrev pub invariant-object_from-loop-member : goal.invariant-object_from-loop-member
invariant-object_from-loop-member l =
    let done = take l.member-index l.member-items in
    (members_view l.object.entries ≡ members_from (entries_of done)) × MembersComeBack done
