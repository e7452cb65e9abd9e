use Rattle.std.proofs.Common.{◌≡◌, ◌+◌, ◌*◌, List, ◌++◌, take}
use Rattle.serde_json.specs.Data.{depth, items_depth, members_depth}
use Rattle.serde_json.specs.View.{view, items_view, members_view}
use Rattle.serde_json.proofs.Views.{Entry}
use Rattle.kq_value_json.proofs.Collected.{AreItems, AreMembers}
use Rattle.kq_value_json.proofs.read.+read.Given as goal

abbrev pub decreases-dyn_from : goal.decreases-dyn_from
decreases-dyn_from l = 2 * depth (view l.value.now)

abbrev pub decreases-list_from : goal.decreases-list_from
decreases-list_from l = 2 * items_depth (items_view l.items.now.items) + 1

abbrev pub decreases-bag_from : goal.decreases-bag_from
decreases-bag_from l = 2 * members_depth (members_view l.members.now.entries) + 1

abbrev pub invariant-list_from-loop-item : goal.invariant-list_from-loop-item
invariant-list_from-loop-item l = AreItems (take l.item-index l.item-items) l.list.items

abbrev pub invariant-bag_from-loop-key : goal.invariant-bag_from-loop-key
invariant-bag_from-loop-key l = (done : List Entry) × (l.members.entries ≡ done ++ l.key-iterator) × AreMembers done l.bag.items
