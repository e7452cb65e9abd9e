use Rattle.std.proofs.Common.{◌≡◌, map, string_bytes, sym, ap, ◌∙◌, subst, arith}
use Rattle.std.proofs.lemmas.List.{take_all}
use Rattle.serde_json.specs.Data.{items_depth, members_depth}
use Rattle.serde_json.specs.View.{view, items_of, members_view}
use Rattle.serde_json.proofs.Views.{members_view-insert_entry}
use Rattle.kq_value.specs.Tree.{trees_size, entries_size, trees_depth, entries_depth}
use Rattle.kq_value.specs.Bags.{KeysAscend}
use Rattle.kq_value.specs.Seen.{tree_of, trees_of, entries_of}
use Rattle.kq_value_formats.specs.Json.{data_from, items_from, members_from}
use Rattle.kq_value_json.proofs.Kept.{ComeBack, MembersComeBack, items_of-data, trees_from-back, entries_from-back, MembersComeBack-more, members_from-more}
use Rattle.kq_value_json.proofs.Deep.{tree_size-item, tree_size-member, trees_depth-from, entries_depth-from}
use Rattle.kq_value_json.proofs.write.+write.Goals as goal

pub array_from-value_from-requires : goal.array_from-value_from-requires
array_from-value_from-requires t c =
    let h = tree_size-item _ _ _ c.loop-item-test.true c.item-item.is in
    let s = ap trees_size c.as_slice-item-items.ensures.items in
    (omega (arith, c.decreases), tt)

pub array_from-returns-clause-json : goal.array_from-returns-clause-json
array_from-returns-clause-json t c =
    let ds = c.as_slice-item-items.result.now in
    let json : map view c.loop-item.array.items ≡ map (λ d. data_from (tree_of d)) ds = rw (take_all c.loop-item.item-index ds c.loop-item-test.false) at c.loop-item.invariant.0 in
    rw (← c.as_slice-item-items.ensures.items) (ap items_of json ∙ items_of-data ds)

pub array_from-returns-clause-back : goal.array_from-returns-clause-back
array_from-returns-clause-back t c =
    let ds = c.as_slice-item-items.result.now in
    let back : ComeBack ds = rw (take_all c.loop-item.item-index ds c.loop-item-test.false) at c.loop-item.invariant.1 in
    rw (← c.as_slice-item-items.ensures.items) (trees_from-back ds back)

pub array_from-returns-clause-shallow : goal.array_from-returns-clause-shallow
array_from-returns-clause-shallow t c =
    let ds = c.as_slice-item-items.result.now in
    let json : map view c.loop-item.array.items ≡ map (λ d. data_from (tree_of d)) ds = rw (take_all c.loop-item.item-index ds c.loop-item-test.false) at c.loop-item.invariant.0 in
    let back : ComeBack ds = rw (take_all c.loop-item.item-index ds c.loop-item-test.false) at c.loop-item.invariant.1 in
    let deep = trees_depth-from (items_from (trees_of ds)) (trees_of ds) (trees_from-back ds back) in
    let same = ap items_depth (ap items_of json ∙ items_of-data ds) in
    omega (arith, c.as_slice-item-items.ensures.shallow, ap trees_depth c.as_slice-item-items.ensures.items)

pub object_from-value_from-requires : goal.object_from-value_from-requires
object_from-value_from-requires t c =
    let h = tree_size-member _ _ _ c.loop-member-test.true c.member-item.is in
    let s = ap entries_size c.as_slice-member-items.ensures.members in
    (omega (arith, c.decreases), tt)

pub object_from-loop-member-preserved : goal.object_from-loop-member-preserved
object_from-loop-member-preserved t c =
    let ms = c.as_slice-member-items.result.now in
    let i = c.loop-member.member-index in
    let m = c.member-item.result in
    let lt = c.loop-member-test.true in
    let ascend : KeysAscend (entries_of ms) = subst KeysAscend (sym c.as_slice-member-items.ensures.members) c.as_slice-member-items.ensures.bag.keys_ascend in
    let step = members_from-more ms i m lt c.member-item.is ascend in
    let key : string_bytes c.in_ok-key.key ≡ m.key = c.in_ok-key.ensures.ok ∙ c.as_str.ensures in (
      ap members_view c.in_ok-insert.ensures.entries ∙ members_view-insert_entry c.loop-member.object.entries c.in_ok-key.key c.in_ok-value_from.field-0 ∙ rw (key, c.in_ok-value_from.ensures.json, c.loop-member.invariant.0) step,
      MembersComeBack-more ms i m lt c.member-item.is c.in_ok-value_from.ensures.back c.loop-member.invariant.1,
    )

pub object_from-returns-clause-back : goal.object_from-returns-clause-back
object_from-returns-clause-back t c =
    let ms = c.as_slice-member-items.result.now in
    let back : MembersComeBack ms = rw (take_all c.loop-member.member-index ms c.loop-member-test.false) at c.loop-member.invariant.1 in
    rw (← c.as_slice-member-items.ensures.members) (entries_from-back ms back)

pub object_from-returns-clause-shallow : goal.object_from-returns-clause-shallow
object_from-returns-clause-shallow t c =
    let ms = c.as_slice-member-items.result.now in
    let json : members_view c.loop-member.object.entries ≡ members_from (entries_of ms) = rw (take_all c.loop-member.member-index ms c.loop-member-test.false) at c.loop-member.invariant.0 in
    let back : MembersComeBack ms = rw (take_all c.loop-member.member-index ms c.loop-member-test.false) at c.loop-member.invariant.1 in
    let deep = entries_depth-from (members_from (entries_of ms)) (entries_of ms) (entries_from-back ms back) in
    let same = ap members_depth json in
    omega (arith, c.as_slice-member-items.ensures.bag.shallow, ap entries_depth c.as_slice-member-items.ensures.members)
