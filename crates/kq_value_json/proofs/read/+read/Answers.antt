use Rattle.std.proofs.Common.{◌≡◌, [], ◌∷◌, ◌++◌, sym, ap, ◌∙◌, subst, append_assoc, append-nil, arith}
use Rattle.std.specs.List.Sorted.{IsStrictlySortedBy}
use Rattle.std.specs.Map.{keys_of}
use Rattle.std.specs.String.{string_cmp}
use Rattle.serde_json.specs.Data.{items_depth, members_depth}
use Rattle.serde_json.specs.View.{items_view, members_view}
use Rattle.serde_json.proofs.Views.{Entry}
use Rattle.kq_value.specs.Seen.{trees_of, entries_of}
use Rattle.kq_value_json.proofs.Collected.{AreItems, AreItems-whole, AreMembers-push, trees_from-items, trees_from-missing, entries_from-members, entries_from-missing, KeysAscend-members}
use Rattle.kq_value_json.proofs.Deep.{depth-item, depth-member, trees_depth-from, entries_depth-from}
use Rattle.kq_value_json.proofs.read.+read.Goals as goal

pub list_from-dyn_from-requires : goal.list_from-dyn_from-requires
list_from-dyn_from-requires t c =
    let vs = c.deref-item-items.result.now in
    let h = depth-item vs _ _ c.loop-item-test.true c.item-item.is in
    let same = ap (λ xs. items_depth (items_view xs)) c.deref-item-items.ensures.value in
    (omega (arith, c.decreases), omega arith)

pub list_from-returns-in-None : goal.list_from-returns-in-None
list_from-returns-in-None t c =
    rw (← c.deref-item-items.ensures.value) (trees_from-missing _ _ _ c.loop-item-test.true c.item-item.is (rw c.in-None.is at c.in_ok-d.ensures))

pub list_from-from_vec-requires : goal.list_from-from_vec-requires
list_from-from_vec-requires t c =
    let vs = c.deref-item-items.result.now in
    let all : AreItems vs c.loop-item.list.items = AreItems-whole vs c.loop-item.list.items c.loop-item.item-index c.loop-item-test.false c.loop-item.invariant in
    let d = trees_depth-from (items_view vs) (trees_of c.loop-item.list.items) (trees_from-items vs c.loop-item.list.items all) in
    let same = ap (λ xs. items_depth (items_view xs)) c.deref-item-items.ensures.value in
    omega arith

pub list_from-returns : goal.list_from-returns
list_from-returns t c =
    let vs = c.deref-item-items.result.now in
    let all : AreItems vs c.loop-item.list.items = AreItems-whole vs c.loop-item.list.items c.loop-item.item-index c.loop-item-test.false c.loop-item.invariant in
    rw (c.from_vec.ensures, ← c.deref-item-items.ensures.value) (sym (trees_from-items _ _ all))

pub bag_from-dyn_from-requires : goal.bag_from-dyn_from-requires
bag_from-dyn_from-requires t c =
    let done = c.loop-key.invariant.0 in
    let e : Entry = (c.in-Some.key.now, c.in-Some.member.now) in
    let left = c.next.new.self in
    let all : c.args.members.now.entries ≡ done ++ e ∷ left = c.loop-key.invariant.1 ∙ ap (λ es. done ++ es) c.in-Some.ensures.steps in
    let d = depth-member done e left in
    let same = ap (λ es. members_depth (members_view es)) all in
    (omega (arith, c.decreases), omega arith)

pub bag_from-returns-in_default : goal.bag_from-returns-in_default
bag_from-returns-in_default t c =
    let done = c.loop-key.invariant.0 in
    let e : Entry = (c.in-Some.key.now, c.in-Some.member.now) in
    let left = c.next.new.self in
    let all : c.args.members.now.entries ≡ done ++ e ∷ left = c.loop-key.invariant.1 ∙ ap (λ es. done ++ es) c.in-Some.ensures.steps in
    rw all (entries_from-missing done e left (rw c.in_default.is at c.in_ok-value.ensures))

pub bag_from-loop-key-preserved : goal.bag_from-loop-key-preserved
bag_from-loop-key-preserved t c =
    let done = c.loop-key.invariant.0 in
    let e : Entry = (c.in-Some.key.now, c.in-Some.member.now) in
    let left = c.next.new.self in
    let all : c.args.members.now.entries ≡ done ++ e ∷ left = c.loop-key.invariant.1 ∙ ap (λ es. done ++ es) c.in-Some.ensures.steps in (
      done ++ e ∷ [],
      all ∙ sym (append_assoc done (e ∷ []) left),
      rw c.in_ok-push.ensures.items (AreMembers-push done _ e _ c.loop-key.invariant.2 (sym (c.in_ok-key.ensures ∙ c.as_str.ensures.value)) (sym (rw c.in-Some-2.is at c.in_ok-value.ensures))),
    )

pub bag_from-from_vec-requires : goal.bag_from-from_vec-requires
bag_from-from_vec-requires t c =
    let done = c.loop-key.invariant.0 in
    let all : c.args.members.now.entries ≡ done = c.loop-key.invariant.1 ∙ ap (λ es. done ++ es) c.in-None.ensures.steps.0 ∙ append-nil done in
    let are = c.loop-key.invariant.2 in
    let d = entries_depth-from (members_view done) (entries_of c.loop-key.bag.items) (entries_from-members done c.loop-key.bag.items are) in
    let same = ap (λ es. members_depth (members_view es)) all in
    record {
      keys_ascend = KeysAscend-members done _ (subst (λ es. IsStrictlySortedBy string_cmp (keys_of es)) all c.iter-key-items.ensures.ordered) are.names;
      shallow = omega arith;
    }

pub bag_from-returns : goal.bag_from-returns
bag_from-returns t c =
    let done = c.loop-key.invariant.0 in
    let all : c.args.members.now.entries ≡ done = c.loop-key.invariant.1 ∙ ap (λ es. done ++ es) c.in-None.ensures.steps.0 ∙ append-nil done in
    rw (c.from_vec.ensures, all) (sym (entries_from-members _ _ c.loop-key.invariant.2))
