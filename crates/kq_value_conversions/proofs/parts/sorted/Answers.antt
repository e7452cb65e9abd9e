use Rattle.std.proofs.Common.{◌≡◌, ap, ◌∙◌, rules, arith}
use Rattle.kq_value.specs.Tree.{Trees, trees_depth, items_of}
use Rattle.kq_value.specs.Seen.{trees_of}
use Rattle.kq_value_formats.specs.Members.{in_order, trees_from_list}
use Rattle.kq_value_conversions.proofs.Sorting.{sorted_by_closure, sorted-trees, depth-sorted}
use Rattle.kq_value_conversions.proofs.parts.sorted.Goals as goal

pub from_vec-requires : goal.from_vec-requires
from_vec-requires c =
    let xs = c.into_vec-items.result.items in
    let ys = c.sort_by.new.self.items in
    let up = sorted_by_closure ys c.in_ok-sort_by.ensures.sorted (λ a r q k. search rules) in
    let same : trees_of ys ≡ trees_from_list (in_order (items_of (trees_of xs))) = sorted-trees xs ys c.in_ok-sort_by.ensures.permutation up in
    let kept : trees_of xs ≡ c.in_ok-clone_in.field-0 = c.into_vec-items.ensures.items in
    omega (arith, ap trees_depth same, depth-sorted (trees_of xs), ap trees_depth kept, c.into_vec-items.ensures.shallow)

pub returns : goal.returns
returns c =
    let xs = c.into_vec-items.result.items in
    let ys = c.sort_by.new.self.items in
    let up = sorted_by_closure ys c.in_ok-sort_by.ensures.sorted (λ a r q k. search rules) in
    let same : trees_of ys ≡ trees_from_list (in_order (items_of (trees_of xs))) = sorted-trees xs ys c.in_ok-sort_by.ensures.permutation up in
    let whole : trees_of xs ≡ c.args.list.now = c.into_vec-items.ensures.items ∙ c.in_ok-clone_in.ensures in
    c.from_vec.ensures ∙ same ∙ ap (λ (ts : Trees). trees_from_list (in_order (items_of ts))) whole
