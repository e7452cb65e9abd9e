use Rattle.std.proofs.Common.{◌<◌, ◌≤◌, Bor, option_map, ℕ, length, get_or, arith, add-one, ◌++◌, ◌∷◌, []}
use Rattle.std.proofs.lemmas.List.{map-append}
use Rattle.kq_value.specs.declared.dynamic.Dyn.{Dyn}
use Rattle.kq_value.specs.declared.dynamic.Dyn.TheVariants as dyn
use Rattle.kq_value.specs.declared.value.Value.{Value}
use Rattle.kq_store_column_view.specs.Bags.{bags_in}
use Rattle.kq_store_column_view.specs.Vectors.{cell_of, member_at}
use Rattle.kq_store_column_view.proofs.Bagged.{found_member}
use Rattle.kq_store_column_view.proofs.Picking.{map_take_more}
use Rattle.kq_store_column_view.proofs.parts.members_of_bags.Goals as goal

pub loop-place-preserved : goal.loop-place-preserved
loop-place-preserved c =
    let places = c.args.places.now in
    let parts = c.args.bags.parts.now in
    let count = c.args.bags.count in
    let i = c.loop-place.place-index in
    let h : i < length places = omega arith in
    let p : ℕ = get_or places i 0 in
    let k : p < count = omega arith in
    let g : ℕ → Value = λ n. member_at c.args.key.now (cell_of (bags_in parts count) n) in
    let low : p ≤ p = omega arith in
    let e = found_member c.args.key.now parts count p (option_map (λ (d : Bor Dyn). d.now) c.get.result) c.members_with-members.result.now k (c.get.ensures.lookup.4 low dyn.Null) (c.members_with-members.ensures p) in
    rw (c.in_ok-push.ensures.items, add-one, map-append, map_take_more g places i h) (λ j. c.loop-place.invariant j ++ e j ∷ [])
