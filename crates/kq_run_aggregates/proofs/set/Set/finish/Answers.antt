use Rattle.std.proofs.Common.{◌≡◌, map, take, sym, ap, ◌∙◌}
use Rattle.std.proofs.lemmas.List.{take_all}
use Rattle.std.proofs.lemmas.Result.{IfOk-weaker}
use Rattle.kq_value_conversions.proofs.Trees.{trees_from-items_of}
use Rattle.kq_value.specs.Tree.{Trees, items_of}
use Rattle.kq_value.specs.declared.dynamic.Dyn.TheVariants as dyn
use Rattle.kq_value.specs.declared.value.Value.TheVariants.{Dynamic}
use Rattle.kq_value_conversions.specs.kq_value_formats.Members.{trees_from_list}
use Rattle.kq_run_aggregates.specs.Holds.{set_of, tree_in}
use Rattle.kq_run_aggregates.proofs.set.Set.finish.Goals as goal

pub returns : goal.returns
returns c =
    let all : take c.loop-element.element-index c.as_slice-element-items.result.now ≡ c.args.self.now = take_all c.loop-element.element-index _ c.loop-element-test.false ∙ c.as_slice-element-items.ensures in
    let made : items_of c.loop-element.items ≡ map tree_in c.args.self.now = c.loop-element.invariant ∙ ap (map tree_in) all in
    let same : c.loop-element.items ≡ trees_from_list (map tree_in c.args.self.now) = sym (trees_from-items_of c.loop-element.items) ∙ ap trees_from_list made in
    IfOk-weaker c.dynamic.result _ (λ v. v ≡ set_of c.args.self.now) (λ v e. e ∙ ap (λ (ts : Trees). Dynamic (dyn.List ts)) same) c.dynamic.ensures
