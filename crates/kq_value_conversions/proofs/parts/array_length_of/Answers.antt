use Rattle.std.proofs.Common.{◌≡◌, length, pos, sym, ap, ◌∙◌}
use Rattle.kq_value.specs.Tree.{Trees, items_of}
use Rattle.kq_value.specs.declared.dynamic.Dyn.TheVariants as dyn
use Rattle.kq_value.specs.declared.value.Value.TheVariants.{Long}
use Rattle.kq_value.proofs.Trees.{length-items_of}
use Rattle.kq_value_conversions.proofs.parts.array_length_of.Goals as goal

pub returns-in-List : goal.returns-in-List
returns-in-List c =
    let ds = c.as_slice.result.now in
    let array : c.in-Dynamic.dynamic ≡ dyn.List c.in-List.items = sym c.as_dyn.ensures ∙ c.in-List.is in
    let many : length ds ≡ length (items_of c.in-List.items) = sym (length-items_of ds) ∙ ap (λ (ts : Trees). length (items_of ts)) c.as_slice.ensures.items in
    rw (c.in-Dynamic.is, array) (c.length_of.ensures ∙ ap (λ n. Long (pos n)) many)
